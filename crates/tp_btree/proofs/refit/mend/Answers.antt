use Rattle.std.proofs.Common.{◌∙◌, Err, get_or, refl, ap, sym}
use Rattle.std.proofs.lemmas.Result.{err_from_is_err_and}
use Rattle.tp_counts.specs.declared.error.StoreError.{StoreError}
use Rattle.tp_counts.specs.declared.error.StoreError.TheVariants.{Damaged}
use Rattle.tp_layout.specs.Node.{NodeValue}
use Rattle.tp_layout.specs.Value.{node_value}
use Rattle.tp_trees.specs.Tree.{blank}
use Rattle.tp_btree.proofs.Joining.{evened_mended, its_entries, joined_mended}
use Rattle.tp_counts.proofs.Refusing.{refusal_is}
use Rattle.tp_btree.proofs.refit.mend.Goals as goal

pub returns-in_err-write_one-clause-damaged : goal.returns-in_err-write_one-clause-damaged
returns-in_err-write_one-clause-damaged g c e levels up opens held s h =
    let p = err_from_is_err_and c.from_residual.result c.from_residual.ensures.1 in
    c.in_err-write_one.ensures.damaged (ap (λ (z : StoreError). Err z) (refusal_is c.from_residual.result p.0 c.in_err-write_one.field-0.0 Damaged p.1 p.2 e)) opens held s h

pub returns-then-len-most_entries-clause-mended : goal.returns-then-len-most_entries-clause-mended
returns-then-len-most_entries-clause-mended g c =
    let t = c.args.tm.now in
    joined_mended t.geometry.metadata_blocks t (g.D.Disk.state c.args.disk.now) c.write_one.new.tm (g.D.Disk.state c.write_one.new.disk) (node_value c.args.left) (node_value c.args.right) (node_value c.join.new.node) c.number.result refl
    c.requires.inside c.requires.kind (sym c.if-left-right.false) c.join.ensures.value c.join.ensures.good c.in_ok-write_one.ensures.written (c.number.ensures.value ∙ ap (λ (x : NodeValue). x.own) c.join.ensures.value)

pub returns-clause-mended : goal.returns-clause-mended
returns-clause-mended g c =
    let t = c.args.tm.now in
    evened_mended t.geometry.metadata_blocks t (g.D.Disk.state c.args.disk.now) c.write_two.new.tm (g.D.Disk.state c.write_two.new.disk) (node_value c.args.left) (node_value c.args.right) (node_value c.refill.new.left) (node_value c.refill.new.right)
    c.refill.new.left.entries.items c.refill.new.right.entries.items c.number-2.result c.number-3.result (get_or c.deref.result.now 0 blank).key refl c.requires.inside c.requires.right_inside c.requires.kind (sym c.if-left-right.false)
    c.requires.good.form.level (its_entries (node_value c.refill.new.left) (node_value c.args.left) _ c.refill.ensures.left) (its_entries (node_value c.refill.new.right) (node_value c.args.right) _ c.refill.ensures.right) c.refill.ensures.whole c.refill.ensures.left_filled c.refill.ensures.right_filled c.refill.ensures.left_good c.refill.ensures.right_good
    (ap (λ xs. (get_or xs 0 blank).key) (sym c.deref.ensures.0)) c.in_ok-write_two.ensures.written (c.number-2.ensures.value ∙ ap (λ (x : NodeValue). x.own) c.refill.ensures.left) (c.number-3.ensures.value ∙ ap (λ (x : NodeValue). x.own) c.refill.ensures.right)
