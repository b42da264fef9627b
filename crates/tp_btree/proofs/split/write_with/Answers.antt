use Rattle.std.proofs.Common.{◌≡◌, ◌∙◌, ap, sym, subst, refl, get_or, arith, false}
use Rattle.tp_layout.specs.Node.{IsNode, NodeValue}
use Rattle.tp_layout.specs.Value.{node_value}
use Rattle.tp_trees.specs.Tree.{blank}
use Rattle.tp_trees.specs.Growth.{One, Two}
use Rattle.tp_tm.specs.Tm.{Tm}
use Rattle.tp_btree.specs.Inserts.{AreWritten, CanPlace, Ran, with_new}
use Rattle.tp_btree.proofs.Splitting.{lands_one, lands_two, lower_of, upper_of}
use Rattle.tp_btree.proofs.Writing.{written_value}
use Rattle.std.proofs.lemmas.Result.{err_from_is_err_and}
use Rattle.tp_counts.proofs.Refusing.{fault_is}
use Rattle.tp_btree.proofs.Running.{ran_more, ran_taken}
use Rattle.tp_btree.proofs.split.write_with.Goals as goal

pub returns-then-len-most_entries-clause-placed : goal.returns-then-len-most_entries-clause-placed
returns-then-len-most_entries-clause-placed g c =
    let m = c.args.tm.now.geometry.metadata_blocks in
    let t = c.args.tm.now in
    let u = c.write.new.tm in
    let d0 = g.D.Disk.state c.args.disk.now in
    let d1 = g.D.Disk.state c.write.new.disk in
    let n = with_new c.args.entry (node_value c.args.node) in
    let own : c.number.result ≡ c.args.node.own = c.number.ensures.value ∙ ap (λ (x : NodeValue). x.own) c.put.ensures.value in
    subst (λ b. CanPlace m t d0 u d1 n (One b)) (sym own)
    (lands_one m t d0 u d1 n refl c.requires.inside (subst IsNode c.put.ensures.value c.put.ensures.good) (written_value m t d0 u d1 (node_value c.put.new.node) n c.put.ensures.value c.in_ok-write.ensures.written))

pub returns-clause-placed : goal.returns-clause-placed
returns-clause-placed g c =
    let t0 = c.args.tm.now in
    let t = c.fresh-own.new.self in
    let m = t0.geometry.metadata_blocks in
    let u = c.write_two.new.tm in
    let d0 = g.D.Disk.state c.args.disk.now in
    let d1 = g.D.Disk.state c.write_two.new.disk in
    let other = c.fresh-own.result in
    let left = c.split_put-upper.new.node.entries.items in
    let right = c.split_put-upper.result.entries.items in
    let n = with_new c.args.entry (node_value c.args.node) in
    let own : c.number-2.result ≡ c.args.node.own = c.number-2.ensures.value ∙ ap (λ (x : NodeValue). x.own) c.split_put-upper.ensures.left in
    let wrote : AreWritten m t d0 u d1 (lower_of n left) (upper_of n other right) =
    subst (λ (z : Tm). AreWritten z.geometry.metadata_blocks t d0 u d1 (lower_of n left) (upper_of n other right)) c.fresh-own.ensures.taken
    (subst (AreWritten t.geometry.metadata_blocks t d0 u d1 (lower_of n left)) c.split_put-upper.ensures.right
    (subst (λ x. AreWritten t.geometry.metadata_blocks t d0 u d1 x (node_value c.split_put-upper.result)) c.split_put-upper.ensures.left c.in_ok-write_two.ensures.written)) in
    subst (λ b. CanPlace m t0 d0 u d1 n (Two b (get_or c.deref.result.now 0 blank).key c.number-3.result)) (sym own)
    (subst (λ b. CanPlace m t0 d0 u d1 n (Two n.own (get_or c.deref.result.now 0 blank).key b)) (sym c.number-3.ensures.value)
    (lands_two m t0 t d0 u d1 n left right other (get_or c.deref.result.now 0 blank).key refl c.requires.inside c.fresh-own.ensures.inside c.split_put-upper.ensures.whole c.requires.good.form.level
    c.split_put-upper.ensures.left_full c.split_put-upper.ensures.right_full (subst IsNode c.split_put-upper.ensures.left c.split_put-upper.ensures.left_good) (subst IsNode c.split_put-upper.ensures.right c.split_put-upper.ensures.right_good)
    (ap (λ xs. (get_or xs 0 blank).key) (sym c.deref.ensures.0)) (c.fresh-own.ensures.unnamed d0) (c.fresh-own.ensures.holds d0) wrote))

pub returns-in_err-write-clause-ran : goal.returns-in_err-write-clause-ran
returns-in_err-write-clause-ran g c =
    let p = err_from_is_err_and c.from_residual.result c.from_residual.ensures.1 in
    let d0 = g.D.Disk.state c.args.disk.now in
    let d1 = g.D.Disk.state c.write.new.disk in
    subst (λ b. Ran 1 b c.args.tm.now c.write.new.tm d0 d1) (sym (fault_is c.from_residual.result p.0 c.in_err-write.field-0.0 p.1 p.2))
    (ran_more 0 1 _ c.args.tm.now c.write.new.tm d0 d1 (omega arith) c.in_err-write.ensures.ran)

pub returns-then-len-most_entries-clause-ran : goal.returns-then-len-most_entries-clause-ran
returns-then-len-most_entries-clause-ran g c =
    ran_more 0 1 false c.args.tm.now c.write.new.tm (g.D.Disk.state c.args.disk.now) (g.D.Disk.state c.write.new.disk) (omega arith) c.in_ok-write.ensures.ran

pub returns-in_err-write_two-clause-ran : goal.returns-in_err-write_two-clause-ran
returns-in_err-write_two-clause-ran g c =
    let p = err_from_is_err_and c.from_residual-in_err-write_two.result c.from_residual-in_err-write_two.ensures.1 in
    let d0 = g.D.Disk.state c.args.disk.now in
    let d1 = g.D.Disk.state c.write_two.new.disk in
    subst (λ b. Ran 1 b c.args.tm.now c.write_two.new.tm d0 d1) (sym (fault_is c.from_residual-in_err-write_two.result p.0 c.in_err-write_two.field-0.0 p.1 p.2))
    (ran_taken _ c.args.tm.now c.fresh-own.new.self c.write_two.new.tm d0 d1 c.fresh-own.result c.fresh-own.ensures.taken c.fresh-own.ensures.room c.fresh-own.ensures.used c.in_err-write_two.ensures.ran)

pub returns-clause-ran : goal.returns-clause-ran
returns-clause-ran g c =
    ran_taken false c.args.tm.now c.fresh-own.new.self c.write_two.new.tm (g.D.Disk.state c.args.disk.now) (g.D.Disk.state c.write_two.new.disk) c.fresh-own.result
    c.fresh-own.ensures.taken c.fresh-own.ensures.room c.fresh-own.ensures.used c.in_ok-write_two.ensures.ran
