use Rattle.std.proofs.Common.{◌≡◌, ◌∙◌, ◌∷◌, ◌++◌, Bool, Err, false, rules, get_or, refl, ap, sym, subst, arith}
use Rattle.std.specs.Prelude.{IsTrue}
use Rattle.std.proofs.lemmas.Result.{err_from_is_err_and}
use Rattle.tp_counts.specs.declared.error.StoreError.{StoreError}
use Rattle.tp_counts.specs.declared.error.StoreError.TheVariants.{Damaged}
use Rattle.tp_layout.specs.Value.{node_value}
use Rattle.tp_refs.specs.Store.{node_from, values}
use Rattle.tp_trees.specs.Tree.{blank}
use Rattle.tp_btree.specs.Inserts.{Ran}
use Rattle.tp_btree.proofs.Cutting.{child_inside_there, child_settled, written_settled}
use Rattle.tp_counts.proofs.Refusing.{fault_is, refusal_is}
use Rattle.tp_btree.proofs.Running.{ran_still}
use Rattle.tp_btree.proofs.removal.settle.Goals as goal

not_single : (b : Bool) → IsTrue b → b ≡ false → ⊥
not_single b h e = search (rules, h, e)

pub returns-in_err-child-clause-damaged : goal.returns-in_err-child-clause-damaged
returns-in_err-child-clause-damaged g c e opens held s k high root key was told cut =
    let tm = c.args.tm.now in
    let single = c.is_single.ensures.0 c.if-is_single.true in
    omega (
      arith,
      child_inside_there tm.geometry.metadata_blocks tm (g.D.Disk.state c.args.disk.now) opens held s k high root key was told (node_value c.args.node.now) c.requires.node cut single.0 single.1,
      c.in_err-child.ensures.err.1,
      ap (λ xs. (get_or xs 0 blank).value) c.deref.ensures.0,
    )

pub returns-in_err-abandon-clause-damaged : goal.returns-in_err-abandon-clause-damaged
returns-in_err-abandon-clause-damaged g c e opens held s k high root key was told cut =
    let n = node_value c.args.node.now in
    let p = err_from_is_err_and c.from_residual-in_err-abandon.result c.from_residual-in_err-abandon.ensures.1 in
    c.in_err-abandon.ensures.damaged (ap (λ (z : StoreError). Err z) (refusal_is c.from_residual-in_err-abandon.result p.0 c.in_err-abandon.field-0.0 Damaged p.1 p.2 e)) (g.D.Disk.state c.args.disk.now) opens
    (values (node_from c.args.tm.now.geometry.metadata_blocks n).entries ++ was.value ∷ held) cut.after cut.holds

pub returns-in_err-abandon-clause-ran : goal.returns-in_err-abandon-clause-ran
returns-in_err-abandon-clause-ran g c =
    let p = err_from_is_err_and c.from_residual-in_err-abandon.result c.from_residual-in_err-abandon.ensures.1 in
    let f = c.in_err-abandon.ensures.fewer in
    let d = g.D.Disk.state c.args.disk.now in
    subst (λ b. Ran 0 b c.args.tm.now c.abandon.new.self d d) (sym (fault_is c.from_residual-in_err-abandon.result p.0 Damaged p.1 (p.2 ∙ c.in_err-abandon.ensures.err.0)))
    (ran_still 0 c.args.tm.now c.abandon.new.self d f.geometry f.metadata_kept f.data_kept f.held_root (omega (arith, c.in_err-abandon.ensures.free)) (omega (arith, c.in_err-abandon.ensures.used)))

pub returns-then-is_single-clause-settled : goal.returns-then-is_single-clause-settled
returns-then-is_single-clause-settled g c opens held s k high root key was told cut branches =
    let tm = c.args.tm.now in
    let single = c.is_single.ensures.0 c.if-is_single.true in
    child_settled tm.geometry.metadata_blocks tm (g.D.Disk.state c.args.disk.now) opens held s k high root key was told (node_value c.args.node.now) c.requires.node cut single.0 single.1 c.abandon.new.self c.in_ok-child.child
    (c.in_ok-child.ensures.inside.0 ∙ ap (λ xs. (get_or xs 0 blank).value) c.deref.ensures.0) (c.in_ok-abandon.ensures.holds (g.D.Disk.state c.args.disk.now))

pub returns-then-is_single-clause-ran : goal.returns-then-is_single-clause-ran
returns-then-is_single-clause-ran g c =
    let f = c.in_ok-abandon.ensures.fewer in
    ran_still 0 c.args.tm.now c.abandon.new.self (g.D.Disk.state c.args.disk.now) f.geometry f.metadata_kept f.data_kept f.held_root (omega (arith, c.in_ok-abandon.ensures.free)) (omega (arith, c.in_ok-abandon.ensures.used))

pub returns-clause-settled : goal.returns-clause-settled
returns-clause-settled g c opens held s k high root key was told cut branches =
    let tm = c.args.tm.now in
    let n = node_value c.args.node.now in
    written_settled tm.geometry.metadata_blocks tm (g.D.Disk.state c.args.disk.now) opens held s k high root key was told n c.requires.node cut c.write.new.tm (g.D.Disk.state c.write.new.disk) refl c.requires.inside
    (λ up one. not_single c.is_single.result (c.is_single.ensures.1 (up, one)) c.if-is_single.false) branches c.in_ok-write.ensures.written
