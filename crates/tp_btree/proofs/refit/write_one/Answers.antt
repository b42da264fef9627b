use Rattle.std.proofs.Common.{◌∙◌, ◌∷◌, ◌++◌, Err, ap, sym, subst, arith}
use Rattle.std.proofs.lemmas.Result.{err_from_is_err_and, on_ok_weaker}
use Rattle.tp_counts.specs.declared.error.StoreError.{StoreError}
use Rattle.tp_counts.specs.declared.error.StoreError.TheVariants.{Damaged}
use Rattle.tp_layout.specs.Value.{node_value}
use Rattle.tp_refs.specs.Store.{children, node_from, with_count}
use Rattle.tp_btree.specs.Inserts.{IsWritten, Ran}
use Rattle.tp_counts.proofs.Refusing.{fault_is, refusal_is}
use Rattle.tp_btree.proofs.Running.{ran_still}
use Rattle.tp_btree.proofs.refit.write_one.Goals as goal

pub returns-in_err-abandon-clause-damaged : goal.returns-in_err-abandon-clause-damaged
returns-in_err-abandon-clause-damaged g c e opens held s h =
    let p = err_from_is_err_and c.from_residual.result c.from_residual.ensures.1 in
    c.in_err-abandon.ensures.damaged (ap (λ (z : StoreError). Err z) (refusal_is c.from_residual.result p.0 c.in_err-abandon.field-0.0 Damaged p.1 p.2 e)) (g.D.Disk.state c.args.disk.now) opens held s h

pub returns-in_err-abandon-clause-ran : goal.returns-in_err-abandon-clause-ran
returns-in_err-abandon-clause-ran g c =
    let p = err_from_is_err_and c.from_residual.result c.from_residual.ensures.1 in
    let f = c.in_err-abandon.ensures.fewer in
    let d = g.D.Disk.state c.args.disk.now in
    subst (λ b. Ran 0 b c.args.tm.now c.abandon.new.self d d) (sym (fault_is c.from_residual.result p.0 Damaged p.1 (p.2 ∙ c.in_err-abandon.ensures.err.0)))
    (ran_still 0 c.args.tm.now c.abandon.new.self d f.geometry f.metadata_kept f.data_kept f.held_root (omega (arith, c.in_err-abandon.ensures.free)) (omega (arith, c.in_err-abandon.ensures.used)))

pub returns-clause-written : goal.returns-clause-written
returns-clause-written g c = on_ok_weaker c.write.result
    (λ w opens held s h names.
    let n = node_value c.args.node.now in
    let m = c.args.tm.now.geometry.metadata_blocks in
    let d0 = g.D.Disk.state c.args.disk.now in
    let wrote : IsWritten m c.abandon.new.self d0 c.write.new.tm (g.D.Disk.state c.write.new.disk) n =
    subst (λ z. IsWritten z c.abandon.new.self d0 c.write.new.tm (g.D.Disk.state c.write.new.disk) n) (ap (λ z. z.metadata_blocks) c.abandon.ensures.fewer.geometry) w in
    wrote opens held (with_count s c.args.other 0) (c.in_ok-abandon.ensures.holds d0 (n.own ∷ opens) (children (node_from m n) ++ held) s h) names)
    c.write.ensures.written
