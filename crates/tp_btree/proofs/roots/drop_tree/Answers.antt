use Rattle.std.proofs.Common.{◌≡◌, ◌∷◌, sym, subst, Ok, Err, not}
use Rattle.std.specs.Prelude.{OnOk, Result}
use Rattle.tp_counts.specs.declared.error.StoreError.{StoreError}
use Rattle.tp_counts.specs.StoreErrors.{is_fault}
use Rattle.tp_model.specs.Disk.{DiskState, after_read}
use Rattle.tp_btree.specs.Roots.{Passed}
use Rattle.tp_btree.proofs.Looking.{tree_ranked}
use Rattle.tp_btree.proofs.Rooting.{passed}
use Rattle.tp_btree.proofs.roots.drop_tree.Goals as goal

-- on success the disk is as it was
both : {P Q : Type 0} (r : Result (Unit {0}) StoreError) (old new : DiskState) → new ≡ after_read (not (is_fault r)) old → ((old ≡ new) × P → Q) → OnOk r P → OnOk r Q
both (Ok u) old new e f p = f (sym e, p)
both (Err x) old new e f p = p

pub returns-clause-dropped : goal.returns-clause-dropped
returns-clause-dropped g c = both c.release.result (g.D.Disk.state c.args.disk.now) (g.D.Disk.state c.release.new.disk) c.release.ensures.state
    (λ later honest opens held s k high st. subst (λ (z : DiskState). Passed s c.release.new.self z opens held) later.0
    (passed s c.release.new.self (g.D.Disk.state c.args.disk.now) opens held
    (later.1 honest opens held s st.holds (tree_ranked c.args.tm.now (g.D.Disk.state c.args.disk.now) c.args.kind opens (c.args.root ∷ held) s k 0 high c.args.root st))))
    c.release.ensures.released

pub returns-clause-damaged : goal.returns-clause-damaged
returns-clause-damaged g c e honest opens held s k high st =
    c.release.ensures.damaged e honest opens held s st.holds (tree_ranked c.args.tm.now (g.D.Disk.state c.args.disk.now) c.args.kind opens (c.args.root ∷ held) s k 0 high c.args.root st)
