use Rattle.std.proofs.Common.{◌+◌, ◌≤◌, ◌∷◌, arith, subst, sym}
use Rattle.tp_layout.specs.Value.{node_value}
use Rattle.tp_refs.specs.Store.{with_count}
use Rattle.tp_tm.specs.Tm.{Tm, used_metadata}
use Rattle.tp_btree.specs.Inserts.{IsWritten}
use Rattle.tp_btree.proofs.Writing.{IsOpen, open_value, written_value}
use Rattle.tp_btree.proofs.Rooting.{begun, empty_leaf, leaf_ready, names_nothing}
use Rattle.tp_btree.proofs.roots.empty.Goals as goal

pub returns-in-Ok-clause-begun : goal.returns-in-Ok-clause-begun
returns-in-Ok-clause-begun g c opens held s h =
    let t = c.fresh-root.new.self in
    let m = t.geometry.metadata_blocks in
    let disk = g.D.Disk.state c.args.disk.now in
    let later = g.D.Disk.state c.write.new.disk in
    let root = c.fresh-root.result in
    let took = c.fresh-root.ensures.holds disk opens held s h in
    let wrote : IsWritten m t disk c.write.new.self later (empty_leaf c.args.kind root) = written_value m t disk c.write.new.self later (node_value c.empty-node.result) (empty_leaf c.args.kind root) c.empty-node.ensures.value c.in-Ok.ensures.holds in
    begun m t c.write.new.self disk later c.args.kind opens held s root (c.fresh-root.ensures.unnamed disk opens held s h)
    (omega (arith, h.stands.sized, c.fresh-root.ensures.inside)) took
    (wrote opens held (with_count s root 1) (leaf_ready m t disk c.args.kind (root ∷ opens) held (with_count s root 1) root took) (names_nothing m c.args.kind (with_count s root 1) root))

pub returns-in-Err-clause-open : goal.returns-in-Err-clause-open
returns-in-Err-clause-open g c opens held s h =
    let t = c.fresh-root.new.self in
    let disk = g.D.Disk.state c.args.disk.now in
    let later = g.D.Disk.state c.write.new.disk in
    let root = c.fresh-root.result in
    let kept : IsOpen t disk c.write.new.self later (empty_leaf c.args.kind root) = open_value t disk c.write.new.self later (node_value c.empty-node.result) (empty_leaf c.args.kind root) c.empty-node.ensures.value c.in-Err.ensures.open in
    (root, kept opens held (with_count s root 1) (c.fresh-root.ensures.holds disk opens held s h))

pub returns-in-Ok-clause-used : goal.returns-in-Ok-clause-used
returns-in-Ok-clause-used g c = subst (λ (t : Tm). used_metadata t ≤ used_metadata c.args.tm.now + 1) (sym c.write.ensures.unchanged) c.fresh-root.ensures.used

pub returns-in-Err-clause-used : goal.returns-in-Err-clause-used
returns-in-Err-clause-used g c = subst (λ (t : Tm). used_metadata t ≤ used_metadata c.args.tm.now + 1) (sym c.write.ensures.unchanged) c.fresh-root.ensures.used
