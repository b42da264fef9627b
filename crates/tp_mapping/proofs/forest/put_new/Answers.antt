use Rattle.std.proofs.Common.{[], ◌++◌, subst, sym}
use Rattle.std.specs.Prelude.{◌^◌}
use Rattle.std.proofs.lemmas.Result.{IfOk-weaker}
use Rattle.tp_layout.specs.declared.entry.Entry.{Entry}
use Rattle.tp_layout.specs.declared.kind.TreeKind.TheVariants.{Device}
use Rattle.tp_refs.specs.Store.{first_named, moved_by}
use Rattle.tp_sharing.specs.Forest.{held_refs}
use Rattle.tp_stored.specs.Commit.{fixed_blocks}
use Rattle.tp_btree.specs.Inserts.{Insertable, InsertedAt}
use Rattle.tp_mapping.proofs.Holding.{height, same_commit}
use Rattle.tp_mapping.proofs.Putting.{may_put, put_in_use, was_put}
use Rattle.tp_mapping.proofs.forest.put_new.Goals as goal

pub returns-clause-damaged : goal.returns-clause-damaged
returns-clause-damaged g c e honest geo slots now h none few =
    let t = c.args.tm.now in
    let d = g.D.Disk.state c.args.disk.now in
    c.insert.ensures.damaged e honest [] (held_refs t.held_root ++ fixed_blocks geo) h.trees.store (height 5 h.trees.store c.args.root) (2 ^ 24)
    (subst (λ (y : Entry). Insertable t d Device [] (held_refs t.held_root ++ fixed_blocks geo) h.trees.store (height 5 h.trees.store c.args.root) (2 ^ 24) c.args.root (moved_by (first_named t.geometry.metadata_blocks Device 0) y)) (sym c.device_entry.ensures.value)
    (may_put geo t d c.args.root c.args.volume slots now h c.args.device c.device_entry.ensures.below few none))

pub returns-clause-put : goal.returns-clause-put
returns-clause-put g c = IfOk-weaker c.insert.result _ _
    (λ top f honest geo slots now h none few.
    let t = c.args.tm.now in
    let d = g.D.Disk.state c.args.disk.now in
    let u = c.insert.new.tm in
    let d1 = g.D.Disk.state c.insert.new.disk in
    let k = height 5 h.trees.store c.args.root in
    was_put geo t d c.args.root c.args.volume slots now h c.args.device c.device_entry.ensures.below few u d1 top (same_commit _ _ _ _ d d1 c.insert.ensures.ran)
    (subst (λ (y : Entry). InsertedAt h.trees.store u d1 Device [] (held_refs t.held_root ++ fixed_blocks geo) k (2 ^ 24) c.args.root (moved_by (first_named t.geometry.metadata_blocks Device 0) y) top) c.device_entry.ensures.value
    (f honest [] (held_refs t.held_root ++ fixed_blocks geo) h.trees.store k (2 ^ 24)
    (subst (λ (y : Entry). Insertable t d Device [] (held_refs t.held_root ++ fixed_blocks geo) h.trees.store k (2 ^ 24) c.args.root (moved_by (first_named t.geometry.metadata_blocks Device 0) y)) (sym c.device_entry.ensures.value)
    (may_put geo t d c.args.root c.args.volume slots now h c.args.device c.device_entry.ensures.below few none))))) c.insert.ensures.inserted

pub returns-clause-used : goal.returns-clause-used
returns-clause-used g c = IfOk-weaker c.insert.result _ _
    (λ top f none_held honest geo slots now h none few.
    let t = c.args.tm.now in
    let d = g.D.Disk.state c.args.disk.now in
    let u = c.insert.new.tm in
    let d1 = g.D.Disk.state c.insert.new.disk in
    let k = height 5 h.trees.store c.args.root in
    put_in_use geo t d c.args.root c.args.volume slots now h c.args.device c.device_entry.ensures.below none_held few none u d1 top (same_commit _ _ _ _ d d1 c.insert.ensures.ran)
    (subst (λ (y : Entry). InsertedAt h.trees.store u d1 Device [] (held_refs t.held_root ++ fixed_blocks geo) k (2 ^ 24) c.args.root (moved_by (first_named t.geometry.metadata_blocks Device 0) y) top) c.device_entry.ensures.value
    (f honest [] (held_refs t.held_root ++ fixed_blocks geo) h.trees.store k (2 ^ 24)
    (subst (λ (y : Entry). Insertable t d Device [] (held_refs t.held_root ++ fixed_blocks geo) h.trees.store k (2 ^ 24) c.args.root (moved_by (first_named t.geometry.metadata_blocks Device 0) y)) (sym c.device_entry.ensures.value)
    (may_put geo t d c.args.root c.args.volume slots now h c.args.device c.device_entry.ensures.below few none))))) c.insert.ensures.inserted
