use Rattle.std.proofs.Common.{refl}
use Rattle.std.specs.Prelude.{Err}
use Rattle.tp_disk.specs.declared.disk.Fault.{Fault}
use Rattle.tp_meta.specs.Midway.{IsNamed, IsWritten, StoresCommit}
use Rattle.tp_meta.proofs.Begun.{between_named, carried, commit_failed, lent}
use Rattle.tp_meta.proofs.pool_metadata.MetaMetadata.go_on.Goals as goal

pub returns-in-Ok-clause-named : goal.returns-in-Ok-clause-named
returns-in-Ok-clause-named g c before midway =
    let m = c.args.self.now in
    let old = g.D.Disk.state c.args.disk.now in
    let new = g.D.Disk.state c.go_on_store.new.disk in
    let t = c.store.result.now in
    let z = c.deref.result.now in
    let n = c.next_superblock-next.result in
    let own = c.store.ensures in
    let alike = c.deref.ensures in
    let is = c.next_superblock-next.ensures.value in
    let named = carried (λ u y x. IsNamed u y x before new) m t z n own alike is (c.in-Ok.ensures.named before (lent (λ u y x. IsWritten 0 u y x before old) m t z n own alike is midway.stage)) in
    (record { changed = midway.changed; stage = named }, between_named m before new named)

pub returns-in-Err-clause-failed : goal.returns-in-Err-clause-failed
returns-in-Err-clause-failed g c before midway =
    let m = c.args.self.now in
    let old = g.D.Disk.state c.args.disk.now in
    let new = g.D.Disk.state c.go_on_store.new.disk in
    let t = c.store.result.now in
    let z = c.deref.result.now in
    let n = c.next_superblock-next.result in
    let own = c.store.ensures in
    let alike = c.deref.ensures in
    let is = c.next_superblock-next.ensures.value in
    commit_failed m before new midway.changed c.next_superblock-next.ensures.sized _ _ m.mapping.tm m.stale.value m refl
    (carried (λ u y x. StoresCommit {A = Unit {0}} {E = Fault} u u y y x (Err c.in-Err.field-0) before new) m t z n own alike is (c.in-Err.ensures.failed before (lent (λ u y x. IsWritten 0 u y x before old) m t z n own alike is midway.stage)))
