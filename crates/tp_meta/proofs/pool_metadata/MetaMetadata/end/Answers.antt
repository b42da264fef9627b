use Rattle.std.proofs.Common.{◌∙◌, ap, refl, false}
use Rattle.std.specs.Prelude.{Ok, Err}
use Rattle.tp_disk.specs.declared.disk.Fault.{Fault}
use Rattle.tp_tm.specs.Tm.{Tm}
use Rattle.tp_meta.specs.Midway.{IsNamed, StoresCommit}
use Rattle.tp_meta.specs.declared.whole.Meta.{Meta}
use Rattle.tp_meta.proofs.Begun.{carried, commit_failed, commit_made, lent}
use Rattle.tp_meta.proofs.pool_metadata.MetaMetadata.end.Goals as goal

pub returns-in-Err-clause-committed : goal.returns-in-Err-clause-committed
returns-in-Err-clause-committed g c before midway =
    let m = c.args.self.now in
    let old = g.D.Disk.state c.args.disk.now in
    let new = g.D.Disk.state c.end_store.new.disk in
    let t = c.store_mut.result.now in
    let z = c.deref_mut.result.now in
    let n = c.next_superblock-next.result in
    let own = c.store_mut.ensures.value in
    let alike = c.deref_mut.ensures.value in
    let is = c.next_superblock-next.ensures.value in
    let u = c.end_store.new.tm in
    let st = c.end_store.new.stale in
    let after : Meta = record m { mapping = record m.mapping { tm = u }; stale = record m.stale { value = st } } in
    commit_failed m before new midway.changed c.next_superblock-next.ensures.sized _ _ u st after (c.end_store.ensures.sizes ∙ ap (λ (v : Tm). v.geometry) own)
    (carried (λ v y x. StoresCommit {A = Unit {0}} {E = Fault} v u y st x (Err c.in-Err.field-0) before new) m t z n own alike is (c.in-Err.ensures.committed before (lent (λ v y x. IsNamed v y x before old) m t z n own alike is midway.stage)))

pub returns-clause-committed : goal.returns-clause-committed
returns-clause-committed g c before midway =
    let m = c.args.self.now in
    let old = g.D.Disk.state c.args.disk.now in
    let new = g.D.Disk.state c.end_store.new.disk in
    let t = c.store_mut.result.now in
    let z = c.deref_mut.result.now in
    let n = c.next_superblock-next.result in
    let own = c.store_mut.ensures.value in
    let alike = c.deref_mut.ensures.value in
    let is = c.next_superblock-next.ensures.value in
    let u = c.end_store.new.tm in
    let st = c.end_store.new.stale in
    let made = carried (λ v y x. StoresCommit {A = Unit {0}} {E = Fault} v u y st x (Ok tt) before new) m t z n own alike is (c.in-Ok.ensures.committed before (lent (λ v y x. IsNamed v y x before old) m t z n own alike is midway.stage)) in
    let after : Meta = record m {
      mapping = record { tm = u; root = m.mapping.root };
      last = n;
      marks = c.clear.new.self;
      is_changed = false;
      stale = record m.stale { value = st };
    } in
    commit_made m before new midway.changed c.next_superblock-next.ensures.sized tt u st after
    (record { tm = made.kept; root = refl; devices = refl; last = is; transaction_id = refl; needs_check = refl; marks = c.clear.ensures }) refl refl refl made
