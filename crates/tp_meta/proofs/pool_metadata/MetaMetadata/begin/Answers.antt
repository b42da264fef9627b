use Rattle.std.proofs.Common.{◌≡◌, ◌∙◌, ap, refl, arith, []}
use Rattle.std.specs.Prelude.{Err}
use Rattle.std.proofs.lemmas.Bool.{false≢true, true≢false}
use Rattle.tp_disk.specs.declared.disk.Fault.{Fault}
use Rattle.tp_tm.specs.Tm.{Tm}
use Rattle.tp_meta.specs.Midway.{IsWritten, StoresCommit}
use Rattle.tp_meta.specs.Standing.{next_of}
use Rattle.tp_meta.specs.declared.whole.Meta.{Meta}
use Rattle.tp_meta.proofs.Begun.{between_written, carried, commit_failed}
use Rattle.tp_meta.proofs.Midway.{back_failed, back_on}
use Rattle.tp_meta.proofs.pool_metadata.MetaMetadata.begin.Goals as goal

pub returns-in-Err-clause-failed : goal.returns-in-Err-clause-failed
returns-in-Err-clause-failed g c =
    let m = c.args.self.now in
    let old = g.D.Disk.state c.args.disk.now in
    let new = g.D.Disk.state c.begin_store.new.disk in
    let u = c.begin_store.new.tm in
    let after : Meta = record m { mapping = record m.mapping { tm = u } } in
    commit_failed m old new c.if-not-self.false c.next_superblock-next.ensures.sized _ _ u m.stale.value after (ap (λ (t : Tm). t.geometry) (c.begin_store.ensures.unchanged ∙ c.store_mut.ensures.value))
    (carried (λ t z n. StoresCommit {A = Unit {0}} {E = Fault} t u z z n (Err c.in-Err.field-0) old new) m c.store_mut.result.now c.deref.result.now c.next_superblock-next.result c.store_mut.ensures.value c.deref.ensures
    c.next_superblock-next.ensures.value c.in-Err.ensures.failed)

pub returns-in-Err-clause-unchanged : goal.returns-in-Err-clause-unchanged
returns-in-Err-clause-unchanged g c =
    let m = c.args.self.now in
    ap (λ (u : Tm). record m { mapping = record m.mapping { tm = u } }) (c.begin_store.ensures.unchanged ∙ c.store_mut.ensures.value)

pub returns-in-Ok-write_back-clause-begun : goal.returns-in-Ok-write_back-clause-begun
returns-in-Ok-write_back-clause-begun g c =
    λ e.
    let m = c.args.self.now in
    let old = g.D.Disk.state c.args.disk.now in
    let mid = g.D.Disk.state c.begin_store.new.disk in
    let new = g.D.Disk.state c.write_back.new.disk in
    let u = c.begin_store.new.tm in
    let first = carried (λ t z n. IsWritten 0 t z n old mid) m u c.deref.result.now c.next_superblock-next.result (c.begin_store.ensures.unchanged ∙ c.store_mut.ensures.value) c.deref.ensures
    c.next_superblock-next.ensures.value c.in-Ok.ensures.written in
    let written = back_on m.mapping.tm m.stale.value (next_of m) old [] refl mid new c.write_back.ensures.any first c.in-Ok-write_back.ensures.ok in (
      c.if-not-self.false,
      record { changed = c.if-not-self.false; stage = written },
      between_written m old new written,
    )

pub returns-in-Ok-write_back-clause-unchanged : goal.returns-in-Ok-write_back-clause-unchanged
returns-in-Ok-write_back-clause-unchanged g c =
    let m = c.args.self.now in
    ap (λ (u : Tm). record m { mapping = record m.mapping { tm = u } }) (c.begin_store.ensures.unchanged ∙ c.store_mut.ensures.value)

pub returns-in-Err-write_back-clause-failed : goal.returns-in-Err-write_back-clause-failed
returns-in-Err-write_back-clause-failed g c =
    let m = c.args.self.now in
    let old = g.D.Disk.state c.args.disk.now in
    let mid = g.D.Disk.state c.begin_store.new.disk in
    let new = g.D.Disk.state c.write_back.new.disk in
    let u = c.begin_store.new.tm in
    let after : Meta = record m { mapping = record m.mapping { tm = u } } in
    let first = carried (λ t z n. IsWritten 0 t z n old mid) m u c.deref.result.now c.next_superblock-next.result (c.begin_store.ensures.unchanged ∙ c.store_mut.ensures.value) c.deref.ensures
    c.next_superblock-next.ensures.value c.in-Ok.ensures.written in
    let more = c.in-Err-write_back.ensures.err in
    commit_failed m old new c.if-not-self.false c.next_superblock-next.ensures.sized {A = Unit {0}} {E = Fault} c.in-Err-write_back.field-0 _ m.mapping.tm m.stale.value after (ap (λ (t : Tm). t.geometry) (c.begin_store.ensures.unchanged ∙ c.store_mut.ensures.value))
    (back_failed m.mapping.tm m.stale.value (next_of m) old [] refl mid new c.write_back.ensures.any c.in-Err-write_back.field-0 first (omega (arith, more)))

pub returns-in-Err-write_back-clause-unchanged : goal.returns-in-Err-write_back-clause-unchanged
returns-in-Err-write_back-clause-unchanged g c =
    let m = c.args.self.now in
    ap (λ (u : Tm). record m { mapping = record m.mapping { tm = u } }) (c.begin_store.ensures.unchanged ∙ c.store_mut.ensures.value)

pub returns-then-not-self-clause-begun : goal.returns-then-not-self-clause-begun
returns-then-not-self-clause-begun g c = λ e. absurd (false≢true e)

pub returns-in-Ok-write_back-clause-none : goal.returns-in-Ok-write_back-clause-none
returns-in-Ok-write_back-clause-none g c = λ e. absurd (true≢false e)
