use Rattle.std.proofs.Common.{rules, Ok, Err, inl, inr, ◌+◌, ◌/◌, ◌<◌, ◌==◌, ◌≡◌, false, true, not, length, refl, sym, ap, subst, ◌∙◌}
use Rattle.std.specs.Prelude.{IsSome, MatchResult, Result, is_ok}
use Rattle.std.proofs.lemmas.Bool.{true≢false}
use Rattle.std.proofs.lemmas.Result.{err_from_is_err_and}
use Rattle.tp_model.specs.declared.refusal.Refusal.{Refusal}
use Rattle.tp_model.specs.declared.refusal.Refusal.TheVariants.{Failed, NoHeldRoot, NoSuchDevice}
use Rattle.tp_model.specs.Sectors.{sectors_of}
use Rattle.tp_model.specs.Pool.{copy_id}
use Rattle.tp_model.specs.Calls.{Gave, HeldRead, Refused, has_copy, is_failed}
use Rattle.tp_model.specs.Clauses.{EndsInVolume}
use Rattle.tp_model.specs.DiskStops.{moment}
use Rattle.tp_model.specs.Disk.{DiskState}
use Rattle.tp_sharing.specs.Volumes.{device_of}
use Rattle.tp_stored.specs.Contents.{Contents}
use Rattle.tp_counts.specs.declared.error.StoreError.{StoreError}
use Rattle.tp_counts.specs.StoreErrors.{refusal_of}
use Rattle.tp_counts.proofs.Refusing.{damaged_so, refused_so}
use Rattle.tp_pool.specs.Held.{Held, PoolCalled, PoolRefused, view}
use Rattle.tp_pool.proofs.Answering.{Answered, failed_answers}
use Rattle.tp_pool.proofs.Calling.{Laws, called_failed}
use Rattle.tp_pool.proofs.Copied.{copy_missed, held_by, held_flushes_not, held_flushes, held_gives, held_misses, held_missing, held_none, held_tests}
use Rattle.tp_pool.proofs.Flushing.{Flushed, flushed_failed}
use Rattle.tp_pool.proofs.Ranges.{ends_in, law_within, range_fits}
use Rattle.tp_pool.proofs.Rooms.{a_root, no_root}
use Rattle.tp_pool.proofs.Serving.{exit_is, is_some_to, read_refused}
use Rattle.tp_pool.proofs.pool.Pool.held_read.Goals as goal

pub returns-then-is_failed-clause-called : goal.returns-then-is_failed-clause-called
returns-then-is_failed-clause-called g c =
    let M = g.M.Metadata in
    let met = g.met.M.Metadata in
    let laws : Laws M.geometry M.stands M.marks M.room = record { within = met.within; honest = met.honest; left = met.left; frame = met.frame } in
    let n = length c.args.out.now / 512 in
    called_failed laws c.args.self.now (HeldRead c.args.id c.args.sector n) (sym (ap (λ (h : Held g.row.M.Denot). is_failed h.mode) c.self.view_is) ∙ sym c.is_failed.ensures ∙ c.if-is_failed.true)
    (λ s failed. held_tests s c.args.id c.args.sector n true (s.held_root == 0) (not (has_copy s c.args.id)) failed refl refl) refl

pub returns-then-not-holds_root-clause-called : goal.returns-then-not-holds_root-clause-called
returns-then-not-holds_root-clause-called g c =
    let M = g.M.Metadata in
    let met = g.met.M.Metadata in
    let laws : Laws M.geometry M.stands M.marks M.room = record { within = met.within; honest = met.honest; left = met.left; frame = met.frame } in
    let was : Held g.row.M.Denot = record { disk = g.D.Disk.state c.self.inside.disk; metadata = c.self.inside.metadata; holders = c.self.inside.holders.items; mode = c.self.inside.mode } in
    let e = c.self.view_is in
    let n = length c.args.out.now / 512 in
    let call = HeldRead c.args.id c.args.sector n in
    let works : is_failed was.mode ≡ false = sym c.is_failed.ensures ∙ c.if-is_failed.false in
    subst (λ (h : Held g.row.M.Denot). PoolCalled M.geometry M.stands h h call (Refused NoHeldRoot)) e
    (held_none laws was works c.args.id c.args.sector n (λ now kept st. no_root now.held_root (sym (c.holds_root.ensures was.disk now kept st) ∙ c.if-not-holds_root.true)))

pub returns-in_err-is_there-clause-called : goal.returns-in_err-is_there-clause-called
returns-in_err-is_there-clause-called g c =
    let M = g.M.Metadata in
    let met = g.met.M.Metadata in
    let laws : Laws M.geometry M.stands M.marks M.room = record { within = met.within; honest = met.honest; left = met.left; frame = met.frame } in
    let was : Held g.row.M.Denot = record { disk = g.D.Disk.state c.self.inside.disk; metadata = c.self.inside.metadata; holders = c.self.inside.holders.items; mode = c.self.inside.mode } in
    let e = c.self.view_is in
    let n = length c.args.out.now / 512 in
    let call = HeldRead c.args.id c.args.sector n in
    let works : is_failed was.mode ≡ false = sym c.is_failed.ensures ∙ c.if-is_failed.false in
    let new : Held g.row.M.Denot = record was { disk = g.D.Disk.state c.read_range.new.disk } in
    let p = err_from_is_err_and c.from_residual.result c.from_residual.ensures.1 in
    let error = c.in_err-is_there.field-0.0 in
    let x = refusal_of error in
    let out = c.read_range.new.out in
    subst (λ (h : Held g.row.M.Denot). MatchResult c.from_residual.result (λ u. PoolCalled M.geometry M.stands h new call (Gave (sectors_of out))) (λ reason. PoolRefused M.geometry M.stands h new call reason)) e
    (exit_is (λ (r : Result (Unit {0}) Refusal). MatchResult r (λ u. PoolCalled M.geometry M.stands was new call (Gave (sectors_of out))) (λ reason. PoolRefused M.geometry M.stands was new call reason)) c.from_residual.result x p.0 p.1 (sym p.2)
    (subst (λ (d : DiskState). PoolRefused M.geometry M.stands was (record was { disk = d }) call x) (sym c.in_err-is_there.ensures.looked.state)
    (read_refused laws was call x works refl refl (refused_so error) (λ eq now kept st. c.in_err-is_there.ensures.looked.damaged (ap (λ (r : StoreError). Err r) (damaged_so error eq)) now kept st))))

pub returns-then-not-is_there-clause-called : goal.returns-then-not-is_there-clause-called
returns-then-not-is_there-clause-called g c =
    let M = g.M.Metadata in
    let met = g.met.M.Metadata in
    let laws : Laws M.geometry M.stands M.marks M.room = record { within = met.within; honest = met.honest; left = met.left; frame = met.frame } in
    let was : Held g.row.M.Denot = record { disk = g.D.Disk.state c.self.inside.disk; metadata = c.self.inside.metadata; holders = c.self.inside.holders.items; mode = c.self.inside.mode } in
    let e = c.self.view_is in
    let n = length c.args.out.now / 512 in
    let call = HeldRead c.args.id c.args.sector n in
    let works : is_failed was.mode ≡ false = sym c.is_failed.ensures ∙ c.if-is_failed.false in
    let some : (now kept : Contents) → M.stands was.metadata was.disk now kept → 0 < now.held_root = λ now kept st. a_root now.held_root (sym (c.holds_root.ensures was.disk now kept st) ∙ c.if-not-holds_root.false) in
    let new : Held g.row.M.Denot = record was { disk = g.D.Disk.state c.read_range.new.disk } in
    subst (λ (h : Held g.row.M.Denot). PoolCalled M.geometry M.stands h new call (Refused NoSuchDevice)) e
    (subst (λ (d : DiskState). PoolCalled M.geometry M.stands was (record was { disk = d }) call (Refused NoSuchDevice)) (sym c.in_ok-is_there.ensures.looked.state)
    (held_missing laws was works c.args.id c.args.sector n some (λ now kept st. sym c.if-not-is_there.true ∙ c.in_ok-is_there.ensures.looked.told now kept st)))

pub returns-clause-called : goal.returns-clause-called
returns-clause-called g c =
    let M = g.M.Metadata in
    let met = g.met.M.Metadata in
    let laws : Laws M.geometry M.stands M.marks M.room = record { within = met.within; honest = met.honest; left = met.left; frame = met.frame } in
    let was : Held g.row.M.Denot = record { disk = g.D.Disk.state c.self.inside.disk; metadata = c.self.inside.metadata; holders = c.self.inside.holders.items; mode = c.self.inside.mode } in
    let e = c.self.view_is in
    let n = length c.args.out.now / 512 in
    let call = HeldRead c.args.id c.args.sector n in
    let works : is_failed was.mode ≡ false = sym c.is_failed.ensures ∙ c.if-is_failed.false in
    let some : (now kept : Contents) → M.stands was.metadata was.disk now kept → 0 < now.held_root = λ now kept st. a_root now.held_root (sym (c.holds_root.ensures was.disk now kept st) ∙ c.if-not-holds_root.false) in
    let new : Held g.row.M.Denot = record was { disk = g.D.Disk.state c.read_range.new.disk } in
    let id = copy_id c.args.id in
    let there : (now kept : Contents) → M.stands was.metadata was.disk now kept → IsSome (device_of id now.volumes) =
    λ now kept st. is_some_to (device_of id now.volumes) (sym c.if-not-is_there.false ∙ c.in_ok-is_there.ensures.looked.told now kept st) in
    subst (λ (h : Held g.row.M.Denot). PoolCalled M.geometry M.stands h new call (Gave (sectors_of c.read_range.new.out))) e
    (held_by laws was works c.args.id c.args.sector n some was.disk new.disk c.read_range.new.out (Ok tt) refl there
    (ends_in M.geometry M.stands (law_within met.within) was id (c.args.sector + n)
    (subst (λ (h : Held g.row.M.Denot). EndsInVolume (view M.geometry M.stands) h id (c.args.sector + n)) (sym e) c.requires.range))
    (g.met.D.Disk.well_formed c.self.inside.disk) c.self.invariant.1 c.in_ok-is_there.ensures.looked.state (c.in_ok-is_there.ensures.bytes (search (rules, c.if-not-is_there.false))) (λ eq. absurd (true≢false (ap is_ok eq))) tt)

pub returns-then-is_failed-clause-answered : goal.returns-then-is_failed-clause-answered
returns-then-is_failed-clause-answered g c =
    failed_answers g.M.Metadata.geometry g.M.Metadata.stands c.args.self.now (HeldRead c.args.id c.args.sector (length c.args.out.now / 512)) (sym (ap (λ (h : Held g.row.M.Denot). is_failed h.mode) c.self.view_is) ∙ sym c.is_failed.ensures ∙ c.if-is_failed.true) refl

pub returns-then-not-holds_root-clause-answered : goal.returns-then-not-holds_root-clause-answered
returns-then-not-holds_root-clause-answered g c =
    let M = g.M.Metadata in
    let was : Held g.row.M.Denot = record { disk = g.D.Disk.state c.self.inside.disk; metadata = c.self.inside.metadata; holders = c.self.inside.holders.items; mode = c.self.inside.mode } in
    let e = c.self.view_is in
    let n = length c.args.out.now / 512 in
    let call = HeldRead c.args.id c.args.sector n in
    let works : is_failed was.mode ≡ false = sym c.is_failed.ensures ∙ c.if-is_failed.false in
    subst (λ (h : Held g.row.M.Denot). Answered M.geometry M.stands h h call (Refused NoHeldRoot)) e
    (held_misses M.geometry M.stands c.args.id c.args.sector n was was works refl refl NoHeldRoot (inl refl))

pub returns-in_err-is_there-clause-answered : goal.returns-in_err-is_there-clause-answered
returns-in_err-is_there-clause-answered g c =
    let M = g.M.Metadata in
    let was : Held g.row.M.Denot = record { disk = g.D.Disk.state c.self.inside.disk; metadata = c.self.inside.metadata; holders = c.self.inside.holders.items; mode = c.self.inside.mode } in
    let e = c.self.view_is in
    let n = length c.args.out.now / 512 in
    let call = HeldRead c.args.id c.args.sector n in
    let old = c.args.self.now in
    let works : is_failed old.mode ≡ false = sym (ap (λ (h : Held g.row.M.Denot). is_failed h.mode) e) ∙ sym c.is_failed.ensures ∙ c.if-is_failed.false in
    let same = ap (λ (h : Held g.row.M.Denot). h.mode) e in
    let new : Held g.row.M.Denot = record was { disk = g.D.Disk.state c.read_range.new.disk } in
    let p = err_from_is_err_and c.from_residual.result c.from_residual.ensures.1 in
    let error = c.in_err-is_there.field-0.0 in
    let x = refusal_of error in
    let out = c.read_range.new.out in
    exit_is (λ (r : Result (Unit {0}) Refusal). MatchResult r (λ u. Answered M.geometry M.stands old new call (Gave (sectors_of out))) (λ reason. Answered M.geometry M.stands old new call (Refused reason)))
    c.from_residual.result x p.0 p.1 (sym p.2) (held_misses M.geometry M.stands c.args.id c.args.sector n old new works same (ap moment c.in_err-is_there.ensures.looked.state ∙ ap (λ (h : Held g.row.M.Denot). moment h.disk) e) x (copy_missed x (refused_so error)))

pub returns-then-not-is_there-clause-answered : goal.returns-then-not-is_there-clause-answered
returns-then-not-is_there-clause-answered g c =
    let M = g.M.Metadata in
    let was : Held g.row.M.Denot = record { disk = g.D.Disk.state c.self.inside.disk; metadata = c.self.inside.metadata; holders = c.self.inside.holders.items; mode = c.self.inside.mode } in
    let e = c.self.view_is in
    let n = length c.args.out.now / 512 in
    let call = HeldRead c.args.id c.args.sector n in
    let old = c.args.self.now in
    let works : is_failed old.mode ≡ false = sym (ap (λ (h : Held g.row.M.Denot). is_failed h.mode) e) ∙ sym c.is_failed.ensures ∙ c.if-is_failed.false in
    let same = ap (λ (h : Held g.row.M.Denot). h.mode) e in
    let new : Held g.row.M.Denot = record was { disk = g.D.Disk.state c.read_range.new.disk } in
    held_misses M.geometry M.stands c.args.id c.args.sector n old new works same (ap moment c.in_ok-is_there.ensures.looked.state ∙ ap (λ (h : Held g.row.M.Denot). moment h.disk) e) NoSuchDevice (inr (inl refl))

pub returns-clause-answered : goal.returns-clause-answered
returns-clause-answered g c =
    let M = g.M.Metadata in
    let was : Held g.row.M.Denot = record { disk = g.D.Disk.state c.self.inside.disk; metadata = c.self.inside.metadata; holders = c.self.inside.holders.items; mode = c.self.inside.mode } in
    let e = c.self.view_is in
    let n = length c.args.out.now / 512 in
    let call = HeldRead c.args.id c.args.sector n in
    let old = c.args.self.now in
    let works : is_failed old.mode ≡ false = sym (ap (λ (h : Held g.row.M.Denot). is_failed h.mode) e) ∙ sym c.is_failed.ensures ∙ c.if-is_failed.false in
    let same = ap (λ (h : Held g.row.M.Denot). h.mode) e in
    let new : Held g.row.M.Denot = record was { disk = g.D.Disk.state c.read_range.new.disk } in
    held_gives M.geometry M.stands c.args.id c.args.sector n old new works same (ap moment c.in_ok-is_there.ensures.looked.state ∙ ap (λ (h : Held g.row.M.Denot). moment h.disk) e) (sectors_of c.read_range.new.out)

pub returns-then-is_failed-clause-flushes : goal.returns-then-is_failed-clause-flushes
returns-then-is_failed-clause-flushes g c =
    flushed_failed g.M.Metadata.geometry g.M.Metadata.stands g.M.Metadata.marks g.M.Metadata.room g.M.Metadata.changed c.args.self.now (HeldRead c.args.id c.args.sector (length c.args.out.now / 512)) (Refused Failed)
    (sym (ap (λ (h : Held g.row.M.Denot). is_failed h.mode) c.self.view_is) ∙ sym c.is_failed.ensures ∙ c.if-is_failed.true)

pub returns-then-not-holds_root-clause-flushes : goal.returns-then-not-holds_root-clause-flushes
returns-then-not-holds_root-clause-flushes g c =
    let M = g.M.Metadata in
    let was : Held g.row.M.Denot = record { disk = g.D.Disk.state c.self.inside.disk; metadata = c.self.inside.metadata; holders = c.self.inside.holders.items; mode = c.self.inside.mode } in
    let e = c.self.view_is in
    let n = length c.args.out.now / 512 in
    let call = HeldRead c.args.id c.args.sector n in
    subst (λ (h : Held g.row.M.Denot). Flushed M.geometry M.stands M.marks M.room M.changed h h call (Refused NoHeldRoot)) e
    (held_flushes_not M.geometry M.stands M.marks M.room M.changed c.args.id c.args.sector n was was refl refl NoHeldRoot (inl refl))

pub returns-in_err-is_there-clause-flushes : goal.returns-in_err-is_there-clause-flushes
returns-in_err-is_there-clause-flushes g c =
    let M = g.M.Metadata in
    let was : Held g.row.M.Denot = record { disk = g.D.Disk.state c.self.inside.disk; metadata = c.self.inside.metadata; holders = c.self.inside.holders.items; mode = c.self.inside.mode } in
    let e = c.self.view_is in
    let n = length c.args.out.now / 512 in
    let call = HeldRead c.args.id c.args.sector n in
    let new : Held g.row.M.Denot = record was { disk = g.D.Disk.state c.read_range.new.disk } in
    let p = err_from_is_err_and c.from_residual.result c.from_residual.ensures.1 in
    let error = c.in_err-is_there.field-0.0 in
    let x = refusal_of error in
    let out = c.read_range.new.out in
    let old = c.args.self.now in
    exit_is (λ (r : Result (Unit {0}) Refusal). MatchResult r (λ u. Flushed M.geometry M.stands M.marks M.room M.changed old new call (Gave (sectors_of out)))
    (λ reason. Flushed M.geometry M.stands M.marks M.room M.changed old new call (Refused reason))) c.from_residual.result x p.0 p.1 (sym p.2)
    (held_flushes_not M.geometry M.stands M.marks M.room M.changed c.args.id c.args.sector n old new
    (ap (λ (d : DiskState). d.flushes) c.in_err-is_there.ensures.looked.state ∙ ap (λ (h : Held g.row.M.Denot). h.disk.flushes) e) (ap (λ (h : Held g.row.M.Denot). h.metadata) e) x (copy_missed x (refused_so error)))

pub returns-then-not-is_there-clause-flushes : goal.returns-then-not-is_there-clause-flushes
returns-then-not-is_there-clause-flushes g c =
    let M = g.M.Metadata in
    let was : Held g.row.M.Denot = record { disk = g.D.Disk.state c.self.inside.disk; metadata = c.self.inside.metadata; holders = c.self.inside.holders.items; mode = c.self.inside.mode } in
    let e = c.self.view_is in
    let n = length c.args.out.now / 512 in
    let call = HeldRead c.args.id c.args.sector n in
    let new : Held g.row.M.Denot = record was { disk = g.D.Disk.state c.read_range.new.disk } in
    held_flushes_not M.geometry M.stands M.marks M.room M.changed c.args.id c.args.sector n c.args.self.now new
    (ap (λ (d : DiskState). d.flushes) c.in_ok-is_there.ensures.looked.state ∙ ap (λ (h : Held g.row.M.Denot). h.disk.flushes) e) (ap (λ (h : Held g.row.M.Denot). h.metadata) e) NoSuchDevice (inr (inl refl))

pub returns-clause-flushes : goal.returns-clause-flushes
returns-clause-flushes g c =
    let M = g.M.Metadata in
    let was : Held g.row.M.Denot = record { disk = g.D.Disk.state c.self.inside.disk; metadata = c.self.inside.metadata; holders = c.self.inside.holders.items; mode = c.self.inside.mode } in
    let e = c.self.view_is in
    let n = length c.args.out.now / 512 in
    let call = HeldRead c.args.id c.args.sector n in
    let new : Held g.row.M.Denot = record was { disk = g.D.Disk.state c.read_range.new.disk } in
    held_flushes M.geometry M.stands M.marks M.room M.changed c.args.id c.args.sector n c.args.self.now new
    (ap (λ (d : DiskState). d.flushes) c.in_ok-is_there.ensures.looked.state ∙ ap (λ (h : Held g.row.M.Denot). h.disk.flushes) e) (ap (λ (h : Held g.row.M.Denot). h.metadata) e) (sectors_of c.read_range.new.out)

pub read_range-requires-clause-within : goal.read_range-requires-clause-within
read_range-requires-clause-within g c limits =
    let M = g.M.Metadata in
    let was : Held g.row.M.Denot = record { disk = g.D.Disk.state c.self.inside.disk; metadata = c.self.inside.metadata; holders = c.self.inside.holders.items; mode = c.self.inside.mode } in
    let end = c.args.sector + length c.args.out.now / 512 in
    range_fits M.geometry M.stands was (copy_id c.args.id) end limits
    (subst (λ (h : Held g.row.M.Denot). EndsInVolume (view M.geometry M.stands) h (copy_id c.args.id) end) (sym c.self.view_is) c.requires.range)
