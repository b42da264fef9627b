-- A pool that was refused for want of metadata room, and what becomes of it.
use Rattle.std.proofs.Common.{◌≡◌, inl, inr, ℕ, Bool, true, cond, None, Some, Option, List, refl, sym, ap, subst, ◌∙◌, arith}
use Rattle.std.specs.Prelude.{MatchOption, nat_lt, not, ◌&&◌, ◌==◌}
use Rattle.std.specs.Option.{unwrap_or}
use Rattle.std.proofs.lemmas.Bool.{eq-eqb, false≢true}
use Rattle.tp_model.specs.declared.refusal.Refusal.{Refusal}
use Rattle.tp_model.specs.declared.refusal.Refusal.TheVariants.{Busy, NoMetadataSpace, NoSuchDevice}
use Rattle.tp_model.specs.Refusals.{refusal_number}
use Rattle.tp_model.specs.Sectors.{Sector}
use Rattle.tp_model.specs.Pool.{PlainPool, hold_count}
use Rattle.tp_model.specs.Calls.{Call, CreateThin, Delete, Done, Makes, Refused, Takes, after_refusal, exists, has_metadata_room, refusal_of, reply}
use Rattle.tp_model.specs.PoolStops.{reopened}
use Rattle.tp_model.specs.Disk.{DiskState, fresh}
use Rattle.tp_model.specs.DiskStops.{AfterStop}
use Rattle.tp_model.proofs.Found.{MayReopen-nothing}
use Rattle.tp_model.proofs.Maps.{get_empty}
use Rattle.tp_image.specs.Stands.{StandsFor}
use Rattle.tp_meta.specs.declared.whole.Meta.{Meta}
use Rattle.tp_meta.specs.Standing as metadata
use Rattle.tp_meta.specs.Standing.{geometry_of}
use Rattle.tp_pool.specs.Held.{Held, PoolCalled, PoolRefused, moment_of}
use Rattle.tp_pool.specs.Shown.{at_now, wider}
use Rattle.tp_users.specs.Users.{IsKept, IsOutside, recovered, short}
use Rattle.tp_users.proofs.Given.{Shows, fresh_kept}
use Rattle.tp_users.proofs.Plain.{accepts, done_makes, fault_alone, is_refused, reason_of}

-- ---- it is refused

by_test : (s after : PlainPool) (call : Call) (o : Option Refusal)
    → MatchOption o ((Refused NoMetadataSpace ≡ reply s call) × Makes s call after) (λ r. (Refused NoMetadataSpace ≡ Refused r) × (after ≡ after_refusal r s)) → after ≡ short s
by_test s after call None h = absurd (false≢true (sym (accepts s call) ∙ ap is_refused (sym h.0)))
by_test s after call (Some r) h = h.1 ∙ ap (λ (x : Refusal). after_refusal x s) (sym (ap reason_of h.0))

made_short : (s : PlainPool) (call : Call) (made after : PlainPool) → Takes s call (Refused NoMetadataSpace) made after → made ≡ short s
made_short s call made after (inl step) = step.1 ∙ by_test s after call (refusal_of s call) step.0
made_short s call made after (inr fault) = absurd (omega (arith, ap (λ a. refusal_number (reason_of a)) fault.0))

-- what a stop leaves then
pub short_kept : (old new : Held Meta) (id : ℕ) (s : PlainPool) (image : List Sector) (disk : DiskState) → disk ≡ fresh image → Shows old s
    → PoolRefused geometry_of metadata.StandsFor old new (CreateThin id) NoMetadataSpace → AfterStop new.disk.cells image → IsKept (short s) disk
short_kept old new id s image disk is was called stop =
    let m = called.called.meets s was in
    let same : m.0 ≡ short s = made_short s (CreateThin id) m.0 m.1 m.2 in
    let since = wider geometry_of metadata.StandsFor new (moment_of old) (moment_of new) image called.called.time.later (at_now geometry_of metadata.StandsFor new image stop) in
    let there = called.called.opens s was image since in
    let found = MayReopen-nothing m.0 there.0 (m.4.kept refl there.0 (image, stop, there.1)) in
    fresh_kept image disk (short s) is (there.1.0, subst (λ (P : PlainPool). StandsFor image P) (found ∙ ap reopened same) there.1.1)

-- ---- it is used again

-- no test refuses to remove a volume of it
removable : (s : PlainPool) (id : ℕ) → s.held_root ≡ 0 → exists s id ≡ true → refusal_of (recovered s) (Delete id) ≡ None
removable s id none there =
    let short_of : Bool = not (has_metadata_room s 256) in
    ap (λ (b : Bool). cond (not b) (Some NoSuchDevice) (cond (nat_lt 0 (hold_count (recovered s).holds id)) (Some Busy) (cond (not (s.held_root == 0) && short_of) (Some NoMetadataSpace) None))) there
    ∙ ap (λ (o : Option ℕ). cond (nat_lt 0 (unwrap_or o 0)) (Some Busy) (cond (not (s.held_root == 0) && short_of) (Some NoMetadataSpace) None)) (get_empty {X = ℕ} id)
    ∙ ap (λ (b : Bool). cond (not b && short_of) (Some NoMetadataSpace) None) (eq-eqb s.held_root 0 none)

pub removal_refused : (old new : Held Meta) (id : ℕ) (reason : Refusal) (s : PlainPool) → Shows old (recovered s) → s.held_root ≡ 0 → exists s id ≡ true
    → PoolRefused geometry_of metadata.StandsFor old new (Delete id) reason → IsOutside reason
removal_refused old new id reason s was none there called =
    let m = called.called.meets (recovered s) was in
    inr (fault_alone (recovered s) (Delete id) reason m.0 m.1 (removable s id none there) m.2)

pub removal_done : (old new : Held Meta) (id : ℕ) (s : PlainPool) → Shows old (recovered s) → PoolCalled geometry_of metadata.StandsFor old new (Delete id) Done
    → (after : PlainPool) × Makes (recovered s) (Delete id) after × Shows new after
removal_done old new id s was called =
    let m = called.called.meets (recovered s) was in
    (m.1, done_makes (recovered s) (Delete id) m.0 m.1 m.2, m.3)
