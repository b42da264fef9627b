-- What the calls of a pool in memory give its users.
use Rattle.std.proofs.Common.{◌≡◌, inl, inr, ℕ, ◌+◌, ◌/◌, ◌%◌, ◌^◌, ◌<◌, ◌≤◌, true, false, None, Some, Result, Ok, Err, List, length, refl, sym, ap, subst, ◌∙◌}
use Rattle.std.specs.Prelude.{IfErr, IsTrue, MatchResult, OnOk, if◌then◌else◌}
use Rattle.std.proofs.lemmas.Bool.{false≢true}
use Rattle.tp_model.specs.declared.mode.Mode.{Mode}
use Rattle.tp_model.specs.declared.mode.Mode.TheVariants as mode
use Rattle.tp_model.specs.declared.refusal.Refusal.{Refusal}
use Rattle.tp_model.specs.declared.refusal.Refusal.TheVariants.{Failed, Fault, NoMetadataSpace}
use Rattle.tp_model.specs.Geometry.{Geometry, IsWithinLimits}
use Rattle.tp_model.specs.Sectors.{Sector, sectors_of}
use Rattle.tp_model.specs.Pool.{PlainPool}
use Rattle.tp_model.specs.Calls.{Answer, Call, Close, CreateThin, Done, Flush, Gave, Makes, Read, Refused, Takes, Write, is_failed, refusal_of}
use Rattle.tp_model.specs.PoolStops.{keeps, reopened}
use Rattle.tp_model.specs.Disk.{DiskState, IsSettled, fresh, seen, settled}
use Rattle.tp_model.specs.DiskStops.{AfterStop}
use Rattle.tp_model.proofs.DiskLaws.{seen-settled}
use Rattle.tp_model.proofs.DiskStopLaws.{AfterStop-seen}
use Rattle.tp_model.proofs.Found.{MayReopen-nothing}
use Rattle.tp_image.specs.Fresh.{IsFreshOf, empty_pool}
use Rattle.tp_image.specs.Stands.{StandsFor}
use Rattle.tp_meta.specs.declared.whole.Meta.{Meta}
use Rattle.tp_meta.specs.Standing as metadata
use Rattle.tp_meta.specs.Standing.{changed_of, geometry_of, marks_of, room_of}
use Rattle.tp_meta.specs.Framing.{stands_within}
use Rattle.tp_pool.specs.Held.{Held, IsPool, IsSomePool, PoolCalled, PoolRefused, moment_of, shows}
use Rattle.tp_pool.specs.Flushes.{PoolClosed}
use Rattle.tp_pool.specs.Shown.{at_now, shown, wider}
use Rattle.tp_users.specs.Users.{Bears, IsBlank, IsKept, IsOutside, users_geometry}
use Rattle.tp_pool.specs.Bounds.{BoundLeavesRoom}
use Rattle.tp_users.proofs.Plain.{IsRoomTested, blank_leaves, creatable, done_makes, fault_alone, not_refused, read_gives, readable, reopened_bears, tested_or_fault, writable, written_is_borne}

abbrev pub Shows : Held Meta → PlainPool → Type 0
Shows = shows geometry_of metadata.StandsFor

-- ---- a pool is made

pub blank_refused : (old new : Held Meta) (g : Geometry) (id : ℕ) (reason : Refusal) → g ≡ users_geometry → Shows old (empty_pool g)
    → PoolRefused geometry_of metadata.StandsFor old new (CreateThin id) reason → IsOutside reason
blank_refused old new g id reason is was called =
    let s = empty_pool users_geometry in
    let m = called.called.meets s (subst (λ (x : Geometry). Shows old (empty_pool x)) is was) in
    inr (fault_alone s (CreateThin id) reason m.0 m.1 (creatable id) m.2)

pub blank_shown : (old new : Held Meta) (g : Geometry) (id : ℕ) → g ≡ users_geometry → Shows old (empty_pool g)
    → PoolCalled geometry_of metadata.StandsFor old new (CreateThin id) Done → (s : PlainPool) × IsBlank id s × Shows new s
blank_shown old new g id is was called =
    let s = empty_pool users_geometry in
    let m = called.called.meets s (subst (λ (x : Geometry). Shows old (empty_pool x)) is was) in
    (m.1, (m.1.meta_used, (done_makes s (CreateThin id) m.0 m.1 m.2).is), m.3)

-- no call is refused for want of metadata room while the bound leaves it
abbrev pub RoomLasts : Type 0
RoomLasts = (old new : Held Meta) (s : PlainPool) (call : Call) → Shows old s → BoundLeavesRoom s call → PoolRefused geometry_of metadata.StandsFor old new call NoMetadataSpace → ⊥

by_tests : (id sector : ℕ) (xs : List Sector) (s made after : PlainPool) (reason : Refusal) → (reason ≡ NoMetadataSpace → ⊥) → IsRoomTested s (Write id sector xs false)
    → Takes s (Write id sector xs false) (Refused reason) made after → IsOutside reason
by_tests id sector xs s made after reason roomy (inl none) takes = inr (fault_alone s (Write id sector xs false) reason made after none takes)
by_tests id sector xs s made after reason roomy (inr some) takes =
    elim (tested_or_fault s (Write id sector xs false) reason NoMetadataSpace made after some takes) [
      | inl e ↦ absurd (roomy e)
      | inr e ↦ inr e
    ]

pub write_refused : (old new : Held Meta) (id sector : ℕ) (xs : List Sector) (reason : Refusal) → id < 2 ^ 24 → RoomLasts → ((s : PlainPool) × IsBlank id s × Shows old s)
    → PoolRefused geometry_of metadata.StandsFor old new (Write id sector xs false) reason → IsOutside reason
write_refused old new id sector xs reason low lasts w called =
    let m = called.called.meets w.0 w.2 in
    let call = Write id sector xs false in
    by_tests id sector xs w.0 m.0 m.1 reason
    (λ short. lasts old new w.0 call w.2 (blank_leaves id sector xs w.0 w.1) (subst (λ (r : Refusal). PoolRefused geometry_of metadata.StandsFor old new call r) short called))
    (writable id sector xs w.0 low w.1) m.2

pub written : (old new : Held Meta) (id sector : ℕ) (bytes : List ℕ) → id < 2 ^ 24 → ((s : PlainPool) × IsBlank id s × Shows old s) → sector + length bytes / 512 ≤ 2048
    → PoolCalled geometry_of metadata.StandsFor old new (Write id sector (sectors_of bytes) false) Done → (s : PlainPool) × Bears id sector bytes s × Shows new s
written old new id sector bytes low w fits called =
    let m = called.called.meets w.0 w.2 in
    (m.1, written_is_borne id sector bytes w.0 m.1 low w.1 fits (done_makes w.0 (Write id sector (sectors_of bytes) false) m.0 m.1 m.2), m.3)

-- ---- it is kept

-- a call that keeps, and changes nothing
pub record Keeps (call : Call) : Type 0 where
  pub keeps_it : keeps call Done ≡ true
  pub same : (s q : PlainPool) → Makes s call q → q ≡ s
  pub tested : (s : PlainPool) → s.mode ≡ mode.Writable → refusal_of s call ≡ None

pub flush_keeps : Keeps Flush
flush_keeps = record {
  keeps_it = refl;
  same = λ s q h. h;
  tested = λ s works. ap (λ (m : Mode). if is_failed m then Some Failed else None) works;
}

pub close_keeps : Keeps Close
close_keeps = record {
  keeps_it = refl;
  same = λ s q h. h;
  tested = λ s works. ap (λ (m : Mode). if is_failed m then Some Failed else None) works;
}

pub keep_refused : (old new : Held Meta) (call : Call) (reason : Refusal) (s : PlainPool) → Keeps call → Shows old s → s.mode ≡ mode.Writable
    → PoolRefused geometry_of metadata.StandsFor old new call reason → IsOutside reason
keep_refused old new call reason s is was works called =
    let m = called.called.meets s was in
    inr (fault_alone s call reason m.0 m.1 (is.tested s works) m.2)

pub made_is : (s : PlainPool) (call : Call) (made after : PlainPool) → Keeps call → Takes s call Done made after → made ≡ s
made_is s call made after is (inl step) = step.1 ∙ is.same s after (done_makes s call made after (inl step))
made_is s call made after is (inr fault) = absurd (not_refused Fault fault.0)

pub made_after : (s : PlainPool) (call : Call) (made after : PlainPool) → Takes s call Done made after → after ≡ made
made_after s call made after (inl step) = sym step.1
made_after s call made after (inr fault) = absurd (not_refused Fault fault.0)

-- what a stop leaves then
pub stop_kept : (old new : Held Meta) (call : Call) (s : PlainPool) (image : List Sector) → Keeps call → Shows old s → PoolCalled geometry_of metadata.StandsFor old new call Done
    → AfterStop new.disk.cells image → IsSomePool image × StandsFor image (reopened s)
stop_kept old new call s image is was called stop =
    let m = called.called.meets s was in
    let same : m.0 ≡ s = made_is s call m.0 m.1 is m.2 in
    let since = wider geometry_of metadata.StandsFor new (moment_of old) (moment_of new) image called.called.time.later (at_now geometry_of metadata.StandsFor new image stop) in
    let there = called.called.opens s was image since in
    let found = MayReopen-nothing m.0 there.0 (m.4.kept is.keeps_it there.0 (image, stop, there.1)) in
    (there.1.0, subst (λ (P : PlainPool). StandsFor image P) (found ∙ ap reopened same) there.1.1)

pub fresh_kept : (image : List Sector) (disk : DiskState) (s : PlainPool) → disk ≡ fresh image → IsSomePool image × StandsFor image (reopened s) → IsKept s disk
fresh_kept image disk s e h =
    subst (λ (d : DiskState). IsKept s d) (sym e) (record {
      honest = refl;
      settled = ap settled (sym (seen-settled image));
      is_pool = subst IsSomePool (sym (seen-settled image)) h.0;
      stands = subst (λ (i : List Sector). StandsFor i (reopened s)) (sym (seen-settled image)) h.1;
    })

works_on : (m : Mode) → m ≡ mode.Writable → m ≡ mode.Failed → ⊥
works_on m works failed = false≢true (sym (ap is_failed works) ∙ ap is_failed failed)

pub honest_yet : (h : Held Meta) (s : PlainPool) → s.mode ≡ mode.Writable → Shows h s → IsTrue h.disk.is_honest
honest_yet h s works (inl w) = w.2.standing.honest
honest_yet h s works (inr f) = absurd (works_on s.mode works f.mode_is)

-- ---- it is formatted

abbrev pub FreshLaw : Type 0
FreshLaw = (g : Geometry) (image : List Sector) → IsWithinLimits g → IsFreshOf g image → StandsFor image (empty_pool g)

abbrev pub RestLaw : Type 0
RestLaw = (h : Held Meta) (s : PlainPool) (image : List Sector) → Shows h s → AfterStop h.disk.cells image → IsPool (geometry_of h.metadata) image

limits_of : (h : Held Meta) (s : PlainPool) → s.mode ≡ mode.Writable → Shows h s → IsWithinLimits (geometry_of h.metadata)
limits_of h s works (inl w) = (stands_within h.metadata h.disk w.0 w.1 w.2.standing).limits
limits_of h s works (inr f) = absurd (works_on s.mode works f.mode_is)

-- an image that a stop leaves then, if it is as formatting leaves it, stands for the pool without volumes
pub formatted_stands : (h : Held Meta) (g : Geometry) (image : List Sector) → FreshLaw → RestLaw → geometry_of h.metadata ≡ g → IsFreshOf g image → Shows h (empty_pool g)
    → AfterStop h.disk.cells image → IsSomePool image × StandsFor image (empty_pool g)
formatted_stands h g image fresh_law rest_law same is_fresh shown stop =
    let limits = subst IsWithinLimits same (limits_of h (empty_pool g) refl shown) in
    ((geometry_of h.metadata, rest_law h (empty_pool g) image shown stop), fresh_law g image limits is_fresh)

-- the disk that is handed back
pub closed_kept : (old new : Held Meta) (disk : DiskState) (s : PlainPool) → s.mode ≡ mode.Writable → Shows old s → PoolCalled geometry_of metadata.StandsFor old new Close Done → new.disk ≡ disk
    → IsSettled disk.cells → IsKept s disk
closed_kept old new disk s works was called is rests =
    let m = called.called.meets s was in
    let same : m.0 ≡ s = made_is s Close m.0 m.1 close_keeps m.2 in
    let image = seen new.disk.cells in
    let left = stop_kept old new Close s image close_keeps was called (AfterStop-seen new.disk.cells) in
    subst (λ (d : DiskState). IsKept s d) is (record {
      honest = honest_yet new m.1 (ap (λ (p : PlainPool). p.mode) (made_after s Close m.0 m.1 m.2 ∙ same) ∙ works) m.3;
      settled = subst (λ (d : DiskState). IsSettled d.cells) (sym is) rests;
      is_pool = left.0;
      stands = left.1;
    })

abbrev Closes : Held Meta → DiskState → Answer → Type 0
Closes = PoolClosed geometry_of metadata.StandsFor marks_of room_of changed_of

pub close_kept : (result : Result (Unit {0}) Refusal) (h : Held Meta) (disk : DiskState) (s : PlainPool)
    → MatchResult result (λ _. Closes h disk Done) (λ reason. Closes h disk (Refused reason)) → OnOk result ((p : PlainPool) → Shows h p → IsSettled disk.cells)
    → Shows h s → s.mode ≡ mode.Writable → OnOk result (IsKept s disk)
close_kept (Ok u) h disk s closed settled was works = closed_kept h closed.0 disk s works was closed.1 closed.2 (settled s was)
close_kept (Err reason) h disk s closed settled was works = tt

-- ---- it is read

pub sized : (h : Held Meta) (id sector : ℕ) (bytes : List ℕ) (s : PlainPool) → Bears id sector bytes s → Shows h (reopened s) → geometry_of h.metadata ≡ users_geometry
sized h id sector bytes s b is = sym (ap (λ o. o.geometry) (shown geometry_of metadata.StandsFor h (reopened s) is)) ∙ b.geometry

abbrev ReadAnswered : Held Meta → Held Meta → ℕ → ℕ → ℕ → List ℕ → Result (Unit {0}) Refusal → Type 0
ReadAnswered old new id sector n out result =
    MatchResult result (λ _. PoolCalled geometry_of metadata.StandsFor old new (Read id sector n) (Gave (sectors_of out)))
    (λ reason. PoolRefused geometry_of metadata.StandsFor old new (Read id sector n) reason)

module _ (old new : Held Meta) (id sector n : ℕ) (bytes out : List ℕ) (s : PlainPool) (b : Bears id sector bytes s) (is : Shows old (reopened s)) where
  borne : Bears id sector bytes (reopened s)
  borne = reopened_bears id sector bytes s (reopened s) b refl

  pub read_ok : (result : Result (Unit {0}) Refusal) → ReadAnswered old new id sector n out result → n ≡ length bytes / 512 → length bytes % 512 ≡ 0 → length out ≡ length bytes
      → OnOk result (out ≡ bytes)
  read_ok (Ok u) called many whole long =
      let m = called.called.meets (reopened s) is in read_gives id sector n bytes out (reopened s) m.0 m.1 borne many whole long m.2
  read_ok (Err reason) called many whole long = tt

  pub read_err : (result : Result (Unit {0}) Refusal) → ReadAnswered old new id sector n out result → IfErr result (λ reason. IsOutside reason)
  read_err (Ok u) called = tt
  read_err (Err reason) called =
      let m = called.called.meets (reopened s) is in
      inr (fault_alone (reopened s) (Read id sector n) reason m.0 m.1 (readable id sector n bytes (reopened s) borne) m.2)
