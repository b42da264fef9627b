-- The removal of a volume from a pool that works.
use Rattle.std.proofs.Common.{◌≡◌, ◌⊎◌, inl, inr, ℕ, ◌+◌, ◌-◌, ◌^◌, ◌==◌, ◌≤◌, ◌<◌, ◌↔◌, Bool, true, false, not, Option, None, Some, is_some, Result, Ok, Err, List, [], ◌∷◌, refl, sym, ◌∙◌, ap, subst, arith}
use Rattle.std.specs.Prelude.{IfErr, IsSome, IsTrue, nat_lt, ◌&&◌, if◌then◌else◌}
use Rattle.std.specs.Ordering.{nat_cmp}
use Rattle.std.specs.FinMap.{FinMap}
use Rattle.std.proofs.lemmas.Bool.{cases_eq, cases_lt, eq-eqb, false≢true, ne_eqb, true≢false}
use Rattle.std.proofs.lemmas.Option.{none-some}
use Rattle.tp_model.specs.declared.mode.Mode.{Mode}
use Rattle.tp_model.specs.declared.mode.Mode.TheVariants as mode
use Rattle.tp_model.specs.declared.refusal.Refusal.{Refusal}
use Rattle.tp_model.specs.declared.refusal.Refusal.TheVariants.{Busy, Damaged, Failed, Fault, NoMetadataSpace, NoSuchDevice, ReadOnly}
use Rattle.tp_model.specs.Geometry.{Geometry}
use Rattle.tp_model.specs.Sectors.{Sector}
use Rattle.tp_model.specs.Pool.{PlainPool, hold_count}
use Rattle.tp_model.specs.Refusals.{is_fault_refusal}
use Rattle.tp_model.specs.Calls.{Answer, Call, Delete, Flush, IsOneOf, Makes, MayAnswer, Refused, exists, first_failed, has_metadata_room, is_failed, is_read_only, refusal_of, refusals_in_writable, refused_commits, reply}
use Rattle.tp_model.specs.PoolStops.{Event, GivenBy}
use Rattle.tp_model.specs.Disk.{DiskState, FaultHasCause, after_read, seen}
use Rattle.tp_model.specs.DiskStops.{LeavesOnly}
use Rattle.tp_model.proofs.DiskStopLaws.{joins, weakens}
use Rattle.tp_model.proofs.Holds.{Makes-FindsHeld}
use Rattle.tp_model.proofs.Shape.{Step-IsSound}
use Rattle.tp_model.proofs.Steps.{step_accepted}
use Rattle.tp_sharing.specs.Volumes.{device_of}
use Rattle.tp_mapping.specs.Mapping.{IsWithin}
use Rattle.tp_stored.specs.Contents.{Contents, HasContents, IsStill, SameData}
use Rattle.tp_shown.proofs.Made.{delete_makes}
use Rattle.tp_shown.proofs.Tests.{exists_is_listed}
use Rattle.tp_meta.specs.Metadata.{IsChanging, IsLater, Ran}
use Rattle.tp_pool.specs.Held.{EndsShort, Held, HasPool, IsTried, LacksRoom, PoolAnswered, PoolCalled, PoolRefused, PoolTried, failed_by, shows}
use Rattle.tp_holders.specs.Holders.{holds_of}
use Rattle.tp_pool.specs.Flushes.{HasFlushed, Lacks}
use Rattle.tp_pool.specs.Unkept.{HasReclaimed, IsUnkept}
use Rattle.tp_pool.specs.Messages.{RefusesOld, TestedSo, old_tests, without_contents, without_plain}
use Rattle.tp_pool.specs.Writing.{IsAsBefore, IsHalf, IsKept, IsReclaiming, LacksForRemoval}
use Rattle.tp_pool.proofs.Answering.{tried_short, tried_writable}
use Rattle.tp_pool.proofs.Behind.{Over, unkept_before}
use Rattle.tp_pool.proofs.Calling.{Laws, called_working, met_fault}
use Rattle.tp_pool.proofs.Create.{enough_blocks_are, lacking_blocks_are}
use Rattle.tp_pool.proofs.Flushing.{counted_before, counted_short, reclaimed}
use Rattle.tp_pool.proofs.Halves.{half_changing}
use Rattle.tp_pool.proofs.Lasting.{lacking, removal_lasts}
use Rattle.tp_pool.proofs.Ranges.{known_after}
use Rattle.tp_pool.proofs.Keeping.{not_read_only, same_data_shows}
use Rattle.tp_pool.proofs.Phases.{WriteStop, first_phase, found_in_write, second_phase, second_phase_kept}
use Rattle.tp_pool.proofs.Putting.{writable_is}
use Rattle.tp_pool.proofs.Serving.{KeepsOutline, called_tested, write_refused}
use Rattle.tp_pool.proofs.Stops.{Given, IsLeft, nothing_given}
use Rattle.tp_pool.proofs.Times.{then_later as after_later}

-- ---- the tests

-- the tests of the call, by their verdicts
abbrev pub delete_verdict : Bool → Bool → Bool → Bool → Bool → Option Refusal
delete_verdict failed read_only misses held short = first_failed ((failed, Failed) ∷ (read_only, ReadOnly) ∷ (misses, NoSuchDevice) ∷ (held, Busy) ∷ (short, NoMetadataSpace) ∷ [])

-- a root is held, and there is too little metadata room
abbrev pub is_short : PlainPool → Bool
is_short s = not (s.held_root == 0) && not (has_metadata_room s 256)

pub deletion_tests : (s : PlainPool) (id : ℕ) (failed read_only misses held short : Bool) → is_failed s.mode ≡ failed → is_read_only s.mode ≡ read_only
    → not (exists s id) ≡ misses → nat_lt 0 (hold_count s.holds id) ≡ held → is_short s ≡ short → refusal_of s (Delete id) ≡ delete_verdict failed read_only misses held short
deletion_tests s id failed read_only misses held short a b c d e = (λ i. delete_verdict (a i) (b i) (c i) (d i) (e i))

two_pass : (misses held : Bool) → first_failed ((misses, NoSuchDevice) ∷ (held, Busy) ∷ []) ≡ None → (misses ≡ false) × (held ≡ false)
two_pass true held e = absurd (none-some NoSuchDevice (sym e))
two_pass false true e = absurd (none-some Busy (sym e))
two_pass false false e = (refl, refl)

-- the first of the two that fails, whatever room there is
verdict_first : (misses held short : Bool) (reason : Refusal) → first_failed ((misses, NoSuchDevice) ∷ (held, Busy) ∷ []) ≡ Some reason
    → delete_verdict false false misses held short ≡ Some reason
verdict_first true held short reason e = e
verdict_first false true short reason e = e
verdict_first false false short reason e = absurd (none-some reason e)

some_root : (n : ℕ) → (n ≡ 0 → ⊥) → 0 < n
some_root n some = elim (cases_lt 0 n) [ inl lt ↦ lt | inr ge ↦ absurd (some (let none : n ≡ 0 = omega (arith, ge) in none)) ]

-- the room, as it is tested
short_is : (s : PlainPool) (g : Geometry) (c : Contents) (image : List Sector) → HasContents g c image s → LacksForRemoval g c → is_short s ≡ true
short_is s g c image has lacks =
    let some : (s.held_root == 0) ≡ false = ne_eqb s.held_root 0 (λ e. absurd (omega (arith, e, has.held_root, lacks.0))) in
    (λ i. not (some i) && not (lacking_blocks_are 256 s g c image has lacks.1 i))

not_short_is : (s : PlainPool) (g : Geometry) (c : Contents) (image : List Sector) → HasContents g c image s → (LacksForRemoval g c → ⊥) → is_short s ≡ false
not_short_is s g c image has enough = elim (cases_eq s.held_root 0) [
  | inl e ↦ ap (λ (b : Bool). not b && not (has_metadata_room s 256)) (eq-eqb s.held_root 0 e)
  | inr n ↦
      let some : 0 < c.held_root = some_root c.held_root (λ z. n (has.held_root ∙ z)) in
      let room = enough_blocks_are 256 s g c image has (λ lacks. enough (some, lacks)) in
      (λ i. not (ne_eqb s.held_root 0 n i) && not (room i))
]

is_there : {A : Type 0} (o : Option A) → not (is_some o) ≡ false → IsSome o
is_there None e = absurd (true≢false e)
is_there (Some x) e = refl

-- a test that fails
pub failure_deletes_nothing : (reason : Refusal) → (reason ≡ Fault) ⊎ (reason ≡ Damaged) → RefusesOld reason
failure_deletes_nothing reason (inl e) = inl e
failure_deletes_nothing reason (inr e) = inr (inl e)

removes_it : (s : PlainPool) (id meta_used : ℕ) → (s.held_root ≡ 0 → meta_used ≤ s.meta_used) → Makes s (Delete id) (without_plain s id meta_used)
removes_it s id meta_used few = record { is = refl; taken = few }

keeps_outline : (id : ℕ) → KeepsOutline (Delete id)
keeps_outline id s q makes = (ap (λ (p : PlainPool). p.geometry) makes.is, ap (λ (p : PlainPool). p.holds) makes.is)

-- ---- what is known of it

pub delete_read_only : {M : Type 0} (h : Held M) (id : ℕ) → is_read_only h.mode ≡ true → IsTried h h (Delete id) (Err ReadOnly)
delete_read_only h id reads = record { may = may h.mode reads; mode_is = refl; silent = λ yes. refl }
  where
    may : (m : Mode) → is_read_only m ≡ true → MayAnswer m (Delete id) (Refused ReadOnly)
    may mode.Writable e = absurd (false≢true e)
    may mode.ReadOnly e = inl refl
    may mode.Failed e = absurd (false≢true e)

one_of : (id : ℕ) (reason : Refusal) → RefusesOld reason → IsOneOf reason (refusals_in_writable (Delete id))
one_of id reason (inl e) = inr (inr (inr (inl e)))
one_of id reason (inr (inl e)) = inr (inr (inr (inr (inl e))))
one_of id reason (inr (inr (inl e))) = inl e
one_of id reason (inr (inr (inr e))) = inr (inl e)

pub old_commits : (reason : Refusal) → RefusesOld reason → refused_commits reason ≡ false
old_commits reason (inl e) = ap refused_commits e
old_commits reason (inr (inl e)) = ap refused_commits e
old_commits reason (inr (inr (inl e))) = ap refused_commits e
old_commits reason (inr (inr (inr e))) = ap refused_commits e

pub delete_refused : {M : Type 0} (old new : Held M) (id : ℕ) → old.mode ≡ mode.Writable → new.mode ≡ old.mode → (reason : Refusal) → RefusesOld reason
    → IsTried old new (Delete id) (Err reason)
delete_refused old new id works same reason only =
    tried_writable old new (Delete id) (Err reason) old.mode refl works same refl (one_of id reason only, old_commits reason only)

pub delete_kept : {M : Type 0} (old new : Held M) (id : ℕ) → old.mode ≡ mode.Writable → new.mode ≡ old.mode → (result : Result (Unit {0}) Refusal)
    → IfErr result (λ reason. reason ≡ Fault) → IsTried old new (Delete id) result
delete_kept old new id works same (Ok x) only = tried_writable old new (Delete id) (Ok x) old.mode refl works same refl tt
delete_kept old new id works same (Err reason) only = delete_refused old new id works same reason (inl only)

-- there is too little metadata room for it
pub delete_short : {M : Type 0} (old new : Held M) (id : ℕ) → old.mode ≡ mode.Writable → (result : Result (Unit {0}) Refusal) → EndsShort old new result
    → IsTried old new (Delete id) result
delete_short old new id works (Ok x) ends = absurd ends
delete_short old new id works (Err reason) (inl e) = delete_refused old new id works e.1 reason (inl e.0)
delete_short old new id works (Err reason) (inr e) =
    subst (λ (r : Refusal). IsTried old new (Delete id) (Err r)) (sym e.0) (tried_short old new (Delete id) works e.1 refl (inr (inr (inl refl))))

-- ---- where no root is held, it is not refused for want of metadata room

pub never_short : {M : Type 0} (geometry : M → Geometry) (stands : M → DiskState → Contents → Contents → Type 0) (old new : Held M) (id : ℕ) (result : Result (Unit {0}) Refusal)
    → PoolAnswered geometry stands old new (Delete id) result → result ≡ Err NoMetadataSpace → (s : PlainPool) → shows geometry stands old s → s.held_root ≡ 0 → ⊥
never_short geometry stands old new id result answered is s shown none =
    let called = subst (λ (r : Result (Unit {0}) Refusal). PoolAnswered geometry stands old new (Delete id) r) is answered in
    let m = called.called.meets s shown in
    removal_lasts s id none (lacking s (Delete id) m.0 m.1 m.2)

-- ---- before the change

module _ {M : Type 0} (stands : M → DiskState → Contents → Contents → Type 0) (id : ℕ) where
  -- The pool may be written, and the tests of what stands pass. It is as it was at the start of the call.
  pub record IsDeletable (start old : Held M) : Type 0 where
    pub same : old ≡ start
    pub works : old.mode ≡ mode.Writable
    pub low : id < 2 ^ 24
    pub passed : (now kept : Contents) → stands old.metadata old.disk now kept → old_tests id old.holders now ≡ None

  pub deletable : (start was : Held M) → was ≡ start → is_failed start.mode ≡ false → is_read_only start.mode ≡ false → id < 2 ^ 24
      → ((now kept : Contents) → stands start.metadata start.disk now kept → old_tests id start.holders now ≡ None) → IsDeletable start was
  deletable start was view works writes low told = record {
    low = low;
    same = view;
    works = ap (λ (h : Held M). h.mode) view ∙ writable_is start.mode works writes;
    passed = subst (λ (h : Held M). (now kept : Contents) → stands h.metadata h.disk now kept → old_tests id h.holders now ≡ None) (sym view) told;
  }

-- a test refuses it, or the disk failed in one
module _ {M : Type 0} {geometry : M → Geometry} {stands : M → DiskState → Contents → Contents → Type 0} {marks : M → List Bool} {room : M → ℕ}
    (laws : Laws geometry stands marks room) (id : ℕ) where
  verdict_is : (h : Held M) → id < 2 ^ 24 → is_failed h.mode ≡ false → is_read_only h.mode ≡ false → (s : PlainPool) (now kept : Contents) → HasPool geometry stands h now kept s
      → (short : Bool) → is_short s ≡ short
      → refusal_of s (Delete id) ≡ delete_verdict false false (not (is_some (device_of id now.volumes))) (nat_lt 0 (hold_count (holds_of h.holders) id)) short
  verdict_is h low works writes s now kept pool short e =
      deletion_tests s id false false (not (is_some (device_of id now.volumes))) (nat_lt 0 (hold_count (holds_of h.holders) id)) short
      (ap is_failed pool.mode_is ∙ works) (ap is_read_only pool.mode_is ∙ writes)
      (ap not (exists_is_listed (geometry h.metadata) now (seen h.disk.cells) s id low pool.has)) (ap (λ (x : FinMap nat_cmp ℕ). nat_lt 0 (hold_count x id)) pool.holds) e

  tested : (h : Held M) (reason : Refusal) → id < 2 ^ 24 → is_failed h.mode ≡ false → is_read_only h.mode ≡ false
      → ((now kept : Contents) → stands h.metadata h.disk now kept → old_tests id h.holders now ≡ Some reason)
      → (s : PlainPool) (now kept : Contents) → HasPool geometry stands h now kept s → refusal_of s (Delete id) ≡ Some reason
  tested h reason low works writes told s now kept pool =
      let short = is_short s in
      verdict_is h low works writes s now kept pool short refl
      ∙ verdict_first (not (is_some (device_of id now.volumes))) (nat_lt 0 (hold_count (holds_of h.holders) id)) short reason (told now kept pool.standing)

  pub delete_read_only_called : (h : Held M) → is_failed h.mode ≡ false → is_read_only h.mode ≡ true → PoolCalled geometry stands h h (Delete id) (Refused ReadOnly)
  delete_read_only_called h works reads =
      called_tested laws h (Delete id) ReadOnly works refl (λ s. refl) refl (λ s now kept pool.
      deletion_tests s id false true (not (exists s id)) (nat_lt 0 (hold_count s.holds id)) (is_short s) (ap is_failed pool.mode_is ∙ works) (ap is_read_only pool.mode_is ∙ reads) refl refl refl)

  pub delete_tested : (h : Held M) (x : Refusal) → id < 2 ^ 24 → is_failed h.mode ≡ false → is_read_only h.mode ≡ false
      → ((now kept : Contents) → stands h.metadata h.disk now kept → TestedSo (Err x) (old_tests id h.holders now))
      → (x ≡ Damaged → (now kept : Contents) → stands h.metadata h.disk now kept → ⊥) → RefusesOld x
      → PoolRefused geometry stands h (failed_by x (record h { disk = after_read (not (is_fault_refusal x)) h.disk })) (Delete id) x
  delete_tested h x low works writes told never (inl e) =
      write_refused laws h (Delete id) x works refl refl (keeps_outline id) (inl e) never
  delete_tested h x low works writes told never (inr (inl e)) =
      write_refused laws h (Delete id) x works refl refl (keeps_outline id) (inr e) never
  delete_tested h x low works writes told never (inr (inr (inl e))) =
      subst (λ (r : Refusal). PoolRefused geometry stands h (failed_by r (record h { disk = after_read (not (is_fault_refusal r)) h.disk })) (Delete id) r) (sym e)
      (called_tested laws h (Delete id) NoSuchDevice works refl (λ s. refl) refl
      (tested h NoSuchDevice low works writes (λ now kept st. subst (λ (r : Refusal). TestedSo (Err r) (old_tests id h.holders now)) e (told now kept st) refl)))
  delete_tested h x low works writes told never (inr (inr (inr e))) =
      subst (λ (r : Refusal). PoolRefused geometry stands h (failed_by r (record h { disk = after_read (not (is_fault_refusal r)) h.disk })) (Delete id) r) (sym e)
      (called_tested laws h (Delete id) Busy works refl (λ s. refl) refl
      (tested h Busy low works writes (λ now kept st. subst (λ (r : Refusal). TestedSo (Err r) (old_tests id h.holders now)) e (told now kept st) refl)))

-- ---- the change between two commits

module _ {M : Type 0} {geometry : M → Geometry} {stands : M → DiskState → Contents → Contents → Type 0} {marks : M → List Bool} {room : M → ℕ}
    (laws : Laws geometry stands marks room) (id : ℕ) (start old : Held M) (ready_is : IsDeletable stands id start old)
    (lacks : Bool) (told_room : (d : DiskState) (now kept : Contents) → stands old.metadata d now kept → IsTrue lacks ↔ LacksForRemoval (geometry old.metadata) now) where
  abbrev call : Call
  call = Delete id

  abbrev g : Geometry
  g = geometry old.metadata

  works : old.mode ≡ mode.Writable
  works = ready_is.works

  no_values : (e : Event) (i k : ℕ) (x : Sector) → Given g Flush 0 [] i k x → GivenBy e i k x
  no_values e i k x h = absurd (nothing_given g i k x h)

  there : (now kept : Contents) → stands old.metadata old.disk now kept → IsSome (device_of id now.volumes)
  there now kept st =
      is_there (device_of id now.volumes) (two_pass (not (is_some (device_of id now.volumes))) (nat_lt 0 (hold_count (holds_of old.holders) id)) (ready_is.passed now kept st)).0

  -- enough blocks are free for a commit
  abbrev HasSpare : Contents → Type 0
  HasSpare now = now.meta_used + 128 ≤ g.metadata_blocks

  verdict_now : (s : PlainPool) (now kept : Contents) → HasPool geometry stands old now kept s → (short : Bool) → is_short s ≡ short
      → refusal_of s call ≡ delete_verdict false false false false short
  verdict_now s now kept pool short e =
      let p = two_pass (not (is_some (device_of id now.volumes))) (nat_lt 0 (hold_count (holds_of old.holders) id)) (ready_is.passed now kept pool.standing) in
      verdict_is laws id old ready_is.low (ap is_failed works) (ap is_read_only works) s now kept pool short e ∙ (λ i. delete_verdict false false (p.0 i) (p.1 i) short)

  -- there is too little metadata room for it
  pub removal_short : lacks ≡ true → LacksRoom geometry stands old call
  removal_short short = record {
    writes = refl;
    refused = λ s shown. elim shown [
      | inl w ↦ verdict_now s w.0 w.1 w.2 true (short_is s g w.0 (seen old.disk.cells) w.2.has ((told_room old.disk w.0 w.1 w.2.standing).0 short))
      | inr f ↦ absurd (false≢true (sym (ap is_failed works) ∙ ap is_failed f.failed))
    ];
  }

  pub removal_refused : (new : Held M) (result : Result (Unit {0}) Refusal) → lacks ≡ true
      → ((any : Call) → LacksRoom geometry stands old any → PoolTried geometry stands old new any result)
      → PoolTried geometry stands start new call result
  removal_refused new result short refused =
      subst (λ (h : Held M). PoolTried geometry stands h new call result) ready_is.same (refused call (removal_short short))

  pub removal_flushed_short : (new : DiskState) → lacks ≡ true → (old.disk.flushes ≤ new.flushes) × (new.flushes ≤ old.disk.flushes + 2)
      → HasFlushed geometry stands marks room start new call
  removal_flushed_short new short few =
      subst (λ (h : Held M). HasFlushed geometry stands marks room h new call) ready_is.same (counted_short geometry stands marks room old call works refl new (removal_short short).refused few)

  module _ (passes : lacks ≡ false) where
    spared : (now kept : Contents) → stands old.metadata old.disk now kept → LacksForRemoval g now → ⊥
    spared now kept st short = true≢false (sym ((told_room old.disk now kept st).1 short) ∙ passes)

    -- how many more metadata blocks are in use behind it, at most
    abbrev more_of : Contents → ℕ
    more_of now = if now.held_root == 0 then 0 else 16

    none_more : (now : Contents) → now.held_root ≡ 0 → more_of now ≡ 0
    none_more now none = ap {B = ℕ} (λ (b : Bool). if b then 0 else 16) (eq-eqb now.held_root 0 none)

    -- then, too, enough are free for a commit
    spare_then : (now kept : Contents) → stands old.metadata old.disk now kept → HasSpare now → (n : ℕ) → n ≤ now.meta_used + more_of now → n + 128 ≤ g.metadata_blocks
    spare_then now kept st spare n few = elim (cases_eq now.held_root 0) [
      | inl none ↦ omega (arith, few, none_more now none, spare)
      | inr some ↦
          let many : more_of now ≡ 16 = ap {B = ℕ} (λ (b : Bool). if b then 0 else 16) (ne_eqb now.held_root 0 some) in
          elim (cases_lt (g.metadata_blocks - now.meta_used) 256) [
            | inl lacks ↦ absurd (spared now kept st (some_root now.held_root some, lacks))
            | inr enough ↦ omega (arith, few, many, enough)
          ]
    ]

    module _ (s : PlainPool) (now kept : Contents) (pool : HasPool geometry stands old now kept s) where
      accepts : refusal_of s call ≡ None
      accepts = verdict_now s now kept pool false (not_short_is s g now (seen old.disk.cells) pool.has (spared now kept pool.standing))

      -- what is found where a stop leaves what stood before
      found : (answer : Answer) (made : PlainPool) (d : DiskState) → LeavesOnly old.disk d (WriteStop g Flush 0 [] now kept old.disk)
          → LeavesOnly old.disk d (IsLeft g old (record { before = s; call = call; answer = answer; made = made }))
      found answer made d left =
          let within = laws.within old.metadata old.disk now kept pool.standing in
          let e : Event = record { before = s; call = call; answer = answer; made = made } in
          weakens {P = WriteStop g Flush 0 [] now kept old.disk} {Q = IsLeft g old e}
          (found_in_write g Flush 0 [] within.limits old e (no_values e) now kept within.volumes_now within.volumes_kept
          (laws.left old.metadata old.disk now kept pool.standing) pool.has) left

      -- the pool without the volume
      deleted_shown : (metadata : M) (d : DiskState) (meta_used : ℕ) (before : Contents) → geometry metadata ≡ g → meta_used + 128 ≤ g.metadata_blocks
          → stands metadata d (without_contents now id meta_used) before → HasContents g (without_contents now id meta_used) (seen d.cells) (without_plain s id meta_used)
          → (s.held_root ≡ 0 → meta_used ≤ s.meta_used)
          → HasPool geometry stands (record old { disk = d; metadata = metadata }) (without_contents now id meta_used) before (without_plain s id meta_used)
      deleted_shown metadata d meta_used before same spare standing has few = record {
        standing = standing;
        has = subst (λ (x : Geometry). HasContents x (without_contents now id meta_used) (seen d.cells) (without_plain s id meta_used)) (sym same) has;
        mode_is = pool.mode_is;
        holds = pool.holds;
        spare = subst (λ (x : Geometry). meta_used + 128 ≤ x.metadata_blocks) (sym same) spare;
        works = pool.works;
        check = pool.check;
        settled = λ read_only. absurd (not_read_only old.mode works read_only);
        sound = Step-IsSound s call (reply s call) (without_plain s id meta_used) tt pool.sound (step_accepted s call (without_plain s id meta_used) accepts (removes_it s id meta_used few));
        found = Makes-FindsHeld s call (without_plain s id meta_used) accepts (removes_it s id meta_used few) pool.found;
        known = known_after g (geometry metadata) old.holders s call (without_plain s id meta_used) same accepts (removes_it s id meta_used few) refl pool.found pool.known;
      }

    -- the volume was removed from s
    record HasDeleted (metadata : M) (last : DiskState) (s : PlainPool) (now kept : Contents) : Type 0 where
      pub meta_used : ℕ
      pub few : meta_used ≤ now.meta_used + more_of now
      pub before : Contents
      pub standing : stands metadata last (without_contents now id meta_used) before
      pub has : HasContents g (without_contents now id meta_used) (seen last.cells) (without_plain s id meta_used)

    -- nothing was committed before the change, or what stood then
    abbrev IsUnchanged : M → DiskState → Type 0
    IsUnchanged mid d = IsAsBefore geometry stands marks old.metadata mid old.disk d

    abbrev IsCommitted : M → DiskState → Contents → Type 0
    IsCommitted mid d now = IsKept geometry stands marks old.metadata mid old.disk d now

    -- what a removal tells
    abbrev Removes : M → DiskState → M → DiskState → Type 0
    Removes mid d metadata last =
        (now kept : Contents) → stands mid d now kept → IsSome (device_of id now.volumes)
        → (meta_used : ℕ) × (meta_used ≤ now.meta_used + (if now.held_root == 0 then 0 else 16)) × stands metadata last (without_contents now id meta_used) kept

    module _ (mid : M) (d : DiskState) (same : geometry mid ≡ g) (last : DiskState)
        (changing : (now kept : Contents) → stands mid d now kept → IsChanging (geometry mid) kept d last) where
      half : (now kept : Contents) → stands mid d now kept → LeavesOnly d last (IsHalf g Flush 0 [] kept d.cells)
      half now kept standing =
          half_changing g Flush 0 [] kept d last
          (subst (λ (x : Geometry). LeavesOnly d last (IsStill x kept d.cells)) same (changing now kept standing).any_moment)

      stood : (now kept : Contents) → stands old.metadata old.disk now kept → IsUnchanged mid d → stands mid d now kept
      stood now kept standing before =
          subst (λ (m : M). stands m d now kept) (sym before.metadata)
          (subst (λ (x : DiskState). stands old.metadata x now kept) (sym before.disk) standing)

      half_before : (now kept : Contents) → stands old.metadata old.disk now kept → IsUnchanged mid d
          → LeavesOnly old.disk last (IsHalf g Flush 0 [] kept old.disk.cells)
      half_before now kept standing before =
          subst (λ (x : DiskState). LeavesOnly x last (IsHalf g Flush 0 [] kept x.cells)) before.disk (half now kept (stood now kept standing before))

      delete_left : (now kept : Contents) → stands old.metadata old.disk now kept → LeavesOnly old.disk d (IsReclaiming g now kept old.disk)
          → IsUnchanged mid d ⊎ IsCommitted mid d now → LeavesOnly old.disk last (WriteStop g Flush 0 [] now kept old.disk)
      delete_left now kept standing left (inl before) = second_phase g Flush 0 [] now kept old.disk last (half_before now kept standing before)
      delete_left now kept standing left (inr is_kept) =
          joins (first_phase g Flush 0 [] now kept old.disk d left)
          (second_phase_kept g Flush 0 [] now kept old.disk d last is_kept.left (half now now is_kept.standing))

      module _ (metadata : M) (removed : Removes mid d metadata last) where
        has_less : (s : PlainPool) (now before : Contents) (meta_used : ℕ) → IsWithin g now.volumes → stands mid d now before → HasContents g now (seen d.cells) s
            → HasContents g (without_contents now id meta_used) (seen last.cells) (without_plain s id meta_used)
        has_less s now before meta_used within standing has =
            let same_data = subst (λ (x : Geometry). SameData x (seen d.cells) (seen last.cells)) same (changing now before standing).same_data in
            same_data_shows g (without_contents now id meta_used) (seen d.cells) (seen last.cells) (without_plain s id meta_used) same_data
            (delete_makes g now (seen d.cells) s within has id meta_used)

        deleted : (s : PlainPool) (now kept : Contents) (pool : HasPool geometry stands old now kept s) → IsUnchanged mid d ⊎ IsCommitted mid d now → HasDeleted metadata last s now kept
        deleted s now kept pool (inl before) =
            let within = laws.within old.metadata old.disk now kept pool.standing in
            let standing = stood now kept pool.standing before in
            let a = removed now kept standing (there now kept pool.standing) in
            let has = subst (λ (x : DiskState). HasContents g now (seen x.cells) s) (sym before.disk) pool.has in
            record {
              meta_used = a.0;
              few = a.1;
              before = kept;
              standing = a.2;
              has = has_less s now kept a.0 within.volumes_now standing has;
            }
        deleted s now kept pool (inr is_kept) =
            let within = laws.within old.metadata old.disk now kept pool.standing in
            let a = removed now now is_kept.standing (there now kept pool.standing) in
            let has = same_data_shows g now (seen old.disk.cells) (seen d.cells) s is_kept.same_data pool.has in
            record {
              meta_used = a.0;
              few = a.1;
              before = now;
              standing = a.2;
              has = has_less s now now a.0 within.volumes_now is_kept.standing has;
            }

    -- ---- the answers of the call

    -- no test refuses it
    pub delete_accepts : (s : PlainPool) → shows geometry stands old s → refusal_of s call ≡ None
    delete_accepts s (inl w) = accepts s w.0 w.1 w.2
    delete_accepts s (inr f) = absurd (false≢true (sym (ap is_failed works) ∙ ap is_failed f.failed))

    -- the disk failed, or was none of a pool's
    delete_broken : (reason : Refusal) (metadata : M) (d : DiskState) → geometry metadata ≡ g → IsLater old.disk d
        → FaultHasCause (is_fault_refusal reason) old.disk d
        → ((now kept : Contents) → stands old.metadata old.disk now kept → HasSpare now → LeavesOnly old.disk d (WriteStop g Flush 0 [] now kept old.disk))
        → (reason ≡ Damaged → (now kept : Contents) → stands old.metadata old.disk now kept → HasSpare now → ⊥) → (reason ≡ Fault) ⊎ (reason ≡ Damaged)
        → PoolRefused geometry stands start (failed_by reason (record old { disk = d; metadata = metadata })) call reason
    delete_broken reason metadata d same later cause left never only =
        subst (λ (h : Held M). PoolRefused geometry stands h (failed_by reason (record old { disk = d; metadata = metadata })) call reason)
        ready_is.same (by only)
      where
        new : Held M
        new = record old { disk = d; metadata = metadata; mode = mode.Failed }

        by : (reason ≡ Fault) ⊎ (reason ≡ Damaged)
            → PoolRefused geometry stands old (failed_by reason (record old { disk = d; metadata = metadata })) call reason
        by (inl e) =
            let faults : old.disk.failures < d.failures = cause.more (ap is_fault_refusal e) in
            subst (λ (r : Refusal). PoolRefused geometry stands old (failed_by r (record old { disk = d; metadata = metadata })) call r) (sym e)
            (called_working laws old new call (Refused Fault) (ap is_failed works) later faults (λ s now kept pool.
            let made : PlainPool = without_plain s id s.meta_used in
            met_fault laws old new s made call (reply s call) refl refl (step_accepted s call made (accepts s now kept pool) (removes_it s id s.meta_used (λ none. omega arith))) refl same
            (pool.has.geometry ∙ sym same) pool.holds (found s now kept pool (Refused Fault) made d (left now kept pool.standing pool.spare))))
        by (inr e) =
            let none_failed : d.failures ≡ old.disk.failures = cause.none (ap (λ (r : Refusal). not (is_fault_refusal r)) e) in
            subst (λ (r : Refusal). PoolRefused geometry stands old (failed_by r (record old { disk = d; metadata = metadata })) call r) (sym e)
            (called_working laws old new call (Refused Damaged) (ap is_failed works) later none_failed
            (λ s now kept pool. absurd (never e now kept pool.standing pool.spare)))

    -- the commit before it failed
    pub delete_unreclaimed : (reason : Refusal) (metadata : M) (d : DiskState) → geometry metadata ≡ g → IsLater old.disk d
        → FaultHasCause (is_fault_refusal reason) old.disk d
        → ((now kept : Contents) → stands old.metadata old.disk now kept → HasSpare now → LeavesOnly old.disk d (IsReclaiming g now kept old.disk))
        → (reason ≡ Damaged → (now kept : Contents) → stands old.metadata old.disk now kept → HasSpare now → ⊥)
        → (reason ≡ Fault) ⊎ (reason ≡ Damaged)
        → PoolRefused geometry stands start (failed_by reason (record old { disk = d; metadata = metadata })) call reason
    delete_unreclaimed reason metadata d same later cause left never only =
        delete_broken reason metadata d same later cause (λ now kept st spare. first_phase g Flush 0 [] now kept old.disk d (left now kept st spare)) never only

    -- the change, behind a commit if there was one
    module _ (mid : M) (d : DiskState) (same : geometry mid ≡ g) (later : IsLater old.disk d) (cause : FaultHasCause false old.disk d)
        (left : (now kept : Contents) → stands old.metadata old.disk now kept → HasSpare now → LeavesOnly old.disk d (IsReclaiming g now kept old.disk))
        (done : (now kept : Contents) → stands old.metadata old.disk now kept → HasSpare now → IsUnchanged mid d ⊎ IsCommitted mid d now)
        (metadata : M) (last : DiskState) (changing : (now kept : Contents) → stands mid d now kept → IsChanging (geometry mid) kept d last) where
      left_deleted : (now kept : Contents) → stands old.metadata old.disk now kept → HasSpare now → LeavesOnly old.disk last (WriteStop g Flush 0 [] now kept old.disk)
      left_deleted now kept st spare = delete_left mid d same last changing now kept st (left now kept st spare) (done now kept st spare)

      stood_or_kept : (now kept : Contents) → stands old.metadata old.disk now kept → HasSpare now → (before : Contents) × stands mid d now before
      stood_or_kept now kept st spare = elim (done now kept st spare) [
        | inl before ↦ (kept, stood mid d same last changing now kept st before)
        | inr k ↦ (now, k.standing)
      ]

      none_failed : d.failures ≡ old.disk.failures
      none_failed = cause.none refl

      -- it failed
      pub delete_failed : {r t : ℕ} (reason : Refusal) → Ran 16 (is_fault_refusal reason) r t (geometry mid) (geometry metadata) d last
          → (reason ≡ Damaged → (now kept : Contents) → stands mid d now kept → IsSome (device_of id now.volumes) → ⊥)
          → (reason ≡ Fault) ⊎ (reason ≡ Damaged)
          → PoolRefused geometry stands start (failed_by reason (record old { disk = last; metadata = metadata })) call reason
      delete_failed reason ran never only =
          let failing : FaultHasCause (is_fault_refusal reason) old.disk last = record {
            no_fewer = omega (arith, none_failed, ran.cause.no_fewer);
            more = λ f. omega (arith, none_failed, ran.cause.more f);
            none = λ f. ran.cause.none f ∙ none_failed;
          } in
          delete_broken reason metadata last (ran.geometry ∙ same) (after_later later ran.time) failing left_deleted
          (λ e now kept st spare. let m = stood_or_kept now kept st spare in never e now m.0 m.1 (there now kept st)) only

      -- it was done, and is not kept yet
      module _ (ran : Ran 16 false (room mid) (room metadata) (geometry mid) (geometry metadata) d last) (removed : Removes mid d metadata last) where
        same_last : geometry metadata ≡ g
        same_last = ran.geometry ∙ same

        abbrev none_failed_last : last.failures ≡ old.disk.failures
        none_failed_last = ran.cause.none refl ∙ none_failed

        abbrev all_later : IsLater old.disk last
        all_later = after_later later ran.time

        over : (s : PlainPool) (now kept : Contents) → HasPool geometry stands old now kept s
            → Over laws old works call metadata last same_last all_later none_failed_last s now kept
        over s now kept pool =
            let w = deleted mid d same last changing metadata removed s now kept pool (done now kept pool.standing pool.spare) in
            let few : s.held_root ≡ 0 → w.meta_used ≤ s.meta_used = λ none. omega (arith, w.few, none_more now (sym pool.has.held_root ∙ none), pool.has.meta_used) in
            record {
              then = without_contents now id w.meta_used;
              before = w.before;
              made = without_plain s id w.meta_used;
              accepted = accepts s now kept pool;
              makes = removes_it s id w.meta_used few;
              shown = deleted_shown s now kept pool metadata last w.meta_used w.before same_last (spare_then now kept pool.standing pool.spare w.meta_used w.few) w.standing w.has few;
              left = left_deleted now kept pool.standing pool.spare;
            }

        pub delete_unkept : (changed : M → Bool) → HasReclaimed geometry stands marks room old last call
            → IsUnkept geometry stands marks room changed start (record old { disk = last; metadata = metadata }) call
        delete_unkept changed counted =
            subst (λ (h : Held M). IsUnkept geometry stands marks room changed h (record old { disk = last; metadata = metadata }) call) ready_is.same
            (unkept_before laws old works call metadata last same_last all_later none_failed_last over changed counted)

    -- ---- how often it flushes

    abbrev From : Held M → DiskState → Type 0
    From h new = HasFlushed geometry stands marks room h new call

    module _ (mid : M) (d : DiskState) (some : (old.disk.flushes ≤ d.flushes) × (d.flushes ≤ old.disk.flushes + 2))
        (idle : 16 ≤ room old.metadata → (mid ≡ old.metadata) × (d ≡ old.disk)) where
      rests : (s : PlainPool) → shows geometry stands old s → (Lacks geometry stands marks room old call → ⊥) → d.flushes ≡ old.disk.flushes
      rests s shown enough =
          let free : 16 ≤ room old.metadata = elim (cases_lt (room old.metadata) 16) [ inl lt ↦ absurd (enough lt) | inr ge ↦ omega (arith, ge) ] in
          ap (λ (x : DiskState). x.flushes) (idle free).1

      pub delete_before : (new : DiskState) → new.flushes ≡ d.flushes → From start new
      delete_before new same =
          subst (λ (h : Held M). From h new) ready_is.same (counted_before geometry stands marks room old call works refl delete_accepts d some rests new same)

      pub delete_reclaimed : (new : DiskState) → new.flushes ≡ d.flushes → HasReclaimed geometry stands marks room old new call
      delete_reclaimed new same = reclaimed geometry stands marks room old call works refl delete_accepts d some rests new same
