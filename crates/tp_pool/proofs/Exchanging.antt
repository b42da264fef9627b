-- The transaction id is set.
use Rattle.std.proofs.Common.{◌≡◌, inl, inr, ℕ, ◌+◌, ◌≤◌, ◌==◌, Bool, true, false, not, None, Result, Ok, Err, List, [], ◌∷◌, refl, sym, ◌∙◌, ap, subst}
use Rattle.std.specs.Prelude.{IfErr}
use Rattle.std.proofs.lemmas.Bool.{false≢true}
use Rattle.tp_model.specs.declared.mode.Mode.{Mode}
use Rattle.tp_model.specs.declared.mode.Mode.TheVariants as mode
use Rattle.tp_model.specs.declared.refusal.Refusal.{Refusal}
use Rattle.tp_model.specs.declared.refusal.Refusal.TheVariants.{Failed, Fault, ReadOnly, StaleTransactionId}
use Rattle.tp_model.specs.Geometry.{Geometry}
use Rattle.tp_model.specs.Pool.{PlainPool}
use Rattle.tp_model.specs.Calls.{Call, Done, Flush, MayAnswer, Refused, SetTransactionId, first_failed, is_failed, is_read_only, refusal_of}
use Rattle.tp_model.specs.Disk.{DiskState, seen}
use Rattle.tp_model.specs.DiskStops.{Leaves, LeavesOnly}
use Rattle.tp_model.proofs.DiskStopLaws.{starts}
use Rattle.tp_model.proofs.Holds.{Makes-FindsHeld}
use Rattle.tp_model.proofs.Shape.{Step-IsSound}
use Rattle.tp_model.proofs.Steps.{step_accepted}
use Rattle.tp_stored.specs.Contents.{Contents, HasContents, HoldsContents}
use Rattle.tp_pool.specs.Held.{Held, HasPool, IsTried, PoolCalled}
use Rattle.tp_pool.specs.Unkept.{IsUnkept}
use Rattle.tp_pool.specs.Writing.{IsHalf}
use Rattle.tp_pool.proofs.Answering.{tried_writable}
use Rattle.tp_pool.proofs.Behind.{Over, unkept_before}
use Rattle.tp_pool.proofs.Calling.{Laws}
use Rattle.tp_pool.proofs.Flushing.{reclaimed_nothing}
use Rattle.tp_pool.proofs.Halves.{still_half}
use Rattle.tp_pool.proofs.Ranges.{known_after}
use Rattle.tp_pool.proofs.Keeping.{not_read_only}
use Rattle.tp_pool.proofs.Phases.{second_phase}
use Rattle.tp_pool.proofs.Serving.{called_tested}
use Rattle.tp_pool.proofs.Times.{at_once}

-- the tests of the call, by their verdicts
pub exchange_tests : (s : PlainPool) (current next : ℕ) (failed read_only same : Bool) → is_failed s.mode ≡ failed → is_read_only s.mode ≡ read_only
    → (current == s.transaction_id) ≡ same
    → refusal_of s (SetTransactionId current next) ≡ first_failed ((failed, Failed) ∷ (read_only, ReadOnly) ∷ (not same, StaleTransactionId) ∷ [])
exchange_tests s current next failed read_only same a b c = (λ i. first_failed ((a i, Failed) ∷ (b i, ReadOnly) ∷ (not (c i), StaleTransactionId) ∷ []))

exchanged : (g : Geometry) (c : Contents) (image : List (List ℕ)) (p : PlainPool) (next : ℕ) → HasContents g c image p
    → HasContents g (record c { transaction_id = next }) image (record p { transaction_id = next })
exchanged g c image p next has = record {
  geometry = has.geometry;
  transaction_id = refl;
  needs_check = has.needs_check;
  meta_used = has.meta_used;
  held_root = has.held_root;
  sizes = has.sizes;
  slots = has.slots;
  sectors = record { mapped = has.sectors.mapped; unmapped = has.sectors.unmapped };
}

-- nothing was written yet
nothing_yet : (g : Geometry) (kept : Contents) (disk : DiskState) → Leaves (HoldsContents g kept) disk.cells → LeavesOnly disk disk (IsHalf g Flush 0 [] kept disk.cells)
nothing_yet g kept disk left =
    starts {P = IsHalf g Flush 0 [] kept disk.cells} disk (λ image stop.
    still_half g Flush 0 [] kept disk.cells image (image, stop, left image stop, record { same_length = refl; same = λ i high. refl }))

module _ {M : Type 0} {geometry : M → Geometry} {stands : M → DiskState → Contents → Contents → Type 0} {marks : M → List Bool} {room : M → ℕ}
    (laws : Laws geometry stands marks room) (current next : ℕ) (old : Held M) (works : old.mode ≡ mode.Writable) where
  abbrev call : Call
  call = SetTransactionId current next

  verdict : (same : Bool) → ((now kept : Contents) → stands old.metadata old.disk now kept → (current == now.transaction_id) ≡ same)
      → (s : PlainPool) (now kept : Contents) → HasPool geometry stands old now kept s
      → refusal_of s call ≡ first_failed ((false, Failed) ∷ (false, ReadOnly) ∷ (not same, StaleTransactionId) ∷ [])
  verdict same told s now kept pool =
      exchange_tests s current next false false same (ap is_failed (pool.mode_is ∙ works)) (ap is_read_only (pool.mode_is ∙ works))
      (ap (λ n. current == n) pool.has.transaction_id ∙ told now kept pool.standing)

  -- it is another one
  pub exchange_stale : ((now kept : Contents) → stands old.metadata old.disk now kept → (current == now.transaction_id) ≡ false)
      → PoolCalled geometry stands old old call (Refused StaleTransactionId)
  exchange_stale told =
      called_tested laws old call StaleTransactionId (ap is_failed works) refl (λ s. refl) refl (λ s now kept pool. verdict false told s now kept pool)

  module _ (told : (now kept : Contents) → stands old.metadata old.disk now kept → (current == now.transaction_id) ≡ true) (metadata : M)
      (same : geometry metadata ≡ geometry old.metadata)
      (set : (disk : DiskState) (now kept : Contents) → stands old.metadata disk now kept → stands metadata disk (record now { transaction_id = next }) kept) where
    accepted : (s : PlainPool) (now kept : Contents) → HasPool geometry stands old now kept s → refusal_of s call ≡ None
    accepted s now kept pool = verdict true told s now kept pool

    over : (s : PlainPool) (now kept : Contents) → HasPool geometry stands old now kept s
        → Over laws old works call metadata old.disk same (at_once old.disk) refl s now kept
    over s now kept pool =
        let g = geometry old.metadata in
        let made : PlainPool = record s { transaction_id = next } in
        let then : Contents = record now { transaction_id = next } in
        let half = nothing_yet g kept old.disk (laws.left old.metadata old.disk now kept pool.standing) in
        let passes = accepted s now kept pool in
        record {
          then = then;
          before = kept;
          made = made;
          accepted = passes;
          makes = refl;
          shown = record {
            standing = set old.disk now kept pool.standing;
            has = subst (λ (x : Geometry). HasContents x then (seen old.disk.cells) made) (sym same) (exchanged g now (seen old.disk.cells) s next pool.has);
            mode_is = pool.mode_is;
            holds = pool.holds;
            spare = subst (λ (x : Geometry). now.meta_used + 128 ≤ x.metadata_blocks) (sym same) pool.spare;
            works = pool.works;
            check = pool.check;
            settled = λ read_only. absurd (not_read_only old.mode works read_only);
            sound = Step-IsSound s call Done made tt pool.sound (step_accepted s call made passes refl);
            found = Makes-FindsHeld s call made passes refl pool.found;
            known = known_after g (geometry metadata) old.holders s call made same passes refl refl pool.found pool.known;
          };
          left = second_phase g Flush 0 [] now kept old.disk old.disk half;
        }

    -- nothing was flushed
    pub exchange_unkept : (changed : M → Bool) → IsUnkept geometry stands marks room changed old (record old { metadata = metadata }) call
    exchange_unkept changed =
        unkept_before laws old works call metadata old.disk same (at_once old.disk) refl over changed (reclaimed_nothing geometry stands marks room old old.disk call refl)

-- a pool that is read-only
pub exchange_read_only_called : {M : Type 0} {geometry : M → Geometry} {stands : M → DiskState → Contents → Contents → Type 0} {marks : M → List Bool} {room : M → ℕ}
    (laws : Laws geometry stands marks room) (current next : ℕ) (h : Held M) → is_failed h.mode ≡ false → is_read_only h.mode ≡ true
    → PoolCalled geometry stands h h (SetTransactionId current next) (Refused ReadOnly)
exchange_read_only_called laws current next h works reads =
    called_tested laws h (SetTransactionId current next) ReadOnly works refl (λ s. refl) refl (λ s now kept pool.
    exchange_tests s current next false true (current == s.transaction_id) (ap is_failed pool.mode_is ∙ works) (ap is_read_only pool.mode_is ∙ reads) refl)

-- ---- what is known of it

pub exchange_read_only : {M : Type 0} (h : Held M) (current next : ℕ) → is_read_only h.mode ≡ true → IsTried h h (SetTransactionId current next) (Err ReadOnly)
exchange_read_only h current next reads = record { may = may h.mode reads; mode_is = refl; silent = λ yes. refl }
  where
    may : (m : Mode) → is_read_only m ≡ true → MayAnswer m (SetTransactionId current next) (Refused ReadOnly)
    may mode.Writable e = absurd (false≢true e)
    may mode.ReadOnly e = inl refl
    may mode.Failed e = absurd (false≢true e)

pub exchange_refused : {M : Type 0} (old : Held M) (current next : ℕ) → old.mode ≡ mode.Writable → IsTried old old (SetTransactionId current next) (Err StaleTransactionId)
exchange_refused old current next works = tried_writable old old (SetTransactionId current next) (Err StaleTransactionId) old.mode refl works refl refl (inl refl, refl)

pub exchange_kept : {M : Type 0} (old new : Held M) (current next : ℕ) → old.mode ≡ mode.Writable → new.mode ≡ old.mode → (result : Result (Unit {0}) Refusal)
    → IfErr result (λ reason. reason ≡ Fault) → IsTried old new (SetTransactionId current next) result
exchange_kept old new current next works same (Ok x) only = tried_writable old new (SetTransactionId current next) (Ok x) old.mode refl works same refl tt
exchange_kept old new current next works same (Err reason) only =
    subst (λ (r : Refusal). IsTried old new (SetTransactionId current next) (Err r)) (sym only)
    (tried_writable old new (SetTransactionId current next) (Err Fault) old.mode refl works same refl (inr (inl refl), refl))
