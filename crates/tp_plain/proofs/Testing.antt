-- The tests over facts are those of the pool of which the facts are true.
use Rattle.std.proofs.Common.{◌≡◌, ℕ, ◌-◌, ◌==◌, Bool, true, false, not, List, [], ◌∷◌, Some, refl, sym, ap, subst, ◌∙◌, nat_lt}
use Rattle.std.specs.Prelude.{nat_le, ◌&&◌, ◌||◌, if◌then◌else◌}
use Rattle.tp_model.specs.declared.mode.Mode.{Mode}
use Rattle.tp_model.specs.declared.mode.Mode.TheVariants as mode
use Rattle.tp_model.specs.declared.refusal.Refusal.{Refusal}
use Rattle.tp_model.specs.declared.refusal.Refusal.TheVariants as refusals
use Rattle.tp_model.specs.Pool.{PlainPool, device_count, hold_count}
use Rattle.tp_model.specs.Calls as calls
use Rattle.tp_model.specs.Calls.{Call, first_failed, is_failed, exists, has_copy, has_data_room, has_metadata_room, refusal_of, volume_blocks}
use Rattle.tp_plain.specs.declared.tests_of_calls.Asked.{Asked}
use Rattle.tp_plain.specs.declared.tests_of_calls.Asked.TheVariants.{Read, Write, Trim, WriteZeroes, Flush, CreateThin, CreateSnap, Delete, SetTransactionId, Grow, Hold, VolumeBlocks, Walk, HeldRead, ReserveMetadataSnap, ReleaseMetadataSnap}
use Rattle.tp_plain.specs.declared.tests_of_calls.Facts.{Facts}
use Rattle.tp_plain.specs.Tests.{Asks, IsTrueOf, message_refusal, refusal_by}

abbrev facts_of : PlainPool → ℕ → Call → Facts
facts_of p id call = record { mode = p.mode; exists = exists p id; blocks = volume_blocks p id; devices = device_count p; free_metadata = p.geometry.metadata_blocks - p.meta_used; has_data_room = has_data_room p call id; transaction_id = p.transaction_id; is_held = not (p.held_root == 0); has_copy = has_copy p id }

message_tests : (m : Mode) (own : List (Bool × Refusal)) → message_refusal m (first_failed own) ≡ first_failed ((is_failed m, refusals.Failed) ∷ (calls.is_read_only m, refusals.ReadOnly) ∷ own)
message_tests mode.Writable own = refl
message_tests mode.ReadOnly own = refl
message_tests mode.Failed own = refl

unless : {A : Type 0} (b : Bool) (x : A) (tests : List (Bool × A)) → (if b then first_failed tests else Some x) ≡ first_failed ((not b, x) ∷ tests)
unless true x tests = refl
unless false x tests = refl

abbrev creation_tests : PlainPool → ℕ → List (Bool × Refusal)
creation_tests p id =
    (exists p id, refusals.Exists)
    ∷ (nat_le 65536 (device_count p), refusals.TooManyDevices)
    ∷ (not (nat_le 512 (p.geometry.metadata_blocks - p.meta_used)), refusals.NoMetadataSpace) ∷ []

abbrev deletion_tests : PlainPool → ℕ → List (Bool × Refusal)
deletion_tests p id =
    (not (exists p id), refusals.NoSuchDevice)
    ∷ (nat_lt 0 (hold_count p.holds id), refusals.Busy)
    ∷ (not (p.held_root == 0) && not (nat_le 256 (p.geometry.metadata_blocks - p.meta_used)), refusals.NoMetadataSpace) ∷ []

abbrev reserve_tests : PlainPool → List (Bool × Refusal)
reserve_tests p = (not (p.held_root == 0), refusals.HeldRootExists) ∷ (not (nat_le 512 (p.geometry.metadata_blocks - p.meta_used)), refusals.NoMetadataSpace) ∷ []

-- whether a root is held is one fact, told or denied
twice_not : (b : Bool) → not (not b) ≡ b
twice_not true = refl
twice_not false = refl

abbrev growth_tests : PlainPool → ℕ → ℕ → List (Bool × Refusal)
growth_tests p id blocks =
    (not (exists p id), refusals.NoSuchDevice)
    ∷ (nat_lt 0 (hold_count p.holds id), refusals.Busy)
    ∷ (nat_lt blocks (volume_blocks p id) || nat_lt 16777216 blocks, refusals.BadSize)
    ∷ (not (nat_le 512 (p.geometry.metadata_blocks - p.meta_used)), refusals.NoMetadataSpace) ∷ []

by_facts : (p : PlainPool) (id : ℕ) (asked : Asked) (call : Call) → Asks p id asked call → refusal_by (facts_of p id call) asked ≡ refusal_of p call
by_facts p id Read call h = subst (λ (c : Call). refusal_by (facts_of p id c) Read ≡ refusal_of p c) (sym h.2) refl
by_facts p id (Write n) call h =
    subst (λ (c : Call). refusal_by (facts_of p id c) (Write n) ≡ refusal_of p c) (sym h.4)
    (subst (λ (m : ℕ). refusal_by (facts_of p id (calls.Write id h.0 h.1 h.2)) (Write m) ≡ refusal_of p (calls.Write id h.0 h.1 h.2)) h.3 refl)
by_facts p id (Trim n) call h = subst (λ (c : Call). refusal_by (facts_of p id c) (Trim n) ≡ refusal_of p c) (sym h.2) refl
by_facts p id (WriteZeroes n) call h = subst (λ (c : Call). refusal_by (facts_of p id c) (WriteZeroes n) ≡ refusal_of p c) (sym h.3) refl
by_facts p id Flush call h = subst (λ (c : Call). refusal_by (facts_of p id c) Flush ≡ refusal_of p c) (sym h) refl
by_facts p id CreateThin call h = subst (λ (c : Call). refusal_by (facts_of p id c) CreateThin ≡ refusal_of p c) (sym h) (message_tests p.mode (creation_tests p id))
by_facts p id (CreateSnap origin_exists) call h =
    subst (λ (c : Call). refusal_by (facts_of p id c) (CreateSnap origin_exists) ≡ refusal_of p c) (sym h.2)
    (subst (λ (b : Bool). refusal_by (facts_of p id (calls.CreateSnap id h.0)) (CreateSnap b) ≡ refusal_of p (calls.CreateSnap id h.0)) h.1
    (ap (message_refusal p.mode) (unless (exists p h.0) refusals.NoSuchDevice (creation_tests p id)) ∙ message_tests p.mode ((not (exists p h.0), refusals.NoSuchDevice) ∷ creation_tests p id)))
by_facts p id (Delete is_held) call h =
    subst (λ (c : Call). refusal_by (facts_of p id c) (Delete is_held) ≡ refusal_of p c) (sym h.1)
    (subst (λ (b : Bool). refusal_by (facts_of p id (calls.Delete id)) (Delete b) ≡ refusal_of p (calls.Delete id)) h.0 (message_tests p.mode (deletion_tests p id)))
by_facts p id (SetTransactionId current) call h =
    subst (λ (c : Call). refusal_by (facts_of p id c) (SetTransactionId current) ≡ refusal_of p c) (sym h.1) (message_tests p.mode ((not (current == p.transaction_id), refusals.StaleTransactionId) ∷ []))
by_facts p id (Grow is_held blocks) call h =
    subst (λ (c : Call). refusal_by (facts_of p id c) (Grow is_held blocks) ≡ refusal_of p c) (sym h.1)
    (subst (λ (b : Bool). refusal_by (facts_of p id (calls.Grow id blocks)) (Grow b blocks) ≡ refusal_of p (calls.Grow id blocks)) h.0 (message_tests p.mode (growth_tests p id blocks)))
by_facts p id Hold call h = subst (λ (c : Call). refusal_by (facts_of p id c) Hold ≡ refusal_of p c) (sym h) refl
by_facts p id VolumeBlocks call h = subst (λ (c : Call). refusal_by (facts_of p id c) VolumeBlocks ≡ refusal_of p c) (sym h) refl
by_facts p id Walk call h = subst (λ (c : Call). refusal_by (facts_of p id c) Walk ≡ refusal_of p c) (sym h.1) refl
by_facts p id HeldRead call h =
    subst (λ (c : Call). refusal_by (facts_of p id c) HeldRead ≡ refusal_of p c) (sym h.2)
    (ap (λ b. first_failed ((is_failed p.mode, refusals.Failed) ∷ (b, refusals.NoHeldRoot) ∷ (not (has_copy p id), refusals.NoSuchDevice) ∷ [])) (twice_not (p.held_root == 0)))
by_facts p id ReserveMetadataSnap call h =
    subst (λ (c : Call). refusal_by (facts_of p id c) ReserveMetadataSnap ≡ refusal_of p c) (sym h) (message_tests p.mode (reserve_tests p))
by_facts p id ReleaseMetadataSnap call h =
    subst (λ (c : Call). refusal_by (facts_of p id c) ReleaseMetadataSnap ≡ refusal_of p c) (sym h)
    (ap (λ b. message_refusal p.mode (first_failed ((b, refusals.NoHeldRoot) ∷ []))) (twice_not (p.held_root == 0)) ∙ message_tests p.mode ((p.held_root == 0, refusals.NoHeldRoot) ∷ []))

true_facts : (facts : Facts) (p : PlainPool) (id : ℕ) (call : Call) → IsTrueOf facts p id call → facts_of p id call ≡ facts
true_facts facts p id call h = λ i. record { mode = h.mode i; exists = h.exists_is i; blocks = h.blocks i; devices = h.devices i; free_metadata = h.free_metadata i; has_data_room = h.has_room i; transaction_id = h.transaction_id i; is_held = h.is_held i; has_copy = h.has_copy_is i }

pub refusal_by-true : (facts : Facts) (asked : Asked) (p : PlainPool) (id : ℕ) (call : Call) → Asks p id asked call → IsTrueOf facts p id call → refusal_by facts asked ≡ refusal_of p call
refusal_by-true facts asked p id call asks h = ap (λ f. refusal_by f asked) (sym (true_facts facts p id call h)) ∙ by_facts p id asked call asks
