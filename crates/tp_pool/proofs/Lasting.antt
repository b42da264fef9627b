-- The metadata room of a pool lasts to the bound on what its volumes may spent.
use Rattle.std.proofs.Common.{◌≡◌, inl, inr, ℕ, ◌+◌, ◌≤◌, true, false, cond, Bool, None, Some, Option, List, [], ◌∷◌, refl, sym, ap, subst, ◌∙◌, arith}
use Rattle.std.specs.Prelude.{MatchOption, length, nat_le, nat_lt, not, ◌&&◌, ◌||◌, ◌-◌, ◌==◌}
use Rattle.std.specs.List.{AllByRecursion}
use Rattle.std.proofs.lemmas.Bool.{eq-eqb, false≢true, le-leb}
use Rattle.std.proofs.lemmas.Option.{none-some, same_Some}
use Rattle.tp_model.specs.declared.refusal.Refusal.{Refusal}
use Rattle.tp_model.specs.declared.refusal.Refusal.TheVariants.{BadSize, Busy, Exists, Failed, Fault, NoDataSpace, HeldRootExists, NoHeldRoot, NoMetadataSpace, NoSuchDevice, ReadOnly, StaleTransactionId, TooManyDevices}
use Rattle.tp_model.specs.Refusals.{refusal_number}
use Rattle.tp_model.specs.Sectors.{Sector}
use Rattle.tp_model.specs.Pool.{PlainPool, device_count, hold_count}
use Rattle.tp_model.specs.Calls.{Answer, Call, Close, CreateSnap, CreateThin, Delete, Done, Found, Flush, Gave, Hold, LetGo, Line, Makes, NextId, Read, Refused, SetTransactionId, Status, Takes, ThinStatus, Trim, Write, WriteZeroes, after_refusal, exists, has_data_room, has_metadata_room, is_failed, is_read_only, refusal_of, refusal_of_request, reply, Grow, VolumeBlocks, Walk, Sized, Listed, volume_blocks, HeldRead, ReserveMetadataSnap, ReleaseMetadataSnap, has_copy}
use Rattle.tp_model.specs.Clauses.{Entry, IsTrace}
use Rattle.tp_image.specs.Bound.{IsBounded, mapped_in, metadata_bound}
use Rattle.tp_image.specs.Stands.{StandsFor}
use Rattle.tp_stored.proofs.Bounded.{commits_are_bounded}
use Rattle.tp_stored.proofs.Opened.{stands_for_opened}
use Rattle.tp_shown.proofs.Mapped.{pool_is_bounded}
use Rattle.tp_pool.specs.Bounds.{BoundLeavesRoom, IsNotShort}
use Rattle.tp_pool.specs.Held.{HasUse, IsSomePool}
use Rattle.tp_pool.proofs.Images.{contents_within}

-- ---- no test of the plain pool finds too few

abbrev Lacks : Option Refusal → Type 0
Lacks o = o ≡ Some NoMetadataSpace

none_lacks : Lacks None → ⊥
none_lacks e = none-some NoMetadataSpace e

-- a test that refuses for something else
other : (b : Bool) (r : Refusal) (rest : Option Refusal) → (refusal_number r ≡ 18 → ⊥) → (Lacks rest → ⊥) → Lacks (cond b (Some r) rest) → ⊥
other true r rest differs later e = differs (ap refusal_number (same_Some r NoMetadataSpace e))
other false r rest differs later e = later e

-- the first test, whether the pool has failed
alive : (b : Bool) (rest : Option Refusal) → (b ≡ false → Lacks rest → ⊥) → Lacks (cond b (Some Failed) rest) → ⊥
alive true rest later e = let n : 21 ≡ 18 = ap refusal_number (same_Some Failed NoMetadataSpace e) in absurd (omega (arith, n))
alive false rest later e = later refl e

-- the test for metadata room
roomy : (some room : Bool) (rest : Option Refusal) → room ≡ true → (Lacks rest → ⊥) → Lacks (cond (some && not room) (Some NoMetadataSpace) rest) → ⊥
roomy true true rest has later e = later e
roomy false true rest has later e = later e
roomy some false rest has later e = absurd (false≢true has)

has_room : (p : PlainPool) (least : ℕ) → p.meta_used + least ≤ p.geometry.metadata_blocks → has_metadata_room p least ≡ true
has_room p least fits = le-leb least (p.geometry.metadata_blocks - p.meta_used) (omega (arith, fits))

abbrev Fits : PlainPool → ℕ → Type 0
Fits p least = is_failed p.mode ≡ false → p.meta_used + least ≤ p.geometry.metadata_blocks

request_lasts : (p : PlainPool) (id count least : ℕ) (room : Bool) → Fits p least → Lacks (refusal_of_request p id count least room) → ⊥
request_lasts p id count least room fits =
    alive (is_failed p.mode) _ (λ works. other (not (exists p id)) NoSuchDevice _ (λ e. absurd (omega (arith, e))) (other (is_read_only p.mode) ReadOnly _ (λ e. absurd (omega (arith, e)))
    (roomy (nat_lt 0 count) (has_metadata_room p least) _ (has_room p least (fits works)) (other (not room) NoDataSpace None (λ e. absurd (omega (arith, e))) none_lacks))))

bounded : (s : PlainPool) → HasUse s → s.held_root ≡ 0 → is_failed s.mode ≡ false → IsBounded s
bounded s (inl failed) none works = absurd (false≢true (sym works ∙ ap is_failed failed))
bounded s (inr spent) none works = spent.2 none

within : (spent bound least blocks : ℕ) → spent ≤ bound → bound + least ≤ blocks → spent + least ≤ blocks
within spent bound least blocks low leaves = omega (arith, low, leaves)

fits_bound : (s : PlainPool) (least : ℕ) → HasUse s → (s.held_root ≡ 0) × (metadata_bound s.geometry (mapped_in s) + least ≤ s.geometry.metadata_blocks) → Fits s least
fits_bound s least spent leaves works = within s.meta_used (metadata_bound s.geometry (mapped_in s)) least s.geometry.metadata_blocks (bounded s spent leaves.0 works) leaves.1

-- the removal of a volume asks for room only while a root is held
unheld : (none short : Bool) → none ≡ true → Lacks (cond (not none && short) (Some NoMetadataSpace) None) → ⊥
unheld true short is e = none_lacks e
unheld false short is e = absurd (false≢true is)

pub removal_lasts : (s : PlainPool) (id : ℕ) → s.held_root ≡ 0 → Lacks (refusal_of s (Delete id)) → ⊥
removal_lasts s id none =
    alive (is_failed s.mode) _ (λ works. other (is_read_only s.mode) ReadOnly _ (λ e. absurd (omega (arith, e))) (other (not (exists s id)) NoSuchDevice _ (λ e. absurd (omega (arith, e)))
    (other (nat_lt 0 (hold_count s.holds id)) Busy _ (λ e. absurd (omega (arith, e))) (unheld (s.held_root == 0) (not (has_metadata_room s 256)) (eq-eqb s.held_root 0 none)))))

pub room_lasts : (s : PlainPool) (call : Call) → HasUse s → BoundLeavesRoom s call → Lacks (refusal_of s call) → ⊥
room_lasts s (Write id sector xs fua) spent leaves = request_lasts s id (length xs) 512 (has_data_room s (Write id sector xs fua) id) (fits_bound s 512 spent leaves)
room_lasts s (WriteZeroes id sector count no_hole fua) spent leaves =
    request_lasts s id count 512 (has_data_room s (WriteZeroes id sector count no_hole fua) id) (fits_bound s 512 spent leaves)
room_lasts s (Trim id sector count fua) spent leaves = request_lasts s id count 256 true (fits_bound s 256 spent leaves)
room_lasts s (CreateThin id) spent leaves =
    alive (is_failed s.mode) _ (λ works. other (is_read_only s.mode) ReadOnly _ (λ e. absurd (omega (arith, e))) (other (exists s id) Exists _ (λ e. absurd (omega (arith, e)))
    (other (nat_le 65536 (device_count s)) TooManyDevices _ (λ e. absurd (omega (arith, e)))
    (roomy true (has_metadata_room s 512) None (has_room s 512 (fits_bound s 512 spent leaves works)) none_lacks))))
room_lasts s (CreateSnap id origin) spent leaves =
    alive (is_failed s.mode) _ (λ works. other (is_read_only s.mode) ReadOnly _ (λ e. absurd (omega (arith, e))) (other (not (exists s origin)) NoSuchDevice _ (λ e. absurd (omega (arith, e)))
    (other (exists s id) Exists _ (λ e. absurd (omega (arith, e))) (other (nat_le 65536 (device_count s)) TooManyDevices _ (λ e. absurd (omega (arith, e)))
    (roomy true (has_metadata_room s 512) None (has_room s 512 (fits_bound s 512 spent leaves works)) none_lacks)))))
room_lasts s (Delete id) spent leaves = removal_lasts s id leaves.0
room_lasts s (HeldRead id sector count) spent leaves =
    alive (is_failed s.mode) _ (λ works. other (s.held_root == 0) NoHeldRoot _ (λ e. absurd (omega (arith, e))) (other (not (has_copy s id)) NoSuchDevice None (λ e. absurd (omega (arith, e))) none_lacks))
room_lasts s ReserveMetadataSnap spent leaves =
    alive (is_failed s.mode) _ (λ works. other (is_read_only s.mode) ReadOnly _ (λ e. absurd (omega (arith, e))) (other (not (s.held_root == 0)) HeldRootExists _ (λ e. absurd (omega (arith, e)))
    (roomy true (has_metadata_room s 512) None (has_room s 512 (fits_bound s 512 spent leaves works)) none_lacks)))
room_lasts s ReleaseMetadataSnap spent leaves =
    alive (is_failed s.mode) _ (λ works. other (is_read_only s.mode) ReadOnly _ (λ e. absurd (omega (arith, e))) (other (s.held_root == 0) NoHeldRoot None (λ e. absurd (omega (arith, e))) none_lacks))
room_lasts s (Grow id blocks) spent leaves =
    alive (is_failed s.mode) _ (λ works. other (is_read_only s.mode) ReadOnly _ (λ e. absurd (omega (arith, e))) (other (not (exists s id)) NoSuchDevice _ (λ e. absurd (omega (arith, e)))
    (other (nat_lt 0 (hold_count s.holds id)) Busy _ (λ e. absurd (omega (arith, e))) (other (nat_lt blocks (volume_blocks s id) || nat_lt 16777216 blocks) BadSize _ (λ e. absurd (omega (arith, e)))
    (roomy true (has_metadata_room s 512) None (has_room s 512 (fits_bound s 512 spent leaves works)) none_lacks)))))
room_lasts s (SetTransactionId current next) spent leaves =
    alive (is_failed s.mode) _ (λ works. other (is_read_only s.mode) ReadOnly _ (λ e. absurd (omega (arith, e)))
    (other (not (current == s.transaction_id)) StaleTransactionId None (λ e. absurd (omega (arith, e))) none_lacks))
room_lasts s (Read id sector count) spent leaves = alive (is_failed s.mode) _ (λ works. other (not (exists s id)) NoSuchDevice None (λ e. absurd (omega (arith, e))) none_lacks)
room_lasts s (Hold id) spent leaves = alive (is_failed s.mode) _ (λ works. other (not (exists s id)) NoSuchDevice None (λ e. absurd (omega (arith, e))) none_lacks)
room_lasts s (ThinStatus id) spent leaves = other (not (is_failed s.mode) && not (exists s id)) NoSuchDevice None (λ e. absurd (omega (arith, e))) none_lacks
room_lasts s (VolumeBlocks id) spent leaves = alive (is_failed s.mode) _ (λ works. other (not (exists s id)) NoSuchDevice None (λ e. absurd (omega (arith, e))) none_lacks)
room_lasts s (Walk id from) spent leaves = alive (is_failed s.mode) _ (λ works. other (not (exists s id)) NoSuchDevice None (λ e. absurd (omega (arith, e))) none_lacks)
room_lasts s (NextId from) spent leaves = alive (is_failed s.mode) None (λ works. none_lacks)
room_lasts s Flush spent leaves = alive (is_failed s.mode) None (λ works. none_lacks)
room_lasts s Close spent leaves = alive (is_failed s.mode) None (λ works. none_lacks)
room_lasts s (LetGo id) spent leaves = none_lacks
room_lasts s Status spent leaves = none_lacks

-- ---- what a pool answers

abbrev pub is_refused : Answer → Bool
is_refused Done = false
is_refused (Gave sectors) = false
is_refused (Line bytes) = false
is_refused (Found id) = false
is_refused (Sized blocks) = false
is_refused (Listed slots) = false
is_refused (Refused reason) = true

abbrev pub reason_of : Answer → Refusal
reason_of Done = Fault
reason_of (Gave sectors) = Fault
reason_of (Line bytes) = Fault
reason_of (Found id) = Fault
reason_of (Sized blocks) = Fault
reason_of (Listed slots) = Fault
reason_of (Refused reason) = reason

pub accepts : (p : PlainPool) (call : Call) → is_refused (reply p call) ≡ false
accepts p (Read id sector count) = refl
accepts p (Write id sector sectors fua) = refl
accepts p (Trim id sector count fua) = refl
accepts p (WriteZeroes id sector count no_hole fua) = refl
accepts p Flush = refl
accepts p (CreateThin id) = refl
accepts p (CreateSnap id origin) = refl
accepts p (Delete id) = refl
accepts p (Grow id blocks) = refl
accepts p (SetTransactionId current next) = refl
accepts p (Hold id) = refl
accepts p (LetGo id) = refl
accepts p Status = refl
accepts p (ThinStatus id) = refl
accepts p (NextId from) = refl
accepts p (VolumeBlocks id) = refl
accepts p (Walk id from) = refl
accepts p Close = refl
accepts p (HeldRead id sector count) = refl
accepts p ReserveMetadataSnap = refl
accepts p ReleaseMetadataSnap = refl

tested : (s : PlainPool) (call : Call) (reason : Refusal) (after : PlainPool) (o : Option Refusal)
    → MatchOption o ((Refused reason ≡ reply s call) × Makes s call after) (λ r. (Refused reason ≡ Refused r) × (after ≡ after_refusal r s)) → o ≡ Some reason
tested s call reason after None h = absurd (false≢true (sym (accepts s call) ∙ ap is_refused (sym h.0)))
tested s call reason after (Some r) h = ap Some (ap reason_of (sym h.0))

pub lacking : (s : PlainPool) (call : Call) (made after : PlainPool) → Takes s call (Refused NoMetadataSpace) made after → Lacks (refusal_of s call)
lacking s call made after (inl step) = tested s call NoMetadataSpace after (refusal_of s call) step.0
lacking s call made after (inr fault) = let n : 18 ≡ 5 = ap refusal_number (ap reason_of fault.0) in absurd (omega (arith, n))

pub answer_lasts : (s : PlainPool) (call : Call) (made after : PlainPool) → HasUse s → BoundLeavesRoom s call → Takes s call (Refused NoMetadataSpace) made after → ⊥
answer_lasts s call made after spent leaves takes = room_lasts s call spent leaves (lacking s call made after takes)

pub trace_lasts : (s : PlainPool) (trace : List Entry) (after : PlainPool) → HasUse s → IsTrace HasUse s trace after → AllByRecursion IsNotShort trace
trace_lasts s [] after spent is = tt
trace_lasts s (x ∷ xs) after spent is =
    let next = is.0 in
    let begins : x.event.before ≡ s = is.1 in
    let takes : Takes x.event.before x.event.call x.event.answer x.event.made next = subst (λ (p : PlainPool). Takes p x.event.call x.event.answer x.event.made next) (sym begins) is.2 in (
      (λ leaves short. answer_lasts x.event.before x.event.call x.event.made next (subst HasUse (sym begins) spent) leaves (subst (λ (a : Answer). Takes x.event.before x.event.call a x.event.made next) short takes)),
      trace_lasts next xs after is.5 is.6,
    )

-- ---- images

pub image_is_bounded : (image : List Sector) (P : PlainPool) → IsSomePool image → StandsFor image P → P.held_root ≡ 0 → IsBounded P
image_is_bounded image P is stands none =
    let g = is.0 in
    let c = is.1.0 in
    let holds = is.1.1 in
    pool_is_bounded g c image P (contents_within g c image holds) ((stands_for_opened g c image holds P).0 stands).has none (commits_are_bounded g c image holds)
