-- Ranges of sectors, and the volumes in which they lie.
use Rattle.std.proofs.Common.{◌≡◌, ℕ, ◌+◌, ◌-◌, ◌*◌, ◌/◌, ◌^◌, ◌<◌, ◌≤◌, Bool, false, Option, None, Some, List, [], ◌∷◌, ◌++◌, inl, inr, sym, ap, subst, ◌∙◌, arith}
use Rattle.std.specs.Prelude.{IsSome, nat_le, if◌then◌else◌}
use Rattle.std.specs.Option.{option_map_or}
use Rattle.std.specs.Ordering.{nat_cmp}
use Rattle.std.specs.FinMap.{FinMap}
use Rattle.std.proofs.Math.Nat.{div-lt_iff_lt-mul, mul-le-mul_right}
use Rattle.std.proofs.lemmas.Bool.{cases_lt, le-leb, lt-leb}
use Rattle.tp_model.specs.Geometry.{Geometry, IsWithinLimits, sectors_of_volume}
use Rattle.tp_model.specs.Told.{IsToldSize, told_blocks, told_sectors}
use Rattle.tp_model.specs.Calls.{Call, Makes, is_failed, refusal_of}
use Rattle.tp_model.specs.Pool.{FindsHeld, PlainPool, hold_count, volume_size}
use Rattle.tp_model.specs.Clauses.{EndsInVolume}
use Rattle.tp_model.proofs.HeldSizes.{Makes-keeps_sizes}
use Rattle.tp_model.specs.Disk.{DiskState, seen}
use Rattle.tp_sharing.specs.Volumes.{Volumes, device_of, size_of}
use Rattle.tp_stored.specs.Contents.{Contents}
use Rattle.tp_meta.specs.Metadata.{AreWithin}
use Rattle.tp_shown.specs.Shown.{own_blocks, own_sectors}
use Rattle.tp_shown.proofs.Values.{size_is}
use Rattle.tp_holders.specs.Holders.{Holding, LeftTold, blocks_held, holds_of}
use Rattle.tp_holders.proofs.Rows.{blocks_new, blocks_pushed, newly_held}
use Rattle.tp_pool.specs.Held.{EndsIn, Held, KnowsSizes, LiesIn, blocks_known, more_held, most_sectors, view}
use Rattle.tp_pool.specs.Shown as laws_of
use Rattle.tp_pool.specs.Shown.{told_within}
use Rattle.tp_pool.specs.Writing.{HasBlock, Reaches}

-- ---- own sizes

pub own_same : (g : Geometry) (a b : Volumes) (id : ℕ) → size_of id a ≡ size_of id b → own_blocks g a id ≡ own_blocks g b id
own_same g a b id same = ap (λ (o : Option ℕ). told_blocks g (option_map_or (λ n. n) o 0)) same

-- the block is below the size that is told
pub told_below : (g : Geometry) (volumes : Volumes) (id block size : ℕ) → HasBlock g id block volumes → size_of id volumes ≡ Some size → block < told_blocks g size
told_below g volumes id block size has told = subst (λ (o : Option ℕ). block < told_blocks g (option_map_or (λ n. n) o 0)) told has.1

-- the first block of a range
pub block_reached : (g : Geometry) → 0 < g.block_sectors → (id sector n : ℕ) (volumes : Volumes) → 0 < n → Reaches g id (sector + n) volumes → HasBlock g id (sector / g.block_sectors) volumes
block_reached g pos id sector n volumes some r = (
  r.0,
  (div-lt_iff_lt-mul {k = g.block_sectors} {x = sector} {y = own_blocks g volumes id} pos).1 (omega (arith, some, r.1)),
)

-- as it is told by sizes that are the same
pub block_has : (g told : Geometry) → told ≡ g → IsWithinLimits told → (id sector n block : ℕ) (volumes : Volumes) → block ≡ sector / told.block_sectors → 0 < n → Reaches g id (sector + n) volumes
    → HasBlock g id block volumes
block_has g told same limits id sector n block volumes is some r =
    let pos : 0 < g.block_sectors = subst (λ (x : Geometry). 0 < x.block_sectors) same (omega (arith, limits.block_least)) in
    subst (λ b. HasBlock g id b volumes) (sym (is ∙ ap (λ (x : Geometry). sector / x.block_sectors) same)) (block_reached g pos id sector n volumes some r)

-- a range that ends earlier, in volumes of these sizes
pub reached_still : (g : Geometry) (id end least : ℕ) (before after : Volumes) → least ≤ end → (IsSome (device_of id before) → IsSome (device_of id after)) → size_of id after ≡ size_of id before
    → Reaches g id end before → Reaches g id least after
reached_still g id end least before after low still same r =
    let equal : own_sectors g after id ≡ own_sectors g before id = ap (λ n. n * g.block_sectors) (own_same g after before id same) in
    (still r.0, omega (arith, low, equal, r.1))

-- ---- what is known of a volume that is held

few_known : (holders : List Holding) (id : ℕ) → blocks_known holders id ≤ 2 ^ 24
few_known holders id = elim (cases_lt (2 ^ 24) (blocks_held holders id)) [
  | inl many ↦ let is : blocks_known holders id ≡ 2 ^ 24 = ap (λ (b : Bool). if b then blocks_held holders id else 2 ^ 24) (lt-leb (blocks_held holders id) (2 ^ 24) many) in omega (arith, is)
  | inr few ↦ let is : blocks_known holders id ≡ blocks_held holders id = ap (λ (b : Bool). if b then blocks_held holders id else 2 ^ 24) (le-leb (blocks_held holders id) (2 ^ 24) few) in omega (arith, is, few)
]

-- its sectors are no more than a volume may have
pub known_fits : (g : Geometry) → IsWithinLimits g → (holders : List Holding) (id : ℕ) → sectors_of_volume g + more_held g holders id ≤ most_sectors g
known_fits g limits holders id =
    let few = few_known holders id in
    let all : g.virtual_blocks + (blocks_known holders id - g.virtual_blocks) ≤ 2 ^ 24 = omega (arith, few, limits.virtual_most) in
    let up : (g.virtual_blocks + (blocks_known holders id - g.virtual_blocks)) * g.block_sectors ≤ 2 ^ 24 * g.block_sectors = mul-le-mul_right g.block_sectors all in
    let sum : (g.virtual_blocks + (blocks_known holders id - g.virtual_blocks)) * g.block_sectors ≡ g.virtual_blocks * g.block_sectors + (blocks_known holders id - g.virtual_blocks) * g.block_sectors = omega arith in
    omega (arith, up, sum)

pub more_alike : (g : Geometry) (a b : List Holding) (id : ℕ) → blocks_held a id ≡ blocks_held b id → more_held g a id ≡ more_held g b id
more_alike g a b id same = ap (λ n. ((if nat_le n (2 ^ 24) then n else 2 ^ 24) - g.virtual_blocks) * g.block_sectors) same

-- a size that is told, of one who holds the volume
pub known_of_blocks : (g : Geometry) → IsWithinLimits g → (holders : List Holding) (id size : ℕ) → IsToldSize g size → blocks_held holders id ≡ told_blocks g size
    → told_sectors g size ≡ sectors_of_volume g + more_held g holders id
known_of_blocks g limits holders id size told is =
    let b = told_within g limits size told in
    let known : blocks_known holders id ≡ told_blocks g size =
    ap (λ (c : Bool). if c then blocks_held holders id else 2 ^ 24) (le-leb (blocks_held holders id) (2 ^ 24) (omega (arith, is, b.1))) ∙ is in
    let all : g.virtual_blocks + (blocks_known holders id - g.virtual_blocks) ≡ told_blocks g size = omega (arith, known, b.0) in
    let sum : (g.virtual_blocks + (blocks_known holders id - g.virtual_blocks)) * g.block_sectors ≡ g.virtual_blocks * g.block_sectors + (blocks_known holders id - g.virtual_blocks) * g.block_sectors = omega arith in
    sym (ap (λ n. n * g.block_sectors) all) ∙ sum

-- the sizes of volumes that are held are known behind a call
pub known_after : (g after : Geometry) (holders : List Holding) (s : PlainPool) (call : Call) (q : PlainPool) → after ≡ g → refusal_of s call ≡ None → Makes s call q → q.holds ≡ s.holds
    → FindsHeld s → KnowsSizes g holders s → KnowsSizes after holders q
known_after g after holders s call q same accepted makes holds found known =
    subst (λ (x : Geometry). KnowsSizes x holders q) (sym same)
    (λ id some.
    let was : 0 < hold_count s.holds id = subst (λ (m : FinMap nat_cmp ℕ). 0 < hold_count m id) holds some in
    Makes-keeps_sizes s call q accepted makes found id was ∙ known id was)

-- one more holds a volume, whose size was told
pub known_pushed : (g : Geometry) → IsWithinLimits g → (holders : List Holding) (id blocks size : ℕ) (s : PlainPool) (holds : FinMap nat_cmp ℕ) → s.holds ≡ holds_of holders
    → holds ≡ holds_of (holders ++ (record { volume = id; blocks = blocks }) ∷ []) → IsToldSize g size → blocks ≡ told_blocks g size → volume_size s id ≡ Some (told_sectors g size)
    → KnowsSizes g holders s → KnowsSizes g (holders ++ (record { volume = id; blocks = blocks }) ∷ []) (record s { holds = holds })
known_pushed g limits holders id blocks size s holds before after told is size_is known q some =
    let h : Holding = record { volume = id; blocks = blocks } in
    let now : 0 < hold_count (holds_of (holders ++ h ∷ [])) q = subst (λ (m : FinMap nat_cmp ℕ). 0 < hold_count m q) after some in
    elim (cases_lt 0 (hold_count (holds_of holders) q)) [
      | inl was ↦
          known q (subst (λ (m : FinMap nat_cmp ℕ). 0 < hold_count m q) (sym before) was)
          ∙ ap (λ n. Some (sectors_of_volume g + n)) (sym (more_alike g (holders ++ h ∷ []) holders q (blocks_pushed holders h q was)))
      | inr none ↦
          let it : q ≡ id = newly_held holders h q now (omega (arith, none)) in
          let told_here : blocks_held (holders ++ h ∷ []) id ≡ told_blocks g size = blocks_new holders h (omega (arith, none, ap (hold_count (holds_of holders)) it)) ∙ is in
          subst (λ i. volume_size s i ≡ Some (sectors_of_volume g + more_held g (holders ++ h ∷ []) i)) (sym it)
          (size_is ∙ ap Some (known_of_blocks g limits (holders ++ h ∷ []) id size told told_here))
    ]

-- or one fewer
pub known_released : (g : Geometry) (before after : List Holding) (s : PlainPool) (holds : FinMap nat_cmp ℕ) → s.holds ≡ holds_of before → holds ≡ holds_of after
    → LeftTold before after
    → KnowsSizes g before s → KnowsSizes g after (record s { holds = holds })
known_released g before after s holds was is left known id some =
    let l = left id (subst (λ (m : FinMap nat_cmp ℕ). 0 < hold_count m id) is some) in
    known id (subst (λ (m : FinMap nat_cmp ℕ). 0 < hold_count m id) (sym was) l.0) ∙ ap (λ n. Some (sectors_of_volume g + n)) (sym (more_alike g after before id l.1))

-- ---- ranges of requests

-- what stands is within the sizes
pub law_within : {M : Type 0} {geometry : M → Geometry} {stands : M → DiskState → Contents → Contents → Type 0} {marks : M → List Bool} {room : M → ℕ}
    → ((metadata : M) (disk : DiskState) (now kept : Contents) → stands metadata disk now kept → AreWithin (geometry metadata) (room metadata) (marks metadata) now kept) → laws_of.WithinLaw geometry stands
law_within within metadata disk now kept st = let w = within metadata disk now kept st in (w.limits, w.volumes_now, w.copies)

module _ {M : Type 0} (geometry : M → Geometry) (stands : M → DiskState → Contents → Contents → Type 0) where
  -- what ends in a volume has no more sectors than a volume may have
  pub range_fits : (h : Held M) (id end : ℕ) → IsWithinLimits (geometry h.metadata) → EndsInVolume (view geometry stands) h id end → end ≤ most_sectors (geometry h.metadata)
  range_fits h id end limits (inl known) = omega (arith, known, known_fits (geometry h.metadata) limits h.holders id)
  range_fits h id end limits (inr w) = w.0

  -- and lies in the volume of whatever contents
  pub ends_in : laws_of.WithinLaw geometry stands → (h : Held M) (id end : ℕ) → EndsInVolume (view geometry stands) h id end → EndsIn geometry stands h id end
  ends_in within h id end (inl known) now kept s pool device =
      let works : is_failed s.mode ≡ false = ap is_failed pool.mode_is ∙ pool.works in
      let is = size_is (geometry h.metadata) now (seen h.disk.cells) s pool.has id device in
      let sized = laws_of.sized geometry stands within h s id (own_sectors (geometry h.metadata) now.volumes id) (inl (now, kept, pool)) works is in
      let same : sectors_of_volume s.geometry ≡ sectors_of_volume (geometry h.metadata) = ap sectors_of_volume pool.has.geometry in
      omega (arith, known, sized.0, same)
  ends_in within h id end (inr w) now kept s pool device =
      w.1 s (own_sectors (geometry h.metadata) now.volumes id) (inl (now, kept, pool)) (ap is_failed pool.mode_is ∙ pool.works) (size_is (geometry h.metadata) now (seen h.disk.cells) s pool.has id device)

  pub lies_in : laws_of.WithinLaw geometry stands → (h : Held M) (id end : ℕ) → id < 2 ^ 24 → EndsInVolume (view geometry stands) h id end → LiesIn geometry stands h id end
  lies_in within h id end low ends = (low, ends_in within h id end ends)
