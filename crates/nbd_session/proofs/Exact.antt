-- What a page's runs tell of the bytes of a volume, in each context.
use Rattle.std.proofs.Common.{◌≡◌, ◌≢◌, inl, inr, ℕ, ◌+◌, ◌-◌, ◌*◌, ◌/◌, ◌<◌, ◌≤◌, Bool, true, false, Option, Some, None, List, [], ◌∷◌, ◌++◌, length, refl, sym, ap, subst, ◌∙◌, div-mul-le_self, mul-le-mul_right, arith}
use Rattle.std.specs.Prelude.{IsSome, IsTrue, nat_lt, if◌then◌else◌}
use Rattle.std.proofs.Math.Nat.{div-div-eq-div-mul, lt-div-mul-add}
use Rattle.std.proofs.lemmas.Bool.{cases_eq, cases_lt, false≢true, lt-ltb, ltb-true}
use Rattle.std.proofs.lemmas.List.{append-nil}
use Rattle.std.proofs.lemmas.Nat.{div_below, le-div}
use Rattle.std.proofs.lemmas.Option.{none-some, same_Some}
use Rattle.tp_model.specs.Pool.{IsSound, PlainPool, slot_at}
use Rattle.tp_model.proofs.Walking.{equal_sectors}
use Rattle.tp_listings.specs.declared.extent.Extent.{Extent}
use Rattle.tp_listings.specs.Listings.{AreApart, AreRunsOf, Covers}
use Rattle.nbd_wire.specs.declared.Request.{Request}
use Rattle.nbd_wire.specs.declared.contexts.MetaContext.{MetaContext}
use Rattle.nbd_wire.specs.declared.contexts.MetaContext.TheVariants.{Allocation, Since}
use Rattle.nbd_wire.specs.Contexts.{status_chunk}
use Rattle.nbd_session.specs.Holes.{Anything, data_to, read_extents}
use Rattle.nbd_session.proofs.Holing.{spans_sum}
use Rattle.nbd_session.specs.Status.{AreTold, IsBlank, IsEqual, IsMapped, IsOther, IsSame, IsUnmapped, TellsOf, between, blocks_to, bytes_of, cut_to_one, extents_in, first_block, gap_to, listed_flags, other_flags, unit_of, wants_one}

-- ---- the nearest place

near_least : (least most at : ℕ) → least ≤ between least most at
near_least least most at = omega arith

near_most : (least most at : ℕ) → least ≤ most → between least most at ≤ most
near_most least most at le = omega (arith, le)

-- it is before what both are before
near_before : (least most at to : ℕ) → least < to → at < to → between least most at < to
near_before least most at to a b = omega (arith, a, b)

near_down : (least most at : ℕ) → least ≤ at → between least most at ≤ at
near_down least most at le = omega (arith, le)

-- it is behind what both ends are behind
near_behind : (least most at to : ℕ) → to < most → to < at → to < between least most at
near_behind least most at to a b = omega (arith, a, b)

before_near : (least most at k : ℕ) → least ≤ k → k < between least most at → k < at
before_near least most at k le lt = omega (arith, le, lt)

from_near : (least most at k : ℕ) → k < most → between least most at ≤ k → at ≤ k
from_near least most at k lt le = omega (arith, lt, le)

-- ---- runs of blocks

times : (unit a b : ℕ) → a ≤ b → unit * a ≤ unit * b
times unit a b le = let m : a * unit ≤ b * unit = mul-le-mul_right unit le in omega (arith, m)

covers_from : (from : ℕ) (es : List Extent) (b : ℕ) → AreApart from es → Covers es b → from ≤ b
covers_from from [] b apart h = absurd h
covers_from from (e ∷ es) b apart (inl h) = let a = apart.0 in let l = h.0 in omega (arith, a, l)
covers_from from (e ∷ es) b apart (inr h) =
    let a = apart.0 in let m = covers_from (e.first + e.blocks + 1) es b apart.2 h in omega (arith, a, m)

-- ---- extents

module _ (m : MetaContext) (Data Hole : ℕ → Type 0) where
  -- they tell from one byte up to another
  abbrev Fits : ℕ → ℕ → List (ℕ × ℕ) → Type 0
  Fits at end xs = AreTold m Data Hole at xs × (at + bytes_of xs ≡ end)

  hole_by : (at to end : ℕ) (xs : List (ℕ × ℕ)) (b : Bool) → nat_lt at to ≡ b → at ≤ to → ((k : ℕ) → at ≤ k → k < to → Hole k) → Fits to end xs
      → Fits at end ((if b then (to - at, other_flags m) ∷ [] else []) ++ xs)
  hole_by at to end xs true e le holes fits =
      let lt : at < to = ltb-true at to e in
      let is : to ≡ at + (to - at) = omega (arith, le) in
      let rest : AreTold m Data Hole (at + (to - at)) xs = subst (λ (n : ℕ). AreTold m Data Hole n xs) is fits.0 in
      let sum : to + bytes_of xs ≡ end = fits.1 in
      ((omega (arith, lt), inr (refl, λ k l r. holes k l (omega (arith, r, le))), rest), omega (arith, sum, le))
  hole_by at to end xs false e le holes fits =
      elim (cases_lt at to) [
        | inl lt ↦ absurd (false≢true (sym e ∙ lt-ltb at to lt))
        | inr more ↦
            let is : to ≡ at = omega (arith, le, more) in
            subst (λ (n : ℕ). Fits n end xs) is fits
      ]

  hole_then : (at to end : ℕ) (xs : List (ℕ × ℕ)) → at ≤ to → ((k : ℕ) → at ≤ k → k < to → Hole k) → Fits to end xs → Fits at end (gap_to m at to ++ xs)
  hole_then at to end xs le holes fits = hole_by at to end xs (nat_lt at to) refl le holes fits

  run_then : (at to end : ℕ) (xs : List (ℕ × ℕ)) → at < to → ((k : ℕ) → at ≤ k → k < to → Data k) → Fits to end xs → Fits at end ((to - at, listed_flags m) ∷ xs)
  run_then at to end xs lt data_in fits =
      let is : to ≡ at + (to - at) = omega (arith, lt) in
      let rest : AreTold m Data Hole (at + (to - at)) xs = subst (λ (n : ℕ). AreTold m Data Hole n xs) is fits.0 in
      let sum : to + bytes_of xs ≡ end = fits.1 in
      ((omega (arith, lt), inl (refl, λ k l r. data_in k l (omega (arith, r, lt))), rest), omega (arith, sum, lt))

  -- each block of the runs has bytes between two places
  abbrev Lie : ℕ → ℕ → ℕ → List Extent → Type 0
  Lie unit at end runs = (b : ℕ) → Covers runs b → (at < end) × (unit * b < end) × (at < unit * b + unit)

  all_fit : (unit from at end : ℕ) (runs : List Extent) → 0 < unit → AreApart from runs → at ≤ end → Lie unit at end runs
      → ((k : ℕ) → Covers runs (k / unit) → Data k) → ((k : ℕ) → at ≤ k → k < end → (Covers runs (k / unit) → ⊥) → Hole k)
      → Fits at end (extents_in m unit at end runs)
  all_fit unit from at end [] some apart le lie data_in holes =
      subst (λ (xs : List (ℕ × ℕ)). Fits at end xs) (append-nil (gap_to m at end))
      (hole_then at end end [] le (λ k l r. holes k l r (λ h. h)) (tt, omega arith))
  all_fit unit from at end (e ∷ es) some apart le lie data_in holes =
      hole_then at first end ((last - first, listed_flags m) ∷ extents_in m unit last end es) at_first gap
      (run_then first last end (extents_in m unit last end es) grows inner
      (all_fit unit (e.first + e.blocks + 1) last end es some apart.2 last_end lie_on (λ k h. data_in k (inr h)) holes_on))
    where
      first : ℕ
      first = between at end (unit * e.first)

      last : ℕ
      last = between first end (unit * (e.first + e.blocks))

      has : 0 < e.blocks
      has = apart.1

      here : (at < end) × (unit * e.first < end) × (at < unit * e.first + unit)
      here = lie e.first (inl (omega arith, omega (arith, has)))

      at_first : at ≤ first
      at_first = near_least at end (unit * e.first)

      first_end : first < end
      first_end = near_before at end (unit * e.first) end here.0 here.1

      one_more : unit * e.first + unit ≤ unit * (e.first + e.blocks)
      one_more = let m : unit * (e.first + 1) ≤ unit * (e.first + e.blocks) = times unit (e.first + 1) (e.first + e.blocks) (omega (arith, has)) in omega (arith, m)

      first_over : first < unit * (e.first + e.blocks)
      first_over = let a = here.2 in near_before at end (unit * e.first) (unit * (e.first + e.blocks)) (omega (arith, a, one_more)) (omega (arith, one_more, some))

      first_last : first ≤ last
      first_last = near_least first end (unit * (e.first + e.blocks))

      last_end : last ≤ end
      last_end = near_most first end (unit * (e.first + e.blocks)) (omega (arith, first_end))

      grows : first < last
      grows = near_behind first end (unit * (e.first + e.blocks)) first first_end first_over

      last_down : last ≤ unit * (e.first + e.blocks)
      last_down = near_down first end (unit * (e.first + e.blocks)) (omega (arith, first_over))

      from_here : AreApart e.first (e ∷ es)
      from_here = (omega arith, apart.1, apart.2)

      gap : (k : ℕ) → at ≤ k → k < first → Hole k
      gap k l r = holes k l (omega (arith, r, first_end)) (λ h.
          let low = covers_from e.first (e ∷ es) (k / unit) from_here h in
          let lt : k < unit * e.first = before_near at end (unit * e.first) k l r in
          let high = div_below k unit e.first some (omega (arith, lt)) in
          absurd (omega (arith, low, high)))

      inner : (k : ℕ) → first ≤ k → k < last → Data k
      inner k l r =
          let low : unit * e.first ≤ k = from_near at end (unit * e.first) k (omega (arith, r, last_end)) l in
          let high : k < unit * (e.first + e.blocks) = before_near first end (unit * (e.first + e.blocks)) k l r in
          data_in k (inl (le-div e.first k unit some (omega (arith, low)), div_below k unit (e.first + e.blocks) some (omega (arith, high))))

      lie_on : Lie unit last end es
      lie_on b h =
          let was = lie b (inr h) in
          let low = covers_from (e.first + e.blocks + 1) es b apart.2 h in
          let m : unit * (e.first + e.blocks + 1) ≤ unit * b = times unit (e.first + e.blocks + 1) b low in
          let far = was.1 in
          (omega (arith, m, last_down, far), far, omega (arith, m, last_down, some))

      holes_on : (k : ℕ) → last ≤ k → k < end → (Covers es (k / unit) → ⊥) → Hole k
      holes_on k l r none_covers = holes k (omega (arith, l, first_last, at_first)) r (λ h. elim h [
        | inl i ↦
            let low : unit * (e.first + e.blocks) ≤ k = from_near first end (unit * (e.first + e.blocks)) k r l in
            let q = le-div (e.first + e.blocks) k unit some (omega (arith, low)) in
            let high = i.1 in
            absurd (omega (arith, q, high))
        | inr i ↦ none_covers i
      ])

  -- one alone, or all of them
  cut_told : (one : Bool) (at len : ℕ) (xs : List (ℕ × ℕ)) → AreTold m Data Hole at xs → 0 < bytes_of xs → bytes_of xs ≤ len
      → AreTold m Data Hole at (cut_to_one one xs) × (0 < bytes_of (cut_to_one one xs)) × (bytes_of (cut_to_one one xs) ≤ len)
      × (IsTrue one → length (cut_to_one one xs) ≡ 1)
  cut_told false at len xs told some inside = (told, some, inside, λ h. absurd (false≢true h))
  cut_told true at len [] told some inside = absurd (omega (arith, some))
  cut_told true at len (x ∷ xs) told some inside =
      let has = told.0 in
      ((has, told.1, tt), omega (arith, has), omega (arith, inside), λ h. refl)

-- ---- all bytes of a READ

told_both : (Data Hole : ℕ → Type 0) (at : ℕ) (xs ys : List (ℕ × ℕ)) → AreTold Allocation Data Hole at xs → AreTold Allocation Data Hole (at + bytes_of xs) ys → AreTold Allocation Data Hole at (xs ++ ys)
told_both Data Hole at [] ys told more = let here : at + 0 ≡ at = omega arith in subst (λ (n : ℕ). AreTold Allocation Data Hole n ys) here more
told_both Data Hole at (x ∷ xs) ys told more =
    let on : at + (x.0 + bytes_of xs) ≡ at + x.0 + bytes_of xs = omega arith in
    (told.0, told.1, told_both Data Hole (at + x.0) xs ys told.2 (subst (λ (n : ℕ). AreTold Allocation Data Hole n ys) on more))

data_told_by : (Hole : ℕ → Type 0) (at to : ℕ) (b : Bool) → nat_lt at to ≡ b → AreTold Allocation Anything Hole at (if b then (to - at, 0) ∷ [] else [])
data_told_by Hole at to true e = let lt : at < to = ltb-true at to e in (omega (arith, lt), inl (refl, λ k l r. tt), tt)
data_told_by Hole at to false e = tt

data_told : (Hole : ℕ → Type 0) (at to : ℕ) → AreTold Allocation Anything Hole at (data_to at to)
data_told Hole at to = data_told_by Hole at to (nat_lt at to) refl

-- ---- a page

-- Is: what the blocks are that the page lists
module _ (Is : ℕ → Type 0) (unit : ℕ) (r : Request) (runs : List Extent) (blocks : ℕ) (some : 0 < r.len) (unit_some : 0 < unit) (few : first_block unit r < 16777216)
    (are : AreRunsOf runs (λ block. (first_block unit r ≤ block) × (block < blocks) × Is block)) (goes_on : first_block unit r < blocks_to unit r → first_block unit r < blocks)
    (within : blocks ≤ blocks_to unit r) where
  abbrev pub from : ℕ
  from = first_block unit r

  abbrev pub end : ℕ
  end = between r.offset (r.offset + r.len) (unit * blocks)

  down : from * unit ≤ r.offset
  down = div-mul-le_self r.offset unit

  up : r.offset < from * unit + unit
  up = lt-div-mul-add unit_some

  -- the block in which the request ends
  abbrev last : ℕ
  last = (r.offset + (r.len - 1)) / unit

  last_down : last * unit ≤ r.offset + (r.len - 1)
  last_down = div-mul-le_self (r.offset + (r.len - 1)) unit

  from_last : from ≤ last
  from_last = le-div from (r.offset + (r.len - 1)) unit unit_some (omega (arith, down))

  from_to : from < blocks_to unit r
  from_to = omega (arith, from_last, few)

  onward : from < blocks
  onward = goes_on from_to

  to_last : blocks ≤ last + 1
  to_last = omega (arith, within)

  offset_in : r.offset < unit * blocks
  offset_in = let m : unit * (from + 1) ≤ unit * blocks = times unit (from + 1) blocks (omega (arith, onward)) in omega (arith, m, up)

  offset_end : r.offset < end
  offset_end = near_behind r.offset (r.offset + r.len) (unit * blocks) r.offset (omega (arith, some)) offset_in

  end_in : end ≤ unit * blocks
  end_in = near_down r.offset (r.offset + r.len) (unit * blocks) (omega (arith, offset_in))

  end_most : end ≤ r.offset + r.len
  end_most = near_most r.offset (r.offset + r.len) (unit * blocks) (omega arith)

  lie : (b : ℕ) → Covers runs b → (r.offset < end) × (unit * b < end) × (r.offset < unit * b + unit)
  lie b h =
      let is = are.has b h in
      let low = is.0 in
      let high = is.1 in
      let m : unit * (b + 1) ≤ unit * blocks = times unit (b + 1) blocks (omega (arith, high)) in
      let n : unit * b ≤ unit * last = times unit b last (omega (arith, high, to_last)) in
      let f : unit * from ≤ unit * b = times unit from b low in (
        offset_end,
        near_behind r.offset (r.offset + r.len) (unit * blocks) (unit * b) (omega (arith, n, last_down, some)) (omega (arith, m, unit_some)),
        omega (arith, f, up),
      )

  listed_in : (k : ℕ) → Covers runs (k / unit) → Is (k / unit)
  listed_in k h = (are.has (k / unit) h).2

  left_out : (k : ℕ) → r.offset ≤ k → k < end → (Covers runs (k / unit) → ⊥) → Is (k / unit) → ⊥
  left_out k l lt n is = n (are.all (k / unit) (
    le-div from k unit unit_some (omega (arith, down, l)),
    div_below k unit blocks unit_some (omega (arith, lt, end_in)),
    is,
  ))

  -- Such, Also: what each byte is, by its block
  pub page_tells : (is_last : Bool) (m : MetaContext) (Such Also : ℕ → Type 0) → ((k : ℕ) → Is (k / unit) → Such k) → ((k : ℕ) → (Is (k / unit) → ⊥) → Also k) → (sent : List ℕ)
      → sent ≡ status_chunk is_last m r.cookie (cut_to_one (wants_one r) (extents_in m unit r.offset end runs)) → TellsOf is_last m Such Also r sent
  page_tells is_last m Such Also such also sent is =
      let xs : List (ℕ × ℕ) = extents_in m unit r.offset end runs in
      let fits : Fits m Such Also r.offset end xs =
      all_fit m Such Also unit 0 r.offset end runs unit_some are.apart (omega (arith, offset_end)) lie (λ k h. such k (listed_in k h)) (λ k l lt n. also k (left_out k l lt n)) in
      let sum : r.offset + bytes_of xs ≡ end = fits.1 in
      let cut = cut_told m Such Also (wants_one r) r.offset r.len xs fits.0 (omega (arith, sum, offset_end)) (omega (arith, sum, end_most)) in
      record { extents = cut_to_one (wants_one r) xs; sent_is = is; told = cut.0; some = cut.1; inside = cut.2; one = cut.3 }

  -- all bytes of a READ, by a page of the blocks that are mapped: what is behind it is data
  pub page_reads : (Also : ℕ → Type 0) → ((k : ℕ) → (Is (k / unit) → ⊥) → Also k)
      → AreTold Allocation Anything Also r.offset (read_extents unit r runs blocks) × (bytes_of (read_extents unit r runs blocks) ≡ r.len)
  page_reads Also also =
      let xs : List (ℕ × ℕ) = extents_in Allocation unit r.offset end runs in
      let fits : Fits Allocation Anything Also r.offset end xs =
      all_fit Allocation Anything Also unit 0 r.offset end runs unit_some are.apart (omega (arith, offset_end)) lie (λ k h. tt) (λ k l lt n. also k (left_out k l lt n)) in
      let sum : r.offset + bytes_of xs ≡ end = fits.1 in
      let behind : AreTold Allocation Anything Also (r.offset + bytes_of xs) (data_to end (r.offset + r.len)) =
      subst (λ (n : ℕ). AreTold Allocation Anything Also n (data_to end (r.offset + r.len))) (sym sum) (data_told Also end (r.offset + r.len)) in (
        told_both Anything Also r.offset xs (data_to end (r.offset + r.len)) fits.0 behind,
        spans_sum unit r.offset r.len blocks end runs xs (read_extents unit r runs blocks) refl refl refl,
      )

-- ---- where there is data, and where there are zeros

no_slot : (o : Option ℕ) → (IsSome o → ⊥) → o ≡ None
no_slot None n = refl
no_slot (Some place) n = absurd (n refl)

pub allocation_tells : (s : PlainPool) (id : ℕ) (is_last : Bool) (r : Request) (runs : List Extent) (blocks : ℕ) → 0 < r.len → 0 < unit_of s.geometry → first_block (unit_of s.geometry) r < 16777216
    → AreRunsOf runs (λ block. (first_block (unit_of s.geometry) r ≤ block) × (block < blocks) × IsSome (slot_at s id block))
    → (first_block (unit_of s.geometry) r < blocks_to (unit_of s.geometry) r → first_block (unit_of s.geometry) r < blocks) → blocks ≤ blocks_to (unit_of s.geometry) r → (sent : List ℕ)
    → sent ≡ status_chunk is_last Allocation r.cookie (cut_to_one (wants_one r) (extents_in Allocation (unit_of s.geometry) r.offset (between r.offset (r.offset + r.len) (unit_of s.geometry * blocks)) runs))
    → TellsOf is_last Allocation (IsMapped s id) (IsUnmapped s id) r sent
allocation_tells s id is_last r runs blocks some unit_some few are goes_on within sent is =
    page_tells (λ block. IsSome (slot_at s id block)) (unit_of s.geometry) r runs blocks some unit_some few are goes_on within is_last Allocation (IsMapped s id) (IsUnmapped s id) (λ k h. h)
    (λ k n. no_slot (slot_at s id (k / unit_of s.geometry)) n) sent is

pub read_tells : (s : PlainPool) (id : ℕ) (r : Request) (runs : List Extent) (blocks : ℕ) → 0 < r.len → 0 < unit_of s.geometry → first_block (unit_of s.geometry) r < 16777216
    → AreRunsOf runs (λ block. (first_block (unit_of s.geometry) r ≤ block) × (block < blocks) × IsSome (slot_at s id block))
    → (first_block (unit_of s.geometry) r < blocks_to (unit_of s.geometry) r → first_block (unit_of s.geometry) r < blocks) → blocks ≤ blocks_to (unit_of s.geometry) r
    → AreTold Allocation Anything (IsUnmapped s id) r.offset (read_extents (unit_of s.geometry) r runs blocks) × (bytes_of (read_extents (unit_of s.geometry) r runs blocks) ≡ r.len)
read_tells s id r runs blocks some unit_some few are goes_on within =
    page_reads (λ block. IsSome (slot_at s id block)) (unit_of s.geometry) r runs blocks some unit_some few are goes_on within (IsUnmapped s id)
    (λ k n. no_slot (slot_at s id (k / unit_of s.geometry)) n)

told_weaker : (m : MetaContext) (Data Hole Also : ℕ → Type 0) → ((k : ℕ) → Hole k → Also k) → (at : ℕ) (xs : List (ℕ × ℕ)) → AreTold m Data Hole at xs → AreTold m Data Also at xs
told_weaker m Data Hole Also weaker at [] told = tt
told_weaker m Data Hole Also weaker at (x ∷ xs) told = (
  told.0,
  elim told.1 [
    | inl h ↦ inl h
    | inr h ↦ inr (h.0, λ k l r. weaker k (h.1 k l r))
  ],
  told_weaker m Data Hole Also weaker (at + x.0) xs told.2,
)

pub holes_are_blank : (s : PlainPool) (id at : ℕ) (xs : List (ℕ × ℕ)) → IsSound s → AreTold Allocation (IsMapped s id) (IsUnmapped s id) at xs → AreTold Allocation (IsMapped s id) (IsBlank s id) at xs
holes_are_blank s id at xs sound told =
    told_weaker Allocation (IsMapped s id) (IsUnmapped s id) (IsBlank s id)
    (λ k none_there x is. sound.lawful.unmapped id (k / 512) x
    (ap (λ (b : ℕ). slot_at s id b) (div-div-eq-div-mul k 512 s.geometry.block_sectors) ∙ none_there) is) at xs told

-- ---- where a volume may differ from an older one

-- slots that are not different are the same
same_slots : (a b : Option ℕ) → ((a ≢ b) → ⊥) → a ≡ b
same_slots None None h = refl
same_slots None (Some y) h = absurd (h (λ e. none-some y e))
same_slots (Some x) None h = absurd (h (λ e. none-some x (sym e)))
same_slots (Some x) (Some y) h =
    elim (cases_eq x y) [
      | inl e ↦ ap Some e
      | inr n ↦ absurd (h (λ e. n (same_Some x y e)))
    ]

pub since_tells : (s : PlainPool) (old id : ℕ) (is_last : Bool) (r : Request) (runs : List Extent) (blocks : ℕ) → 0 < r.len → 0 < unit_of s.geometry → first_block (unit_of s.geometry) r < 16777216
    → AreRunsOf runs (λ block. (first_block (unit_of s.geometry) r ≤ block) × (block < blocks) × (slot_at s id block ≢ slot_at s old block))
    → (first_block (unit_of s.geometry) r < blocks_to (unit_of s.geometry) r → first_block (unit_of s.geometry) r < blocks) → blocks ≤ blocks_to (unit_of s.geometry) r → (sent : List ℕ)
    → sent ≡ status_chunk is_last Since r.cookie (cut_to_one (wants_one r) (extents_in Since (unit_of s.geometry) r.offset (between r.offset (r.offset + r.len) (unit_of s.geometry * blocks)) runs))
    → TellsOf is_last Since (IsOther s old id) (IsSame s old id) r sent
since_tells s old id is_last r runs blocks some unit_some few are goes_on within sent is =
    page_tells (λ block. slot_at s id block ≢ slot_at s old block) (unit_of s.geometry) r runs blocks some unit_some few are goes_on within is_last Since (IsOther s old id) (IsSame s old id) (λ k h. h)
    (λ k n. same_slots (slot_at s id (k / unit_of s.geometry)) (slot_at s old (k / unit_of s.geometry)) n) sent is

pub clean_is_equal : (s : PlainPool) (old id at : ℕ) (xs : List (ℕ × ℕ)) → IsSound s → AreTold Since (IsOther s old id) (IsSame s old id) at xs → AreTold Since (IsOther s old id) (IsEqual s old id) at xs
clean_is_equal s old id at xs sound told =
    told_weaker Since (IsOther s old id) (IsSame s old id) (IsEqual s old id)
    (λ k same_there here there is was.
    let block : k / 512 / s.geometry.block_sectors ≡ k / unit_of s.geometry = div-div-eq-div-mul k 512 s.geometry.block_sectors in
    let alike : slot_at s id (k / 512 / s.geometry.block_sectors) ≡ slot_at s old (k / 512 / s.geometry.block_sectors) =
    ap (λ (b : ℕ). slot_at s id b) block ∙ (same_there ∙ ap (λ (b : ℕ). slot_at s old b) (sym block)) in
    equal_sectors s id old (k / 512) here there sound.lawful sound.block_sectors alike is was) at xs told
