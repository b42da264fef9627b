-- The edges of a range that becomes zero, and the blocks that lie wholly in it.
use Rattle.std.proofs.Common.{◌≡◌, ◌⊎◌, inl, inr, ℕ, zero, suc, ◌+◌, ◌-◌, ◌*◌, ◌/◌, ◌%◌, ◌<◌, ◌≤◌, Bool, true, false, cond, Option, None, Some, List, length, refl, sym, ◌∙◌, ap, subst, arith}
use Rattle.std.specs.Prelude.{IsTrue, nat_lt, slice_index_or, ◌&&◌, if◌then◌else◌}
use Rattle.std.specs.Option.{is_some}
use Rattle.std.specs.List.{count_by, range_with_len}
use Rattle.std.proofs.Math.Nat.{mod-lt}
use Rattle.std.proofs.lemmas.Bool.{and_parts, cases_eq, cases_lt, false_from_ne_true, false≢true, true≢false}
use Rattle.std.proofs.lemmas.Nat.{div-add-mod', div-mul-add}
use Rattle.tp_model.specs.Geometry.{Geometry}
use Rattle.tp_model.specs.Calls.{Call, Keeps, Loses, Owns, Trim, WriteZeroes, covers, is_owning, slot_effect, touches}
use Rattle.tp_model.specs.Disk.{DiskState, seen}
use Rattle.tp_model.specs.DiskStops.{LeavesOnly}
use Rattle.tp_model.proofs.Counting.{count_first, count_last}
use Rattle.tp_sharing.specs.Volumes.{Volumes, slot_of}
use Rattle.tp_mapping.specs.Mapping.{IsWithin, free_places}
use Rattle.tp_stored.specs.Contents.{Contents, IsStill, SameData}
use Rattle.tp_shown.specs.Shown.{EditsLists, GivesValue, ListedAfter, blocks_covered, blocks_touched, first_covered, owns_block}
use Rattle.tp_shown.proofs.Blocks.{first_is_touched, quotients_ascend, touched_inside}
use Rattle.tp_shown.proofs.Trimmed.{edits_trimmed}
use Rattle.tp_meta.specs.Metadata.{AreTold, IsTold}
use Rattle.tp_meta.specs.declared.metadata.Home.{Home}
use Rattle.tp_pool.specs.Writing.{IsHalf, IsKnown, takes_block}
use Rattle.tp_pool.specs.Trimming.{HasUnmapped}
use Rattle.tp_pool.specs.Zeroing.{AreEdges, HasCleared, HasFreeFor, HasZeroed, IsBeside, KnowsEdge, LeavesZeroes, edge_takes, zeroes_take}
use Rattle.tp_pool.proofs.Clearing.{cleared_by}
use Rattle.tp_pool.proofs.Composing.{IsOf}
use Rattle.tp_pool.proofs.Edges.{cover_is, head_parts, never, tail_parts, within_by, within_is}
use Rattle.tp_pool.proofs.Halves.{given_as, half_as, half_changing, half_goes_on}
use Rattle.tp_pool.proofs.Rooms.{taken_is, touched_is}
use Rattle.tp_pool.proofs.Zeroed.{edge_known, touched_here}

keeps_not : Keeps ≡ Owns → ⊥
keeps_not e = false≢true (ap is_owning e)

-- ---- a part of the range

-- what zeros in a part of a range give, zeros in the range give
module _ (g : Geometry) (pos : 0 < g.block_sectors) (id s c S C : ℕ) (low : S ≤ s) (high : s + c ≤ S + C) (volumes others : Volumes)
    (owns : (block : ℕ) → slot_effect g (WriteZeroes id s c false false) block (slot_of id block volumes) ≡ Owns
    → slot_effect g (WriteZeroes id S C false false) block (slot_of id block others) ≡ Owns) where
  part_gives : (block offset : ℕ) (x : List ℕ) → offset < g.block_sectors → GivesValue g (WriteZeroes id s c false false) id volumes (block * g.block_sectors + offset) x
      → GivesValue g (WriteZeroes id S C false false) id others (block * g.block_sectors + offset) x
  part_gives block offset x less v =
      let k = block * g.block_sectors + offset in
      let w = within_is g pos block s c k v.0 in (
        within_by g pos block S C k (omega (arith, w.0, low)) (omega (arith, w.1, high)),
        v.1,
        owns (k / g.block_sectors) v.2,
      )

  pub half_of_zeroes : (kept : Contents) (a b : DiskState) → LeavesOnly a b (IsHalf g (WriteZeroes id s c false false) id volumes kept a.cells)
      → LeavesOnly a b (IsHalf g (WriteZeroes id S C false false) id others kept a.cells)
  half_of_zeroes kept a b r =
      half_as g (WriteZeroes id s c false false) (WriteZeroes id S C false false) id volumes others kept
      (given_as g (WriteZeroes id s c false false) (WriteZeroes id S C false false) id volumes others kept.volumes part_gives) a b r

-- ---- counts of both ends

pub first_counted : (p : ℕ → Bool) (a n : ℕ) → 0 < n → p a ≡ true → 0 < count_by p (range_with_len a n)
first_counted p a zero some is = absurd (omega (arith, some))
first_counted p a (suc n) some is =
    let more : n + 1 ≡ suc n = omega arith in
    let one : ◌≡◌ {A = ℕ} (cond (p a) 1 0) 1 = ap (λ b. cond b 1 0) is in
    subst (λ m. 0 < count_by p (range_with_len a m)) more (omega (arith, count_first p a n, one))

pub last_counted : (p : ℕ → Bool) (a n last : ℕ) → last + 1 ≡ a + n → a ≤ last → p last ≡ true → 0 < count_by p (range_with_len a n)
last_counted p a zero last e le is = absurd (omega (arith, e, le))
last_counted p a (suc n) last e le is =
    let more : n + 1 ≡ suc n = omega arith in
    let here : last ≡ a + n = omega (arith, e) in
    let one : ◌≡◌ {A = ℕ} (cond (p (a + n)) 1 0) 1 = ap (λ k. cond (p k) 1 0) (sym here) ∙ ap (λ b. cond b 1 0) is in
    subst (λ m. 0 < count_by p (range_with_len a m)) more (omega (arith, count_last p a n, one))

pub both_counted : (p : ℕ → Bool) (a n last : ℕ) → last + 1 ≡ a + n → a < last → p a ≡ true → p last ≡ true → 1 < count_by p (range_with_len a n)
both_counted p a zero last e lt is also = absurd (omega (arith, e, lt))
both_counted p a (suc n) last e lt is also =
    let more : n + 1 ≡ suc n = omega arith in
    let one : ◌≡◌ {A = ℕ} (cond (p a) 1 0) 1 = ap (λ b. cond b 1 0) is in
    let rest = last_counted p (a + 1) n last (omega (arith, e)) (omega (arith, lt)) also in
    subst (λ m. 1 < count_by p (range_with_len a m)) more (omega (arith, count_first p a n, one, rest))

-- ---- where the edges lie

module _ (g : Geometry) (pos : 0 < g.block_sectors) (sector count head tail : ℕ) (some : 0 < count) (e : AreEdges g sector count head tail) where
  abbrev bs : ℕ
  bs = g.block_sectors

  abbrev first : ℕ
  first = sector / bs

  abbrev middle : ℕ
  middle = count - head - tail

  abbrev end : ℕ
  end = sector + count - tail

  pub head_small : head < bs
  head_small = elim (cases_lt 0 head) [ inl lt ↦ let w = e.first lt in omega (arith, w.0, w.1) | inr le ↦ omega (arith, le, pos) ]

  pub head_fits : sector % bs + head ≤ bs
  head_fits = elim (cases_lt 0 head) [ inl lt ↦ (e.first lt).1 | inr le ↦ let small : sector % bs < bs = mod-lt sector pos in omega (arith, le, small) ]

  pub end_is : end ≡ sector + head + middle
  end_is = omega (arith, e.fits)

  pub cut : (middle + tail ≡ 0) ⊎ ((sector + head) % bs ≡ 0)
  cut = elim e.begins [ inl all ↦ inl (omega (arith, all, e.fits)) | inr a ↦ inr a ]

  -- where there is something behind the first part, a block begins
  begins_one : 0 < tail → (sector + head) % bs ≡ 0
  begins_one lt = elim e.begins [ inl all ↦ absurd (omega (arith, all, lt, e.fits)) | inr a ↦ a ]

  end_block : 0 < tail → end ≡ end / bs * bs
  end_block lt =
      let a : (sector + head) / bs * bs + (sector + head) % bs ≡ sector + head = div-add-mod' (sector + head) bs in
      let b : middle / bs * bs + middle % bs ≡ middle = div-add-mod' middle bs in
      let k = (sector + head) / bs + middle / bs in
      let both : k * bs ≡ (sector + head) / bs * bs + middle / bs * bs = omega arith in
      let is : end ≡ k * bs + 0 = omega (arith, end_is, a, b, both, begins_one lt, e.ends) in
      let whole : end / bs ≡ k = ap (λ m. m / bs) is ∙ div-mul-add k bs 0 pos in
      let last : end / bs * bs ≡ k * bs = ap (λ m. m * bs) whole in
      omega (arith, is, last)

  pub tail_fits : end % bs + tail ≤ bs
  tail_fits = elim (cases_lt 0 tail) [
    | inl lt ↦
        let starts : end / bs * bs + end % bs ≡ end = div-add-mod' end bs in
        omega (arith, end_block lt, starts, e.last)
    | inr le ↦ let small : end % bs < bs = mod-lt end pos in omega (arith, le, small)
  ]

  -- the last part lies in the last block that the range touches
  pub last_block : 0 < tail → (first ≤ end / bs) × (end / bs + 1 ≡ first + blocks_touched g sector count)
  last_block lt =
      let is = touched_is g sector count some in
      let whole = end_block lt in
      let behind : sector + count - 1 ≡ end / bs * bs + (tail - 1) = omega (arith, whole, lt, e.fits) in
      let last : (sector + count - 1) / bs ≡ end / bs = ap (λ m. m / bs) behind ∙ div-mul-add (end / bs) bs (tail - 1) (omega (arith, e.last, lt)) in
      let up = quotients_ascend bs sector (sector + count - 1) pos (omega (arith, some)) in
      (omega (arith, up, last), omega (arith, is, last, up))

  -- where both have sectors, they lie in two blocks
  pub apart : 0 < head → 0 < tail → first < end / bs
  apart more lt =
      let w = e.first more in
      let starts : first * bs + sector % bs ≡ sector = div-add-mod' sector bs in
      let le = (last_block lt).0 in
      elim (cases_eq (end / bs) first) [
        | inl same ↦ let whole = end_block lt in let here : end / bs * bs ≡ first * bs = ap (λ m. m * bs) same in absurd (omega (arith, whole, here, starts, w.0, end_is, more))
        | inr other ↦ omega (arith, le, other)
      ]

  pub beside : 0 < tail → IsBeside first head (end / bs)
  beside lt = elim (cases_lt 0 head) [
    | inl more ↦ inr (λ same. let a = apart more lt in absurd (omega (arith, a, same)))
    | inr le ↦ inl (omega (arith, le))
  ]

  -- ---- what the range does to their blocks

  module _ (id : ℕ) (volumes : Volumes) (marks : List Bool) (within : IsWithin g volumes) where
    abbrev whole : Call
    whole = WriteZeroes id sector count false false

    abbrev counts : ℕ → Bool
    counts block = owns_block g whole id volumes block && takes_block id volumes marks block

    -- a block that is touched and not covered, and takes a data block
    counts_by : (block : ℕ) (home : Option Home) → covers g sector count block ≡ false → touches g sector count block ≡ true → IsTold id block volumes marks home → zeroes_take home ≡ true
        → counts block ≡ true
    counts_by block None c t told takes = absurd (false≢true takes)
    counts_by block (Some h) c t told takes =
        let there : is_some (slot_of id block volumes) ≡ true = ap is_some told.0 in
        let owns : slot_effect g whole block (slot_of id block volumes) ≡ Owns = (λ i. if c i then Loses else (if t i && there i then Owns else Keeps)) in
        let takes_it : takes_block id volumes marks block ≡ true = sym (taken_is g id block volumes marks within (Some h) told) ∙ takes in
        (λ i. is_owning (owns i) && takes_it i)

    pub head_counts : (home : Option Home) → IsTold id first volumes marks home → edge_takes head home ≡ true → counts first ≡ true
    head_counts home told takes =
        let two = and_parts (nat_lt 0 head) (zeroes_take home) takes in
        let more : 0 < head = elim (cases_lt 0 head) [ inl lt ↦ lt | inr le ↦ absurd (false≢true (sym (none_before head le) ∙ two.0)) ] in
        let w = e.first more in
        let starts : first * bs + sector % bs ≡ sector = div-add-mod' sector bs in
        counts_by first home (never (covers g sector count first) (λ c. let v = cover_is g pos first sector count c in absurd (omega (arith, v.0, starts, w.0))))
        (first_is_touched g sector count pos some) told two.1
      where
        none_before : (n : ℕ) → n ≤ 0 → nat_lt 0 n ≡ false
        none_before zero le = refl
        none_before (suc n) le = absurd (omega (arith, le))

    pub tail_counts : (home : Option Home) → 0 < tail → IsTold id (end / bs) volumes marks home → edge_takes tail home ≡ true → counts (end / bs) ≡ true
    tail_counts home lt told takes =
        let two = and_parts (nat_lt 0 tail) (zeroes_take home) takes in
        let w = last_block lt in
        let here = end_block lt in
        counts_by (end / bs) home
        (never (covers g sector count (end / bs)) (λ c. let v = cover_is g pos (end / bs) sector count c in absurd (omega (arith, v.1, here, e.last, e.fits))))
        (touched_inside g sector count (end / bs) pos w.0 (omega (arith, w.1))) told two.1

-- ---- the edges one behind the other

module _ {M : Type 0} (geometry : M → Geometry) (stands : M → DiskState → Contents → Contents → Type 0) (marks : M → List Bool) (id sector count head tail : ℕ) (homes : List (Option Home)) (m0 : M) (d0 : DiskState) (now kept : Contents)
    (pos : 0 < (geometry m0).block_sectors) (some : 0 < count) (e : AreEdges (geometry m0) sector count head tail) (within : IsWithin (geometry m0) now.volumes)
    (long : length homes ≡ blocks_touched (geometry m0) sector count)
    (told : AreTold id (sector / (geometry m0).block_sectors) now.volumes (marks m0) (length homes) homes) (final : ℕ) (last_is : final ≡ length homes - 1) (some_homes : 0 < length homes) where
  abbrev g : Geometry
  g = geometry m0

  abbrev at : ℕ
  at = sector / g.block_sectors

  abbrev behind : ℕ
  behind = sector + count - tail

  abbrev head_home : Option Home
  head_home = slice_index_or homes 0 None

  abbrev tail_home : Option Home
  tail_home = slice_index_or homes final None

  told_first : IsTold id at now.volumes (marks m0) head_home
  told_first = let z : at + 0 ≡ at = omega arith in subst (λ b. IsTold id b now.volumes (marks m0) head_home) z (told 0 some_homes)

  told_last : 0 < tail → IsTold id (behind / g.block_sectors) now.volumes (marks m0) tail_home
  told_last lt =
      let w = last_block g pos sector count head tail some e lt in
      let there : at + final ≡ behind / g.block_sectors = omega (arith, w.1, long, last_is, some_homes) in
      subst (λ b. IsTold id b now.volumes (marks m0) tail_home) there (told final (omega (arith, last_is, some_homes)))

  pub known_first : KnowsEdge g id sector head now.volumes (marks m0) head_home
  known_first lt = edge_known g pos id sector head (head_fits g pos sector count head tail some e) now.volumes (marks m0) head_home within told_first

  -- ---- how many data blocks are free

  abbrev enough : Type 0
  enough = HasFreeFor geometry stands marks id sector count false m0 now kept

  none_less : (n : ℕ) → n ≤ 0 → nat_lt 0 n ≡ false
  none_less zero le = refl
  none_less (suc n) le = absurd (omega (arith, le))

  sectors_of_edge : (n : ℕ) (home : Option Home) → edge_takes n home ≡ true → 0 < n
  sectors_of_edge n home takes =
      elim (cases_lt 0 n) [ inl lt ↦ lt | inr le ↦ absurd (false≢true (sym (none_less n le) ∙ (and_parts (nat_lt 0 n) (zeroes_take home) takes).0)) ]

  pub free_first : enough → IsTrue (edge_takes head head_home) → 0 < free_places g now.volumes kept.volumes
  free_first free takes =
      let n = blocks_touched g sector count in
      let some_blocks : 0 < n = omega (arith, long, some_homes) in
      let one = first_counted (counts g pos sector count head tail some e id now.volumes (marks m0) within) at n some_blocks
      (head_counts g pos sector count head tail some e id now.volumes (marks m0) within head_home told_first takes) in
      omega (arith, one, free)

  module _ (m1 : M) (d1 : DiskState) (same : geometry m1 ≡ g) (x : HasZeroed geometry stands marks id at sector head (edge_takes head head_home) m0 m1 d0 d1 now kept) where
    abbrev mid : Contents
    mid = record now { volumes = x.cleared.volumes; meta_used = x.cleared.meta_used }

    pub known_last : KnowsEdge (geometry m1) id behind tail mid.volumes (marks m1) tail_home
    known_last lt =
        let block = behind / g.block_sectors in
        let fits = tail_fits g pos sector count head tail some e in
        let known = edge_known g pos id behind tail fits now.volumes (marks m0) tail_home within (told_last lt) in
        let beside_it : (b : ℕ) → b ≡ block → IsBeside at head b = λ b here. subst (IsBeside at head) (sym here) (beside g pos sector count head tail some e lt) in
        subst (λ (s : Geometry). IsKnown s id behind tail mid.volumes (marks m1) tail_home) (sym same)
        (record {
          has = known.has ∙ sym (x.others block (beside_it block refl));
          run = λ place own b t.
              let w = known.run place own b t in
              let other = beside_it b (touched_here g pos id behind tail fits b t) in
              (x.others b other ∙ w.0, false_from_ne_true (takes_block id mid.volumes (marks m1) b) (λ takes. true≢false (sym (x.takes b other takes) ∙ w.1)));
        })

    -- where the first part took one, there is another one for the last part
    free_by : (b : Bool) → edge_takes head head_home ≡ b → enough → edge_takes tail tail_home ≡ true → 0 < free_places g mid.volumes kept.volumes
    free_by false no_first free takes =
        let lt = sectors_of_edge tail tail_home takes in
        let n = blocks_touched g sector count in
        let w = last_block g pos sector count head tail some e lt in
        let one = last_counted (counts g pos sector count head tail some e id now.volumes (marks m0) within) at n (behind / g.block_sectors) w.1 w.0
        (tail_counts g pos sector count head tail some e id now.volumes (marks m0) within tail_home lt (told_last lt) takes) in
        let left = subst (λ (t : Bool). free_places g now.volumes kept.volumes ≤ free_places g mid.volumes kept.volumes + (if t then 1 else 0)) no_first x.free in
        omega (arith, one, free, left)
    free_by true also free takes =
        let lt = sectors_of_edge tail tail_home takes in
        let more = sectors_of_edge head head_home also in
        let n = blocks_touched g sector count in
        let w = last_block g pos sector count head tail some e lt in
        let two = both_counted (counts g pos sector count head tail some e id now.volumes (marks m0) within) at n (behind / g.block_sectors) w.1 (apart g pos sector count head tail some e more lt)
        (head_counts g pos sector count head tail some e id now.volumes (marks m0) within head_home told_first also)
        (tail_counts g pos sector count head tail some e id now.volumes (marks m0) within tail_home lt (told_last lt) takes) in
        let left = subst (λ (t : Bool). free_places g now.volumes kept.volumes ≤ free_places g mid.volumes kept.volumes + (if t then 1 else 0)) also x.free in
        omega (arith, two, free, left)

    pub free_last : enough → IsTrue (edge_takes tail tail_home) → 0 < free_places (geometry m1) mid.volumes kept.volumes
    free_last free takes = subst (λ (s : Geometry). 0 < free_places s mid.volumes kept.volumes) (sym same) (free_by (edge_takes head head_home) refl free takes)

  -- ---- while that is done

  abbrev all_zeroes : Call
  all_zeroes = WriteZeroes id sector count false false

  abbrev between : ℕ
  between = count - head - tail

  sum : head + (between + tail) ≡ count
  sum = omega (arith, e.fits)

  parts_of_head : (block : ℕ) → IsOf g (WriteZeroes id sector head false false) (WriteZeroes id (sector + head) (between + tail) false false) all_zeroes block
      ⊎ IsOf g (WriteZeroes id (sector + head) (between + tail) false false) (WriteZeroes id sector head false false) all_zeroes block
  parts_of_head = subst (λ n. (block : ℕ) → IsOf g (WriteZeroes id sector head false false) (WriteZeroes id (sector + head) (between + tail) false false) (WriteZeroes id sector n false false) block
      ⊎ IsOf g (WriteZeroes id (sector + head) (between + tail) false false) (WriteZeroes id sector head false false) (WriteZeroes id sector n false false) block) sum
      (head_parts g pos id sector head (between + tail) (cut g pos sector count head tail some e))

  head_owns : (block : ℕ) → slot_effect g (WriteZeroes id sector head false false) block (slot_of id block now.volumes) ≡ Owns → slot_effect g all_zeroes block (slot_of id block now.volumes) ≡ Owns
  head_owns block owns = elim (parts_of_head block) [
    | inl w ↦ w.effect (slot_of id block now.volumes) ∙ owns
    | inr w ↦ absurd (keeps_not (sym (w.keeps (slot_of id block now.volumes)) ∙ owns))
  ]

  pub head_left : (b : DiskState) → LeavesOnly d0 b (IsHalf g (WriteZeroes id sector head false false) id now.volumes kept d0.cells) → LeavesOnly d0 b (IsHalf g all_zeroes id now.volumes kept d0.cells)
  head_left b r = half_of_zeroes g pos id sector head sector count (omega arith) (omega (arith, e.fits)) now.volumes now.volumes head_owns kept d0 b r

  module _ (volumes : Volumes) (a c : List (List ℕ)) (x : EditsLists g (WriteZeroes id sector head false false) id now.volumes volumes a c) where
    rest_owns : (block : ℕ) → slot_effect g (WriteZeroes id (sector + head) (between + tail) false false) block (slot_of id block volumes) ≡ Owns
        → slot_effect g all_zeroes block (slot_of id block now.volumes) ≡ Owns
    rest_owns block owns = elim (parts_of_head block) [
      | inl w ↦ absurd (keeps_not (sym (w.keeps (slot_of id block volumes)) ∙ owns))
      | inr w ↦
          let same : slot_of id block volumes ≡ slot_of id block now.volumes = subst (λ f. ListedAfter f id block now.volumes volumes) (w.keeps (slot_of id block now.volumes)) (x.slots block) in
          ap (slot_effect g all_zeroes block) (sym same) ∙ (w.effect (slot_of id block volumes) ∙ owns)
    ]

    tail_owns : (block : ℕ) → slot_effect g (WriteZeroes id (sector + head + between) tail false false) block (slot_of id block volumes) ≡ Owns
        → slot_effect g all_zeroes block (slot_of id block now.volumes) ≡ Owns
    tail_owns block owns =
        elim (tail_parts g pos id sector head between tail (head_small g pos sector count head tail some e) e.last (cut g pos sector count head tail some e) e.ends block) [
          | inl w ↦ rest_owns block (w.effect (slot_of id block volumes) ∙ owns)
          | inr w ↦ absurd (keeps_not (sym (w.keeps (slot_of id block volumes)) ∙ owns))
        ]

    pub tail_left : (b d : DiskState) → LeavesOnly b d (IsHalf g (WriteZeroes id behind tail false false) id volumes kept b.cells) → LeavesOnly b d (IsHalf g all_zeroes id now.volumes kept b.cells)
    tail_left b d r =
        half_of_zeroes g pos id (sector + head + between) tail sector count (omega arith) (omega (arith, e.fits)) volumes now.volumes tail_owns kept b d
        (subst (λ s. LeavesOnly b d (IsHalf g (WriteZeroes id s tail false false) id volumes kept b.cells)) (end_is g pos sector count head tail some e) r)

  -- ---- the parts one behind the other

  module _ (m1 : M) (d1 : DiskState) (same : geometry m1 ≡ g) (x : HasZeroed geometry stands marks id at sector head (edge_takes head head_home) m0 m1 d0 d1 now kept) where
    abbrev after_head : Contents
    after_head = record now { volumes = x.cleared.volumes; meta_used = x.cleared.meta_used }

    pub left_second : (d2 : DiskState) → LeavesOnly d0 d1 (IsHalf g (WriteZeroes id sector head false false) id now.volumes kept d0.cells)
        → LeavesZeroes geometry stands marks id behind tail false m1 d1 d2 after_head kept → LeavesOnly d0 d2 (IsHalf g all_zeroes id now.volumes kept d0.cells)
    left_second d2 r s =
        half_goes_on g all_zeroes id now.volumes kept d0 d1 d2 (head_left d1 r)
        (tail_left x.cleared.volumes (seen d0.cells) (seen d1.cells) x.cleared.edits d1 d2
        (subst (λ (z : Geometry). LeavesOnly d1 d2 (IsHalf z (WriteZeroes id behind tail false false) id x.cleared.volumes kept d1.cells)) same s))

    module _ (m2 m3 : M) (d2 d3 : DiskState) (same_too : geometry m2 ≡ g) (y : HasCleared geometry stands marks id (sector + head + between) tail m1 m2 d1 d2 after_head kept)
        (z : HasUnmapped geometry stands marks id (first_covered (geometry m2) sector) (blocks_covered (geometry m2) sector count) m3 d3 (record now { volumes = y.volumes; meta_used = y.meta_used }) kept)
        (still : SameData (geometry m2) (seen d2.cells) (seen d3.cells)) where
      unmapped : HasUnmapped geometry stands marks id (first_covered g sector) (blocks_covered g sector count) m3 d3 (record now { volumes = y.volumes; meta_used = y.meta_used }) kept
      unmapped = subst (λ (k : Geometry). HasUnmapped geometry stands marks id (first_covered k sector) (blocks_covered k sector count) m3 d3 (record now { volumes = y.volumes; meta_used = y.meta_used }) kept) same_too z

      all_parts : count ≡ head + between + tail
      all_parts = omega (arith, e.fits)

      pub cleared_all : HasCleared geometry stands marks id sector count m0 m3 d0 d3 now kept
      cleared_all =
          let same_data = subst (λ (k : Geometry). SameData k (seen d2.cells) (seen d3.cells)) same_too still in
          let trimmed = edits_trimmed g pos id sector count false y.volumes unmapped.volumes (seen d2.cells) (seen d3.cells) same_data unmapped.lost in
          let trimmed_all = subst (λ n. EditsLists g (Trim id sector n false) id y.volumes unmapped.volumes (seen d2.cells) (seen d3.cells)) all_parts trimmed in
          subst (λ n. HasCleared geometry stands marks id sector n m0 m3 d0 d3 now kept) sum
          (cleared_by geometry stands marks id sector head between tail (first_covered g sector) (blocks_covered g sector count) m0 m1 m2 m3 d0 d1 d2 d3 now kept pos (head_small g pos sector count head tail some e) e.last
          (cut g pos sector count head tail some e) e.ends same x.cleared y unmapped trimmed_all)

  -- while the blocks that lie wholly in it are unmapped
  pub left_third : (d2 d3 : DiskState) → LeavesOnly d0 d2 (IsHalf g all_zeroes id now.volumes kept d0.cells) → LeavesOnly d2 d3 (IsStill g kept d2.cells) → LeavesOnly d0 d3 (IsHalf g all_zeroes id now.volumes kept d0.cells)
  left_third d2 d3 r s = half_goes_on g all_zeroes id now.volumes kept d0 d2 d3 r (half_changing g all_zeroes id now.volumes kept d2 d3 s)
