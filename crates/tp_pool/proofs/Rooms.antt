-- The room that a write takes.
use Rattle.std.proofs.Common.{◌≡◌, inl, inr, ℕ, zero, suc, ◌+◌, ◌-◌, ◌*◌, ◌/◌, ◌%◌, ◌==◌, ◌≤◌, ◌<◌, ◌&&◌, ◌||◌, Bool, true, false, cond, not, Option, None, Some, List, length, refl, sym, ◌∙◌, ap, subst, arith}
use Rattle.std.specs.Prelude.{IfSome, IsTrue, nat_le, nat_lt, replicate, slice_index_or, ◌↔◌}
use mir.Val.{bool_byte}
use Rattle.std.specs.Option.{is_some, option_map_or}
use Rattle.std.specs.List.{count_by, range_with_len}
use Rattle.std.proofs.Math.Nat.{mul-le-mul_right}
use Rattle.std.proofs.lemmas.Bool.{and_from, and_parts, cases_eq, cases_lt, eq-eqb, false≢true, le-leb, leb-true, lt-ltb, ltb-true, ne_eqb, true≢false}
use Rattle.std.proofs.lemmas.Option.{none-some, same_Some}
use Rattle.tp_model.specs.Geometry.{Geometry}
use Rattle.tp_model.specs.Calls.{Call, Keeps, Loses, Owns, WriteZeroes, covers, is_owning, touches}
use Rattle.tp_model.specs.Disk.{DiskState}
use Rattle.tp_model.specs.DiskStops.{Leaves, LeavesOnly}
use Rattle.tp_model.proofs.DiskStopLaws.{starts}
use Rattle.tp_model.proofs.Counting.{count_last, count_opposite, counts_agree, count_agree_from}
use Rattle.tp_sharing.specs.Volumes.{OtherSlot, Volumes, slot_of, used}
use Rattle.tp_mapping.specs.Mapping.{IsWithin, free_places}
use Rattle.tp_mapping.specs.Slots.{is_used}
use Rattle.tp_mapping.specs.List.{is_used_elsewhere}
use Rattle.tp_mapping.proofs.Uses.{elsewhere_from_slot, slot_from_elsewhere}
use Rattle.tp_mapping.proofs.Used.{below_counts, below_is_used}
use Rattle.tp_stored.specs.Contents.{Contents, HoldsContents}
use Rattle.tp_shown.proofs.Blocks.{quotients_ascend}
use Rattle.tp_shown.specs.Shown.{wants_block, blocks_covered, blocks_touched, blocks_wanted, blocks_wanted_by, first_covered, owns_block}
use Rattle.tp_shown.proofs.Trimmed.{covered_by, covered_is}
use Rattle.tp_meta.specs.Metadata.{AreInside, AreTold, IsInside, IsTold}
use Rattle.tp_meta.specs.declared.metadata.Home.{Home}
use Rattle.tp_pool.specs.Held.{Held}
use Rattle.tp_pool.specs.Reading.{ArePlaced, IsRun}
use Rattle.tp_pool.specs.Writing.{IsKnown, IsReclaiming, blocks_taken, blocks_taken_by, old_place, own_place, takes_block, told_taken, told_wanted}
use Rattle.tp_pool.specs.Zeroing.{told_owned}
use Rattle.tp_pool.proofs.Following.{from_first, up_to_last}
use Rattle.tp_pool.proofs.Taken.{old_is_slot, told_if_not_own, told_if_own}

-- nothing was done: a stop leaves what it might have left before
pub reclaims_nothing : (g : Geometry) (now kept : Contents) (disk : DiskState) → Leaves (HoldsContents g kept) disk.cells → LeavesOnly disk disk (IsReclaiming g now kept disk)
reclaims_nothing g now kept disk left =
    starts {P = IsReclaiming g now kept disk} disk (λ image stop. inl (image, stop, left image stop, record { same_length = refl; same = λ i high. refl }))

-- ---- whether a root is held

pub no_root : (root : ℕ) → not (root == 0) ≡ false → root ≡ 0
no_root root told = elim (cases_eq root 0) [ inl none ↦ none | inr some ↦ absurd (true≢false (sym (ap not (ne_eqb root 0 some)) ∙ told)) ]

pub a_root : (root : ℕ) → not (root == 0) ≡ true → 0 < root
a_root root told = elim (cases_lt 0 root) [ inl some ↦ some | inr low ↦ absurd (let none : root ≡ 0 = omega (arith, low) in false≢true (sym (ap not (eq-eqb root 0 none)) ∙ told)) ]

-- ---- what is told of a block

same_bools : (a b : Bool) → (a ≡ true → b ≡ true) → (b ≡ true → a ≡ true) → a ≡ b
same_bools true true f g = refl
same_bools false false f g = refl
same_bools true false f g = absurd (false≢true (f refl))
same_bools false true f g = absurd (false≢true (g refl))

module _ (g : Geometry) (id block : ℕ) (volumes : Volumes) (marks : List Bool) (within : IsWithin g volumes) where
  shared_is : (place : ℕ) (shared : Bool) → (IsTrue shared ↔ OtherSlot id block place volumes) → shared ≡ is_used_elsewhere id block place volumes
  shared_is place shared told =
      same_bools shared (is_used_elsewhere id block place volumes) (λ e. let w = told.0 e in elsewhere_from_slot id block w.0 w.1 place volumes w.2 w.3)
      (λ e. told.1 (slot_from_elsewhere id block place volumes within.ascend e))

  pub wanted_is : (home : Option Home) → IsTold id block volumes marks home → told_wanted home ≡ wants_block id volumes block
  wanted_is None told = sym (ap (λ o. option_map_or (λ place. is_used_elsewhere id block place volumes) o true) told)
  wanted_is (Some home) told = shared_is home.place home.is_shared told.1 ∙ sym (ap (λ o. option_map_or (λ place. is_used_elsewhere id block place volumes) o true) told.0)

  pub taken_is : (home : Option Home) → IsTold id block volumes marks home → told_taken home ≡ takes_block id volumes marks block
  taken_is None told = sym (ap (λ o. option_map_or (λ place. is_used_elsewhere id block place volumes || slice_index_or marks place false) o true) told)
  taken_is (Some home) told =
      (λ i. shared_is home.place home.is_shared told.1 i || told.2 i)
      ∙ sym (ap (λ o. option_map_or (λ place. is_used_elsewhere id block place volumes || slice_index_or marks place false) o true) told.0)

-- whether a request of zeros leaves a block with one of its own, as it is looked up
pub owned_is : (g : Geometry) (id sector count : ℕ) (no_hole fua : Bool) (volumes : Volumes) (marks : List Bool) (block : ℕ) (home : Option Home) → touches g sector count block ≡ true → IsTold id block volumes marks home
    → told_owned no_hole (covers g sector count block) home ≡ owns_block g (WriteZeroes id sector count no_hole fua) id volumes block
owned_is g id sector count true fua volumes marks block home t told = sym (ap (λ b. is_owning (cond b Owns Keeps)) t)
owned_is g id sector count false fua volumes marks block home t told =
    by (covers g sector count block) (is_some home)
    ∙ sym (λ i. is_owning (cond (covers g sector count block) Loses (cond (t i && some_is home told i) Owns Keeps)))
  where
    some_is : (h : Option Home) → IsTold id block volumes marks h → is_some (slot_of id block volumes) ≡ is_some h
    some_is None e = ap is_some e
    some_is (Some h) e = ap is_some e.0

    by : (c h : Bool) → (not c && h) ≡ is_owning (cond c Loses (cond h Owns Keeps))
    by true h = refl
    by false true = refl
    by false false = refl

-- whether a request covers a block, by the run of blocks that it covers
pub covered_told : (g : Geometry) (pos : 0 < g.block_sectors) (sector count first many block : ℕ) → first ≡ first_covered g sector → many ≡ blocks_covered g sector count
    → (nat_le first block && nat_lt block (first + many)) ≡ covers g sector count block
covered_told g pos sector count first many block f m =
    let from = first_covered g sector in
    let n = blocks_covered g sector count in
    (λ i. nat_le (f i) block && nat_lt block (f i + m i))
    ∙ same_bools (nat_le from block && nat_lt block (from + n)) (covers g sector count block)
    (λ e. let w = and_parts (nat_le from block) (nat_lt block (from + n)) e in covered_by g pos sector count block (leb-true from block w.0) (ltb-true block (from + n) w.1))
    (λ e. let w = covered_is g pos sector count block e in and_from (nat_le from block) (nat_lt block (from + n)) (le-leb from block w.0) (lt-ltb block (from + n) w.1))

-- one block more is counted
pub one_counted : (p : ℕ → Bool) (first i count next : ℕ) (b : Bool) → count ≡ count_by p (range_with_len first i) → b ≡ p (first + i) → next ≡ count + cond b 1 0 → next ≡ count_by p (range_with_len first (i + 1))
one_counted p first i count next b so_far is more = more ∙ (λ j. so_far j + cond (is j) 1 0) ∙ sym (count_last p first i)

-- a truth as a number
pub byte_is : (b : Bool) → bool_byte b ≡ cond b 1 0
byte_is true = refl
byte_is false = refl

pub byte_most : (b : Bool) → bool_byte b ≤ 1
byte_most true = omega arith
byte_most false = omega arith

pub touched_is : (g : Geometry) (sector count : ℕ) → 0 < count → blocks_touched g sector count ≡ (sector + count - 1) / g.block_sectors + 1 - sector / g.block_sectors
touched_is g sector zero some = absurd (omega arith)
touched_is g sector (suc n) some =
    let e : sector + n ≡ sector + suc n - 1 = omega arith in
    let s : suc ((sector + n) / g.block_sectors) ≡ (sector + suc n - 1) / g.block_sectors + 1 = let q = ap (λ k. k / g.block_sectors) e in omega (arith, q) in
    ap (λ k. k - sector / g.block_sectors) s

-- the place of a sector's block among those of a range
pub place_among : (g : Geometry) (sector done count first at : ℕ) → 0 < g.block_sectors → done < count → first ≡ sector / g.block_sectors → at ≡ (sector + done) / g.block_sectors
    → (at - first < blocks_touched g sector count) × (first + (at - first) ≡ (sector + done) / g.block_sectors)
place_among g sector done count first at pos lt f a =
    let is = touched_is g sector count (omega (arith, lt)) in
    let up = quotients_ascend g.block_sectors sector (sector + done) pos (omega arith) in
    let end = quotients_ascend g.block_sectors (sector + done) (sector + count - 1) pos (omega (arith, lt)) in
    (omega (arith, is, up, end, f, a), omega (arith, up, f, a))

inside_own : (data_blocks : ℕ) (home : Option Home) (place : ℕ) → old_place home ≡ Some place → IsInside data_blocks home → place < data_blocks
inside_own data_blocks None place e is = absurd (none-some place e)
inside_own data_blocks (Some h) place e is = subst (λ p. p < data_blocks) (same_Some h.place place e) is

-- what was told of the block of a sector, of those that a range touches
module _ (g : Geometry) (homes : List (Option Home)) (sector done count : ℕ) (pos : 0 < g.block_sectors) (lt : done < count) (long : length homes ≡ blocks_touched g sector count) where
  abbrev index : ℕ
  index = (sector + done) / g.block_sectors - sector / g.block_sectors

  pub index_is : (index < length homes) × (sector / g.block_sectors + index ≡ (sector + done) / g.block_sectors)
  index_is = let w = place_among g sector done count (sector / g.block_sectors) ((sector + done) / g.block_sectors) pos lt refl refl in (omega (arith, w.0, long), w.1)

  -- what was told of the blocks behind it
  told_behind : (id j : ℕ) (volumes : Volumes) (marks : List Bool) → AreTold id (sector / g.block_sectors) volumes marks (length homes) homes → index + j < length homes
      → IsTold id ((sector + done) / g.block_sectors + j) volumes marks (slice_index_or homes (index + j) None)
  told_behind id j volumes marks told small =
      let w = index_is in
      let e : sector / g.block_sectors + (index + j) ≡ (sector + done) / g.block_sectors + j = omega (arith, w.1) in
      subst (λ b. IsTold id b volumes marks (slice_index_or homes (index + j) None)) e (told (index + j) small)

  -- which data blocks they have
  placed_behind : (id j : ℕ) (volumes : Volumes) → ArePlaced id (sector / g.block_sectors) volumes (length homes) homes → index + j < length homes
      → slot_of id ((sector + done) / g.block_sectors + j) volumes ≡ old_place (slice_index_or homes (index + j) None)
  placed_behind id j volumes told small =
      let w = index_is in
      let e : sector / g.block_sectors + (index + j) ≡ (sector + done) / g.block_sectors + j = omega (arith, w.1) in
      subst (λ b. slot_of id b volumes ≡ old_place (slice_index_or homes (index + j) None)) e (told (index + j) small)

  -- blocks whose data blocks follow one another, from this one on
  module _ (n run place : ℕ) (some : 0 < run) (most : index + run ≤ length homes) (fits : (sector + done) % g.block_sectors + n ≤ run * g.block_sectors)
      (olds : (j : ℕ) → j < run → old_place (slice_index_or homes (index + j) None) ≡ Some (place + j)) where
    slots_follow : (id : ℕ) (volumes : Volumes) → ArePlaced id (sector / g.block_sectors) volumes (length homes) homes → IsRun g id (sector + done) n volumes (Some place)
    slots_follow id volumes told b t =
        let low = from_first g pos (sector + done) n b t in
        let high = up_to_last g pos (sector + done) n run b fits t in
        let j = b - (sector + done) / g.block_sectors in
        let small : j < run = omega (arith, low, high) in
        let there : (sector + done) / g.block_sectors + j ≡ b = omega (arith, low) in
        let home = slice_index_or homes (index + j) None in
        subst (λ k. slot_of id k volumes ≡ old_place home) there (placed_behind id j volumes told (omega (arith, small, most))) ∙ olds j small

    -- they lie in the data blocks
    olds_fit : AreInside g.data_blocks (length homes) homes → place * g.block_sectors + (sector + done) % g.block_sectors + n ≤ g.data_blocks * g.block_sectors
    olds_fit inside =
        let j = run - 1 in
        let small : j < run = omega (arith, some) in
        let home = slice_index_or homes (index + j) None in
        let low = inside_own g.data_blocks home (place + j) (olds j small) (inside (index + j) (omega (arith, small, most))) in
        let up : (place + run) * g.block_sectors ≤ g.data_blocks * g.block_sectors = mul-le-mul_right g.block_sectors (omega (arith, low, some)) in
        let more : (place + run) * g.block_sectors ≡ place * g.block_sectors + run * g.block_sectors = omega arith in
        omega (arith, up, more, fits)

  -- blocks that are read together
  module _ (n run : ℕ) (some : 0 < run) (most : index + run ≤ length homes) (fits : (sector + done) % g.block_sectors + n ≤ run * g.block_sectors)
      (alone : old_place (slice_index_or homes index None) ≡ None → run ≡ 1)
      (olds : (place : ℕ) → old_place (slice_index_or homes index None) ≡ Some place → (j : ℕ) → j < run → old_place (slice_index_or homes (index + j) None) ≡ Some (place + j)) where
    pub are_run : (id : ℕ) (volumes : Volumes) → ArePlaced id (sector / g.block_sectors) volumes (length homes) homes
        → IsRun g id (sector + done) n volumes (old_place (slice_index_or homes index None))
    are_run id volumes told = by (old_place (slice_index_or homes index None)) refl
      where
        by : (o : Option ℕ) → old_place (slice_index_or homes index None) ≡ o → IsRun g id (sector + done) n volumes o
        by (Some place) e = slots_follow n run place some most fits (olds place e) id volumes told
        by None e = λ b t.
            let one = alone e in
            let low = from_first g pos (sector + done) n b t in
            let high = up_to_last g pos (sector + done) n run b fits t in
            let w = index_is in
            let here : sector / g.block_sectors + index ≡ b = omega (arith, w.1, low, high, one) in
            subst (λ k. slot_of id k volumes ≡ old_place (slice_index_or homes index None)) here (told index w.0) ∙ e

    pub read_fits : AreInside g.data_blocks (length homes) homes → (home : Option Home) → home ≡ slice_index_or homes index None
        → IfSome home (λ h. h.place * g.block_sectors + (sector + done) % g.block_sectors + n ≤ g.data_blocks * g.block_sectors)
    read_fits inside None e = tt
    read_fits inside (Some h) e = olds_fit n run h.place some most fits (olds h.place (ap old_place (sym e))) inside

    pub read_inside : AreInside g.data_blocks (length homes) homes → (home : Option Home) → home ≡ slice_index_or homes index None → IfSome home (λ h. h.place < g.data_blocks)
    read_inside inside None e = tt
    read_inside inside (Some h) e = let w = index_is in subst (IsInside g.data_blocks) (sym e) (inside index w.0)

  module _ (n run : ℕ) (some : 0 < run) (most : index + run ≤ length homes) (fits : (sector + done) % g.block_sectors + n ≤ run * g.block_sectors)
      (runs : (place : ℕ) → own_place (slice_index_or homes index None) ≡ Some place → (j : ℕ) → j < run → own_place (slice_index_or homes (index + j) None) ≡ Some (place + j)) where
    -- what is known of sectors whose blocks were looked up as a run
    pub known_at : (id : ℕ) (volumes : Volumes) (marks : List Bool) → IsWithin g volumes → AreTold id (sector / g.block_sectors) volumes marks (length homes) homes
        → IsKnown g id (sector + done) n volumes marks (slice_index_or homes index None)
    known_at id volumes marks within told =
        let w = index_is in
        let here : IsTold id ((sector + done) / g.block_sectors) volumes marks (slice_index_or homes index None) =
        subst (λ b. IsTold id b volumes marks (slice_index_or homes index None)) w.1 (told index w.0) in
        record {
          has = old_is_slot id ((sector + done) / g.block_sectors) volumes marks (slice_index_or homes index None) here;
          run = λ place own b t.
              let low = from_first g pos (sector + done) n b t in
              let high = up_to_last g pos (sector + done) n run b fits t in
              let j = b - (sector + done) / g.block_sectors in
              let small : j < run = omega (arith, low, high) in
              let there : (sector + done) / g.block_sectors + j ≡ b = omega (arith, low) in
              let home = slice_index_or homes (index + j) None in
              let its : IsTold id b volumes marks home = subst (λ k. IsTold id k volumes marks home) there (told_behind id j volumes marks told (omega (arith, small, most))) in
              let is = told_if_own home (place + j) (runs place own j small) in
              (sym (old_is_slot id b volumes marks home its) ∙ is.1, sym (taken_is g id b volumes marks within home its) ∙ is.0);
        }

    -- where the first one may not be written in place, none of them may
    pub all_taken_at : own_place (slice_index_or homes index None) ≡ None → ((j : ℕ) → j < run → own_place (slice_index_or homes (index + j) None) ≡ None) → (id : ℕ) (volumes : Volumes) (marks : List Bool) → IsWithin g volumes
        → AreTold id (sector / g.block_sectors) volumes marks (length homes) homes → (j : ℕ) → j < run → takes_block id volumes marks ((sector + done) / g.block_sectors + j) ≡ true
    all_taken_at none all id volumes marks within told j small =
        let home = slice_index_or homes (index + j) None in
        sym (taken_is g id ((sector + done) / g.block_sectors + j) volumes marks within home (told_behind id j volumes marks told (omega (arith, small, most)))) ∙ told_if_not_own home (all j small)

    -- the run lies in the data blocks
    pub run_fits : AreInside g.data_blocks (length homes) homes → (place : ℕ) → own_place (slice_index_or homes index None) ≡ Some place
        → place * g.block_sectors + (sector + done) % g.block_sectors + n ≤ g.data_blocks * g.block_sectors
    run_fits inside place own = olds_fit n run place some most fits (λ j small. (told_if_own (slice_index_or homes (index + j) None) (place + j) (runs place own j small)).1) inside

-- what was told of the blocks of a range is told by the number of these, of a pool that is shown as `held`
pub tested_by : {M : Type 0} (geometry : M → Geometry) (stands : M → DiskState → Contents → Contents → Type 0) (marks : M → List Bool) (was held : Held M) (shown : was ≡ held) (id sector count : ℕ) (homes : List (Option Home))
    → length homes ≡ blocks_touched (geometry held.metadata) sector count
    → ((now kept : Contents) → stands held.metadata held.disk now kept → AreTold id (sector / (geometry held.metadata).block_sectors) now.volumes (marks held.metadata) (length homes) homes)
    → (R : Contents → ℕ → Type 0)
    → ((now kept : Contents) → stands was.metadata was.disk now kept → AreTold id (sector / (geometry was.metadata).block_sectors) now.volumes (marks was.metadata) (length homes) homes → R now (length homes))
    → (now kept : Contents) → stands was.metadata was.disk now kept → R now (blocks_touched (geometry was.metadata) sector count)
tested_by {M} geometry stands marks was held shown id sector count homes long told R so now kept st =
    let here = subst (λ (h : Held M). (now kept : Contents) → stands h.metadata h.disk now kept → AreTold id (sector / (geometry h.metadata).block_sectors) now.volumes (marks h.metadata) (length homes) homes) (sym shown) told in
    let size : length homes ≡ blocks_touched (geometry was.metadata) sector count = subst (λ (h : Held M). length homes ≡ blocks_touched (geometry h.metadata) sector count) (sym shown) long in
    subst (λ n. R now n) size (so now kept st (here now kept st))

-- ---- after a commit

-- where a commit just was, the data blocks that are not in use are free
both_used : (a : Bool) → not (a || a) ≡ not a
both_used true = refl
both_used false = refl

pub free_all : (g : Geometry) (volumes : Volumes) → IsWithin g volumes → free_places g volumes volumes + used volumes ≡ g.data_blocks
free_all g volumes within =
    let n = g.data_blocks in
    let free : free_places g volumes volumes ≡ count_by (λ p. not (is_used p volumes)) (range_with_len 0 n) =
    counts_agree (λ p. not (is_used p volumes || is_used p volumes)) (λ p. not (is_used p volumes)) n (λ p l. both_used (is_used p volumes)) in
    let in_use : count_by (λ p. is_used p volumes) (range_with_len 0 n) ≡ used volumes = sym (below_counts n volumes) ∙ below_is_used g volumes within in
    let both = count_opposite (λ p. is_used p volumes) n in
    omega (arith, free, in_use, both)

-- and a block takes one where it wants one
unmarked : (n place : ℕ) → slice_index_or (replicate n false) place false ≡ false
unmarked zero place = refl
unmarked (suc n) zero = refl
unmarked (suc n) (suc place) = unmarked n place

or_false : (a b : Bool) → b ≡ false → (a || b) ≡ a
or_false true b e = refl
or_false false b e = e

pub block_takes_wanted : (id : ℕ) (volumes : Volumes) (marks : List Bool) (n : ℕ) → marks ≡ replicate n false → (block : ℕ) → takes_block id volumes marks block ≡ wants_block id volumes block
block_takes_wanted id volumes marks n none block = by (slot_of id block volumes)
  where
    by : (o : Option ℕ)
        → option_map_or (λ place. is_used_elsewhere id block place volumes || slice_index_or marks place false) o true ≡ option_map_or (λ place. is_used_elsewhere id block place volumes) o true
    by None = refl
    by (Some place) = or_false (is_used_elsewhere id block place volumes) (slice_index_or marks place false) (ap (λ (l : List Bool). slice_index_or l place false) none ∙ unmarked n place)

pub takes_wanted : (id : ℕ) (volumes : Volumes) (marks : List Bool) (n : ℕ) → marks ≡ replicate n false → (first many : ℕ) → blocks_taken id volumes marks first many ≡ blocks_wanted id volumes first many
takes_wanted id volumes marks n none first many =
    count_agree_from (takes_block id volumes marks) (wants_block id volumes) first many (λ block low high. block_takes_wanted id volumes marks n none block)

-- the same of what a request leaves with data blocks of their own
pub takes_wanted_by : (g : Geometry) (call : Call) (id : ℕ) (volumes : Volumes) (marks : List Bool) (n : ℕ) → marks ≡ replicate n false → (first many : ℕ)
    → blocks_taken_by g call id volumes marks first many ≡ blocks_wanted_by g call id volumes first many
takes_wanted_by g call id volumes marks n none first many =
    count_agree_from (λ block. owns_block g call id volumes block && takes_block id volumes marks block) (λ block. owns_block g call id volumes block && wants_block id volumes block) first many
    (λ block low high. ap (λ b. owns_block g call id volumes block && b) (block_takes_wanted id volumes marks n none block))
