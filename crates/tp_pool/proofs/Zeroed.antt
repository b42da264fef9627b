-- Zeros that are written to sectors of one block, where it is mapped.
use Rattle.std.proofs.Common.{◌≡◌, ◌⊎◌, inl, inr, ℕ, zero, suc, ◌+◌, ◌-◌, ◌*◌, ◌/◌, ◌%◌, ◌<◌, ◌≤◌, Bool, true, false, Option, None, Some, List, [], replicate, refl, sym, ◌∙◌, ap, subst, arith}
use Rattle.std.specs.Prelude.{nat_lt, slice_get, ◌&&◌, if◌then◌else◌}
use Rattle.std.specs.Option.{is_some}
use Rattle.std.proofs.Math.Nat.{mul-le-mul_right}
use Rattle.std.proofs.lemmas.Bool.{cases_lt, false≢true, lt-ltb}
use Rattle.std.proofs.lemmas.List.{length-replicate}
use Rattle.std.proofs.lemmas.Nat.{div-mul-add}
use Rattle.std.proofs.lemmas.Option.{none-some, same_Some}
use Rattle.tp_model.specs.Geometry.{Geometry}
use Rattle.tp_model.specs.Sectors.{Sector, zero_sector}
use Rattle.tp_model.specs.Calls.{Call, Keeps, Loses, Owns, SlotEffect, Write, WriteZeroes, covers, is_within, slot_effect, touches}
use Rattle.tp_model.specs.Disk.{DiskState, seen}
use Rattle.tp_model.specs.DiskStops.{LeavesOnly}
use Rattle.tp_sharing.specs.Volumes.{Volumes, slot_of}
use Rattle.tp_mapping.specs.Mapping.{IsWithin}
use Rattle.tp_stored.specs.Contents.{Contents}
use Rattle.tp_shown.specs.Shown.{EditsLists, GivesValue, ListedAfter, value_of}
use Rattle.tp_meta.specs.Metadata.{IsInside, IsTold}
use Rattle.tp_meta.specs.declared.metadata.Home.{Home}
use Rattle.tp_pool.specs.Writing.{HasWrittenPart, IsHalf, IsHalfWritten, IsKnown, old_place, own_place, takes_block, told_taken}
use Rattle.tp_pool.specs.Zeroing.{HasZeroed, IsBeside, edge_takes, zeroes_take}
use Rattle.tp_pool.proofs.Blanking.{sector_alike}
use Rattle.tp_pool.proofs.Composing.{edits_alike}
use Rattle.tp_pool.proofs.Edges.{cover_is, never, touch_by, touch_is, within_by, within_is}
use Rattle.tp_pool.proofs.Following.{from_first, up_to_last}
use Rattle.tp_pool.proofs.Halves.{given_as, half_as}
use Rattle.tp_pool.proofs.Rooms.{taken_is}
use Rattle.tp_pool.proofs.Taken.{old_is_slot, told_if_own}

-- what stands in a list of zeros
in_zeros : (n j : ℕ) (x : Sector) → slice_get (replicate n zero_sector) j ≡ Some x → (j < n) × (x ≡ zero_sector)
in_zeros zero j x e = absurd (none-some x e)
in_zeros (suc n) zero x e = (omega arith, sym (same_Some zero_sector x e))
in_zeros (suc n) (suc j) x e = let w = in_zeros n j x e in (omega (arith, w.0), w.1)

-- a home that is there has a data block
pub there_of : (home : Option Home) → is_some home ≡ true → (o : Option ℕ) → old_place home ≡ o → is_some o ≡ true
there_of None e o is = absurd (false≢true e)
there_of (Some h) e o is = sym (ap is_some is)

pub taken_of : (home : Option Home) (count : ℕ) → is_some home ≡ true → 0 < count → told_taken home ≡ edge_takes count home
taken_of None count e some = absurd (false≢true e)
taken_of (Some h) count e some = sym (ap (λ b. b && zeroes_take (Some h)) (lt-ltb 0 count some))

pub no_home : (home : Option Home) → is_some home ≡ false → old_place home ≡ None
no_home None e = refl
no_home (Some h) e = absurd (false≢true (sym e))

-- sectors of a block that is written in place lie in the data blocks
pub edge_inside : (g : Geometry) (home : Option Home) (place from count : ℕ) → own_place home ≡ Some place → IsInside g.data_blocks home → from + count ≤ g.block_sectors
    → place * g.block_sectors + from + count ≤ g.data_blocks * g.block_sectors
edge_inside g None place from count own inside fits = absurd (none-some place own)
edge_inside g (Some h) place from count own inside fits =
    let is = same_Some h.place place (told_if_own (Some h) place own).1 in
    let up : (place + 1) * g.block_sectors ≤ g.data_blocks * g.block_sectors = mul-le-mul_right g.block_sectors (omega (arith, inside, is)) in
    let more : (place + 1) * g.block_sectors ≡ place * g.block_sectors + g.block_sectors = omega arith in
    omega (arith, up, more, fits)

-- where there is no home, or there are no sectors, zeros take no data block
pub takes_none : (home : Option Home) (count : ℕ) → (count ≡ 0) ⊎ (is_some home ≡ false) → edge_takes count home ≡ false
takes_none home count (inl none) = ap (λ n. nat_lt 0 n && zeroes_take home) none
takes_none None count (inr e) = by (nat_lt 0 count)
  where
    by : (b : Bool) → (b && false) ≡ false
    by true = refl
    by false = refl
takes_none (Some h) count (inr e) = absurd (false≢true (sym e))

-- a range of sectors of one block
module _ (g : Geometry) (pos : 0 < g.block_sectors) (id sector count : ℕ) (fits : sector % g.block_sectors + count ≤ g.block_sectors) where
  abbrev at : ℕ
  at = sector / g.block_sectors

  abbrev zeroed : Call
  zeroed = WriteZeroes id sector count false false

  pub touched_here : (b : ℕ) → touches g sector count b ≡ true → b ≡ at
  touched_here b t =
      let low = from_first g pos sector count b t in
      let one : sector % g.block_sectors + count ≤ 1 * g.block_sectors = omega (arith, fits) in
      let high = up_to_last g pos sector count 1 b one t in
      omega (arith, low, high)

  pub not_touched : (b : ℕ) → IsBeside at count b → touches g sector count b ≡ false
  not_touched b (inl none) = never (touches g sector count b) (λ t. let w = touch_is g pos b sector count t in absurd (omega (arith, w.0, none)))
  not_touched b (inr n) = never (touches g sector count b) (λ t. n (touched_here b t))

  -- what is known of it, by what was told of its block
  pub edge_known : (volumes : Volumes) (marks : List Bool) (home : Option Home) → IsWithin g volumes → IsTold id at volumes marks home → IsKnown g id sector count volumes marks home
  edge_known volumes marks home within told = record {
    has = old_is_slot id at volumes marks home told;
    run = λ place own b t.
        let here = touched_here b t in
        let is = told_if_own home place own in
        let none : place ≡ place + (b - at) = omega (arith, here) in (
          ap (λ k. slot_of id k volumes) here ∙ (sym (old_is_slot id at volumes marks home told) ∙ (is.1 ∙ ap Some none)),
          ap (λ k. takes_block id volumes marks k) here ∙ (sym (taken_is g id at volumes marks within home told) ∙ is.0),
        );
  }

  -- not a whole block
  module _ (small : count < g.block_sectors) where
    pub uncovered : (b : ℕ) → covers g sector count b ≡ false
    uncovered b = never (covers g sector count b) (λ e. let w = cover_is g pos b sector count e in absurd (omega (arith, w.0, w.1, small)))

    module _ (volumes : Volumes) where
      abbrev Effect : ℕ → SlotEffect
      Effect b = slot_effect g zeroed b (slot_of id b volumes)

      effect_apart : (b : ℕ) → touches g sector count b ≡ false → Effect b ≡ Keeps
      effect_apart b t = (λ i. if uncovered b i then Loses else (if t i && is_some (slot_of id b volumes) then Owns else Keeps))

      pub effect_here : (b : ℕ) → touches g sector count b ≡ true → is_some (slot_of id at volumes) ≡ true → Effect b ≡ Owns
      effect_here b t there =
          let here : is_some (slot_of id b volumes) ≡ true = ap (λ k. is_some (slot_of id k volumes)) (touched_here b t) ∙ there in
          (λ i. if uncovered b i then Loses else (if t i && here i then Owns else Keeps))

      -- ---- where it is not mapped, or there is no sector

      module _ (none : (count ≡ 0) ⊎ (slot_of id at volumes ≡ None)) where
        idle_by : (b : ℕ) (t : Bool) → touches g sector count b ≡ t → Effect b ≡ Keeps
        idle_by b false e = effect_apart b e
        idle_by b true e = elim none [
          | inl blank ↦ let w = touch_is g pos b sector count e in absurd (omega (arith, w.0, blank))
          | inr no_slot ↦
              let here : slot_of id b volumes ≡ None = ap (λ k. slot_of id k volumes) (touched_here b e) ∙ no_slot in
              (λ i. if uncovered b i then Loses else (if e i && is_some (here i) then Owns else Keeps))
        ]

        pub idle_effect : (b : ℕ) → Effect b ≡ Keeps
        idle_effect b = idle_by b (touches g sector count b) refl

        apart : (b place offset : ℕ) → slot_of id b volumes ≡ Some place → offset < g.block_sectors → is_within sector count (b * g.block_sectors + offset) ≡ true → ⊥
        apart b place offset is less e =
            let w = within_is g pos b sector count (b * g.block_sectors + offset) e in
            let some : 0 < count = omega (arith, w.0, w.1) in
            let t = touch_by g pos b sector count some (omega (arith, w.0, less)) (omega (arith, w.1)) in
            elim none [
              | inl blank ↦ absurd (omega (arith, some, blank))
              | inr no_slot ↦ absurd (none-some place (sym (ap (λ k. slot_of id k volumes) (touched_here b t) ∙ no_slot) ∙ is))
            ]

        pub edits_idle : (image : List Sector) → EditsLists g zeroed id volumes volumes image image
        edits_idle image = record {
          devices = λ i s. s;
          still = λ i s. s;
          sizes = λ i. refl;
          others = λ i b n. refl;
          slots = λ b. subst (λ f. ListedAfter f id b volumes volumes) (sym (idle_effect b)) refl;
          other_data = λ i b place offset n was less. refl;
          own_data = λ b place offset is less.
              let k = b * g.block_sectors + offset in
              let w = never (is_within sector count k) (apart b place offset is less) in
              ap (λ o. value_of g image o offset) (sym is) ∙ sym (λ i. if w i then zero_sector else value_of g image (slot_of id b volumes) offset);
        }

    -- ---- what is done

    module _ {M : Type 0} (geometry : M → Geometry) (stands : M → DiskState → Contents → Contents → Type 0) (marks : M → List Bool) (now kept : Contents) where
      pub zeroed_nothing : (before : M) (old : DiskState) → geometry before ≡ g → stands before old now kept → (count ≡ 0) ⊎ (slot_of id at now.volumes ≡ None)
          → HasZeroed geometry stands marks id at sector count false before before old old now kept
      zeroed_nothing before old same st none = record {
        cleared = record {
          volumes = now.volumes;
          meta_used = now.meta_used;
          standing = st;
          edits = subst (λ (x : Geometry). EditsLists x zeroed id now.volumes now.volumes (seen old.cells) (seen old.cells)) (sym same) (edits_idle now.volumes none (seen old.cells));
          untouched = λ all. refl;
        };
        others = λ other n. refl;
        takes = λ other n t. t;
        free = omega arith;
      }

      module _ (some : 0 < count) (there : is_some (slot_of id at now.volumes) ≡ true) where
        effect_by : (b : ℕ) (t : Bool) → touches g sector count b ≡ t → slot_effect g (Write id sector (replicate count zero_sector) false) b (slot_of id b now.volumes) ≡ Effect now.volumes b
        effect_by b t e =
            let long = length-replicate count zero_sector in
            (λ i. if touches g sector (long i) b then Owns else Keeps) ∙ both t e
          where
            both : (t : Bool) → touches g sector count b ≡ t → (if touches g sector count b then Owns else Keeps) ≡ Effect now.volumes b
            both true f = (λ i. if f i then Owns else Keeps) ∙ sym (effect_here now.volumes b f there)
            both false f = (λ i. if f i then Owns else Keeps) ∙ sym (effect_apart now.volumes b f)

        pub zeroed_written : (before after : M) (old new : DiskState) (taken mine : Bool) (xs : List Sector) → geometry before ≡ g → xs ≡ replicate count zero_sector → taken ≡ mine
            → HasWrittenPart geometry stands marks id at 1 sector xs taken before after old new now kept
            → HasZeroed geometry stands marks id at sector count mine before after old new now kept
        zeroed_written before after old new taken mine xs same is takes_is was =
            let w : HasWrittenPart geometry stands marks id at 1 sector (replicate count zero_sector) mine before after old new now kept =
            subst (λ (b : Bool). HasWrittenPart geometry stands marks id at 1 sector (replicate count zero_sector) b before after old new now kept) takes_is
            (subst (λ (l : List Sector). HasWrittenPart geometry stands marks id at 1 sector l taken before after old new now kept) is was) in
            let over = subst (λ (x : Geometry). EditsLists x (Write id sector (replicate count zero_sector) false) id now.volumes w.volumes (seen old.cells) (seen new.cells)) same w.overwrites in
            let edits = edits_alike g (Write id sector (replicate count zero_sector) false) zeroed id now.volumes w.volumes (seen old.cells) (seen new.cells)
            (λ b. effect_by b (touches g sector count b) refl) (sector_alike id sector count false g) over in
            record {
              cleared = record {
                volumes = w.volumes;
                meta_used = w.meta_used;
                standing = w.standing;
                edits = subst (λ (x : Geometry). EditsLists x zeroed id now.volumes w.volumes (seen old.cells) (seen new.cells)) (sym same) edits;
                untouched = λ all. (w.in_place (all at)).1;
              };
              others = λ other n. subst (λ f. ListedAfter f id other now.volumes w.volumes) (effect_apart now.volumes other (not_touched other n)) (edits.slots other);
              takes = λ other n t. elim n [
                | inl none ↦ absurd (omega (arith, none, some))
                | inr far ↦ w.others other (elim (cases_lt other at) [ inl below ↦ inl below | inr past ↦ inr (omega (arith, past, far)) ]) t
              ];
              free = w.free;
            }

-- ---- while they are written

-- zeros that are written are zeros that a request of zeros gives, where it leaves the block with a data block
pub zeros_given : (g : Geometry) (pos : 0 < g.block_sectors) (id sector count : ℕ) (no_hole : Bool) (volumes : Volumes) (block offset : ℕ) (x : Sector) → offset < g.block_sectors
    → (touches g sector count block ≡ true → slot_effect g (WriteZeroes id sector count no_hole false) block (slot_of id block volumes) ≡ Owns)
    → GivesValue g (Write id sector (replicate count zero_sector) false) id [] (block * g.block_sectors + offset) x
    → GivesValue g (WriteZeroes id sector count no_hole false) id volumes (block * g.block_sectors + offset) x
zeros_given g pos id sector count no_hole volumes block offset x less owns v =
    let k = block * g.block_sectors + offset in
    let w = in_zeros count (k - sector) x v.1 in
    let low : sector ≤ k = v.0 in
    let high : k < sector + count = omega (arith, low, w.0) in
    let t = touch_by g pos block sector count (omega (arith, w.0)) (omega (arith, low, less)) (omega (arith, high)) in
    let here : k / g.block_sectors ≡ block = div-mul-add block g.block_sectors offset less in (
      within_by g pos block sector count k low high,
      w.1,
      subst (λ b. slot_effect g (WriteZeroes id sector count no_hole false) b (slot_of id b volumes) ≡ Owns) (sym here) (owns t),
    )

pub zeroes_left : (g : Geometry) (pos : 0 < g.block_sectors) (id sector count : ℕ) (no_hole : Bool) (volumes : Volumes) (kept : Contents) (xs : List Sector) → xs ≡ replicate count zero_sector
    → ((block : ℕ) → touches g sector count block ≡ true → slot_effect g (WriteZeroes id sector count no_hole false) block (slot_of id block volumes) ≡ Owns)
    → (a b : DiskState) → LeavesOnly a b (IsHalfWritten g id sector xs kept a.cells) → LeavesOnly a b (IsHalf g (WriteZeroes id sector count no_hole false) id volumes kept a.cells)
zeroes_left g pos id sector count no_hole volumes kept xs is owns a b r =
    half_as g (Write id sector (replicate count zero_sector) false) (WriteZeroes id sector count no_hole false) id [] volumes kept
    (given_as g (Write id sector (replicate count zero_sector) false) (WriteZeroes id sector count no_hole false) id [] volumes kept.volumes
    (λ block offset x less v. zeros_given g pos id sector count no_hole volumes block offset x less (owns block) v)) a b
    (subst (λ (l : List Sector). LeavesOnly a b (IsHalfWritten g id sector l kept a.cells)) is r)
