-- Sectors of a volume that are overwritten: in place, in a new data block, and part after part.
use Rattle.std.proofs.Common.{◌≡◌, ◌≢◌, ◌⊎◌, inl, inr, ℕ, ◌+◌, ◌-◌, ◌*◌, ◌/◌, ◌%◌, ◌<◌, ◌≤◌, Bool, false, true, cond, Option, None, Some, List, [], ◌∷◌, ◌++◌, length, refl, sym, ◌∙◌, ap, arith, length-append}
use Rattle.std.specs.Prelude.{IsTrue, nat_le, nat_lt, slice_index_or}
use Rattle.std.specs.Option.{IsSome}
use Rattle.std.proofs.lemmas.Bool.{and_from, and_parts, cases_Bool, cases_lt, false≢true, le-leb, leb-true, lt-ltb, ltb-true}
use Rattle.std.proofs.lemmas.Nat.{div-add-mod', div-mul-add}
use Rattle.std.proofs.lemmas.List.{get_or-append_right, get_or-drop, get_or-replicate, get_or-take, get_or_append_left, get_or_default}
use Rattle.std.proofs.lemmas.Option.{same_Some}
use Rattle.tp_model.specs.Geometry.{Geometry, data_sector}
use Rattle.tp_model.specs.Sectors.{Sector, overlaid, sector_at, zero_sector}
use Rattle.tp_model.specs.Calls.{is_within, touches}
use Rattle.tp_model.proofs.DiskLaws.{length-overlaid, sector_at-overlaid, sector_at-overlaid_above, sector_at-overlaid_below}
use Rattle.tp_model.proofs.Editing.{touched}
use Rattle.tp_sharing.specs.Volumes.{OtherSlot, Unused, Volumes, device_of, slot_of, size_of}
use Rattle.tp_blocks.specs.Filled.{base_of}
use Rattle.tp_stored.specs.Contents.{SameData}
use Rattle.tp_shown.specs.Shown.{Overwrites, value_of}
use Rattle.tp_shown.proofs.Blocks.{first_is_touched}
use Rattle.tp_shown.proofs.Overwritten.{overwrites_by, written_at}
use Rattle.tp_shown.proofs.Values.{one_place}

abbrev Image : Type 0
Image = List Sector

-- ---- a sector that is written over

module _ (sector : ℕ) (sectors : List Sector) (k : ℕ) (old : Sector) where
  written_if : (b : Bool) → is_within sector (length sectors) k ≡ b → written_at sector sectors k old ≡ cond b (slice_index_or sectors (k - sector) old) old
  written_if b e = ap (λ t. cond t (slice_index_or sectors (k - sector) old) old) e

  pub written_inside : sector ≤ k → k < sector + length sectors → written_at sector sectors k old ≡ slice_index_or sectors (k - sector) old
  written_inside low high = written_if true (and_from _ _ (le-leb sector k low) (lt-ltb k (sector + length sectors) high))

  pub written_not : (is_within sector (length sectors) k ≡ true → ⊥) → written_at sector sectors k old ≡ old
  written_not none = elim (cases_Bool (is_within sector (length sectors) k)) [
    | inl t ↦ absurd (none t)
    | inr f ↦ written_if false f
  ]

  pub written_below : k < sector → written_at sector sectors k old ≡ old
  written_below lt = written_not (λ t. let low : sector ≤ k = leb-true sector k (and_parts (nat_le sector k) (nat_lt k (sector + length sectors)) t).0 in absurd (omega (arith, low, lt)))

  pub written_above : sector + length sectors ≤ k → written_at sector sectors k old ≡ old
  written_above le = written_not (λ t. let high : k < sector + length sectors = ltb-true k (sector + length sectors) (and_parts (nat_le sector k) (nat_lt k (sector + length sectors)) t).1 in absurd (omega (arith, high, le)))

-- one part after another
pub written_twice : (sector : ℕ) (xs ys : List Sector) (k : ℕ) (old : Sector) → written_at (sector + length xs) ys k (written_at sector xs k old) ≡ written_at sector (xs ++ ys) k old
written_twice sector xs ys k old =
    let n = length xs in
    let m = length ys in
    let long : length (xs ++ ys) ≡ n + m = length-append xs ys in
    let first = written_at sector xs k old in
    elim (cases_lt k sector) [
      | inl lt ↦ written_below (sector + n) ys k first (omega (arith, lt)) ∙ (written_below sector xs k old lt ∙ sym (written_below sector (xs ++ ys) k old lt))
      | inr ge ↦ elim (cases_lt k (sector + n)) [
        | inl lt ↦
            let small : k - sector < n = omega (arith, ge, lt) in
            written_below (sector + n) ys k first lt
            ∙ (written_inside sector xs k old ge lt
            ∙ (sym (get_or_append_left xs ys old (k - sector) small) ∙ sym (written_inside sector (xs ++ ys) k old ge (omega (arith, lt, long)))))
        | inr past ↦ elim (cases_lt k (sector + n + m)) [
          | inl lt ↦
              let e : k - (sector + n) ≡ k - sector - n = omega arith in
              let same : first ≡ old = written_above sector xs k old past in
              written_inside (sector + n) ys k first past lt
              ∙ ((λ i. slice_index_or ys (e i) (same i))
              ∙ (sym (get_or-append_right xs ys n (k - sector) old refl (omega (arith, past))) ∙ sym (written_inside sector (xs ++ ys) k old ge (omega (arith, lt, long)))))
          | inr end ↦
              written_above (sector + n) ys k first end
              ∙ (written_above sector xs k old past ∙ sym (written_above sector (xs ++ ys) k old (omega (arith, end, long))))
        ]
      ]
    ]

-- sector k of a volume stands at place j of an image, and the first one that is written at place `at`
pub overlaid_is_written : (at sector j k : ℕ) (sectors : List Sector) (image : Image) → k + at ≡ j + sector → j < length image → sector_at (overlaid at sectors image) j ≡ written_at sector sectors k (sector_at image j)
overlaid_is_written at sector j k sectors image e long =
    elim (cases_lt k sector) [
      | inl lt ↦ sector_at-overlaid_below at sectors image j (omega (arith, e, lt)) ∙ sym (written_below sector sectors k (sector_at image j) lt)
      | inr ge ↦ elim (cases_lt k (sector + length sectors)) [
        | inl lt ↦
            let small : k - sector < length sectors = omega (arith, ge, lt) in
            let there : j ≡ at + (k - sector) = omega (arith, e, ge) in
            sector_at-overlaid at sectors image (k - sector) j there small long
            ∙ (get_or_default sectors (k - sector) [] (sector_at image j) small ∙ sym (written_inside sector sectors k (sector_at image j) ge lt))
        | inr past ↦ sector_at-overlaid_above at sectors image j (omega (arith, e, past)) ∙ sym (written_above sector sectors k (sector_at image j) past)
      ]
    ]

-- ---- one block

module _ (g : Geometry) (sector n : ℕ) (some : 0 < n) (fits : sector % g.block_sectors + n ≤ g.block_sectors) where
  pos : 0 < g.block_sectors
  pos = omega (arith, some, fits)

  -- a range within one block touches this one alone
  pub only_block : (block : ℕ) → touches g sector n block ≡ true → block ≡ sector / g.block_sectors
  only_block block t =
      let w = touched g sector n block pos t in
      let parts = and_parts _ _ w.1 in
      let low = leb-true sector w.0 parts.0 in
      let high = ltb-true w.0 (sector + n) parts.1 in
      let start : sector / g.block_sectors * g.block_sectors + sector % g.block_sectors ≡ sector = div-add-mod' sector g.block_sectors in
      let r = sector % g.block_sectors + (w.0 - sector) in
      let small : r < g.block_sectors = omega (arith, high, low, fits) in
      let e : w.0 ≡ sector / g.block_sectors * g.block_sectors + r = omega (arith, low, start) in
      sym w.2 ∙ (ap (λ k. k / g.block_sectors) e ∙ div-mul-add (sector / g.block_sectors) g.block_sectors r small)

  pub this_block : touches g sector n (sector / g.block_sectors) ≡ true
  this_block = first_is_touched g sector n pos some

-- a data block's sectors lie apart from those of another one
pub apart : (g : Geometry) (p q offset : ℕ) → offset < g.block_sectors → p ≢ q → (data_sector g p + offset < data_sector g q) ⊎ (data_sector g q + g.block_sectors ≤ data_sector g p + offset)
apart g p q offset small other = elim (cases_lt (data_sector g p + offset) (data_sector g q)) [
  | inl lt ↦ inl lt
  | inr ge ↦ elim (cases_lt (data_sector g p + offset) (data_sector g q + g.block_sectors)) [
    | inl lt ↦
        let r = data_sector g p + offset - data_sector g q in
        let inside : r < g.block_sectors = omega (arith, ge, lt) in
        let same : p * g.block_sectors + offset ≡ q * g.block_sectors + r = omega (arith, ge) in
        absurd (other (one_place g.block_sectors p q offset r small inside same).0)
    | inr past ↦ inr past
  ]
]

-- ---- nothing is written

pub overwrites_none : (g : Geometry) (id sector : ℕ) (sectors : List Sector) (now : Volumes) (image : Image) → length sectors ≡ 0 → Overwrites g id sector sectors now now image image
overwrites_none g id sector [] now image none =
    overwrites_by g id sector [] now now image image (record {
      devices = λ i s. s;
      still = λ i s. s;
      sizes = λ i. refl;
      others = λ i block n. refl;
      own = λ block t. absurd (false≢true t);
      other_data = λ i block place offset n e small. refl;
      own_data = λ block place offset t e small. absurd (false≢true t);
    })
overwrites_none g id sector (x ∷ sectors) now image none = absurd (omega (arith, none))

-- ---- in a new data block

module _ (g : Geometry) (id sector : ℕ) (sectors : List Sector) (now after : Volumes) (place : ℕ) (unused : Unused place now) (some : 0 < length sectors)
    (fits : sector % g.block_sectors + length sectors ≤ g.block_sectors) (devices : (i : ℕ) → IsSome (device_of i after) → IsSome (device_of i now))
    (still : (i : ℕ) → IsSome (device_of i now) → IsSome (device_of i after)) (sizes : (i : ℕ) → size_of i after ≡ size_of i now) (here : slot_of id (sector / g.block_sectors) after ≡ Some place)
    (others : (i b : ℕ) → (((i ≡ id) × (b ≡ sector / g.block_sectors)) → ⊥) → slot_of i b after ≡ slot_of i b now)
    (image mid : Image) (same : SameData g image mid) (values : List Sector) (whole : length values ≡ g.block_sectors)
    (are : values ≡ overlaid (sector % g.block_sectors) sectors (base_of g mid (slot_of id (sector / g.block_sectors) now)))
    (long : data_sector g place + g.block_sectors ≤ length mid) where
  abbrev new_block : ℕ
  new_block = sector / g.block_sectors

  abbrev left : Image
  left = overlaid (data_sector g place) values mid

  untouched : (i b : ℕ) → (((i ≡ id) × IsTrue (touches g sector (length sectors) b)) → ⊥) → ((i ≡ id) × (b ≡ new_block)) → ⊥
  untouched i b none q = none (q.0, ap (touches g sector (length sectors)) q.1 ∙ this_block g sector (length sectors) some fits)

  new_other_data : (i b p offset : ℕ) → slot_of i b now ≡ Some p → offset < g.block_sectors → sector_at left (data_sector g p + offset) ≡ sector_at image (data_sector g p + offset)
  new_other_data i b p offset e small =
      let stays : sector_at mid (data_sector g p + offset) ≡ sector_at image (data_sector g p + offset) = same.same (data_sector g p + offset) (omega arith) in
      elim (apart g p place offset small (λ q. unused i b (e ∙ ap Some q))) [
        | inl lt ↦ sector_at-overlaid_below (data_sector g place) values mid (data_sector g p + offset) lt ∙ stays
        | inr past ↦ sector_at-overlaid_above (data_sector g place) values mid (data_sector g p + offset) (omega (arith, past, whole)) ∙ stays
      ]

  -- what stood there before
  base_value : (o : Option ℕ) (offset : ℕ) → offset < g.block_sectors → sector_at (base_of g mid o) offset ≡ value_of g image o offset
  base_value None offset small = get_or-replicate {A = Sector} g.block_sectors offset zero_sector [] small
  base_value (Some p) offset small =
      get_or-take g.block_sectors _ offset [] small ∙ (get_or-drop (data_sector g p) mid offset [] ∙ same.same (data_sector g p + offset) (omega arith))

  new_value : (offset : ℕ) → offset < g.block_sectors → sector_at values offset ≡ written_at sector sectors (new_block * g.block_sectors + offset) (value_of g image (slot_of id new_block now) offset)
  new_value offset small =
      let base = base_of g mid (slot_of id new_block now) in
      let start : new_block * g.block_sectors + sector % g.block_sectors ≡ sector = div-add-mod' sector g.block_sectors in
      let size : length base ≡ g.block_sectors = sym (length-overlaid (sector % g.block_sectors) sectors base) ∙ (ap length (sym are) ∙ whole) in
      ap (λ l. sector_at l offset) are
      ∙ (overlaid_is_written (sector % g.block_sectors) sector offset (new_block * g.block_sectors + offset) sectors base (omega (arith, start)) (omega (arith, small, size))
      ∙ ap (written_at sector sectors (new_block * g.block_sectors + offset)) (base_value (slot_of id new_block now) offset small))

  new_own_data : (b p offset : ℕ) → IsTrue (touches g sector (length sectors) b) → slot_of id b after ≡ Some p → offset < g.block_sectors
      → sector_at left (data_sector g p + offset) ≡ written_at sector sectors (b * g.block_sectors + offset) (value_of g image (slot_of id b now) offset)
  new_own_data b p offset t e small =
      let this : b ≡ new_block = only_block g sector (length sectors) some fits b t in
      let is : p ≡ place = same_Some p place (sym e ∙ (ap (λ c. slot_of id c after) this ∙ here)) in
      let inside : data_sector g place + offset < length mid = omega (arith, long, small) in
      ap (λ q. sector_at left (data_sector g q + offset)) is
      ∙ (sector_at-overlaid (data_sector g place) values mid offset (data_sector g place + offset) refl (omega (arith, small, whole)) inside
      ∙ (new_value offset small ∙ ap (λ c. written_at sector sectors (c * g.block_sectors + offset) (value_of g image (slot_of id c now) offset)) (sym this)))

  -- no other slot has the new data block
  new_alone : OtherSlot id new_block place after → ⊥
  new_alone o = unused o.0 o.1 (sym (others o.0 o.1 o.3) ∙ o.2)

  pub overwrites_new : Overwrites g id sector sectors now after image left
  overwrites_new = overwrites_by g id sector sectors now after image left (record {
    devices = devices;
    still = still;
    sizes = sizes;
    others = λ i b n. others i b (untouched i b n);
    own = λ b t.
        let this : b ≡ new_block = only_block g sector (length sectors) some fits b t in
        (place, ap (λ c. slot_of id c after) this ∙ here, λ o. new_alone (o.0, o.1, o.2, λ q. o.3 (q.0, q.1 ∙ sym this)));
    other_data = λ i b p offset n e small. new_other_data i b p offset e small;
    own_data = new_own_data;
  })
