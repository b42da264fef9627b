-- A write, by the blocks that it touches.
use Rattle.std.proofs.Common.{◌≡◌, ◌≢◌, ◌⊎◌, inl, inr, ℕ, ◌+◌, ◌-◌, ◌*◌, ◌<◌, Bool, true, false, cond, List, Some, length, refl, sym, ◌∙◌, ap, subst, arith}
use Rattle.std.specs.Prelude.{IsTrue, slice_index_or, if◌then◌else◌}
use Rattle.std.specs.Option.{IsSome}
use Rattle.std.proofs.lemmas.Bool.{cases_eq, true≢false}
use Rattle.std.proofs.lemmas.Nat.{div-mul-add}
use Rattle.tp_model.specs.Geometry.{Geometry, data_sector}
use Rattle.tp_model.specs.Sectors.{Sector, sector_at}
use Rattle.tp_model.specs.Calls.{Keeps, Owns, is_within, touches}
use Rattle.tp_model.proofs.Editing.{not_touched}
use Rattle.tp_sharing.specs.Volumes.{OtherSlot, Volumes, device_of, size_of, slot_of}
use Rattle.tp_shown.specs.Shown.{ListedAfter, Overwrites, value_of}

-- what a write of these sectors gives sector k of its volume
abbrev pub written_at : ℕ → List Sector → ℕ → Sector → Sector
written_at sector sectors k old = if is_within sector (length sectors) k then slice_index_or sectors (k - sector) old else old

-- Each block that the sectors touch has a data block that no other slot has, with them over what the volume had there. All other
-- slots, and what stands at their data blocks, are as they were.
pub record Overwritten (g : Geometry) (id sector : ℕ) (sectors : List Sector) (now after : Volumes) (image seen : List Sector) : Type 0 where
  pub devices : (i : ℕ) → IsSome (device_of i after) → IsSome (device_of i now)
  pub still : (i : ℕ) → IsSome (device_of i now) → IsSome (device_of i after)
  pub sizes : (i : ℕ) → size_of i after ≡ size_of i now
  pub others : (i block : ℕ) → (((i ≡ id) × IsTrue (touches g sector (length sectors) block)) → ⊥) → slot_of i block after ≡ slot_of i block now
  pub own : (block : ℕ) → IsTrue (touches g sector (length sectors) block) → (place : ℕ) × (slot_of id block after ≡ Some place) × (OtherSlot id block place after → ⊥)
  pub other_data : (i block place offset : ℕ) → (((i ≡ id) × IsTrue (touches g sector (length sectors) block)) → ⊥) → slot_of i block now ≡ Some place → offset < g.block_sectors
      → sector_at seen (data_sector g place + offset) ≡ sector_at image (data_sector g place + offset)
  pub own_data : (block place offset : ℕ) → IsTrue (touches g sector (length sectors) block) → slot_of id block after ≡ Some place → offset < g.block_sectors
      → sector_at seen (data_sector g place + offset)
      ≡ written_at sector sectors (block * g.block_sectors + offset) (value_of g image (slot_of id block now) offset)

module _ (g : Geometry) (id sector : ℕ) (sectors : List Sector) (now after : Volumes) (image seen : List Sector) where
  abbrev is_touched : ℕ → Bool
  is_touched block = touches g sector (length sectors) block

  -- a block that is not touched keeps its sectors
  stays : (block offset : ℕ) (old : Sector) → offset < g.block_sectors → is_touched block ≡ false → written_at sector sectors (block * g.block_sectors + offset) old ≡ old
  stays block offset old small f =
      let k = block * g.block_sectors + offset in
      let none = not_touched g sector (length sectors) k (omega (arith, small)) (ap (touches g sector (length sectors)) (div-mul-add block g.block_sectors offset small) ∙ f) in
      ap (λ b. cond b (slice_index_or sectors (k - sector) old) old) none

  none_by : (i block : ℕ) → is_touched block ≡ false → ((i ≡ id) × IsTrue (is_touched block)) → ⊥
  none_by i block f q = true≢false (sym q.1 ∙ f)

  module _ (w : Overwrites g id sector sectors now after image seen) where
    kept_slot : (block : ℕ) → is_touched block ≡ false → slot_of id block after ≡ slot_of id block now
    kept_slot block f = subst (λ (t : Bool). ListedAfter (cond t Owns Keeps) id block now after) f (w.slots block)

    others_by : (i block : ℕ) → (((i ≡ id) × IsTrue (is_touched block)) → ⊥) → (i ≡ id) ⊎ (i ≢ id) → (t : Bool) → is_touched block ≡ t → slot_of i block after ≡ slot_of i block now
    others_by i block n (inr apart) t e = w.others i block apart
    others_by i block n (inl same) true e = absurd (n (same, e))
    others_by i block n (inl same) false e = subst (λ j. slot_of j block after ≡ slot_of j block now) (sym same) (kept_slot block e)

    data_by : (i block place offset : ℕ) → (((i ≡ id) × IsTrue (is_touched block)) → ⊥) → slot_of i block now ≡ Some place → offset < g.block_sectors → (i ≡ id) ⊎ (i ≢ id) → (t : Bool) → is_touched block ≡ t
        → sector_at seen (data_sector g place + offset) ≡ sector_at image (data_sector g place + offset)
    data_by i block place offset n was small (inr apart) t e = w.other_data i block place offset apart was small
    data_by i block place offset n was small (inl same) true e = absurd (n (same, e))
    data_by i block place offset n was small (inl same) false e =
        let here : slot_of id block now ≡ Some place = ap (λ j. slot_of j block now) (sym same) ∙ was in
        w.own_data block place offset (kept_slot block e ∙ here) small
        ∙ (stays block offset (value_of g image (slot_of id block now) offset) small e ∙ ap (λ o. value_of g image o offset) here)

    pub by_blocks : Overwritten g id sector sectors now after image seen
    by_blocks = record {
      devices = w.devices;
      still = w.still;
      sizes = w.sizes;
      others = λ i block n. others_by i block n (cases_eq i id) (is_touched block) refl;
      own = λ block t. subst (λ (t : Bool). ListedAfter (cond t Owns Keeps) id block now after) t (w.slots block);
      other_data = λ i block place offset n was small. data_by i block place offset n was small (cases_eq i id) (is_touched block) refl;
      own_data = λ block place offset t e small. w.own_data block place offset e small;
    }

  module _ (w : Overwritten g id sector sectors now after image seen) where
    slot_by : (block : ℕ) (t : Bool) → is_touched block ≡ t → ListedAfter (cond t Owns Keeps) id block now after
    slot_by block true e = w.own block e
    slot_by block false e = w.others id block (none_by id block e)

    sector_by : (block place offset : ℕ) → slot_of id block after ≡ Some place → offset < g.block_sectors → (t : Bool) → is_touched block ≡ t
        → sector_at seen (data_sector g place + offset) ≡ written_at sector sectors (block * g.block_sectors + offset) (value_of g image (slot_of id block now) offset)
    sector_by block place offset is small true e = w.own_data block place offset e is small
    sector_by block place offset is small false e =
        let was : slot_of id block now ≡ Some place = sym (w.others id block (none_by id block e)) ∙ is in
        w.other_data id block place offset (none_by id block e) was small
        ∙ (ap (λ o. value_of g image o offset) (sym was) ∙ sym (stays block offset (value_of g image (slot_of id block now) offset) small e))

    pub overwrites_by : Overwrites g id sector sectors now after image seen
    overwrites_by = record {
      devices = w.devices;
      still = w.still;
      sizes = w.sizes;
      others = λ i block apart. w.others i block (λ q. apart q.0);
      slots = λ block. slot_by block (is_touched block) refl;
      other_data = λ i block place offset apart was small. w.other_data i block place offset (λ q. apart q.0) was small;
      own_data = λ block place offset is small. sector_by block place offset is small (is_touched block) refl;
    }
