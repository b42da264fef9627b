-- What a request leaves, from what it leaves of the lists and the image.
use Rattle.std.proofs.Common.{◌≡◌, ◌≢◌, ℕ, ◌+◌, ◌*◌, ◌/◌, ◌%◌, ◌<◌, List, [], length, map, Option, Some, None, ◌⊎◌, inl, inr, refl, sym, ap, subst, ◌∙◌, arith}
use Rattle.std.specs.Option.{IsSome, option_map, option_map_or}
use Rattle.std.specs.List.{enumerate_from}
use Rattle.std.specs.Ordering.{nat_cmp}
use Rattle.std.specs.FinMap.{FinMap, empty, get, insert}
use Rattle.std.proofs.Math.Nat.{mod-lt}
use Rattle.std.proofs.lemmas.Bool.{cases_eq}
use Rattle.std.proofs.lemmas.Nat.{div-add-mod'}
use Rattle.std.proofs.lemmas.List.{length-map}
use Rattle.std.proofs.lemmas.List.FromFn.{length-enumerate_from}
use Rattle.std.proofs.lemmas.Option.{none-some}
use Rattle.tp_model.specs.Geometry.{Geometry, IsWithinLimits}
use Rattle.tp_model.specs.Told.{told_sectors}
use Rattle.tp_model.specs.Sectors.{Sector, zero_sector}
use Rattle.tp_model.specs.Pool.{PlainPool, Volume, slot_at, volume_sector, volume_sectors, volume_size, volume_slots}
use Rattle.tp_model.specs.Calls.{Call, Edits, Keeps, Loses, Owns, SlotAfter, SlotEffect, effect_at, sector_after, slot_effect}
use Rattle.tp_model.proofs.Editing.{Fits, effect_fits, volume_sector-edited, volume_sector-other}
use Rattle.tp_model.proofs.Steps.{other_of_insert}
use Rattle.tp_sharing.specs.Volumes.{BlockSlot, OtherSlot, Volumes, device_of, place_or_none, slot_of, size_of}
use Rattle.tp_mapping.specs.Mapping.{slots_of, slots_or_none}
use Rattle.tp_stored.specs.Contents.{Contents, HasContents}
use Rattle.tp_shown.specs.Laws.{EditsAreListed}
use Rattle.tp_shown.specs.Shown.{EditsLists, ListedAfter, own_sectors, value_at, value_of}
use Rattle.tp_shown.proofs.Made.{get_same, get_slots_map, slots_map}
use Rattle.tp_shown.proofs.Values.{device_is_there, flat, of_device, sector_is, volume_is}

-- the slots of no device are none
slot_or_none : (block : ℕ) (o : Option (List BlockSlot)) → get (slots_map (slots_or_none o)) block ≡ place_or_none block o
slot_or_none block None = get_slots_map [] block
slot_or_none block (Some xs) = get_slots_map xs block

module _ (g : Geometry) (c : Contents) (image seen : List Sector) (p : PlainPool) (limits : IsWithinLimits g) (h : HasContents g c image p)
    (call : Call) (id : ℕ) (after : Volumes) (meta_used : ℕ) (there : IsSome (device_of id c.volumes)) (w : EditsLists g call id c.volumes after image seen)
    (still : ((block : ℕ) → slot_of id block after ≡ slot_of id block c.volumes) → meta_used ≡ c.meta_used) where
  abbrev size : ℕ
  size = own_sectors g c.volumes id

  abbrev made : Volume
  made = record { sectors = map (λ e. sector_after p.geometry call e.0 e.1) (enumerate_from 0 (volume_sectors p id)); slots = slots_map (slots_of id after) }

  abbrev q : PlainPool
  q = record p { volumes = insert p.volumes id made; meta_used = meta_used }

  some : 0 < g.block_sectors
  some = omega (arith, limits.block_least)

  here : get q.volumes id ≡ Some made
  here = get_same p.volumes id made

  others : (i : ℕ) → i ≢ id → get q.volumes i ≡ get p.volumes i
  others i n = other_of_insert p.volumes id made i n

  -- ---- slots

  slot_here : (block : ℕ) → slot_at q id block ≡ slot_of id block after
  slot_here block = ap (λ (o : Option Volume). get (option_map_or (λ v. v.slots) o empty) block) here ∙ slot_or_none block (device_of id after)

  slot_there : (i block : ℕ) → i ≢ id → slot_at q i block ≡ slot_of i block after
  slot_there i block n =
      ap (λ (o : Option Volume). get (option_map_or (λ v. v.slots) o empty) block) (others i n)
      ∙ (h.slots i block ∙ sym (w.others i block n))

  slots_are : (i block : ℕ) → slot_at q i block ≡ slot_of i block after
  slots_are i block = elim (cases_eq i id) [
    | inl e ↦ subst (λ j. slot_at q j block ≡ slot_of j block after) (sym e) (slot_here block)
    | inr n ↦ slot_there i block n
  ]

  -- ---- sizes

  size_here : volume_size q id ≡ option_map (told_sectors g) (size_of id c.volumes)
  size_here =
      ap (option_map (λ (v : Volume). length v.sectors)) here
      ∙ (ap Some (length-map (enumerate_from 0 (volume_sectors p id)) (λ e. sector_after p.geometry call e.0 e.1) ∙ length-enumerate_from 0 (volume_sectors p id))
      ∙ (size_there (volume_is g c image p h id there) ∙ h.sizes id))
    where
      size_there : ((v : Volume) × (get p.volumes id ≡ Some v) × (length v.sectors ≡ size)) → Some (length (volume_sectors p id)) ≡ volume_size p id
      size_there v = ap (λ (o : Option Volume). Some (length (option_map_or (λ v. v.sectors) o []))) v.1 ∙ sym (ap (option_map (λ (v : Volume). length v.sectors)) v.1)

  sizes_now : (i : ℕ) → volume_size q i ≡ option_map (told_sectors g) (size_of i c.volumes)
  sizes_now i = elim (cases_eq i id) [
    | inl e ↦ subst (λ j. volume_size q j ≡ option_map (told_sectors g) (size_of j c.volumes)) (sym e) size_here
    | inr n ↦ ap (option_map (λ (v : Volume). length v.sectors)) (others i n) ∙ h.sizes i
  ]

  sizes_are : (i : ℕ) → volume_size q i ≡ option_map (told_sectors g) (size_of i after)
  sizes_are i = sizes_now i ∙ ap (option_map (told_sectors g)) (sym (w.sizes i))

  -- ---- what becomes of the slots

  alone_by : (block place : ℕ) → slot_of id block after ≡ Some place → (OtherSlot id block place after → ⊥) → (i b : ℕ) → slot_at q i b ≡ slot_at q id block → (i ≡ id) ⊎ (i ≢ id) → (b ≡ block) ⊎ (b ≢ block) → (i ≡ id) × (b ≡ block)
  alone_by block place own none i b same (inl x) (inl y) = (x, y)
  alone_by block place own none i b same (inr n) y = absurd (none (i, b, sym (slots_are i b) ∙ (same ∙ (slot_here block ∙ own)), λ t. n t.0))
  alone_by block place own none i b same (inl x) (inr n) = absurd (none (i, b, sym (slots_are i b) ∙ (same ∙ (slot_here block ∙ own)), λ t. n t.1))

  slot_by : (block : ℕ) (effect : SlotEffect) → ListedAfter effect id block c.volumes after → SlotAfter effect p q id block
  slot_by block Keeps e = slot_here block ∙ (e ∙ sym (h.slots id block))
  slot_by block Loses e = slot_here block ∙ e
  slot_by block Owns e = record {
    mapped = subst IsSome (sym (slot_here block ∙ e.1)) refl;
    alone = λ i b same. alone_by block e.0 e.1 e.2 i b same (cases_eq i id) (cases_eq b block);
  }

  effect_is : (block : ℕ) → slot_effect g call block (slot_of id block c.volumes) ≡ effect_at p call id block
  effect_is block = (λ i. slot_effect (sym h.geometry i) call block (sym (h.slots id block) i))

  untouched : ((block : ℕ) → slot_at q id block ≡ slot_at p id block) → meta_used ≡ p.meta_used
  untouched same = still (λ block. sym (slot_here block) ∙ (same block ∙ h.slots id block)) ∙ sym h.meta_used

  edits : Edits p call id q
  edits = record {
    rest = refl;
    others = others;
    volume =
        let slots : slots_map (slots_of id after) ≡ volume_slots q id = sym (ap (λ (o : Option Volume). option_map_or (λ v. v.slots) o empty) here) in
        here ∙ ap (λ (m : FinMap nat_cmp ℕ). Some (record { sectors = made.sectors; slots = m })) slots;
    slots = λ block. subst (λ e. SlotAfter e p q id block) (effect_is block) (slot_by block (slot_effect g call block (slot_of id block c.volumes)) (w.slots block));
    untouched = untouched;
  }

  -- ---- sectors

  value_here : (k : ℕ) → k < size → volume_sector q id k ≡ Some (sector_after g call k (value_at g c.volumes image id k))
  value_here k lt =
      volume_sector-edited p call id q edits k
      ∙ (λ i. option_map (sector_after (h.geometry i) call k) (sector_is g c image p h id k there lt i))

  -- where the block has no slot, the sector is zero
  zero_by : (block : ℕ) (effect : SlotEffect) (new old : Sector) → ListedAfter effect id block c.volumes after → Fits effect new old (slot_of id block c.volumes)
      → (slot_of id block c.volumes ≡ None → old ≡ zero_sector) → slot_of id block after ≡ None → new ≡ zero_sector
  zero_by block Keeps new old e (inl same) blank none = same ∙ blank (sym e ∙ none)
  zero_by block Keeps new old e (inr zeros) blank none = zeros.0
  zero_by block Loses new old e zeros blank none = zeros
  zero_by block Owns new old e fits blank none = absurd (none-some e.0 (sym none ∙ e.1))

  module _ (k : ℕ) where
    abbrev block : ℕ
    block = k / g.block_sectors

    abbrev offset : ℕ
    offset = k % g.block_sectors

    inside : offset < g.block_sectors
    inside = mod-lt k some

    place_is : block * g.block_sectors + offset ≡ k
    place_is = div-add-mod' k g.block_sectors

    -- what stands at the data block of another volume's slot
    kept_value : (i : ℕ) → i ≢ id → (o : Option ℕ) → slot_of i block after ≡ o → value_at g c.volumes image i k ≡ value_of g seen o offset
    kept_value i n None e = ap (λ o. value_of g image o offset) (sym (w.others i block n) ∙ e)
    kept_value i n (Some place) e =
        let was : slot_of i block c.volumes ≡ Some place = sym (w.others i block n) ∙ e in
        ap (λ o. value_of g image o offset) was ∙ sym (w.other_data i block place offset n was inside)

    new_value : (o : Option ℕ) → slot_of id block after ≡ o → sector_after g call k (value_at g c.volumes image id k) ≡ value_of g seen o offset
    new_value None e =
        let old = value_at g c.volumes image id k in
        zero_by block (slot_effect g call block (slot_of id block c.volumes)) (sector_after g call k old) old (w.slots block) (effect_fits g call k old (slot_of id block c.volumes) some)
        (λ none. ap (λ o. value_of g image o offset) none) e
    new_value (Some place) e = ap (λ j. sector_after g call j (value_at g c.volumes image id k)) (sym place_is) ∙ sym (w.own_data block place offset e inside)

    value_by : (i : ℕ) → k < own_sectors g c.volumes i → IsSome (device_of i after) → (o : Option ℕ) → slot_of i block after ≡ o → (i ≡ id) ⊎ (i ≢ id) → volume_sector q i k ≡ Some (value_of g seen o offset)
    value_by i lt s o e (inr n) = volume_sector-other p call id q edits i k n ∙ (sector_is g c image p h i k (w.devices i s) lt ∙ ap Some (kept_value i n o e))
    value_by i lt s o e (inl x) = ap (λ j. volume_sector q j k) x ∙ (value_here k (subst (λ j. k < own_sectors g c.volumes j) x lt) ∙ ap Some (new_value o (ap (λ j. slot_of j block after) (sym x) ∙ e)))

    value_is : (i : ℕ) → k < own_sectors g c.volumes i → IsSome (device_of i after) → (o : Option ℕ) → slot_of i block after ≡ o → volume_sector q i k ≡ Some (value_of g seen o offset)
    value_is i lt s o e = value_by i lt s o e (cases_eq i id)

  -- a size that is told of it
  told_here : (i size : ℕ) → volume_size q i ≡ Some size → IsSome (device_of i c.volumes) × (size ≡ own_sectors g c.volumes i)
  told_here i size sized = of_device (own_sectors g c.volumes i) size (device_of i c.volumes) (sym (sizes_now i ∙ flat g c.volumes i) ∙ sized)

  has : HasContents g (record c { volumes = after; meta_used = meta_used }) seen q
  has = record {
    geometry = h.geometry;
    transaction_id = h.transaction_id;
    needs_check = h.needs_check;
    meta_used = refl;
    held_root = h.held_root;
    sizes = sizes_are;
    slots = slots_are;
    sectors = record {
      mapped = λ i k place size sized lt e.
          let slot = sym (slots_are i (k / g.block_sectors)) ∙ e in
          let told = told_here i size sized in
          value_is k i (omega (arith, lt, told.1)) (device_is_there i (k / g.block_sectors) place after slot) (Some place) slot;
      unmapped = λ i k size sized lt e.
          let told = told_here i size sized in
          value_is k i (omega (arith, lt, told.1)) (w.still i told.0) None (sym (slots_are i (k / g.block_sectors)) ∙ e);
    };
  }

pub edits_are_listed : EditsAreListed
edits_are_listed g c image seen p limits h call id after meta_used there w still = (
  q g c image seen p limits h call id after meta_used there w still,
  has g c image seen p limits h call id after meta_used there w still,
  edits g c image seen p limits h call id after meta_used there w still,
)
