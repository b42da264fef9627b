-- Two requests that change different blocks of a volume, one behind the other, are one that changes the blocks of both.
use Rattle.std.proofs.Common.{◌≡◌, ◌≢◌, ◌⊎◌, inl, inr, ℕ, ◌+◌, ◌*◌, ◌<◌, List, Option, None, Some, refl, sym, ◌∙◌, ap, subst}
use Rattle.std.proofs.lemmas.Bool.{cases_eq}
use Rattle.std.proofs.lemmas.Option.{none-some, same_Some}
use Rattle.tp_model.specs.Geometry.{Geometry, data_sector}
use Rattle.tp_model.specs.Sectors.{Sector, sector_at}
use Rattle.tp_model.specs.Calls.{Call, Keeps, Loses, Owns, SlotEffect, sector_after, slot_effect}
use Rattle.tp_sharing.specs.Volumes.{OtherSlot, Volumes, slot_of}
use Rattle.tp_shown.specs.Shown.{EditsLists, ListedAfter, value_of}

-- In this block a part does what the whole does, and the rest does nothing.
pub record IsOf (g : Geometry) (part rest whole : Call) (block : ℕ) : Type 0 where
  pub effect : (o : Option ℕ) → slot_effect g whole block o ≡ slot_effect g part block o
  pub keeps : (o : Option ℕ) → slot_effect g rest block o ≡ Keeps
  pub sector : (offset : ℕ) (old : Sector) → offset < g.block_sectors
      → sector_after g whole (block * g.block_sectors + offset) old ≡ sector_after g part (block * g.block_sectors + offset) old
  pub same : (offset : ℕ) (old : Sector) → offset < g.block_sectors → sector_after g rest (block * g.block_sectors + offset) old ≡ old

abbrev pub AreParts : Geometry → Call → Call → Call → Type 0
AreParts g first second whole = (block : ℕ) → IsOf g first second whole block ⊎ IsOf g second first whole block

module _ (g : Geometry) (first second whole : Call) (parts : AreParts g first second whole) (id : ℕ) (now mid after : Volumes) (a b c : List Sector)
    (x : EditsLists g first id now mid a b) (y : EditsLists g second id mid after b c) where
  -- a block of the one keeps its slot in the other
  in_second : (block : ℕ) → IsOf g first second whole block → slot_of id block after ≡ slot_of id block mid
  in_second block w = subst (λ e. ListedAfter e id block mid after) (w.keeps (slot_of id block mid)) (y.slots block)

  in_first : (block : ℕ) → IsOf g second first whole block → slot_of id block mid ≡ slot_of id block now
  in_first block w = subst (λ e. ListedAfter e id block now mid) (w.keeps (slot_of id block now)) (x.slots block)

  -- where no slot was changed by both, none was changed between
  pub still_between : ((block : ℕ) → slot_of id block after ≡ slot_of id block now) → (block : ℕ) → slot_of id block mid ≡ slot_of id block now
  still_between all block = elim (parts block) [ inl w ↦ sym (in_second block w) ∙ all block | inr w ↦ in_first block w ]

  -- ---- slots

  -- what the second leaves at another block is not this one's data block
  apart_by : (block place at : ℕ) → slot_of id block after ≡ Some place → (OtherSlot id block place mid → ⊥) → slot_of id at after ≡ Some place → at ≢ block → (f : SlotEffect)
      → ListedAfter f id at mid after → ⊥
  apart_by block place at here none there n Keeps e = none (id, at, sym e ∙ there, λ q. n q.1)
  apart_by block place at here none there n Loses e = none-some place (sym e ∙ there)
  apart_by block place at here none there n Owns w =
      let same : w.0 ≡ place = same_Some w.0 place (sym w.1 ∙ there) in
      w.2 (id, block, here ∙ ap Some (sym same), λ q. n (sym q.1))

  alone_behind : (block place : ℕ) → slot_of id block after ≡ Some place → (OtherSlot id block place mid → ⊥) → OtherSlot id block place after → ⊥
  alone_behind block place here none other = by other.0 other.1 other.2 other.3 (cases_eq other.0 id)
    where
      by : (i at : ℕ) → slot_of i at after ≡ Some place → (((i ≡ id) × (at ≡ block)) → ⊥) → (i ≡ id) ⊎ (i ≢ id) → ⊥
      by i at e n (inr apart) = none (i, at, sym (y.others i at apart) ∙ e, n)
      by i at e n (inl same) =
          apart_by block place at here none (subst (λ j. slot_of j at after ≡ Some place) same e) (λ q. n (same, q)) (slot_effect g second at (slot_of id at mid)) (y.slots at)

  slot_first : (block : ℕ) → IsOf g first second whole block → (f : SlotEffect) → ListedAfter f id block now mid → ListedAfter f id block now after
  slot_first block w Keeps e = in_second block w ∙ e
  slot_first block w Loses e = in_second block w ∙ e
  slot_first block w Owns e =
      let here : slot_of id block after ≡ Some e.0 = in_second block w ∙ e.1 in
      (e.0, here, alone_behind block e.0 here e.2)

  slot_second : (block : ℕ) → IsOf g second first whole block → (f : SlotEffect) → ListedAfter f id block mid after → ListedAfter f id block now after
  slot_second block w Keeps e = e ∙ in_first block w
  slot_second block w Loses e = e
  slot_second block w Owns e = e

  slot_by : (block : ℕ) → IsOf g first second whole block ⊎ IsOf g second first whole block → ListedAfter (slot_effect g whole block (slot_of id block now)) id block now after
  slot_by block (inl w) =
      subst (λ f. ListedAfter f id block now after) (sym (w.effect (slot_of id block now))) (slot_first block w (slot_effect g first block (slot_of id block now)) (x.slots block))
  slot_by block (inr w) =
      let is = w.effect (slot_of id block now) ∙ ap (slot_effect g second block) (sym (in_first block w)) in
      subst (λ f. ListedAfter f id block now after) (sym is) (slot_second block w (slot_effect g second block (slot_of id block mid)) (y.slots block))

  -- ---- sectors

  value_mid : (block offset : ℕ) → IsOf g second first whole block → offset < g.block_sectors → (o : Option ℕ) → slot_of id block mid ≡ o
      → value_of g b o offset ≡ value_of g a (slot_of id block now) offset
  value_mid block offset w small None e = ap (λ o. value_of g a o offset) (sym e ∙ in_first block w)
  value_mid block offset w small (Some place) e = x.own_data block place offset e small ∙ w.same offset (value_of g a (slot_of id block now) offset) small

  sector_by : (block place offset : ℕ) → slot_of id block after ≡ Some place → offset < g.block_sectors → IsOf g first second whole block ⊎ IsOf g second first whole block
      → sector_at c (data_sector g place + offset) ≡ sector_after g whole (block * g.block_sectors + offset) (value_of g a (slot_of id block now) offset)
  sector_by block place offset is small (inl w) =
      let was : slot_of id block mid ≡ Some place = sym (in_second block w) ∙ is in
      y.own_data block place offset is small
      ∙ (w.same offset (value_of g b (slot_of id block mid) offset) small
      ∙ (ap (λ o. value_of g b o offset) was
      ∙ (x.own_data block place offset was small ∙ sym (w.sector offset (value_of g a (slot_of id block now) offset) small))))
  sector_by block place offset is small (inr w) =
      y.own_data block place offset is small
      ∙ (ap (sector_after g second (block * g.block_sectors + offset)) (value_mid block offset w small (slot_of id block mid) refl)
      ∙ sym (w.sector offset (value_of g a (slot_of id block now) offset) small))

  pub edits_both : EditsLists g whole id now after a c
  edits_both = record {
    devices = λ i s. x.devices i (y.devices i s);
    still = λ i s. y.still i (x.still i s);
    sizes = λ i. y.sizes i ∙ x.sizes i;
    others = λ i block apart. y.others i block apart ∙ x.others i block apart;
    slots = λ block. slot_by block (parts block);
    other_data = λ i block place offset apart was small. y.other_data i block place offset apart (x.others i block apart ∙ was) small ∙ x.other_data i block place offset apart was small;
    own_data = λ block place offset is small. sector_by block place offset is small (parts block);
  }

-- requests that do the same to each block do the same
pub edits_alike : (g : Geometry) (call other : Call) (id : ℕ) (now after : Volumes) (image seen : List Sector)
    → ((block : ℕ) → slot_effect g call block (slot_of id block now) ≡ slot_effect g other block (slot_of id block now))
    → ((k : ℕ) (old : Sector) → sector_after g call k old ≡ sector_after g other k old)
    → EditsLists g call id now after image seen → EditsLists g other id now after image seen
edits_alike g call other id now after image seen effects sectors w = record {
  devices = w.devices;
  still = w.still;
  sizes = w.sizes;
  others = w.others;
  slots = λ block. subst (λ f. ListedAfter f id block now after) (effects block) (w.slots block);
  other_data = w.other_data;
  own_data = λ block place offset is small. w.own_data block place offset is small ∙ sectors (block * g.block_sectors + offset) (value_of g image (slot_of id block now) offset);
}
