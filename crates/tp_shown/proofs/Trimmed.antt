-- A trim, by the blocks that lie wholly in its range.
use Rattle.std.proofs.Common.{◌≡◌, ℕ, ◌+◌, ◌-◌, ◌*◌, ◌/◌, ◌%◌, ◌<◌, ◌≤◌, Bool, true, false, cond, List, Some, refl, sym, ◌∙◌, ap, arith}
use Rattle.std.specs.Prelude.{nat_le}
use Rattle.std.proofs.Math.Nat.{div-mul-le_self, mod-lt, mul-le-mul_right}
use Rattle.std.proofs.lemmas.Bool.{and_from, and_parts, le-leb, leb-true, true≢false}
use Rattle.std.proofs.lemmas.Nat.{div-add-mod', div-mul-add}
use Rattle.std.proofs.lemmas.Option.{none-some}
use Rattle.tp_model.specs.Geometry.{Geometry, data_sector}
use Rattle.tp_model.specs.Sectors.{Sector, sector_at, zero_sector}
use Rattle.tp_model.specs.Calls.{Keeps, Loses, Trim, covers, sector_after}
use Rattle.tp_sharing.specs.Volumes.{Volumes, slot_of}
use Rattle.tp_stored.specs.Contents.{SameData}
use Rattle.tp_shown.specs.Laws.{TrimMakes}
use Rattle.tp_shown.specs.Shown.{EditsLists, HasLost, ListedAfter, blocks_covered, first_covered, value_of}
use Rattle.tp_shown.proofs.Blocks.{quotients_ascend}
use Rattle.tp_shown.proofs.Edited.{edits_are_listed}

module _ (g : Geometry) (pos : 0 < g.block_sectors) (sector count block : ℕ) where
  -- the first block that begins in the range, or behind it
  begins_behind : sector ≤ block * g.block_sectors → first_covered g sector ≤ block
  begins_behind le =
      let ascend = quotients_ascend g.block_sectors (sector + (g.block_sectors - 1)) (block * g.block_sectors + (g.block_sectors - 1)) pos (omega (arith, le)) in
      let small : g.block_sectors - 1 < g.block_sectors = omega (arith, pos) in
      omega (arith, ascend, div-mul-add block g.block_sectors (g.block_sectors - 1) small)

  pub begins_inside : first_covered g sector ≤ block → sector ≤ block * g.block_sectors
  begins_inside le =
      let x = sector + (g.block_sectors - 1) in
      let parts : x / g.block_sectors * g.block_sectors + x % g.block_sectors ≡ x = div-add-mod' x g.block_sectors in
      let rest : x % g.block_sectors < g.block_sectors = mod-lt x pos in
      let up : x / g.block_sectors * g.block_sectors ≤ block * g.block_sectors = mul-le-mul_right g.block_sectors le in
      omega (arith, parts, rest, up, pos)

  ends_inside : (block + 1) * g.block_sectors ≤ sector + count → block < (sector + count) / g.block_sectors
  ends_inside le =
      let ascend = quotients_ascend g.block_sectors ((block + 1) * g.block_sectors + 0) (sector + count) pos (omega (arith, le)) in
      omega (arith, ascend, div-mul-add (block + 1) g.block_sectors 0 pos)

  ends_before : block < (sector + count) / g.block_sectors → (block + 1) * g.block_sectors ≤ sector + count
  ends_before lt =
      let up : (block + 1) * g.block_sectors ≤ (sector + count) / g.block_sectors * g.block_sectors = mul-le-mul_right g.block_sectors (omega (arith, lt)) in
      let last : (sector + count) / g.block_sectors * g.block_sectors ≤ sector + count = div-mul-le_self (sector + count) g.block_sectors in
      omega (arith, up, last)

  -- the blocks that lie wholly in the range follow one another
  pub covered_is : covers g sector count block ≡ true → (first_covered g sector ≤ block) × (block < first_covered g sector + blocks_covered g sector count)
  covered_is e =
      let parts = and_parts (nat_le sector (block * g.block_sectors)) (nat_le ((block + 1) * g.block_sectors) (sector + count)) e in
      let low = begins_behind (leb-true sector (block * g.block_sectors) parts.0) in
      let high = ends_inside (leb-true ((block + 1) * g.block_sectors) (sector + count) parts.1) in
      (low, omega (arith, low, high))

  pub covered_by : first_covered g sector ≤ block → block < first_covered g sector + blocks_covered g sector count → covers g sector count block ≡ true
  covered_by low high =
      let before : block < (sector + count) / g.block_sectors = omega (arith, low, high) in
      and_from (nat_le sector (block * g.block_sectors)) (nat_le ((block + 1) * g.block_sectors) (sector + count))
      (le-leb sector (block * g.block_sectors) (begins_inside low)) (le-leb ((block + 1) * g.block_sectors) (sector + count) (ends_before before))

module _ (g : Geometry) (pos : 0 < g.block_sectors) (id sector count : ℕ) (fua : Bool) (now after : Volumes) (image seen : List Sector)
    (same : SameData g image seen) (l : HasLost id (first_covered g sector) (blocks_covered g sector count) now after) where
  -- a block that is not wholly in the range keeps its slot
  kept_slot : (block : ℕ) → covers g sector count block ≡ false → slot_of id block after ≡ slot_of id block now
  kept_slot block f = l.others id block (λ q. true≢false (sym (covered_by g pos sector count block q.1 q.2) ∙ f))

  slot_by : (block : ℕ) (t : Bool) → covers g sector count block ≡ t → ListedAfter (cond t Loses Keeps) id block now after
  slot_by block true e = let w = covered_is g pos sector count block e in l.lost block w.0 w.1
  slot_by block false e = kept_slot block e

  data_same : (place offset : ℕ) → sector_at seen (data_sector g place + offset) ≡ sector_at image (data_sector g place + offset)
  data_same place offset = same.same (data_sector g place + offset) (omega arith)

  sector_by : (block place offset : ℕ) → slot_of id block after ≡ Some place → offset < g.block_sectors → (t : Bool) → covers g sector count block ≡ t
      → sector_at seen (data_sector g place + offset)
      ≡ sector_after g (Trim id sector count fua) (block * g.block_sectors + offset) (value_of g image (slot_of id block now) offset)
  sector_by block place offset is small true e =
      let w = covered_is g pos sector count block e in absurd (none-some place (sym (l.lost block w.0 w.1) ∙ is))
  sector_by block place offset is small false e =
      let was : slot_of id block now ≡ Some place = sym (kept_slot block e) ∙ is in
      let old = value_of g image (slot_of id block now) offset in
      let none : covers g sector count ((block * g.block_sectors + offset) / g.block_sectors) ≡ false = ap (covers g sector count) (div-mul-add block g.block_sectors offset small) ∙ e in
      data_same place offset ∙ (ap (λ o. value_of g image o offset) (sym was) ∙ sym (ap (λ b. cond b zero_sector old) none))

  pub edits_trimmed : EditsLists g (Trim id sector count fua) id now after image seen
  edits_trimmed = record {
    devices = λ i s. sym (l.devices i) ∙ s;
    still = λ i s. l.devices i ∙ s;
    sizes = l.sizes;
    others = λ i block apart. l.others i block (λ q. apart q.0);
    slots = λ block. slot_by block (covers g sector count block) refl;
    other_data = λ i block place offset apart was small. data_same place offset;
    own_data = λ block place offset is small. sector_by block place offset is small (covers g sector count block) refl;
  }

pub trim_makes : TrimMakes
trim_makes g c image seen p limits h same id sector count fua after meta_used there l still =
    edits_are_listed g c image seen p limits h (Trim id sector count fua) id after meta_used there
    (edits_trimmed g (omega (arith, limits.block_least)) id sector count fua c.volumes after image seen same l) still
