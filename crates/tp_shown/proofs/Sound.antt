-- A pool with the contents of a commit is sound.
use Rattle.std.proofs.Common.{◌≡◌, ℕ, ◌+◌, ◌*◌, ◌/◌, ◌%◌, ◌<◌, ◌≤◌, List, [], length, Option, Some, None, inl, inr, refl, sym, ap, subst, ◌∙◌, arith}
use Rattle.std.specs.Prelude.{slice_get}
use Rattle.std.specs.Option.{IsSome, option_map, option_map_or}
use Rattle.std.specs.FinMap.{empty, get}
use Rattle.std.proofs.Math.Nat.{mod-lt, mul-le-mul_right}
use Rattle.std.proofs.lemmas.Bool.{cases_lt}
use Rattle.std.proofs.lemmas.Nat.{div-mul-add, mod-mul-add}
use Rattle.std.proofs.lemmas.Option.{none-some, same_Some}
use Rattle.tp_model.specs.Geometry.{Geometry, IsWithinLimits, data_sector, sectors_of_image}
use Rattle.tp_model.specs.Sectors.{Sector, sector_at, zero_sector}
use Rattle.tp_model.specs.Pool.{IsShapedVolume, IsSound, PlainPool, Volume, slot_at, volume_sector}
use Rattle.tp_model.proofs.Shape.{length-zero_sector}
use Rattle.tp_sharing.specs.Volumes.{device_of, slot_of}
use Rattle.tp_mapping.specs.Mapping.{IsWithin}
use Rattle.tp_stored.specs.Contents.{Contents, HasContents}
use Rattle.tp_shown.specs.Laws.{ContentsAreSound}
use Rattle.tp_shown.specs.Shown.{value_at, value_of, own_blocks, own_sectors}
use Rattle.tp_shown.proofs.Values.{is_there, no_sector, no_sector_past, no_value, sector_is, device_is_there, of_device, own_inside, own_sizes, size_is}

module _ (g : Geometry) (c : Contents) (image : List Sector) (p : PlainPool) (limits : IsWithinLimits g) (within : IsWithin g c.volumes) (h : HasContents g c image p)
    (room : sectors_of_image g ≤ length image) (bytes : (i : ℕ) → i < length image → length (sector_at image i) ≡ 512) where
  abbrev n : ℕ
  n = g.block_sectors

  abbrev size : ℕ → ℕ
  size id = own_sectors g c.volumes id

  some : 0 < n
  some = omega (arith, limits.block_least)

  -- a sector is of a device, and within its size
  sector_there : (id k : ℕ) (s : Sector) → volume_sector p id k ≡ Some s → IsSome (device_of id c.volumes) × (k < size id)
  sector_there id k s is = elim (is_there (device_of id c.volumes)) [
    | inr none ↦ absurd (none-some s (sym (no_sector g c image p h id k none) ∙ is))
    | inl there ↦ elim (cases_lt k (size id)) [
      | inl lt ↦ (there, lt)
      | inr le ↦ absurd (none-some s (sym (no_sector_past g c image p h id k there le) ∙ is))
    ]
  ]

  value_whole : (o : Option ℕ) (offset : ℕ) → ((place : ℕ) → o ≡ Some place → place < g.data_blocks) → offset < n → length (value_of g image o offset) ≡ 512
  value_whole None offset low lt = length-zero_sector
  value_whole (Some place) offset low lt =
      let end : (place + 1) * n ≤ g.data_blocks * n = let one = low place refl in mul-le-mul_right n (omega (arith, one)) in
      bytes (data_sector g place + offset) (omega (arith, end, lt, room))

  sector_whole : (id k : ℕ) (s : Sector) → volume_sector p id k ≡ Some s → length s ≡ 512
  sector_whole id k s is =
      let there = sector_there id k s is in
      let value : s ≡ value_at g c.volumes image id k = same_Some s (value_at g c.volumes image id k) (sym is ∙ sector_is g c image p h id k there.0 there.1) in
      ap length value ∙ value_whole (slot_of id (k / n) c.volumes) (k % n) (λ place e. (within.slots id (k / n) place e).1) (mod-lt k some)

  shaped : (id : ℕ) (v : Volume) → get p.volumes id ≡ Some v → IsShapedVolume n v
  shaped id v is =
      let told = of_device (size id) (length v.sectors) (device_of id c.volumes) (sym (own_sizes g c image p h id) ∙ ap (option_map (λ (v : Volume). length v.sectors)) is) in
      record {
        whole = (own_blocks g c.volumes id, told.1);
        inside = λ block label e.
            let slot = sym (h.slots id block) ∙ (ap (λ (o : Option Volume). get (option_map_or (λ v. v.slots) o empty) block) is ∙ e) in
            let le : (block + 1) * n ≤ own_blocks g c.volumes id * n = let one = own_inside g c.volumes within.sized id block label slot in mul-le-mul_right n (omega (arith, one)) in
            omega (arith, le, told.1);
        bytes = λ k s e. sector_whole id k s (ap (λ (o : Option Volume). slice_get (option_map_or (λ v. v.sectors) o []) k) is ∙ e);
      }

  unmapped : (id k : ℕ) (s : Sector) → slot_at p id (k / n) ≡ None → volume_sector p id k ≡ Some s → s ≡ zero_sector
  unmapped id k s none is =
      let there = sector_there id k s is in
      same_Some s zero_sector (sym is ∙ (sector_is g c image p h id k there.0 there.1 ∙ ap (λ o. Some (value_of g image o (k % n))) (sym (h.slots id (k / n)) ∙ none)))

  -- the sector of a slot's block
  sector_of_slot : (id block place offset : ℕ) → offset < n → slot_at p id block ≡ Some place → volume_sector p id (block * n + offset) ≡ Some (sector_at image (data_sector g place + offset))
  sector_of_slot id block place offset lt e =
      let slot = sym (h.slots id block) ∙ e in
      let le : (block + 1) * n ≤ own_blocks g c.volumes id * n = let one = own_inside g c.volumes within.sized id block place slot in mul-le-mul_right n (omega (arith, one)) in
      h.sectors.mapped id (block * n + offset) place (size id) (size_is g c image p h id (device_is_there id block place c.volumes slot)) (omega (arith, le, lt)) (ap (slot_at p id) (div-mul-add block n offset lt) ∙ e)
      ∙ ap (λ k. Some (sector_at image (data_sector g place + k))) (mod-mul-add block n offset lt)

  shared_by : (i b j c o : ℕ) (slot : Option ℕ) → o < n → slot_at p i b ≡ slot → slot_at p j c ≡ slot → IsSome slot → volume_sector p i (b * n + o) ≡ volume_sector p j (c * n + o)
  shared_by i b j c o None lt e f is = absurd (no_value {A = ℕ} None refl is)
  shared_by i b j c o (Some place) lt e f is = sector_of_slot i b place o lt e ∙ sym (sector_of_slot j c place o lt f)

  sound : IsSound p
  sound =
      let same : g.block_sectors ≡ p.geometry.block_sectors = ap (λ (y : Geometry). y.block_sectors) (sym h.geometry) in
      record {
        block_sectors = subst (λ m. 0 < m) same some;
        shaped = λ id v f. subst (λ m. IsShapedVolume m v) same (shaped id v f);
        lawful = record {
          unmapped = subst (λ m. (id k : ℕ) (s : Sector) → slot_at p id (k / m) ≡ None → volume_sector p id k ≡ Some s → s ≡ zero_sector) same unmapped;
          shared =
              subst (λ m. (i b j c o : ℕ) → o < m → IsSome (slot_at p i b) → slot_at p i b ≡ slot_at p j c → volume_sector p i (b * m + o) ≡ volume_sector p j (c * m + o)) same
              (λ i b j c o lt mapped one. shared_by i b j c o (slot_at p i b) lt refl (sym one) mapped);
        };
      }

pub contents_are_sound : ContentsAreSound
contents_are_sound g c image p limits within h room bytes = sound g c image p limits within h room bytes
