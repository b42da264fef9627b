-- No volume of a pool that is shown has a slot at block 2^24 or behind it.
use Rattle.std.proofs.Common.{◌≡◌, ℕ, ◌+◌, ◌*◌, ◌≤◌, false, Option, None, Some, length, refl, ap, ◌∙◌, arith}
use Rattle.std.specs.Option.{option_map, option_map_or}
use Rattle.std.specs.FinMap.{empty, get}
use Rattle.std.proofs.lemmas.Nat.{row_fits}
use Rattle.tp_model.specs.Pool.{PlainPool, Volume, slot_at, volume_size}
use Rattle.tp_model.specs.Calls.{is_failed}
use Rattle.tp_model.specs.Clauses.{View, ViewLaws}
use Rattle.tp_model.proofs.Maps.{get_empty}

module _ {D : Type 0} (view : View D) (laws : ViewLaws view) (d : D) (s : PlainPool) (id block : ℕ) (shown : view.shows d s) (works : is_failed s.mode ≡ false) (far : 16777216 ≤ block) where
  mapped : (v : Volume) → get s.volumes id ≡ Some v → (o : Option ℕ) → get v.slots block ≡ o → get v.slots block ≡ None
  mapped v is None e = e
  mapped v is (Some label) e =
      let sound = (laws.consistent d s shown works).sound in
      let some = sound.block_sectors in
      let within = (sound.shaped id v is).inside block label e in
      let size : volume_size s id ≡ Some (length v.sectors) = ap (option_map (λ (v : Volume). length v.sectors)) is in
      let few = (laws.sized d s id (length v.sectors) shown works size).1 in
      let wide : 16777216 * s.geometry.block_sectors + s.geometry.block_sectors ≤ (block + 1) * s.geometry.block_sectors =
      row_fits 16777216 s.geometry.block_sectors (block + 1) s.geometry.block_sectors (omega (arith, far)) (omega arith) in
      absurd (omega (arith, within, few, wide, some))

  by_volume : (o : Option Volume) → get s.volumes id ≡ o → slot_at s id block ≡ None
  by_volume None e = ap (λ (o : Option Volume). get (option_map_or (λ (v : Volume). v.slots) o empty) block) e ∙ get_empty block
  by_volume (Some v) e =
      ap (λ (o : Option Volume). get (option_map_or (λ (v : Volume). v.slots) o empty) block) e ∙ mapped v e (get v.slots block) refl

  pub none_beyond : slot_at s id block ≡ None
  none_beyond = by_volume (get s.volumes id) refl
