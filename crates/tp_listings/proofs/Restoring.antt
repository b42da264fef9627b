-- What a delta does not list is the same in both volumes.
use Rattle.std.proofs.Common.{◌≡◌, ◌≢◌, inl, inr, ℕ, zero, suc, ◌+◌, ◌*◌, ◌/◌, ◌<◌, ◌≤◌, Option, None, Some, List, [], ◌∷◌, length, refl, sym, ap, ◌∙◌, arith}
use Rattle.std.specs.Prelude.{slice_get}
use Rattle.std.specs.Option.{option_map_or}
use Rattle.std.specs.FinMap.{empty, get}
use Rattle.std.proofs.lemmas.Bool.{cases_eq, cases_lt}
use Rattle.std.proofs.lemmas.Option.{none-some, same_Some}
use Rattle.std.proofs.lemmas.Nat.{div-mul-add}
use Rattle.std.proofs.Math.Nat.{div-mul-le_self, lt-div-mul-add, mul-le-mul_right}
use Rattle.tp_model.specs.Sectors.{Sector, zero_sector}
use Rattle.tp_model.specs.Pool.{IsSound, PlainPool, Volume, slot_at, volume_sector, volume_sectors}
use Rattle.tp_model.specs.Calls.{volume_blocks}
use Rattle.tp_model.proofs.Maps.{get_empty}
use Rattle.tp_model.proofs.Walking.{equal_sectors}
use Rattle.tp_listings.specs.declared.extent.Extent.{Extent}
use Rattle.tp_listings.specs.Listings.{Covers, IsDelta}

-- slots that are not different are the same
same_slots : (a b : Option ℕ) → ((a ≢ b) → ⊥) → a ≡ b
same_slots None None h = refl
same_slots None (Some y) h = absurd (h (λ e. none-some y e))
same_slots (Some x) None h = absurd (h (λ e. none-some x (sym e)))
same_slots (Some x) (Some y) h =
    elim (cases_eq x y) [
      | inl e ↦ ap Some e
      | inr n ↦ absurd (h (λ e. n (same_Some x y e)))
    ]

inside : {A : Type 0} (xs : List A) (i : ℕ) (x : A) → slice_get xs i ≡ Some x → i < length xs
inside [] i x e = absurd (none-some x e)
inside (y ∷ ys) zero x e = omega arith
inside (y ∷ ys) (suc i) x e = let l = inside ys i x e in omega (arith, l)

outside : {A : Type 0} (xs : List A) (i : ℕ) → slice_get xs i ≡ None → length xs ≤ i
outside [] i e = omega arith
outside (x ∷ xs) zero e = absurd (none-some x (sym e))
outside (x ∷ xs) (suc i) e = let l = outside xs i e in omega (arith, l)

module _ (s : PlainPool) (sound : IsSound s) where
  -- a volume has whole blocks
  whole : (id : ℕ) (o : Option Volume) → get s.volumes id ≡ o
      → (blocks : ℕ) × (length (option_map_or (λ (v : Volume). v.sectors) o []) ≡ blocks * s.geometry.block_sectors)
  whole id None e = (0, omega arith)
  whole id (Some v) e = (sound.shaped id v e).whole

  -- the block of a sector of a volume is one of its blocks
  block_of_sector : (id k : ℕ) (here : Sector) → volume_sector s id k ≡ Some here → k / s.geometry.block_sectors < volume_blocks s id
  block_of_sector id k here e =
      let n = s.geometry.block_sectors in
      let some : 0 < n = sound.block_sectors in
      let w = whole id (get s.volumes id) refl in
      let lt : k < length (volume_sectors s id) = inside (volume_sectors s id) k here e in
      let is : length (volume_sectors s id) ≡ w.0 * n = w.1 in
      let zeroth : w.0 * n + 0 ≡ length (volume_sectors s id) = omega (arith, is) in
      let blocks : volume_blocks s id ≡ w.0 = ap (λ m. m / n) (sym zeroth) ∙ div-mul-add w.0 n 0 some in
      let down : k / n * n ≤ k = div-mul-le_self k n in
      elim (cases_lt (k / n) w.0) [
        | inl l ↦ omega (arith, l, blocks)
        | inr g ↦ let up : w.0 * n ≤ k / n * n = mul-le-mul_right n g in absurd (omega (arith, up, down, lt, is))
      ]

  module _ (old new k : ℕ) (extents : List Extent) (here : Sector) (delta : IsDelta s old new extents) (not : Covers extents (k / s.geometry.block_sectors) → ⊥) (is : volume_sector s new k ≡ Some here) where
    one_slot : slot_at s new (k / s.geometry.block_sectors) ≡ slot_at s old (k / s.geometry.block_sectors)
    one_slot =
        same_slots (slot_at s new (k / s.geometry.block_sectors)) (slot_at s old (k / s.geometry.block_sectors))
        (λ differ. not (delta.runs.all (k / s.geometry.block_sectors) (block_of_sector new k here is, differ)))

    pub same_sector : (there : Sector) → volume_sector s old k ≡ Some there → here ≡ there
    same_sector there e = equal_sectors s new old k here there sound.lawful sound.block_sectors one_slot is e

    -- behind its end a volume has no slot
    no_slot : (v : Volume) → get s.volumes old ≡ Some v → length v.sectors ≤ k → (o : Option ℕ) → get v.slots (k / s.geometry.block_sectors) ≡ o → get v.slots (k / s.geometry.block_sectors) ≡ None
    no_slot v at end None e = e
    no_slot v at end (Some label) e =
        let n = s.geometry.block_sectors in
        let some : 0 < n = sound.block_sectors in
        let within : (k / n + 1) * n ≤ length v.sectors = (sound.shaped old v at).inside (k / n) label e in
        let up : k < k / n * n + n = lt-div-mul-add some in
        absurd (omega (arith, within, up, end))

    by_old : (o : Option Volume) → get s.volumes old ≡ o → volume_sector s old k ≡ None → slot_at s old (k / s.geometry.block_sectors) ≡ None
    by_old None e f = ap (λ (o : Option Volume). get (option_map_or (λ (v : Volume). v.slots) o empty) (k / s.geometry.block_sectors)) e ∙ get_empty (k / s.geometry.block_sectors)
    by_old (Some v) e f =
        let end = outside v.sectors k (ap (λ (o : Option Volume). slice_get (option_map_or (λ (w : Volume). w.sectors) o []) k) (sym e) ∙ f) in
        ap (λ (o : Option Volume). get (option_map_or (λ (w : Volume). w.slots) o empty) (k / s.geometry.block_sectors)) e
        ∙ no_slot v e end (get v.slots (k / s.geometry.block_sectors)) refl

    pub zero_behind : volume_sector s old k ≡ None → here ≡ zero_sector
    zero_behind f = sound.lawful.unmapped new k here (one_slot ∙ by_old (get s.volumes old) refl f) is
