-- What a pool with the contents of a commit has at a sector and at a slot.
use Rattle.std.proofs.Common.{◌≡◌, ◌≢◌, ℕ, zero, suc, ◌+◌, ◌*◌, ◌/◌, ◌%◌, ◌<◌, ◌≤◌, List, [], length, map, Option, Some, None, ◌⊎◌, inl, inr, refl, sym, ap, subst, ◌∙◌, arith}
use Rattle.std.specs.Prelude.{slice_get}
use Rattle.std.specs.Option.{IsSome, is_some, option_map, option_map_or}
use Rattle.std.specs.FinMap.{get}
use Rattle.std.specs.List.{range_with_len}
use Rattle.std.proofs.lemmas.Bool.{cases_eq, false≢true}
use Rattle.std.proofs.lemmas.Nat.{div-mul-add, mod-mul-add}
use Rattle.std.proofs.lemmas.List.FromFn.{fill_by_all, get_or-map-range_with_len, length-map-range_with_len}
use Rattle.std.proofs.lemmas.Option.{get_or_from_slice_get, none-some, same_Some, slice_get-get_or, slice_get_past}
use Rattle.tp_model.specs.Geometry.{Geometry}
use Rattle.tp_model.specs.Told.{told_blocks, told_sectors}
use Rattle.tp_model.specs.Sectors.{Sector}
use Rattle.tp_model.specs.Pool.{IsExclusive, PlainPool, Volume, slot_at, volume_sector, volume_sectors, volume_size}
use Rattle.tp_sharing.specs.Volumes.{AreSized, BlockSlot, OtherSlot, Volumes, device_of, place_or_none, size_of, slot_of}
use Rattle.tp_stored.specs.Contents.{Contents, HasContents}
use Rattle.tp_sharing.proofs.Told.{size_changes}
use Rattle.tp_shown.specs.Shown.{own_blocks, own_sectors, value_at, value_of, values_at}

-- ---- options

pub is_there : {A : Type 0} (o : Option A) → IsSome o ⊎ (o ≡ None)
is_there None = inr refl
is_there (Some x) = inl refl

pub no_value : {A : Type 0} (o : Option A) → o ≡ None → IsSome o → ⊥
no_value None e s = false≢true s
no_value (Some x) e s = none-some x (sym e)

pub some_value : {A : Type 0} (o : Option A) (x : A) → o ≡ Some x → IsSome o
some_value o x e = subst IsSome (sym e) refl

sized : (n : ℕ) (o : Option (List BlockSlot)) → IsSome o → option_map (λ slots. n) o ≡ Some n
sized n None s = absurd (false≢true s)
sized n (Some xs) s = refl

volume_by : (n : ℕ) (o : Option Volume) → option_map (λ v. length v.sectors) o ≡ Some n → (v : Volume) × (o ≡ Some v) × (length v.sectors ≡ n)
volume_by n None e = absurd (none-some n e)
volume_by n (Some v) e = (v, refl, same_Some (length v.sectors) n e)

none_by : (o : Option Volume) → option_map (λ v. length v.sectors) o ≡ None → o ≡ None
none_by None e = refl
none_by (Some v) e = absurd (none-some (length v.sectors) (sym e))

-- a size that is told is of a device
pub of_device : (n m : ℕ) (o : Option (List BlockSlot)) → option_map (λ slots. n) o ≡ Some m → IsSome o × (m ≡ n)
of_device n m None e = absurd (none-some m e)
of_device n m (Some xs) e = (refl, sym (same_Some n m e))

-- ---- sizes

-- the size that is told, of the devices that are there
pub flat : (g : Geometry) (ds : Volumes) (id : ℕ) → option_map (told_sectors g) (size_of id ds) ≡ option_map (λ slots. own_sectors g ds id) (device_of id ds)
flat g ds id = go (size_of id ds) (device_of id ds) (size_changes.told id ds) where
  go : (a : Option ℕ) (b : Option (List BlockSlot)) → is_some a ≡ is_some b → option_map (told_sectors g) a ≡ option_map (λ slots. told_sectors g (option_map_or (λ n. n) a 0)) b
  go None None e = refl
  go (Some n) (Some xs) e = refl
  go None (Some xs) e = absurd (false≢true e)
  go (Some n) None e = absurd (false≢true (sym e))

-- virtual blocks lie below it
pub own_inside : (g : Geometry) (ds : Volumes) → AreSized g ds → (id block place : ℕ) → slot_of id block ds ≡ Some place → block < own_blocks g ds id
own_inside g ds w id block place h = go (size_of id ds) (device_of id ds) refl refl (size_changes.told id ds) where
  go : (a : Option ℕ) (b : Option (List BlockSlot)) → size_of id ds ≡ a → device_of id ds ≡ b → is_some (size_of id ds) ≡ is_some (device_of id ds) → block < own_blocks g ds id
  go (Some n) b e k t = subst (λ (o : Option ℕ). block < told_blocks g (option_map_or (λ n. n) o 0)) (sym e) (w.inside id n block place e h)
  go None None e k t = absurd (none-some place (sym (ap (place_or_none block) k) ∙ h))
  go None (Some xs) e k t = absurd (false≢true (sym (ap is_some e) ∙ (t ∙ ap is_some k)))

-- ---- places of sectors

-- a place in a data block is of one block, and at one offset
pub one_place : (n p q a b : ℕ) → a < n → b < n → p * n + a ≡ q * n + b → (p ≡ q) × (a ≡ b)
one_place n p q a b la lb e = (
  sym (div-mul-add p n a la) ∙ (ap (λ k. k / n) e ∙ div-mul-add q n b lb),
  sym (mod-mul-add p n a la) ∙ (ap (λ k. k % n) e ∙ mod-mul-add q n b lb),
)

-- a volume with a sector has blocks of some sectors
pub some_sectors : (blocks n k : ℕ) → k < blocks * n → 0 < n
some_sectors blocks zero k h = absurd (omega arith)
some_sectors blocks (suc n) k h = omega arith

-- ---- a list by a function

pub slice_get-map-range : {X : Type 0} (f : ℕ → X) (n k : ℕ) (d : X) → k < n → slice_get (map f (range_with_len 0 n)) k ≡ Some (f k)
slice_get-map-range f n k d lt =
    let z : 0 + k ≡ k = omega arith in
    let long : k < length (map f (range_with_len 0 n)) = omega (arith, lt, length-map-range_with_len f 0 n) in
    slice_get-get_or (map f (range_with_len 0 n)) k d long ∙ ap Some (get_or-map-range_with_len f 0 n k k d lt z)

module _ (g : Geometry) (c : Contents) (image : List Sector) (p : PlainPool) (h : HasContents g c image p) where
  abbrev size : ℕ → ℕ
  size id = own_sectors g c.volumes id

  pub own_sizes : (id : ℕ) → volume_size p id ≡ option_map (λ slots. size id) (device_of id c.volumes)
  own_sizes id = h.sizes id ∙ flat g c.volumes id

  pub size_is : (id : ℕ) → IsSome (device_of id c.volumes) → volume_size p id ≡ Some (size id)
  size_is id s = own_sizes id ∙ sized (size id) (device_of id c.volumes) s

  pub volume_is : (id : ℕ) → IsSome (device_of id c.volumes) → (v : Volume) × (get p.volumes id ≡ Some v) × (length v.sectors ≡ size id)
  volume_is id s = volume_by (size id) (get p.volumes id) (size_is id s)

  pub no_volume : (id : ℕ) → device_of id c.volumes ≡ None → get p.volumes id ≡ None
  no_volume id e = none_by (get p.volumes id) (own_sizes id ∙ ap (option_map (λ slots. size id)) e)

  pub length_is : (id : ℕ) → IsSome (device_of id c.volumes) → length (volume_sectors p id) ≡ size id
  length_is id s = let w = volume_is id s in ap (λ (o : Option Volume). length (option_map_or (λ v. v.sectors) o [])) w.1 ∙ w.2

  -- where there is no device, or past its end, there is no sector
  pub no_sector : (id k : ℕ) → device_of id c.volumes ≡ None → volume_sector p id k ≡ None
  no_sector id k e = ap (λ (o : Option Volume). slice_get (option_map_or (λ v. v.sectors) o []) k) (no_volume id e)

  pub no_sector_past : (id k : ℕ) → IsSome (device_of id c.volumes) → size id ≤ k → volume_sector p id k ≡ None
  no_sector_past id k s le = slice_get_past (volume_sectors p id) k (omega (arith, le, length_is id s))

  value_by : (id k : ℕ) → IsSome (device_of id c.volumes) → k < size id → (o : Option ℕ) → slot_of id (k / g.block_sectors) c.volumes ≡ o → volume_sector p id k ≡ Some (value_of g image o (k % g.block_sectors))
  value_by id k s lt None e = h.sectors.unmapped id k (size id) (size_is id s) lt (h.slots id (k / g.block_sectors) ∙ e)
  value_by id k s lt (Some place) e = h.sectors.mapped id k place (size id) (size_is id s) lt (h.slots id (k / g.block_sectors) ∙ e)

  pub sector_is : (id k : ℕ) → IsSome (device_of id c.volumes) → k < size id → volume_sector p id k ≡ Some (value_at g c.volumes image id k)
  sector_is id k s lt = value_by id k s lt (slot_of id (k / g.block_sectors) c.volumes) refl

  pub sectors_are : (id : ℕ) → IsSome (device_of id c.volumes) → volume_sectors p id ≡ values_at g c.volumes image id 0 (size id)
  sectors_are id s = fill_by_all (value_at g c.volumes image id) (volume_sectors p id) (size id) [] (length_is id s)
      (λ k lt. get_or_from_slice_get (volume_sectors p id) k (value_at g c.volumes image id k) [] (sector_is id k s lt))

  -- a slot whose data block no other one has is exclusive
  alone_by : (id block place i b : ℕ) → slot_of id block c.volumes ≡ Some place → (OtherSlot id block place c.volumes → ⊥)
      → slot_at p i b ≡ slot_at p id block → (i ≡ id) ⊎ (i ≢ id) → (b ≡ block) ⊎ (b ≢ block) → (i ≡ id) × (b ≡ block)
  alone_by id block place i b e none same (inl x) (inl y) = (x, y)
  alone_by id block place i b e none same (inr n) y = absurd (none (i, b, sym (h.slots i b) ∙ (same ∙ (h.slots id block ∙ e)), λ q. n q.0))
  alone_by id block place i b e none same (inl x) (inr n) = absurd (none (i, b, sym (h.slots i b) ∙ (same ∙ (h.slots id block ∙ e)), λ q. n q.1))

  pub exclusive : (id block place : ℕ) → slot_of id block c.volumes ≡ Some place → (OtherSlot id block place c.volumes → ⊥) → IsExclusive p id block
  exclusive id block place e none = record {
    mapped = some_value (slot_at p id block) place (h.slots id block ∙ e);
    alone = λ i b same. alone_by id block place i b e none same (cases_eq i id) (cases_eq b block);
  }

  -- and the other way round
  pub not_shared : (id block place : ℕ) → slot_of id block c.volumes ≡ Some place → IsExclusive p id block → OtherSlot id block place c.volumes → ⊥
  not_shared id block place e x other =
      other.3 (x.alone other.0 other.1 (h.slots other.0 other.1 ∙ (other.2 ∙ (sym e ∙ sym (h.slots id block)))))

-- a slot is of a device
device_by : (block place : ℕ) (o : Option (List BlockSlot)) → place_or_none block o ≡ Some place → IsSome o
device_by block place None e = absurd (none-some place e)
device_by block place (Some xs) e = refl

pub device_is_there : (id block place : ℕ) (ds : Volumes) → slot_of id block ds ≡ Some place → IsSome (device_of id ds)
device_is_there id block place ds e = device_by block place (device_of id ds) e
