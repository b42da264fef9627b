-- What a stop leaves while a request is done to a volume.
use Rattle.std.proofs.Common.{◌≡◌, ◌≢◌, ℕ, ◌+◌, ◌*◌, ◌/◌, ◌%◌, ◌<◌, List, Option, Some, None, ◌⊎◌, inl, inr, refl, sym, ap, subst, ◌∙◌, arith, cond}
use Rattle.std.specs.Prelude.{◌↔◌}
use Rattle.std.specs.Option.{IsSome}
use Rattle.std.proofs.Math.Nat.{mod-lt}
use Rattle.std.proofs.lemmas.Bool.{cases_eq, cases_lt}
use Rattle.std.proofs.lemmas.Nat.{div-add-mod'}
use Rattle.std.proofs.lemmas.Option.{same_Some}
use Rattle.tp_model.specs.declared.mode.Mode.TheVariants as mode
use Rattle.tp_model.specs.Geometry.{Geometry, data_sector}
use Rattle.tp_model.specs.Sectors.{Sector, sector_at}
use Rattle.tp_model.specs.Pool.{IsExclusive, PlainPool, volume_sector}
use Rattle.tp_model.specs.Calls.{Call, Read, Write, Trim, WriteZeroes, Flush, CreateThin, CreateSnap, Delete, SetTransactionId, Hold, LetGo, Status, ThinStatus, NextId, Close, effect_at, slot_effect, volume_asked, Grow, HeldRead, ReleaseMetadataSnap, ReserveMetadataSnap, VolumeBlocks, Walk}
use Rattle.tp_model.specs.PoolStops.{Given, MayReopen}
use Rattle.tp_sharing.specs.Volumes.{Volumes, device_of, slot_of}
use Rattle.tp_stored.specs.Contents.{Contents, HasContents, IsOpened}
use Rattle.tp_shown.specs.Laws.{PartlyReopens, ValuesAreListed}
use Rattle.tp_shown.specs.Shown.{GivesValue, IsGiven, IsPartlyDone, value_of, own_blocks, own_sectors}
use Rattle.tp_shown.proofs.Values.{exclusive, is_there, no_sector, no_sector_past, one_place, sector_is, some_sectors}

module _ (g : Geometry) (kept : Contents) (before image : List Sector) (S P : PlainPool) (s : IsOpened g kept before S) (o : IsOpened g kept image P)
    (call : Call) (id : ℕ) (volumes : Volumes) (w : IsPartlyDone g call id volumes kept.volumes before image) where
  -- a sector is as it was, or was given in a block that was exclusive
  abbrev Found : ℕ → ℕ → Type 0
  Found i k =
      (volume_sector P i k ≡ volume_sector S i k)
      ⊎ ((x : Sector) × IsExclusive S i (k / S.geometry.block_sectors) × (volume_sector P i k ≡ Some x)
      × ((i ≡ id) × GivesValue g call id volumes k x))

  module _ (i k place : ℕ) (lt : k < own_sectors g kept.volumes i) (there : IsSome (device_of i kept.volumes)) (slot : slot_of i (k / g.block_sectors) kept.volumes ≡ Some place) where
    abbrev at : ℕ
    at = data_sector g place + k % g.block_sectors

    inside : k % g.block_sectors < g.block_sectors
    inside = mod-lt k (some_sectors (own_blocks g kept.volumes i) g.block_sectors k lt)

    now : volume_sector P i k ≡ Some (sector_at image at)
    now = sector_is g kept image P o.has i k there lt ∙ ap (λ p. Some (value_of g image p (k % g.block_sectors))) slot

    was : volume_sector S i k ≡ Some (sector_at before at)
    was = sector_is g kept before S s.has i k there lt ∙ ap (λ p. Some (value_of g before p (k % g.block_sectors))) slot

    module _ (v : IsGiven g call id volumes kept.volumes image at) where
      places : (place ≡ v.place) × (k % g.block_sectors ≡ v.offset)
      places = one_place g.block_sectors place v.place (k % g.block_sectors) v.offset inside v.inside (omega (arith, v.is_there))

      here : slot_of i (k / g.block_sectors) kept.volumes ≡ Some v.place
      here = slot ∙ ap Some places.0

      own_by : (i ≡ id) ⊎ (i ≢ id) → (k / g.block_sectors ≡ v.block) ⊎ (k / g.block_sectors ≢ v.block) → (i ≡ id) × (k / g.block_sectors ≡ v.block)
      own_by (inl x) (inl y) = (x, y)
      own_by (inr n) y = absurd (v.alone (i, k / g.block_sectors, here, λ q. n q.0))
      own_by (inl x) (inr n) = absurd (v.alone (i, k / g.block_sectors, here, λ q. n q.1))

      own : (i ≡ id) × (k / g.block_sectors ≡ v.block)
      own = own_by (cases_eq i id) (cases_eq (k / g.block_sectors) v.block)

      sector_of : v.block * g.block_sectors + v.offset ≡ k
      sector_of = (λ j. sym own.1 j * g.block_sectors + sym places.1 j) ∙ div-add-mod' k g.block_sectors

      alone : IsExclusive S i (k / S.geometry.block_sectors)
      alone =
          let x : IsExclusive S id v.block = exclusive g kept before S s.has id v.block v.place v.slot v.alone in
          let y : IsExclusive S i (k / g.block_sectors) = subst (λ j. IsExclusive S j (k / g.block_sectors)) (sym own.0) (subst (IsExclusive S id) (sym own.1) x) in
          subst (λ (y : Geometry). IsExclusive S i (k / y.block_sectors)) (sym s.has.geometry) y

      given : Found i k
      given = inr (sector_at image at, alone, now, (own.0, subst (λ j. GivesValue g call id volumes j (sector_at image at)) sector_of v.value))

    found_there : Found i k
    found_there = elim (w.each at (omega arith)) [
      | inl same ↦ inl (now ∙ (ap Some same ∙ sym was))
      | inr (inl none) ↦ absurd (none i (k / g.block_sectors) place (k % g.block_sectors) slot inside refl)
      | inr (inr v) ↦ given v
    ]

  found_by : (i k : ℕ) → k < own_sectors g kept.volumes i → IsSome (device_of i kept.volumes) → (p : Option ℕ) → slot_of i (k / g.block_sectors) kept.volumes ≡ p → Found i k
  found_by i k lt there None e =
      inl (sector_is g kept image P o.has i k there lt ∙ (ap (λ p. Some (value_of g image p (k % g.block_sectors))) e
      ∙ (sym (ap (λ p. Some (value_of g before p (k % g.block_sectors))) e) ∙ sym (sector_is g kept before S s.has i k there lt))))
  found_by i k lt there (Some place) e = found_there i k place lt there e

  found : (i k : ℕ) → Found i k
  found i k = elim (is_there (device_of i kept.volumes)) [
    | inr none ↦ inl (no_sector g kept image P o.has i k none ∙ sym (no_sector g kept before S s.has i k none))
    | inl there ↦ elim (cases_lt k (own_sectors g kept.volumes i)) [
      | inl lt ↦ found_by i k lt there (slot_of i (k / g.block_sectors) kept.volumes) refl
      | inr le ↦ inl (no_sector_past g kept image P o.has i k there le ∙ sym (no_sector_past g kept before S s.has i k there le))
    ]
  ]

  reopens : MayReopen S (λ i k x. (i ≡ id) × GivesValue g call id volumes k x) P
  reopens = record {
    geometry = o.has.geometry ∙ sym s.has.geometry;
    ids_and_sizes = λ i. o.has.sizes i ∙ sym (s.has.sizes i);
    slots = λ i block. o.has.slots i block ∙ sym (s.has.slots i block);
    transaction_id = o.has.transaction_id ∙ sym s.has.transaction_id;
    needs_check = o.has.needs_check ∙ sym s.has.needs_check;
    meta_used = o.has.meta_used ∙ sym s.has.meta_used;
    held_root = o.has.held_root ∙ sym s.has.held_root;
    mode = o.mode ∙ ap (λ b. cond b mode.ReadOnly mode.Writable) (sym s.has.needs_check);
    holds = o.holds;
    sectors = found;
  }

pub partly_reopens : PartlyReopens
partly_reopens g kept before image S P s o call id now w = reopens g kept before image S P s o call id now w

-- ---- the values that a request gives

module _ (g : Geometry) (c : Contents) (image : List Sector) (p : PlainPool) (h : HasContents g c image p) (id k : ℕ) (x : Sector) where
  effect_is : (call : Call) → slot_effect g call (k / g.block_sectors) (slot_of id (k / g.block_sectors) c.volumes) ≡ effect_at p call id (k / p.geometry.block_sectors)
  effect_is call = (λ i. slot_effect (sym h.geometry i) call (k / (sym h.geometry i).block_sectors) (sym (h.slots id (k / (sym h.geometry i).block_sectors)) i))

  values_by : (call : Call) → volume_asked call ≡ Some id → GivesValue g call id c.volumes k x ↔ Given p call id k x
  values_by (Write i sector sectors fua) asked = (λ v. (same_Some i id asked, v.0, v.1), λ v. (v.1, v.2))
  values_by (WriteZeroes i sector count no_hole fua) asked = (
    λ v. (same_Some i id asked, v.0, v.1, sym (effect_is (WriteZeroes i sector count no_hole fua)) ∙ v.2),
    λ v. (v.1, v.2, effect_is (WriteZeroes i sector count no_hole fua) ∙ v.3),
  )
  values_by (Read i sector count) asked = (λ v. v, λ v. v)
  values_by (Trim i sector count fua) asked = (λ v. v, λ v. v)
  values_by Flush asked = (λ v. v, λ v. v)
  values_by (CreateThin i) asked = (λ v. v, λ v. v)
  values_by (CreateSnap i origin) asked = (λ v. v, λ v. v)
  values_by (Delete i) asked = (λ v. v, λ v. v)
  values_by (Grow i blocks) asked = (λ v. v, λ v. v)
  values_by (SetTransactionId current next) asked = (λ v. v, λ v. v)
  values_by (Hold i) asked = (λ v. v, λ v. v)
  values_by (LetGo i) asked = (λ v. v, λ v. v)
  values_by Status asked = (λ v. v, λ v. v)
  values_by (ThinStatus i) asked = (λ v. v, λ v. v)
  values_by (NextId i) asked = (λ v. v, λ v. v)
  values_by (VolumeBlocks i) asked = (λ v. v, λ v. v)
  values_by (Walk i from) asked = (λ v. v, λ v. v)
  values_by Close asked = (λ v. v, λ v. v)
  values_by (HeldRead i sector count) asked = (λ v. v, λ v. v)
  values_by ReserveMetadataSnap asked = (λ v. v, λ v. v)
  values_by ReleaseMetadataSnap asked = (λ v. v, λ v. v)

pub values_are_listed : ValuesAreListed
values_are_listed g c image p h call id k x asked = values_by g c image p h id k x call asked
