-- A volume that grows: its old sectors stay, and those behind them are zero and unmapped.
use Rattle.std.proofs.Common.{◌≡◌, ℕ, zero, suc, ◌+◌, ◌-◌, ◌*◌, ◌/◌, ◌<◌, ◌≤◌, Bool, true, false, List, [], ◌∷◌, ◌++◌, Option, Some, None, ◌⊎◌, inl, inr, refl, sym, ap, ◌∙◌, length, replicate, arith}
use Rattle.std.specs.Prelude.{not, nat_lt, ◌||◌, slice_get}
use Rattle.std.specs.Option.{option_map_or}
use Rattle.std.specs.FinMap.{get, empty}
use Rattle.std.proofs.Math.Nat.{mul-le-mul_right}
use Rattle.std.proofs.lemmas.Bool.{cases_lt, lt-ltb, true≢false}
use Rattle.std.proofs.lemmas.Nat.{div-mul-add}
use Rattle.std.proofs.lemmas.List.{length-append, length-replicate}
use Rattle.std.proofs.lemmas.Option.{none-some}
use Rattle.tp_model.specs.declared.refusal.Refusal.TheVariants.{BadSize, Busy, Failed, NoMetadataSpace, NoSuchDevice, ReadOnly}
use Rattle.tp_model.specs.Sectors.{Sector, zero_sector}
use Rattle.tp_model.specs.Pool.{Volume, PlainPool, hold_count, volume_sectors, IsShaped, IsShapedVolume}
use Rattle.tp_model.specs.Calls.{Grow, exists, first_failed, grown, has_metadata_room, is_failed, is_read_only, refusal_of, volume_blocks, volume_of}
use Rattle.tp_model.proofs.Maps.{get_empty}

-- what a volume is in shape at, also where there is none
shaped_by : (p : PlainPool) → IsShaped p → (id : ℕ) (o : Option Volume) → get p.volumes id ≡ o → IsShapedVolume p.geometry.block_sectors (record { sectors = option_map_or (λ v. v.sectors) o []; slots = option_map_or (λ v. v.slots) o empty })
shaped_by p h id None e = record {
  whole = (0, omega arith);
  inside = λ b l f. absurd (none-some l (sym (get_empty b) ∙ f));
  bytes = λ k s f. absurd (none-some s f);
}
shaped_by p h id (Some v) e = h id v e

pub shaped_at : (p : PlainPool) → IsShaped p → (id : ℕ) → IsShapedVolume p.geometry.block_sectors (volume_of p id)
shaped_at p h id = shaped_by p h id (get p.volumes id) refl

-- ---- two lists of sectors, one behind the other

pub in_front : (xs ys : List Sector) (k : ℕ) → k < length xs → slice_get (xs ++ ys) k ≡ slice_get xs k
in_front [] ys k h = absurd (omega arith)
in_front (x ∷ xs) ys zero h = refl
in_front (x ∷ xs) ys (suc k) h = in_front xs ys k (omega arith)

pub behind : (xs ys : List Sector) (k : ℕ) → length xs ≤ k → slice_get (xs ++ ys) k ≡ slice_get ys (k - length xs)
behind [] ys k h = let e : k ≡ k - 0 = omega arith in ap (slice_get ys) e
behind (x ∷ xs) ys zero h = absurd (omega arith)
behind (x ∷ xs) ys (suc k) h =
    let e : k - length xs ≡ suc k - suc (length xs) = omega arith in
    behind xs ys k (omega arith) ∙ ap (slice_get ys) e

-- ---- the tests

passes : {A : Type 0} (a b c d e f : Bool) (u v w x y z : A) → first_failed ((a, u) ∷ (b, v) ∷ (c, w) ∷ (d, x) ∷ (e, y) ∷ (f, z) ∷ []) ≡ None → e ≡ false
passes true b c d e f u v w x y z h = absurd (none-some u (sym h))
passes false true c d e f u v w x y z h = absurd (none-some v (sym h))
passes false false true d e f u v w x y z h = absurd (none-some w (sym h))
passes false false false true e f u v w x y z h = absurd (none-some x (sym h))
passes false false false false true f u v w x y z h = absurd (none-some y (sym h))
passes false false false false false f u v w x y z h = refl

neither : (a b : Bool) → (a || b) ≡ false → a ≡ false
neither true b h = h
neither false b h = refl

-- an accepted growth takes no block away
pub no_less : (p : PlainPool) (id blocks : ℕ) → refusal_of p (Grow id blocks) ≡ None → volume_blocks p id ≤ blocks
no_less p id blocks none =
    let size = passes (is_failed p.mode) (is_read_only p.mode) (not (exists p id)) (nat_lt 0 (hold_count p.holds id)) (nat_lt blocks (volume_blocks p id) || nat_lt 16777216 blocks) (not (has_metadata_room p 512))
    Failed ReadOnly NoSuchDevice Busy BadSize NoMetadataSpace none in
    elim (cases_lt blocks (volume_blocks p id)) [
      | inl lt ↦ absurd (true≢false (sym (lt-ltb blocks (volume_blocks p id) lt) ∙ neither (nat_lt blocks (volume_blocks p id)) (nat_lt 16777216 blocks) size))
      | inr le ↦ le
    ]

-- ---- the volume

module _ (p : PlainPool) (id blocks : ℕ) (shaped : IsShaped p) (more : volume_blocks p id ≤ blocks) where
  abbrev n : ℕ
  n = p.geometry.block_sectors

  abbrev old : List Sector
  old = volume_sectors p id

  abbrev new : List Sector
  new = replicate (blocks * n - length old) zero_sector

  whole : (b : ℕ) × (length old ≡ b * n)
  whole = (shaped_at p shaped id).whole

  -- the volume has its blocks, where blocks have sectors
  pub blocks_are : 0 < n → length old ≡ volume_blocks p id * n
  blocks_are some =
      let e : whole.0 * n ≡ whole.0 * n + 0 = omega arith in
      whole.1 ∙ ap (λ b. b * n) (sym (ap (λ m. m / n) (whole.1 ∙ e) ∙ div-mul-add whole.0 n 0 some))

  pub fits : length old ≤ blocks * n
  fits = elim (cases_lt 0 n) [
    | inl some ↦ let m : volume_blocks p id * n ≤ blocks * n = mul-le-mul_right n more in omega (arith, m, blocks_are some)
    | inr none ↦
        let z : n ≡ 0 = omega (arith, none) in
        let nothing : length old ≡ 0 = whole.1 ∙ ap (λ m. whole.0 * m) z ∙ omega arith in
        omega (arith, nothing)
  ]

  pub grown_length : length (old ++ new) ≡ blocks * n
  grown_length = length-append old new ∙ (ap (λ m. length old + m) (length-replicate (blocks * n - length old) zero_sector) ∙ omega (arith, fits))

  all_blank : (m k : ℕ) (s : Sector) → slice_get (replicate m zero_sector) k ≡ Some s → s ≡ zero_sector
  all_blank zero k s h = absurd (none-some s h)
  all_blank (suc m) zero s h = sym (same_sector h)
    where
      same_sector : Some zero_sector ≡ Some s → zero_sector ≡ s
      same_sector e = cc
  all_blank (suc m) (suc k) s h = all_blank m k s h

  -- an old sector stays, and each other one is zero
  pub old_or_zero : (k : ℕ) (s : Sector) → slice_get (old ++ new) k ≡ Some s → (slice_get old k ≡ Some s) ⊎ ((length old ≤ k) × (s ≡ zero_sector))
  old_or_zero k s h = elim (cases_lt k (length old)) [
    | inl lt ↦ inl (sym (in_front old new k lt) ∙ h)
    | inr le ↦ inr (le, all_blank (blocks * n - length old) (k - length old) s (sym (behind old new k le) ∙ h))
  ]

  pub grown_shaped : length zero_sector ≡ 512 → IsShapedVolume n (grown p.geometry blocks (volume_of p id))
  grown_shaped bytes = record {
    whole = (blocks, grown_length);
    inside = λ block label f. let at = (shaped_at p shaped id).inside block label f in omega (arith, at, grown_length, fits);
    bytes = λ k s f. elim (old_or_zero k s f) [
      | inl o ↦ (shaped_at p shaped id).bytes k s o
      | inr z ↦ ap length z.1 ∙ bytes
    ];
  }
