-- What the release of a held copy frees.
use Rattle.std.proofs.Common.{◌≡◌, ◌≢◌, inl, inr, ℕ, zero, suc, ◌+◌, ◌-◌, ◌*◌, ◌/◌, ◌%◌, ◌^◌, ◌<◌, ◌≤◌, ◌==◌, Bool, true, false, cond, Option, Some, None, List, [], length, refl, sym, ap, subst, ◌∙◌, arith}
use Rattle.std.specs.Prelude.{IsSome, if◌then◌else◌}
use Rattle.std.specs.Option.{option_map_or}
use Rattle.std.specs.List.{count_by, enumerate_from, range_with_len}
use Rattle.std.specs.Ordering.{nat_cmp}
use Rattle.std.specs.FinMap.{FinMap, empty, get, remove, retain_keys}
use Rattle.std.proofs.lemmas.Bool.{and_from, cases_eq, eq-eqb, eqb-true, false≢true, lt-ltb, ltb-false, ne_eqb, true≢false}
use Rattle.std.proofs.lemmas.List.{length-map}
use Rattle.std.proofs.lemmas.List.FromFn.{length-enumerate_from}
use Rattle.tp_model.specs.Sectors.{Sector, sectors_of}
use Rattle.tp_model.specs.Pool.{IsExclusive, PlainPool, Volume, copy_id, is_exclusive, is_now, slot_at, used, volume_sectors}
use Rattle.tp_model.specs.Calls.{Done, Edits, Keeps, Makes, Owns, ReleaseMetadataSnap, ReserveMetadataSnap, Reserves, SlotAfter, Write, held_of, new_volume, sector_after, touches}
use Rattle.tp_model.proofs.Counting.{count_more}
use Rattle.tp_model.proofs.DiskLaws.{length-sectors_of}
use Rattle.tp_model.proofs.Maps.{get_empty, get_insert, get_remove, get_retain, same_nat_map}
use Rattle.tp_model.proofs.Removing.{count_less, used_without, without}
use Rattle.tp_model.proofs.Sharing.{Decides-is_exclusive}
use Rattle.tp_meta.specs.declared.whole.Meta.{Meta}
use Rattle.tp_meta.specs.Standing.{StandsFor, geometry_of}
use Rattle.tp_pool.specs.Held.{Held, PoolCalled}
use Rattle.tp_users.specs.Users.{Bears, BearsCopy, Frees, IsBlank, blocks_touched, users_geometry}
use Rattle.tp_users.proofs.Copies.{at_volume, copy_bears, copy_is_high, copy_is_other, copy_stays, held_high, still_bears}
use Rattle.tp_users.proofs.Given.{Shows}
use Rattle.tp_users.proofs.Plain.{blank, blank_sectors, done_makes, put_is_borne, written_is_borne}

-- ---- some number of a range passes

some_counted : (p : ℕ → Bool) (n k : ℕ) → k < n → p k ≡ true → 0 < count_by p (range_with_len 0 n)
some_counted p zero k low passes = absurd (omega (arith, low))
some_counted p (suc n) k low passes = elim (cases_eq k n) [
  | inl last ↦
      let one : cond {A = ℕ} (p n) 1 0 ≡ 1 = ap {B = ℕ} (λ (b : Bool). cond b 1 0) (ap p (sym last) ∙ passes) in
      let more = count_more p n in
      let is : n + 1 ≡ suc n = omega arith in
      let all : count_by p (range_with_len 0 (suc n)) ≡ count_by p (range_with_len 0 n) + cond (p n) 1 0 = ap (λ (m : ℕ). count_by p (range_with_len 0 m)) (sym is) ∙ more in
      omega (arith, all, one)
  | inr apart ↦
      let below : k < n = omega (arith, low, apart) in
      let before = some_counted p n k below passes in
      let more = count_more p n in
      let is : n + 1 ≡ suc n = omega arith in
      let all : count_by p (range_with_len 0 (suc n)) ≡ count_by p (range_with_len 0 n) + cond (p n) 1 0 = ap (λ (m : ℕ). count_by p (range_with_len 0 m)) (sym is) ∙ more in
      omega (arith, all, before)
]

-- ---- slots

abbrev slot_in : Option Volume → ℕ → Option ℕ
slot_in o block = get (option_map_or (λ v. v.slots) o empty) block

-- a block of which a write has sectors has a data block for itself behind it, and another one keeps its slot
owned : (p q : PlainPool) (id sector : ℕ) (xs : List Sector) → Edits p (Write id sector xs false) id q → (k : ℕ) → touches p.geometry sector (length xs) k ≡ true → IsExclusive q id k
owned p q id sector xs e k t = subst (λ (b : Bool). SlotAfter (if b then Owns else Keeps) p q id k) t (e.slots k)

kept : (p q : PlainPool) (id sector : ℕ) (xs : List Sector) → Edits p (Write id sector xs false) id q → (k : ℕ) → touches p.geometry sector (length xs) k ≡ false
    → slot_at q id k ≡ slot_at p id k
kept p q id sector xs e k t = subst (λ (b : Bool). SlotAfter (if b then Owns else Keeps) p q id k) t (e.slots k)

-- of two ids that are held as one the one that is no device's
is_copy : (i id : ℕ) (now : Bool) → is_now i ≡ now → (i ≢ id) → held_of i ≡ id → i ≡ copy_id id
is_copy i id true is apart same = absurd (apart (sym (ap (λ (b : Bool). cond b i (i - 2 ^ 24)) is) ∙ same))
is_copy i id false is apart same =
    let high : 2 ^ 24 ≤ i = ltb-false i (2 ^ 24) is in
    let back : i - 2 ^ 24 ≡ id = sym (ap (λ (b : Bool). cond b i (i - 2 ^ 24)) is) ∙ same in
    omega (arith, high, back)

-- ---- a blank pool's volume was written, reserved, and written in the same place

module _ (id meta_used sector : ℕ) (xs ys : List Sector) (s1 s2 s3 : PlainPool) (low : id < 2 ^ 24) (same : length ys ≡ length xs)
    (e1 : Edits (blank id meta_used) (Write id sector xs false) id s1) (r : Reserves s1 s2) (e2 : Edits s2 (Write id sector ys false) id s3) where
  abbrev touched : ℕ → Bool
  touched k = touches users_geometry sector (length xs) k

  geometry2 : s2.geometry ≡ users_geometry
  geometry2 = ap (λ (p : PlainPool). p.geometry) r.rest ∙ ap (λ (p : PlainPool). p.geometry) e1.rest

  geometry3 : s3.geometry ≡ users_geometry
  geometry3 = ap (λ (p : PlainPool). p.geometry) e2.rest ∙ geometry2

  touched2 : (k : ℕ) → touches s2.geometry sector (length ys) k ≡ touched k
  touched2 k = λ i. touches (geometry2 i) sector (same i) k

  first : (k : ℕ) → touched k ≡ true → IsExclusive s1 id k
  first k t = owned (blank id meta_used) s1 id sector xs e1 k t

  second : (k : ℕ) → touched k ≡ true → IsExclusive s3 id k
  second k t = owned s2 s3 id sector ys e2 k (touched2 k ∙ t)

  still : (k : ℕ) → touched k ≡ false → slot_at s3 id k ≡ slot_at s1 id k
  still k t = kept s2 s3 id sector ys e2 k (touched2 k ∙ t) ∙ ap (λ (o : Option Volume). slot_in o k) (at_volume id s1 s2 low r)

  other : (i : ℕ) → i ≢ id → get s3.volumes i ≡ get s1.volumes (held_of i)
  other i apart = e2.others i apart ∙ r.volumes i

  copied : (k : ℕ) → slot_at s3 (copy_id id) k ≡ slot_at s1 id k
  copied k = ap (λ (o : Option Volume). slot_in o k) (other (copy_id id) (copy_is_other id) ∙ ap (get s1.volumes) (held_high id))

  of_volume : (k b : ℕ) → touched k ≡ true → slot_at s3 id b ≡ slot_at s3 (copy_id id) k → (t : Bool) → touched b ≡ t → ⊥
  of_volume k b t e true is = copy_is_other id ((second b is).alone (copy_id id) k (sym e)).0
  of_volume k b t e false is =
      let at : b ≡ k = ((first k t).alone id b (sym (still b is) ∙ e ∙ copied k)).1 in
      true≢false (sym t ∙ ap touched (sym at) ∙ is)

  -- a block that was written has a data block in the copy that no other slot has
  own : (k : ℕ) → touched k ≡ true → IsExclusive s3 (copy_id id) k
  own k t = record {
    mapped = subst (λ (o : Option ℕ). IsSome o) (sym (copied k)) (first k t).mapped;
    alone = λ i b e. elim (cases_eq i id) [
      | inl is ↦ absurd (of_volume k b t (ap (λ j. slot_at s3 j b) (sym is) ∙ e) (touched b) refl)
      | inr apart ↦
          let at = (first k t).alone (held_of i) b (sym (ap (λ (o : Option Volume). slot_in o b) (other i apart)) ∙ e ∙ copied k) in
          (is_copy i id (is_now i) refl apart at.0, at.1)
    ];
  }

  abbrev none : FinMap nat_cmp Volume
  none = empty

  -- there is no other copy
  none_else : (i : ℕ) → is_now i ≡ false → i ≢ copy_id id → get s3.volumes i ≡ None
  none_else i high differs =
      let least : 2 ^ 24 ≤ i = ltb-false i (2 ^ 24) high in
      let apart : i ≡ id → ⊥ = λ e. omega (arith, e, least, low) in
      let another : held_of i ≡ id → ⊥ = λ e. differs (is_copy i id false high apart e) in
      other i apart ∙ e1.others (held_of i) another
      ∙ get_insert none id (new_volume users_geometry) (held_of i)
      ∙ ap (λ (b : Bool). cond b (Some (new_volume users_geometry)) (get none (held_of i))) (ne_eqb (held_of i) id another)
      ∙ get_empty (held_of i)

  at_key : (i : ℕ) (now copy : Bool) → is_now i ≡ now → (i == copy_id id) ≡ copy → cond now (get s3.volumes i) None ≡ cond copy None (get s3.volumes i)
  at_key i true true is e = absurd (true≢false (sym is ∙ ap is_now (eqb-true i (copy_id id) e) ∙ copy_is_high id))
  at_key i true false is e = refl
  at_key i false true is e = refl
  at_key i false false is e = sym (none_else i is (λ same. false≢true (sym e ∙ eq-eqb i (copy_id id) same)))

  volumes_left : retain_keys s3.volumes is_now ≡ remove s3.volumes (copy_id id)
  volumes_left = same_nat_map (retain_keys s3.volumes is_now) (remove s3.volumes (copy_id id)) (λ i.
      get_retain s3.volumes is_now i ∙ at_key i (is_now i) (i == copy_id id) refl refl ∙ sym (get_remove s3.volumes (copy_id id) i))

  -- ---- how many

  long : length (volume_sectors s3 id) ≡ 2048
  long =
      ap (λ (o : Option Volume). length (option_map_or (λ v. v.sectors) o [])) e2.volume
      ∙ length-map (enumerate_from 0 (volume_sectors s2 id)) (λ (x : ℕ × Sector). sector_after s2.geometry (Write id sector ys false) x.0 x.1)
      ∙ length-enumerate_from 0 (volume_sectors s2 id)
      ∙ ap (λ (o : Option Volume). length (option_map_or (λ v. v.sectors) o [])) (at_volume id s1 s2 low r)
      ∙ ap (λ (o : Option Volume). length (option_map_or (λ v. v.sectors) o [])) e1.volume
      ∙ length-map (enumerate_from 0 (volume_sectors (blank id meta_used) id)) (λ (x : ℕ × Sector). sector_after users_geometry (Write id sector xs false) x.0 x.1)
      ∙ length-enumerate_from 0 (volume_sectors (blank id meta_used) id)
      ∙ blank_sectors id meta_used

  touched3 : (k : ℕ) → touches s3.geometry sector (length xs) k ≡ touched k
  touched3 k = λ i. touches (geometry3 i) sector (length xs) k

  many : blocks_touched s3 id sector (length xs) ≡ count_by touched (range_with_len 0 16)
  many = λ i. count_by (touches (geometry3 i) sector (length xs)) (range_with_len 0 (long i / (geometry3 i).block_sectors))

  free : (after : PlainPool) → Makes s3 ReleaseMetadataSnap after → used after + blocks_touched s3 id sector (length xs) ≤ used s3
  free after is =
      let left : used after ≡ used (without s3 (copy_id id)) = ap used is.is ∙ ap (λ (vs : FinMap nat_cmp Volume). used (record s3 { volumes = vs })) volumes_left in
      let fewer : count_by touched (range_with_len 0 16) ≤ count_by (is_exclusive s3 (copy_id id)) (range_with_len 0 16)
      = count_less touched (is_exclusive s3 (copy_id id)) (range_with_len 0 16) (λ k t. (Decides-is_exclusive s3 (copy_id id) k).1 (own k t)) in
      let back = used_without s3 (copy_id id) 16 in
      omega (arith, left, fewer, back, many)

  some : sector + length xs ≤ 2048 → 0 < length xs → 0 < blocks_touched s3 id sector (length xs)
  some fits more =
      let k = sector / 128 in
      let inside : k < 16 = omega (arith, fits, more) in
      let behind : sector < (k + 1) * 128 = omega arith in
      let before : k * 128 < sector + length xs = omega (arith, more) in
      let here : touched k ≡ true = and_from _ _ (and_from _ _ (lt-ltb 0 (length xs) more) (lt-ltb sector ((k + 1) * 128) behind)) (lt-ltb (k * 128) (sector + length xs) before) in
      let counted = some_counted touched 16 k inside here in
      omega (arith, counted, many)

-- ---- the calls

pub held_shown : (p0 p1 p2 p3 : Held Meta) (id sector : ℕ) (first second : List ℕ) → id < 2 ^ 24 → ((s : PlainPool) × IsBlank id s × Shows p0 s) → sector + length first / 512 ≤ 2048
    → length second ≡ length first → PoolCalled geometry_of StandsFor p0 p1 (Write id sector (sectors_of first) false) Done → PoolCalled geometry_of StandsFor p1 p2 ReserveMetadataSnap Done
    → PoolCalled geometry_of StandsFor p2 p3 (Write id sector (sectors_of second) false) Done
    → (s : PlainPool) × Bears id sector second s × BearsCopy id sector first s × Frees id sector (length first / 512) s × Shows p3 s
held_shown p0 p1 p2 p3 id sector first second low w fits same write reserve again =
    let xs = sectors_of first in
    let ys = sectors_of second in
    let n : length xs ≡ length first / 512 = length-sectors_of first in
    let alike : length ys ≡ length xs = length-sectors_of second ∙ ap (λ m. m / 512) same ∙ sym n in
    let m1 = write.called.meets w.0 w.2 in
    let made1 : Edits w.0 (Write id sector xs false) id m1.1 = done_makes w.0 (Write id sector xs false) m1.0 m1.1 m1.2 in
    let e1 : Edits (blank id w.1.0) (Write id sector xs false) id m1.1 = subst (λ (p : PlainPool). Edits p (Write id sector xs false) id m1.1) w.1.1 made1 in
    let b1 : Bears id sector first m1.1 = written_is_borne id sector first w.0 m1.1 low w.1 fits made1 in
    let m2 = reserve.called.meets m1.1 m1.3 in
    let r : Reserves m1.1 m2.1 = done_makes m1.1 ReserveMetadataSnap m2.0 m2.1 m2.2 in
    let b2 : Bears id sector first m2.1 = still_bears id sector first m1.1 m2.1 b1 r in
    let m3 = again.called.meets m2.1 m2.3 in
    let e2 : Edits m2.1 (Write id sector ys false) id m3.1 = done_makes m2.1 (Write id sector ys false) m3.0 m3.1 m3.2 in
    let inside : sector + length second / 512 ≤ length (volume_sectors m2.1 id) = omega (arith, ap (λ m. m / 512) same, b2.inside) in (
      m3.1,
      put_is_borne id sector second m2.1 m3.1 low b2.geometry b2.works b2.clean inside e2,
      copy_stays id sector sector first ys m2.1 m3.1 (copy_bears id sector first m1.1 m2.1 b1 r) e2,
      subst (λ (k : ℕ). Frees id sector k m3.1) n (record {
        those = free id w.1.0 sector xs ys m1.1 m2.1 m3.1 low alike e1 r e2;
        some = some id w.1.0 sector xs ys m1.1 m2.1 m3.1 low alike e1 r e2 (omega (arith, n, fits));
      }),
      m3.3,
    )

-- behind the release
pub release_shown : (old new : Held Meta) (id sector : ℕ) (first second : List ℕ) → length first % 512 ≡ 0
    → ((s : PlainPool) × Bears id sector second s × BearsCopy id sector first s × Frees id sector (length first / 512) s × Shows old s)
    → PoolCalled geometry_of StandsFor old new ReleaseMetadataSnap Done
    → (held : PlainPool) × (after : PlainPool) × Bears id sector second held × BearsCopy id sector first held × Makes held ReleaseMetadataSnap after
    × (used after + blocks_touched held id sector (length first / 512) ≤ used held) × (0 < length first → used after < used held) × Shows new after
release_shown old new id sector first second whole (s, b, c, frees, is) called =
    let m = called.called.meets s is in
    let made : Makes s ReleaseMetadataSnap m.1 = done_makes s ReleaseMetadataSnap m.0 m.1 m.2 in
    let least : used m.1 + blocks_touched s id sector (length first / 512) ≤ used s = frees.those m.1 made in (
      s,
      m.1,
      b,
      c,
      made,
      least,
      λ more. let blocks : 0 < blocks_touched s id sector (length first / 512) = frees.some (omega (arith, more, whole)) in omega (arith, least, blocks),
      m.3,
    )
