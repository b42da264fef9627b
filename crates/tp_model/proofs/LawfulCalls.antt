-- Each call leaves a lawful pool lawful.
use Rattle.std.proofs.Common.{◌≡◌, ℕ, zero, suc, ◌+◌, ◌*◌, ◌/◌, ◌<◌, ◌≤◌, ◌==◌, arith, length, Bool, true, false, cond, [], Option, Some, None, ◌⊎◌, inl, inr, refl, sym, ap, subst, ◌∙◌, replicate}
use Rattle.std.specs.Prelude.{slice_get}
use Rattle.std.specs.Option.{IsSome, option_map, option_map_or}
use Rattle.std.specs.Ordering.{nat_cmp}
use Rattle.std.specs.FinMap.{FinMap, get, empty, insert, remove, retain_keys}
use Rattle.std.proofs.lemmas.Bool.{false≢true, cases_eq, cases_lt, eq-eqb, ne_eqb}
use Rattle.std.proofs.lemmas.Nat.{div-mul-add}
use Rattle.std.proofs.Math.Nat.{div-mul-le_self, lt-div-mul-add, mul-le-mul_right}
use Rattle.std.proofs.lemmas.Option.{slice_get_within, none-some, same_Some, MatchOption-at_none, MatchOption-at_some}
use Rattle.tp_model.specs.declared.refusal.Refusal.{Refusal}
use Rattle.tp_model.specs.declared.refusal.Refusal.TheVariants.{NoMetadataSpace}
use Rattle.tp_model.specs.Geometry.{Geometry}
use Rattle.tp_model.specs.Sectors.{Sector, zero_sector}
use Rattle.tp_model.specs.Pool.{Volume, PlainPool, is_now, volume_sector, volume_sectors, volume_slots, slot_at, IsExclusive, IsLawful, IsShaped, IsShapedVolume}
use Rattle.tp_model.specs.Calls.{Call, Read, Write, Trim, WriteZeroes, Flush, CreateThin, CreateSnap, Delete, SetTransactionId, Grow, Hold, LetGo, Status, ThinStatus, NextId, VolumeBlocks, Walk, Close, HeldRead, ReserveMetadataSnap, ReleaseMetadataSnap, held_of, Reserves, Answer, SlotEffect, Keeps, Loses, Owns, sector_after, SlotAfter, effect_at, Edits, Makes, Step, refusal_of, after_refusal, grown, new_volume, volume_blocks, volume_of}
use Rattle.tp_model.proofs.Maps.{get_insert, get_empty, get_remove, get_retain}
use Rattle.tp_model.proofs.Growing.{blocks_are, in_front, no_less, old_or_zero, shaped_at}
use Rattle.tp_model.proofs.Editing.{Fits, effect_fits, volume_sector-edited, volume_sector-other, slot_at-other}

-- a block that is unmapped and zero
pub record IsBlank (q : PlainPool) (n i b : ℕ) : Type 0 where
  pub unmapped : slot_at q i b ≡ None
  pub zeros : (k : ℕ) (s : Sector) → k / n ≡ b → volume_sector q i k ≡ Some s → s ≡ zero_sector

-- a block of q is that of a volume of p
pub record IsCopy (p q : PlainPool) (n i b : ℕ) : Type 0 where
  pub j : ℕ
  pub slot : slot_at q i b ≡ slot_at p j b
  pub sectors : (k : ℕ) → k / n ≡ b → volume_sector q i k ≡ volume_sector p j k

abbrev Place : PlainPool → PlainPool → ℕ → ℕ → ℕ → Type 0
Place p q n i b = IsExclusive q i b ⊎ (IsBlank q n i b ⊎ IsCopy p q n i b)

not_mapped : (o : Option ℕ) → IsSome o → o ≡ None → ⊥
not_mapped o m e = false≢true (subst (λ (o : Option ℕ). IsSome o) e m)

module _ (p q : PlainPool) (same : q.geometry ≡ p.geometry) (law : IsLawful p) where
  module _ (n : ℕ) (is : p.geometry.block_sectors ≡ n) (places : (i b : ℕ) → Place p q n i b) where
    zero_there : (i k : ℕ) (s : Sector) → slot_at q i (k / n) ≡ None → volume_sector q i k ≡ Some s → Place p q n i (k / n) → s ≡ zero_sector
    zero_there i k s none h (inl x) = absurd (not_mapped _ x.mapped none)
    zero_there i k s none h (inr (inl x)) = x.zeros k s refl h
    zero_there i k s none h (inr (inr c)) =
        law.unmapped c.j k s (ap (λ (m : ℕ). slot_at p c.j (k / m)) is ∙ sym c.slot ∙ none) (sym (c.sectors k refl) ∙ h)

    equal_there : (i b j c o : ℕ) → o < n → IsSome (slot_at q i b) → slot_at q i b ≡ slot_at q j c → Place p q n i b → Place p q n j c → volume_sector q i (b * n + o) ≡ volume_sector q j (c * n + o)
    equal_there i b j c o lt mapped one (inl x) there =
        let at = x.alone j c (sym one) in λ t. volume_sector q (sym at.0 t) (sym at.1 t * n + o)
    equal_there i b j c o lt mapped one (inr here) (inl y) =
        let at = y.alone i b one in λ t. volume_sector q (at.0 t) (at.1 t * n + o)
    equal_there i b j c o lt mapped one (inr (inl x)) (inr there) = absurd (not_mapped _ mapped x.unmapped)
    equal_there i b j c o lt mapped one (inr (inr x)) (inr (inl y)) = absurd (not_mapped _ mapped (one ∙ y.unmapped))
    equal_there i b j c o lt mapped one (inr (inr x)) (inr (inr y)) =
        x.sectors (b * n + o) (div-mul-add b n o lt)
        ∙ subst (λ (m : ℕ). volume_sector p x.j (b * m + o) ≡ volume_sector p y.j (c * m + o)) is
        (law.shared x.j b y.j c o (subst (λ (m : ℕ). o < m) (sym is) lt) (subst (λ (o : Option ℕ). IsSome o) x.slot mapped) (sym x.slot ∙ one ∙ y.slot))
        ∙ sym (y.sectors (c * n + o) (div-mul-add c n o lt))

  lawful_by_places : ((i b : ℕ) → Place p q p.geometry.block_sectors i b) → IsLawful q
  lawful_by_places places =
      let n = p.geometry.block_sectors in
      let size : q.geometry.block_sectors ≡ n = ap (λ g. g.block_sectors) same in
      record {
        unmapped = λ id k s none h. zero_there n refl places id k s (subst (λ (m : ℕ). slot_at q id (k / m) ≡ None) size none) h (places id (k / n));
        shared = λ i b j c o lt mapped one.
            subst (λ (m : ℕ). volume_sector q i (b * m + o) ≡ volume_sector q j (c * m + o)) (sym size)
            (equal_there n refl places i b j c o (subst (λ (m : ℕ). o < m) size lt) mapped one (places i b) (places j c));
      }

-- ---- the places of each call

unchanged : (p q : PlainPool) → q.volumes ≡ p.volumes → (n i b : ℕ) → Place p q n i b
unchanged p q e n i b = inr (inr (record {
  j = i;
  slot = ap (λ (m : FinMap nat_cmp Volume). get (option_map_or (λ v. v.slots) (get m i) empty) b) e;
  sectors = λ k _. ap (λ (m : FinMap nat_cmp Volume). slice_get (option_map_or (λ v. v.sectors) (get m i) []) k) e;
}))

-- the slot and the sectors of a volume that a map has
slot_in_map : (m : FinMap nat_cmp Volume) (i b : ℕ) (o : Option Volume) → get m i ≡ o → get (option_map_or (λ v. v.slots) (get m i) empty) b ≡ get (option_map_or (λ v. v.slots) o empty) b
slot_in_map m i b o e = ap (λ (x : Option Volume). get (option_map_or (λ v. v.slots) x empty) b) e

sector_in_map : (m : FinMap nat_cmp Volume) (i k : ℕ) (o : Option Volume) → get m i ≡ o → slice_get (option_map_or (λ v. v.sectors) (get m i) []) k ≡ slice_get (option_map_or (λ v. v.sectors) o []) k
sector_in_map m i k o e = ap (λ (x : Option Volume). slice_get (option_map_or (λ v. v.sectors) x []) k) e

all_zero : (n : ℕ) (z s : Sector) (k : ℕ) → slice_get (replicate n z) k ≡ Some s → s ≡ z
all_zero zero z s k h = absurd (none-some s h)
all_zero (suc n) z s zero h = sym (same_Some z s h)
all_zero (suc n) z s (suc k) h = all_zero n z s k h

-- a volume that has no slot and is all zero is put in, or one that is a copy of a volume
put_in : (p q : PlainPool) (id : ℕ) (v : Volume) → q.volumes ≡ insert p.volumes id v
    → (n i b : ℕ) → ((b : ℕ) → get q.volumes id ≡ Some v → Place p q n id b) → Place p q n i b
put_in p q id v e n i b here =
    let at : (i : ℕ) → get q.volumes i ≡ cond (i == id) (Some v) (get p.volumes i) = λ i. ap (λ (m : FinMap nat_cmp Volume). get m i) e ∙ get_insert p.volumes id v i in
    place_by_id (cases_eq i id) at
  where
    place_by_id : (i ≡ id) ⊎ (i ≡ id → ⊥) → ((i : ℕ) → get q.volumes i ≡ cond (i == id) (Some v) (get p.volumes i)) → Place p q n i b
    place_by_id (inl s) at = subst (λ (x : ℕ). Place p q n x b) (sym s) (here b (at id ∙ ap (λ t. cond t (Some v) (get p.volumes id)) (eq-eqb id id refl)))
    place_by_id (inr s) at =
        let other = at i ∙ ap (λ t. cond t (Some v) (get p.volumes i)) (ne_eqb i id s) in
        inr (inr (record { j = i; slot = slot_in_map q.volumes i b _ other; sectors = λ k _. sector_in_map q.volumes i k _ other }))

-- a volume of a pool with a held copy is one that was there
reserved_place : (p q : PlainPool) → Reserves p q → (n i b : ℕ) → Place p q n i b
reserved_place p q r n i b = inr (inr (record { j = held_of i; slot = slot_in_map q.volumes i b _ (r.volumes i); sectors = λ k _. sector_in_map q.volumes i k _ (r.volumes i) }))

-- a copy that was given up is no volume any more, and the others are as they were
released_place : (p q : PlainPool) → q.volumes ≡ retain_keys p.volumes is_now → (n i b : ℕ) (t : Bool) → is_now i ≡ t → Place p q n i b
released_place p q e n i b true is =
    let at : get q.volumes i ≡ get p.volumes i = ap (λ (m : FinMap nat_cmp Volume). get m i) e ∙ (get_retain p.volumes is_now i ∙ ap (λ t. cond t (get p.volumes i) None) is) in
    inr (inr (record { j = i; slot = slot_in_map q.volumes i b _ at; sectors = λ k _. sector_in_map q.volumes i k _ at }))
released_place p q e n i b false is =
    let at : get q.volumes i ≡ None = ap (λ (m : FinMap nat_cmp Volume). get m i) e ∙ (get_retain p.volumes is_now i ∙ ap (λ t. cond t (get p.volumes i) None) is) in
    inr (inl (record {
      unmapped = slot_in_map q.volumes i b _ at ∙ get_empty b;
      zeros = λ k s _ h. absurd (none-some s (sym (sector_in_map q.volumes i k _ at) ∙ h));
    }))

fresh_place : (p q : PlainPool) (g : Geometry) (id n b : ℕ) → get q.volumes id ≡ Some (new_volume g) → Place p q n id b
fresh_place p q g id n b e = inr (inl (record {
  unmapped = slot_in_map q.volumes id b _ e ∙ get_empty b;
  zeros = λ k s _ h. all_zero (g.virtual_blocks * g.block_sectors) zero_sector s k (sym (sector_in_map q.volumes id k _ e) ∙ h);
}))

copied_place : (p q : PlainPool) (origin id n b : ℕ) → get q.volumes id ≡ Some (volume_of p origin) → Place p q n id b
copied_place p q origin id n b e = inr (inr (record {
  j = origin;
  slot = slot_in_map q.volumes id b _ e;
  sectors = λ k _. sector_in_map q.volumes id k _ e;
}))

-- The block of a sector is before the end of so many blocks where the sector is, and behind it where the sector is.
before_end : (n b k blocks : ℕ) → 0 < n → k / n ≡ b → b < blocks → k < blocks * n
before_end n b k blocks some at lt =
    let up : k < k / n * n + n = lt-div-mul-add some in
    let m : (k / n + 1) * n ≤ blocks * n = mul-le-mul_right n (omega (arith, lt, at)) in
    omega (arith, up, m)

behind_end : (n b k blocks : ℕ) → 0 < n → k / n ≡ b → blocks ≤ b → blocks * n ≤ k
behind_end n b k blocks some at le =
    let down : k / n * n ≤ k = div-mul-le_self k n in
    let m : blocks * n ≤ k / n * n = mul-le-mul_right n (omega (arith, le, at)) in
    omega (arith, down, m)

-- a volume that grew has its old blocks, and blank ones behind them
grown_place : (p q : PlainPool) (id blocks : ℕ) → 0 < p.geometry.block_sectors → IsShaped p → volume_blocks p id ≤ blocks → (b : ℕ)
    → get q.volumes id ≡ Some (grown p.geometry blocks (volume_of p id)) → Place p q p.geometry.block_sectors id b
grown_place p q id blocks some shaped more b e =
    let n = p.geometry.block_sectors in
    let end = blocks_are p id blocks shaped more some in
    elim (cases_lt b (volume_blocks p id)) [
      | inl lt ↦ inr (inr (record {
        j = id;
        slot = slot_in_map q.volumes id b _ e;
        sectors = λ k at. sector_in_map q.volumes id k _ e ∙ in_front (volume_sectors p id) _ k (omega (arith, end, before_end n b k (volume_blocks p id) some at lt));
      }))
      | inr le ↦ inr (inl (record {
        unmapped = slot_in_map q.volumes id b _ e ∙ no_slot n b (volume_blocks p id) some le end (shaped_at p shaped id) (get (volume_slots p id) b) refl;
        zeros = λ k s at h. elim (old_or_zero p id blocks shaped more k s (sym (sector_in_map q.volumes id k _ e) ∙ h)) [
          | inl o ↦ absurd (omega (arith, slice_get_within (volume_sectors p id) k s o, end, behind_end n b k (volume_blocks p id) some at le))
          | inr z ↦ z.1
        ];
      }))
    ]
  where
    no_slot : (n b blocks : ℕ) → 0 < n → blocks ≤ b → length (volume_sectors p id) ≡ blocks * n → IsShapedVolume n (volume_of p id) → (o : Option ℕ) → get (volume_slots p id) b ≡ o → get (volume_slots p id) b ≡ None
    no_slot n b blocks some le end at None is = is
    no_slot n b blocks some le end at (Some label) is =
        let inside = at.inside b label is in
        let m : blocks * n ≤ b * n = mul-le-mul_right n le in
        let next : (b + 1) * n ≡ b * n + n = omega arith in
        absurd (omega (arith, inside, end, m, next, some))

deleted_place : (p q : PlainPool) (id : ℕ) → q.volumes ≡ remove p.volumes id → (n i b : ℕ) → (t : Bool) → (i == id) ≡ t → Place p q n i b
deleted_place p q id e n i b true t =
    let gone : get q.volumes i ≡ None = ap (λ (m : FinMap nat_cmp Volume). get m i) e ∙ get_remove p.volumes id i ∙ ap (λ t. cond t None (get p.volumes i)) t in
    inr (inl (record {
      unmapped = slot_in_map q.volumes i b _ gone ∙ get_empty b;
      zeros = λ k s _ h. absurd (none-some s (sym (sector_in_map q.volumes i k _ gone) ∙ h));
    }))
deleted_place p q id e n i b false t =
    let other : get q.volumes i ≡ get p.volumes i = ap (λ (m : FinMap nat_cmp Volume). get m i) e ∙ get_remove p.volumes id i ∙ ap (λ t. cond t None (get p.volumes i)) t in
    inr (inr (record { j = i; slot = slot_in_map q.volumes i b _ other; sectors = λ k _. sector_in_map q.volumes i k _ other }))

mapped_some : (f : Sector → Sector) (o : Option Sector) (s : Sector) → option_map f o ≡ Some s → (x : Sector) × (o ≡ Some x) × (f x ≡ s)
mapped_some f None s h = absurd (none-some s h)
mapped_some f (Some x) s h = (x, refl, same_Some (f x) s h)

module _ (p : PlainPool) (call : Call) (id : ℕ) (q : PlainPool) (e : Edits p call id q) (law : IsLawful p) (some : 0 < p.geometry.block_sectors) where
  fits_at : (k b : ℕ) (old : Sector) (effect : SlotEffect) → k / p.geometry.block_sectors ≡ b → effect_at p call id b ≡ effect → Fits effect (sector_after p.geometry call k old) old (slot_at p id b)
  fits_at k b old effect at is =
      subst (λ (f : SlotEffect). Fits f (sector_after p.geometry call k old) old (slot_at p id b)) is
      (subst (λ (m : ℕ). Fits (effect_at p call id m) (sector_after p.geometry call k old) old (slot_at p id m)) at
      (effect_fits p.geometry call k old (slot_at p id (k / p.geometry.block_sectors)) some))

  -- where the slot stays and is there, the sector stays; where there is none, it is zero as before
  kept_some : (k b l : ℕ) → k / p.geometry.block_sectors ≡ b → effect_at p call id b ≡ Keeps → slot_at p id b ≡ Some l → (o : Option Sector) → option_map (sector_after p.geometry call k) o ≡ o
  kept_some k b l at is m None = refl
  kept_some k b l at is m (Some old) = elim (fits_at k b old Keeps at is) [
    | inl same ↦ ap (λ x. Some x) same
    | inr w ↦ absurd (none-some l (sym w.1 ∙ m))
  ]

  zero_or_same : (new old : Sector) → (new ≡ old) ⊎ (new ≡ zero_sector) → old ≡ zero_sector → new ≡ zero_sector
  zero_or_same new old (inl a) z = a ∙ z
  zero_or_same new old (inr a) z = a

  edited_place : (b : ℕ) (effect : SlotEffect) → effect_at p call id b ≡ effect → SlotAfter effect p q id b → (slot : Option ℕ) → slot_at p id b ≡ slot → Place p q p.geometry.block_sectors id b
  edited_place b Owns is after slot m = inl after
  edited_place b Loses is after slot m = inr (inl (record {
    unmapped = after;
    zeros = λ k s at h.
        let w = mapped_some (sector_after p.geometry call k) (volume_sector p id k) s (sym (volume_sector-edited p call id q e k) ∙ h) in
        sym w.2 ∙ fits_at k b w.0 Loses at is;
  }))
  edited_place b Keeps is after None m = inr (inl (record {
    unmapped = after ∙ m;
    zeros = λ k s at h.
        let w = mapped_some (sector_after p.geometry call k) (volume_sector p id k) s (sym (volume_sector-edited p call id q e k) ∙ h) in
        let old : w.0 ≡ zero_sector = law.unmapped id k w.0 (ap (slot_at p id) at ∙ m) w.1 in
        sym w.2 ∙ elim (fits_at k b w.0 Keeps at is) [ inl same ↦ same ∙ old | inr z ↦ z.0 ];
  }))
  edited_place b Keeps is after (Some l) m = inr (inr (record {
    j = id;
    slot = after;
    sectors = λ k at. volume_sector-edited p call id q e k ∙ kept_some k b l at is m (volume_sector p id k);
  }))

  other_place : (i b : ℕ) → (i ≡ id) ⊎ (i ≡ id → ⊥) → Place p q p.geometry.block_sectors i b
  other_place i b (inl s) = subst (λ (x : ℕ). Place p q p.geometry.block_sectors x b) (sym s) (edited_place b (effect_at p call id b) refl (e.slots b) (slot_at p id b) refl)
  other_place i b (inr s) = inr (inr (record { j = i; slot = slot_at-other p call id q e i b s; sectors = λ k _. volume_sector-other p call id q e i k s }))

  pub Edits-IsLawful : IsLawful q
  Edits-IsLawful = lawful_by_places p q (ap (λ r. r.geometry) e.rest) law (λ i b. other_place i b (cases_eq i id))

volumes_lawful : (p q : PlainPool) → q.geometry ≡ p.geometry → q.volumes ≡ p.volumes → IsLawful p → IsLawful q
volumes_lawful p q g e law = lawful_by_places p q g law (unchanged p q e p.geometry.block_sectors)

same_lawful : (p q : PlainPool) → q ≡ p → IsLawful p → IsLawful q
same_lawful p q e law = subst IsLawful (sym e) law

-- an accepted call leaves a lawful pool in shape lawful
pub Makes-IsLawful : (p : PlainPool) (call : Call) (q : PlainPool) → 0 < p.geometry.block_sectors → IsShaped p → refusal_of p call ≡ None → IsLawful p → Makes p call q → IsLawful q
Makes-IsLawful p (Write id at xs fua) q some shaped none law h = Edits-IsLawful p (Write id at xs fua) id q h law some
Makes-IsLawful p (Trim id at n fua) q some shaped none law h = Edits-IsLawful p (Trim id at n fua) id q h law some
Makes-IsLawful p (WriteZeroes id at n no_hole fua) q some shaped none law h = Edits-IsLawful p (WriteZeroes id at n no_hole fua) id q h law some
Makes-IsLawful p (CreateThin id) q some shaped none law h =
    lawful_by_places p q (ap (λ r. r.geometry) h.is) law
    (λ i b. put_in p q id (new_volume p.geometry) (ap (λ r. r.volumes) h.is) p.geometry.block_sectors i b (λ b e. fresh_place p q p.geometry id _ b e))
Makes-IsLawful p (CreateSnap id origin) q some shaped none law h =
    lawful_by_places p q (ap (λ r. r.geometry) h.is) law
    (λ i b. put_in p q id (volume_of p origin) (ap (λ r. r.volumes) h.is) p.geometry.block_sectors i b (λ b e. copied_place p q origin id _ b e))
Makes-IsLawful p (Delete id) q some shaped none law h =
    lawful_by_places p q (ap (λ r. r.geometry) h.is) law (λ i b. deleted_place p q id (ap (λ r. r.volumes) h.is) p.geometry.block_sectors i b (i == id) refl)
Makes-IsLawful p (SetTransactionId current next) q some shaped none law h = volumes_lawful p q (ap (λ r. r.geometry) h) (ap (λ r. r.volumes) h) law
Makes-IsLawful p (Grow id blocks) q some shaped none law h =
    lawful_by_places p q (ap (λ r. r.geometry) h.is) law
    (λ i b. put_in p q id (grown p.geometry blocks (volume_of p id)) (ap (λ r. r.volumes) h.is) p.geometry.block_sectors i b
    (λ b e. grown_place p q id blocks some shaped (no_less p id blocks none) b e))
Makes-IsLawful p (Hold id) q some shaped none law h = volumes_lawful p q (ap (λ r. r.geometry) h) (ap (λ r. r.volumes) h) law
Makes-IsLawful p (LetGo id) q some shaped none law h = volumes_lawful p q (ap (λ r. r.geometry) h) (ap (λ r. r.volumes) h) law
Makes-IsLawful p (Read id at n) q some shaped none law h = same_lawful p q h law
Makes-IsLawful p Flush q some shaped none law h = same_lawful p q h law
Makes-IsLawful p Status q some shaped none law h = same_lawful p q h law
Makes-IsLawful p (ThinStatus id) q some shaped none law h = same_lawful p q h law
Makes-IsLawful p (NextId id) q some shaped none law h = same_lawful p q h law
Makes-IsLawful p (VolumeBlocks id) q some shaped none law h = same_lawful p q h law
Makes-IsLawful p (Walk id from) q some shaped none law h = same_lawful p q h law
Makes-IsLawful p Close q some shaped none law h = same_lawful p q h law
Makes-IsLawful p (HeldRead id at n) q some shaped none law h = same_lawful p q h law
Makes-IsLawful p ReserveMetadataSnap q some shaped none law h = lawful_by_places p q (ap (λ r. r.geometry) h.rest) law (λ i b. reserved_place p q h p.geometry.block_sectors i b)
Makes-IsLawful p ReleaseMetadataSnap q some shaped none law h =
    lawful_by_places p q (ap (λ r. r.geometry) h.is) law (λ i b. released_place p q (ap (λ r. r.volumes) h.is) p.geometry.block_sectors i b (is_now i) refl)

pub refusal_volumes : (r : Refusal) (p : PlainPool) → ((after_refusal r p).volumes ≡ p.volumes) × ((after_refusal r p).geometry ≡ p.geometry)
refusal_volumes NoMetadataSpace p = (refl, refl)
refusal_volumes r p = (refl, refl)

step_by : (p : PlainPool) (call : Call) (answer : Answer) (q : PlainPool) → 0 < p.geometry.block_sectors → IsShaped p → IsLawful p → (o : Option Refusal) → refusal_of p call ≡ o → Step p call answer q → IsLawful q
step_by p call answer q some shaped law None is h =
    Makes-IsLawful p call q some shaped is law (MatchOption-at_none _ _ is h).1
step_by p call answer q some shaped law (Some r) is h =
    let e = (MatchOption-at_some _ _ r is h).1 in
    let same = refusal_volumes r p in
    volumes_lawful p q (ap (λ x. x.geometry) e ∙ same.1) (ap (λ x. x.volumes) e ∙ same.0) law

-- Each call leaves a lawful pool in shape lawful, whatever the answer.
pub Step-IsLawful : (p : PlainPool) (call : Call) (answer : Answer) (q : PlainPool) → 0 < p.geometry.block_sectors → IsShaped p → IsLawful p → Step p call answer q → IsLawful q
Step-IsLawful p call answer q some shaped law h = step_by p call answer q some shaped law (refusal_of p call) refl h
