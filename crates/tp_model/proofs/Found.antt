-- What is found after a stop: a lawful pool, and where nothing was given since, the very state that was kept.
use Rattle.std.proofs.Common.{◌≡◌, ℕ, suc, ◌+◌, ◌*◌, ◌/◌, ◌<◌, List, [], ◌∷◌, Option, Some, None, inl, inr, refl, sym, ap, subst, ◌∙◌, length}
use Rattle.std.specs.Prelude.{slice_get}
use Rattle.std.specs.Option.{IsSome, option_map, option_map_or}
use Rattle.std.specs.FinMap.{get, empty}
use Rattle.std.proofs.lemmas.Bool.{false≢true}
use Rattle.std.proofs.lemmas.Nat.{div-mul-add}
use Rattle.std.proofs.lemmas.Option.{none-some, same_Some}
use Rattle.tp_model.specs.Sectors.{Sector, zero_sector}
use Rattle.tp_model.specs.Pool.{Volume, PlainPool, volume_sector, slot_at, IsExclusive, IsLawful}
use Rattle.tp_model.specs.PoolStops.{MayReopen, Nothing, reopened}
use Rattle.tp_model.proofs.Maps.{same_nat_map}

-- ---- nothing given: the state that was kept

same_elements : {X : Type 0} (xs ys : List X) → ((k : ℕ) → slice_get xs k ≡ slice_get ys k) → xs ≡ ys
same_elements [] [] h = refl
same_elements [] (y ∷ ys) h = absurd (none-some y (h 0))
same_elements (x ∷ xs) [] h = absurd (none-some x (sym (h 0)))
same_elements (x ∷ xs) (y ∷ ys) h =
    let first = same_Some x y (h 0) in
    let rest = same_elements xs ys (λ k. h (suc k)) in
    λ i. first i ∷ rest i

same_volume : (v w : Option Volume) → option_map (λ v. length v.sectors) v ≡ option_map (λ v. length v.sectors) w
    → ((k : ℕ) → slice_get (option_map_or (λ v. v.sectors) v []) k ≡ slice_get (option_map_or (λ v. v.sectors) w []) k)
    → ((b : ℕ) → get (option_map_or (λ v. v.slots) v empty) b ≡ get (option_map_or (λ v. v.slots) w empty) b) → v ≡ w
same_volume None None size sectors slots = refl
same_volume None (Some w) size sectors slots = absurd (none-some _ size)
same_volume (Some v) None size sectors slots = absurd (none-some _ (sym size))
same_volume (Some v) (Some w) size sectors slots =
    let a = same_elements v.sectors w.sectors sectors in
    let b = same_nat_map v.slots w.slots slots in
    λ i. Some (record { sectors = a i; slots = b i })

given_nothing : (S P : PlainPool) → MayReopen S Nothing P → (id k : ℕ) → volume_sector P id k ≡ volume_sector S id k
given_nothing S P h id k = elim (h.sectors id k) [ inl e ↦ e | inr w ↦ absurd w.3 ]

-- where nothing was given, the state that was kept is found
pub MayReopen-nothing : (S P : PlainPool) → MayReopen S Nothing P → P ≡ reopened S
MayReopen-nothing S P h =
    let volumes = same_nat_map P.volumes S.volumes (λ id. same_volume _ _ (h.ids_and_sizes id) (given_nothing S P h id) (h.slots id)) in
    λ i. record {
      geometry = h.geometry i;
      volumes = volumes i;
      transaction_id = h.transaction_id i;
      needs_check = h.needs_check i;
      mode = h.mode i;
      holds = h.holds i;
      meta_used = h.meta_used i;
      held_root = h.held_root i;
    }

-- ---- the laws

module _ (S P : PlainPool) (given : ℕ → ℕ → Sector → Type 0) (h : MayReopen S given P) (law : IsLawful S) where
  zero_found : (n id k : ℕ) (s : Sector) → S.geometry.block_sectors ≡ n → slot_at P id (k / n) ≡ None → volume_sector P id k ≡ Some s → s ≡ zero_sector
  zero_found n id k s is none at = elim (h.sectors id k) [
    | inl same ↦ law.unmapped id k s (ap (λ (m : ℕ). slot_at S id (k / m)) is ∙ sym (h.slots id (k / n)) ∙ none) (sym same ∙ at)
    | inr w ↦ absurd (false≢true (subst (λ (o : Option ℕ). IsSome o) (ap (λ (m : ℕ). slot_at S id (k / m)) is ∙ sym (h.slots id (k / n)) ∙ none) w.1.mapped))
  ]

  equal_found : (n i b j c o : ℕ) → S.geometry.block_sectors ≡ n → o < n → IsSome (slot_at S i b) → slot_at S i b ≡ slot_at S j c → volume_sector P i (b * n + o) ≡ volume_sector P j (c * n + o)
  equal_found n i b j c o is lt mapped one = elim (h.sectors i (b * n + o)) [
    | inr w ↦
        let x = subst (λ (m : ℕ). IsExclusive S i m) (ap (λ (m : ℕ). (b * n + o) / m) is ∙ div-mul-add b n o lt) w.1 in
        let at = x.alone j c (sym one) in λ t. volume_sector P (sym at.0 t) (sym at.1 t * n + o)
    | inl here ↦ elim (h.sectors j (c * n + o)) [
      | inr w ↦
          let x = subst (λ (m : ℕ). IsExclusive S j m) (ap (λ (m : ℕ). (c * n + o) / m) is ∙ div-mul-add c n o lt) w.1 in
          let at = x.alone i b one in λ t. volume_sector P (at.0 t) (at.1 t * n + o)
      | inl there ↦ here
          ∙ subst (λ (m : ℕ). volume_sector S i (b * m + o) ≡ volume_sector S j (c * m + o)) is (law.shared i b j c o (subst (λ (m : ℕ). o < m) (sym is) lt) mapped one)
          ∙ sym there
    ]
  ]

  -- what is found after a stop is lawful
  pub MayReopen-IsLawful : IsLawful P
  MayReopen-IsLawful =
      let size : S.geometry.block_sectors ≡ P.geometry.block_sectors = ap (λ g. g.block_sectors) (sym h.geometry) in
      record {
        unmapped = λ id k s none at. zero_found P.geometry.block_sectors id k s size none at;
        shared = λ i b j c o lt mapped one.
            equal_found P.geometry.block_sectors i b j c o size lt (subst (λ (o : Option ℕ). IsSome o) (h.slots i b) mapped) (sym (h.slots i b) ∙ one ∙ h.slots j c);
      }

-- a sector of a block that is shared in the state that was kept is found as it was
pub shared_stays : (S P : PlainPool) (given : ℕ → ℕ → Sector → Type 0) → MayReopen S given P → (id k : ℕ) → (IsExclusive S id (k / S.geometry.block_sectors) → ⊥) → volume_sector P id k ≡ volume_sector S id k
shared_stays S P given h id k shared = elim (h.sectors id k) [ inl e ↦ e | inr w ↦ absurd (shared w.1) ]
