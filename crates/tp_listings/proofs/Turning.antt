-- Pages of what the walks of a pool list.
use Rattle.std.proofs.Common.{◌≡◌, ◌≢◌, ◌⊎◌, inl, inr, ℕ, ◌<◌, ◌≤◌, Option, None, Some, List, [], ◌∷◌, length, refl, sym, ap, ◌∙◌, arith}
use Rattle.std.specs.Prelude.{IsSome, is_some, slice_get}
use Rattle.std.specs.Ordering.{nat_cmp}
use Rattle.std.specs.FinMap.{entries, find}
use Rattle.std.proofs.lemmas.Bool.{false≢true}
use Rattle.tp_model.specs.Pool.{PlainPool, slot_at, volume_slots}
use Rattle.tp_model.specs.Calls.{piece_from}
use Rattle.tp_model.proofs.Walking.{piece_full, piece_onward, piece_short}
use Rattle.tp_listings.specs.declared.extent.Extent.{Extent}
use Rattle.tp_listings.specs.Listings.{AreApart, AreRunsOf, Covers}
use Rattle.tp_listings.specs.Pages.{BeginsEighth, Differ, IsPage, behind, far_as, reach}
use Rattle.tp_listings.proofs.Found.{no_place}
use Rattle.tp_listings.proofs.Runs.{same}

abbrev piece : PlainPool → ℕ → ℕ → List (ℕ × ℕ)
piece s id from = piece_from from (entries (volume_slots s id))

-- ---- what a walk tells

by_last : (s : PlainPool) (id from block : ℕ) (o : Option (ℕ × ℕ)) → slice_get (piece s id from) 251 ≡ o → from ≤ block → block < behind o → find nat_cmp block (piece s id from) ≡ slot_at s id block
by_last s id from block None e le lt = let few = no_place (piece s id from) 251 e in piece_short s id from block (omega (arith, few)) le
by_last s id from block (Some x) e le lt = piece_full s id from block x.0 x.1 e le (omega (arith, lt))

told_here : (s : PlainPool) (id from block : ℕ) → from ≤ block → block < reach (piece s id from) → find nat_cmp block (piece s id from) ≡ slot_at s id block
told_here s id from block le lt = by_last s id from block (slice_get (piece s id from) 251) refl le lt

far_from : (s : PlainPool) (id from : ℕ) (o : Option (ℕ × ℕ)) → slice_get (piece s id from) 251 ≡ o → from < 16777216 → from < behind o
far_from s id from None e lt = lt
far_from s id from (Some x) e lt = let le = piece_onward s id from 251 x.0 x.1 e in omega (arith, le)

reach_from : (s : PlainPool) (id from : ℕ) → from < 16777216 → from < reach (piece s id from)
reach_from s id from lt = far_from s id from (slice_get (piece s id from) 251) refl lt

-- ---- pages of any slots

module _ (old new : List (ℕ × ℕ)) (from most : ℕ) (extents : List Extent) (end : ℕ) (page : IsPage old new from most extents end) where
  by_far : (limit : ℕ) → (end ≡ limit) ⊎ BeginsEighth old new from limit extents end → end ≤ limit
  by_far limit (inl e) = omega (arith, e)
  by_far limit (inr eighth) = let lt = eighth.inside in omega (arith, lt)

  inside_both : (block : ℕ) → block < end → (block < reach old) × (block < reach new)
  inside_both block lt =
      let le : end ≤ far_as most old new = by_far (far_as most old new) page.far in
      (omega (arith, lt, le), omega (arith, lt, le))

  begun : (es : List Extent) → length es ≡ 7 → AreApart 0 es → ((b : ℕ) → Covers es b → (from ≤ b) × (b < end) × Differ old new b) → from < end
  begun [] seven apart has = absurd (omega (arith, seven))
  begun (e ∷ es) seven apart has =
      let some = apart.1 in
      let first = has e.first (inl (omega arith, omega (arith, some))) in
      let g = first.0 in
      let l = first.1 in
      omega (arith, g, l)

  by_onward : (limit : ℕ) → from < limit → (end ≡ limit) ⊎ BeginsEighth old new from limit extents end → from < end
  by_onward limit lt (inl e) = omega (arith, lt, e)
  by_onward limit lt (inr eighth) = begun extents eighth.seven page.runs.apart page.runs.has

  onward_so : from < most → from < reach old → from < reach new → from < end
  onward_so m a b = by_onward (far_as most old new) (omega (arith, m, a, b)) page.far

pub pages_within : (old new : List (ℕ × ℕ)) (from most end : ℕ) (extents : List Extent) → IsPage old new from most extents end → end ≤ most
pages_within old new from most end extents page =
    let le : end ≤ far_as most old new = by_far old new from most extents end page (far_as most old new) page.far in omega (arith, le)

-- ---- pages of a pool

pub pages_differ : (s : PlainPool) (old new from most end : ℕ) (extents : List Extent) → IsPage (piece_from from (entries (volume_slots s old))) (piece_from from (entries (volume_slots s new))) from most extents end
    → AreRunsOf extents (λ block. (from ≤ block) × (block < end) × (slot_at s new block ≢ slot_at s old block))
pages_differ s old new from most end extents page =
    let mine = piece s old from in
    let yours = piece s new from in
    same extents (λ (block : ℕ). (from ≤ block) × (block < end) × Differ mine yours block) (λ (block : ℕ). (from ≤ block) × (block < end) × (slot_at s new block ≢ slot_at s old block))
    (λ b h.
    let both = inside_both mine yours from most extents end page b h.1 in
    (h.0, h.1, λ e. h.2 (told_here s new from b h.0 both.1 ∙ (e ∙ sym (told_here s old from b h.0 both.0)))))
    (λ b h.
    let both = inside_both mine yours from most extents end page b h.1 in
    (h.0, h.1, λ e. h.2 (sym (told_here s new from b h.0 both.1) ∙ (e ∙ told_here s old from b h.0 both.0)))) page.runs

some_slot : (o : Option ℕ) → o ≢ None → IsSome o
some_slot None n = absurd (n refl)
some_slot (Some place) n = refl

no_none : (o : Option ℕ) → IsSome o → o ≢ None
no_none o some e = false≢true (sym (ap (λ (p : Option ℕ). is_some p) e) ∙ some)

pub pages_map : (s : PlainPool) (id from most end : ℕ) (extents : List Extent) → IsPage [] (piece_from from (entries (volume_slots s id))) from most extents end
    → AreRunsOf extents (λ block. (from ≤ block) × (block < end) × IsSome (slot_at s id block))
pages_map s id from most end extents page =
    let yours = piece s id from in
    same extents (λ (block : ℕ). (from ≤ block) × (block < end) × Differ [] yours block) (λ (block : ℕ). (from ≤ block) × (block < end) × IsSome (slot_at s id block))
    (λ b h.
    let both = inside_both [] yours from most extents end page b h.1 in
    (h.0, h.1, some_slot (slot_at s id b) (λ e. h.2 (told_here s id from b h.0 both.1 ∙ e))))
    (λ b h.
    let both = inside_both [] yours from most extents end page b h.1 in
    (h.0, h.1, λ e. no_none (slot_at s id b) h.2 (sym (told_here s id from b h.0 both.1) ∙ e))) page.runs

pub pages_onward : (s : PlainPool) (old new from most end : ℕ) (extents : List Extent) → from < most → from < 16777216
    → IsPage (piece_from from (entries (volume_slots s old))) (piece_from from (entries (volume_slots s new))) from most extents end → from < end
pages_onward s old new from most end extents m lt page =
    onward_so (piece s old from) (piece s new from) from most extents end page m (reach_from s old from lt) (reach_from s new from lt)

pub pages_upward : (s : PlainPool) (id from most end : ℕ) (extents : List Extent) → from < most → from < 16777216 → IsPage [] (piece_from from (entries (volume_slots s id))) from most extents end → from < end
pages_upward s id from most end extents m lt page = onward_so [] (piece s id from) from most extents end page m lt (reach_from s id from lt)
