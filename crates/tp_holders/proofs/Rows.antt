-- A row of holdings: how often a volume stands in it, and how many blocks its first holding tells.
use Rattle.std.proofs.Common.{◌≡◌, ◌≢◌, ℕ, zero, suc, ◌+◌, ◌<◌, ◌⊎◌, inl, inr, Bool, cond, List, [], ◌∷◌, ◌++◌, length, refl, sym, ap, ◌∙◌, arith}
use Rattle.std.specs.Prelude.{slice_index_or, if◌then◌else◌}
use Rattle.std.specs.FinMap.{empty}
use Rattle.std.specs.List.{remove as without}
use Rattle.std.proofs.lemmas.Bool.{cases_eq, eq-eqb, ne_eqb}
use Rattle.std.proofs.lemmas.List.{length-map}
use Rattle.tp_model.specs.Pool.{hold_count, hold_total}
use Rattle.tp_model.specs.Calls.{Done, Hold, holds_after, released}
use Rattle.tp_holders.specs.Holders.{Holding, IsLastOf, LeftTold, blocks_held, counts_of, holds_of, volumes_of}
use Rattle.tp_holders.proofs.Holding.{count_is, counts_none, counts_pushed, counts_released, not_there, one_at, times, times-append, times-without, times_at}
use Rattle.tp_holders.proofs.Totals.{count_total}

-- the volume at a place
abbrev pub volume_at : List Holding → ℕ → ℕ
volume_at hs i = slice_index_or (volumes_of hs) i 0

pub at_index : (hs : List Holding) (i : ℕ) (d : Holding) → i < length hs → volume_at hs i ≡ (slice_index_or hs i d).volume
at_index [] i d lt = absurd (omega arith)
at_index (h ∷ hs) zero d lt = refl
at_index (h ∷ hs) (suc i) d lt = at_index hs i d (omega (arith, lt))

-- ---- counts

pub holds_none : holds_of [] ≡ empty
holds_none = counts_none

volumes_pushed : (hs : List Holding) (h : Holding) → volumes_of (hs ++ h ∷ []) ≡ volumes_of hs ++ h.volume ∷ []
volumes_pushed [] h = refl
volumes_pushed (x ∷ hs) h = ap (λ l. x.volume ∷ l) (volumes_pushed hs h)

-- one more at the end
pub holds_pushed : (hs : List Holding) (h : Holding) → holds_of (hs ++ h ∷ []) ≡ holds_after (holds_of hs) (Hold h.volume) Done
holds_pushed hs h = ap counts_of (volumes_pushed hs h) ∙ counts_pushed (volumes_of hs) h.volume

volumes_without : (hs : List Holding) (i : ℕ) → i < length hs → volumes_of (without hs i) ≡ without (volumes_of hs) i
volumes_without [] i lt = absurd (omega arith)
volumes_without (h ∷ hs) zero lt = refl
volumes_without (h ∷ hs) (suc i) lt = ap (λ l. h.volume ∷ l) (volumes_without hs i (omega (arith, lt)))

-- one fewer
pub holds_released : (hs : List Holding) (i id : ℕ) → IsLastOf hs id i → holds_of (without hs i) ≡ released (holds_of hs) id
holds_released hs i id w =
    ap counts_of (volumes_without hs i w.inside) ∙ counts_released (volumes_of hs) i id (omega (arith, w.inside, length-map hs (λ (h : Holding). h.volume))) w.there

-- all holds are those of the row
pub total_is : (hs : List Holding) → hold_total (holds_of hs) ≡ length hs
total_is hs = count_total (volumes_of hs) ∙ length-map hs (λ (h : Holding). h.volume)

-- a volume that stands nowhere in the row is not held, and one that stands somewhere is
pub nowhere : (hs : List Holding) (id : ℕ) → ((j : ℕ) → j < length hs → volume_at hs j ≢ id) → hold_count (holds_of hs) id ≡ 0
nowhere hs id none = count_is (volumes_of hs) id ∙ not_there (volumes_of hs) id (λ j lt. none j (omega (arith, lt, length-map hs (λ (h : Holding). h.volume))))

pub somewhere : (hs : List Holding) (id i : ℕ) → i < length hs → volume_at hs i ≡ id → 0 < hold_count (holds_of hs) id
somewhere hs id i lt there =
    let some = times_at (volumes_of hs) id i (omega (arith, lt, length-map hs (λ (h : Holding). h.volume))) there in
    omega (arith, some, count_is (volumes_of hs) id)

-- ---- blocks

-- the first holding of a volume, and others
told_here : (h : Holding) (hs : List Holding) (id : ℕ) → h.volume ≡ id → blocks_held (h ∷ hs) id ≡ h.blocks
told_here h hs id e = ap (λ (b : Bool). if b then h.blocks else blocks_held hs id) (eq-eqb h.volume id e)

told_behind : (h : Holding) (hs : List Holding) (id : ℕ) → h.volume ≢ id → blocks_held (h ∷ hs) id ≡ blocks_held hs id
told_behind h hs id ne = ap (λ (b : Bool). if b then h.blocks else blocks_held hs id) (ne_eqb h.volume id ne)

-- how often a volume stands behind another holding
times_behind : (h : Holding) (hs : List Holding) (id : ℕ) → h.volume ≢ id → times id (volumes_of (h ∷ hs)) ≡ times id (volumes_of hs)
times_behind h hs id ne =
    let none : one_at id h.volume ≡ 0 = ap (λ (b : Bool). cond b (suc zero) zero) (ne_eqb id h.volume (λ e. ne (sym e))) in
    let all : times id (volumes_of (h ∷ hs)) ≡ one_at id h.volume + times id (volumes_of hs) = refl in
    omega (arith, none, all)

-- nobody holds it, so nobody tells its blocks
pub none_held : (hs : List Holding) (id : ℕ) → hold_count (holds_of hs) id ≡ 0 → blocks_held hs id ≡ 0
none_held hs id none = by_times hs (omega (arith, none, count_is (volumes_of hs) id))
  where
    by_times : (hs : List Holding) → times id (volumes_of hs) ≡ 0 → blocks_held hs id ≡ 0
    by_times [] none = refl
    by_times (h ∷ hs) none = elim (cases_eq h.volume id) [
      | inl e ↦ absurd (omega (arith, none, times_at (volumes_of (h ∷ hs)) id 0 (omega arith) e))
      | inr ne ↦ told_behind h hs id ne ∙ by_times hs (omega (arith, none, times_behind h hs id ne))
    ]

pub first_blocks : (hs : List Holding) (id i : ℕ) (d : Holding) → ((j : ℕ) → j < i → volume_at hs j ≢ id) → i < length hs → volume_at hs i ≡ id
    → (slice_index_or hs i d).blocks ≡ blocks_held hs id
first_blocks [] id i d none lt there = absurd (omega arith)
first_blocks (h ∷ hs) id zero d none lt there = sym (told_here h hs id there)
first_blocks (h ∷ hs) id (suc i) d none lt there =
    first_blocks hs id i d (λ j less. none (suc j) (omega (arith, less))) (omega (arith, lt)) there ∙ sym (told_behind h hs id (none 0 (omega arith)))

still_told : (hs : List Holding) (h : Holding) (id : ℕ) → 0 < times id (volumes_of hs) → blocks_held (hs ++ h ∷ []) id ≡ blocks_held hs id
still_told [] h id some = absurd (omega (arith, some))
still_told (x ∷ hs) h id some = elim (cases_eq x.volume id) [
  | inl e ↦ told_here x (hs ++ h ∷ []) id e ∙ sym (told_here x hs id e)
  | inr ne ↦ told_behind x (hs ++ h ∷ []) id ne ∙ (still_told hs h id (omega (arith, some, times_behind x hs id ne)) ∙ sym (told_behind x hs id ne))
]

newly_told : (hs : List Holding) (h : Holding) → times h.volume (volumes_of hs) ≡ 0 → blocks_held (hs ++ h ∷ []) h.volume ≡ h.blocks
newly_told [] h none = told_here h [] h.volume refl
newly_told (x ∷ hs) h none = elim (cases_eq x.volume h.volume) [
  | inl e ↦ absurd (omega (arith, none, times_at (volumes_of (x ∷ hs)) h.volume 0 (omega arith) e))
  | inr ne ↦ told_behind x (hs ++ h ∷ []) h.volume ne ∙ newly_told hs h (omega (arith, none, times_behind x hs h.volume ne))
]

-- one who holds a volume more tells its blocks where nobody told them
pub blocks_pushed : (hs : List Holding) (h : Holding) (id : ℕ) → 0 < hold_count (holds_of hs) id → blocks_held (hs ++ h ∷ []) id ≡ blocks_held hs id
blocks_pushed hs h id some = still_told hs h id (omega (arith, some, count_is (volumes_of hs) id))

pub blocks_new : (hs : List Holding) (h : Holding) → hold_count (holds_of hs) h.volume ≡ 0 → blocks_held (hs ++ h ∷ []) h.volume ≡ h.blocks
blocks_new hs h none = newly_told hs h (omega (arith, none, count_is (volumes_of hs) h.volume))

-- who holds nothing yet is held by the last one alone
pub newly_held : (hs : List Holding) (h : Holding) (q : ℕ) → 0 < hold_count (holds_of (hs ++ h ∷ [])) q → hold_count (holds_of hs) q ≡ 0 → q ≡ h.volume
newly_held hs h q some none = elim (cases_eq q h.volume) [
  | inl e ↦ e
  | inr ne ↦
      let zero_ : one_at q h.volume ≡ 0 = ap (λ (b : Bool). cond b (suc zero) zero) (ne_eqb q h.volume ne) in
      let moved : times q (volumes_of (hs ++ h ∷ [])) ≡ times q (volumes_of hs ++ h.volume ∷ []) = ap (times q) (volumes_pushed hs h) in
      let one : times q (h.volume ∷ []) ≡ one_at q h.volume + 0 = refl in
      absurd (omega (arith, some, none, zero_, moved, one, times-append q (volumes_of hs) (h.volume ∷ []), count_is (volumes_of (hs ++ h ∷ [])) q, count_is (volumes_of hs) q))
]

left_told : (hs : List Holding) (i id q : ℕ) → IsLastOf hs id i → 0 < times q (volumes_of (without hs i)) → blocks_held (without hs i) q ≡ blocks_held hs q
left_told [] i id q w some = absurd (omega (arith, w.inside))
left_told (h ∷ hs) zero id q w some = elim (cases_eq h.volume q) [
  | inl e ↦
      let none = not_there (volumes_of hs) q (λ j lt is. w.last (suc j) (omega arith) (omega (arith, lt, length-map hs (λ (x : Holding). x.volume))) (is ∙ (sym e ∙ w.there))) in
      absurd (omega (arith, some, none))
  | inr ne ↦ sym (told_behind h hs q ne)
]
left_told (h ∷ hs) (suc i) id q w some = elim (cases_eq h.volume q) [
  | inl e ↦ told_here h (without hs i) q e ∙ sym (told_here h hs q e)
  | inr ne ↦
      let rest : IsLastOf hs id i = record {
        inside = omega (arith, w.inside);
        there = w.there;
        last = λ j less lt. w.last (suc j) (omega (arith, less)) (omega (arith, lt));
      } in
      told_behind h (without hs i) q ne
      ∙ (left_told hs i id q rest (omega (arith, some, times_behind h (without hs i) q ne)) ∙ sym (told_behind h hs q ne))
]

-- those who are left hold as many blocks
pub blocks_released : (hs : List Holding) (i id : ℕ) → IsLastOf hs id i → LeftTold hs (without hs i)
blocks_released hs i id w q some =
    let now : 0 < times q (volumes_of (without hs i)) = omega (arith, some, count_is (volumes_of (without hs i)) q) in
    let fewer = times-without q (volumes_of hs) i (omega (arith, w.inside, length-map hs (λ (h : Holding). h.volume))) in
    let moved : times q (volumes_of (without hs i)) ≡ times q (without (volumes_of hs) i) = ap (times q) (volumes_without hs i w.inside) in
    (omega (arith, now, fewer, moved, count_is (volumes_of hs) q), left_told hs i id q w now)

-- ---- the last place

-- none of the first n holdings, nor the one behind them
pub none_yet : (hs : List Holding) (id n : ℕ) → ((j : ℕ) → j < n → volume_at hs j ≢ id) → volume_at hs n ≢ id → (j : ℕ) → j < n + 1 → volume_at hs j ≢ id
none_yet hs id n none ne j lt = elim (cases_eq j n) [
  | inl e ↦ λ is. ne (sym (ap (volume_at hs) e) ∙ is)
  | inr other ↦ none j (omega (arith, lt, other))
]

-- Of the first n holdings this is the last one of the volume, or there is none.
pub record IsLastBelow (hs : List Holding) (id n place : ℕ) : Type 0 where
  pub is : ((j : ℕ) → j < n → volume_at hs j ≢ id) ⊎ ((place < n) × (volume_at hs place ≡ id))
  pub last : (j : ℕ) → place < j → j < n → volume_at hs j ≢ id

pub no_place : (hs : List Holding) (id : ℕ) → IsLastBelow hs id 0 0
no_place hs id = record { is = inl (λ j lt. absurd (omega (arith, lt))); last = λ j less lt. absurd (omega (arith, lt)) }

pub place_here : (hs : List Holding) (id n : ℕ) → volume_at hs n ≡ id → IsLastBelow hs id (n + 1) n
place_here hs id n e = record { is = inr (omega arith, e); last = λ j less lt. absurd (omega (arith, less, lt)) }

pub place_before : (hs : List Holding) (id n place : ℕ) → IsLastBelow hs id n place → volume_at hs n ≢ id → IsLastBelow hs id (n + 1) place
place_before hs id n place w ne = record { is = still w.is; last = last }
  where
    last : (j : ℕ) → place < j → j < n + 1 → volume_at hs j ≢ id
    last j less lt = elim (cases_eq j n) [
      | inl e ↦ λ is. ne (sym (ap (volume_at hs) e) ∙ is)
      | inr other ↦ w.last j less (omega (arith, lt, other))
    ]

    still : ((j : ℕ) → j < n → volume_at hs j ≢ id) ⊎ ((place < n) × (volume_at hs place ≡ id)) → ((j : ℕ) → j < n + 1 → volume_at hs j ≢ id) ⊎ ((place < n + 1) × (volume_at hs place ≡ id))
    still (inl none) = inl (none_yet hs id n none ne)
    still (inr there) = inr (omega (arith, there.0), there.1)

pub place_found : (hs : List Holding) (id place : ℕ) → 0 < hold_count (holds_of hs) id → IsLastBelow hs id (length hs) place → IsLastOf hs id place
place_found hs id place some w = found w.is where
  found : ((j : ℕ) → j < length hs → volume_at hs j ≢ id) ⊎ ((place < length hs) × (volume_at hs place ≡ id)) → IsLastOf hs id place
  found (inl none) = absurd (omega (arith, some, nowhere hs id none))
  found (inr there) = record { inside = there.0; there = there.1; last = w.last }
