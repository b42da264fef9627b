-- Steps to the end of a piece.
use Rattle.std.proofs.Common.{◌≡◌, ℕ, ◌+◌, ◌-◌, ◌*◌, ◌<◌, ◌≤◌, ◌⊎◌, Bool, true, false, arith, inl, inr, List, ◌++◌, length, take, drop, refl, ◌∙◌}
use Rattle.tp_model.specs.Clauses.{PoolCall, View, ViewLaws}
use Rattle.nbd_session.specs.declared.phase.Phase.{Phase}
use Rattle.nbd_session.specs.Session.{State, is_at_work, left_in, volumes_in}
use Rattle.nbd_session.specs.Talk.{Converses}
use Rattle.nbd_session.specs.Clauses.{Advances, Feeds, IsCalm, IsReady, SparesOthers}
use Rattle.nbd_session.proofs.Counting.{beside_held}
use Rattle.nbd_session.proofs.Talking.{begins, goes_by, joins}
use Rattle.nbd_session.proofs.Turning.{talks_traced}

-- each step takes something, or makes a part of a request
cases_bool : (b : Bool) → (b ≡ true) ⊎ (b ≡ false)
cases_bool true = inl refl
cases_bool false = inr refl

pub falls : (len at taken : ℕ) (old new : Phase) → at + taken ≤ len → left_in new < 4294967296 → (is_at_work old ≡ true → left_in new < left_in old) → (is_at_work old ≡ false → at < len → 0 < taken)
    → (at < len) ⊎ (is_at_work old ≡ true) → (len - (at + taken)) * 4294967296 + left_in new < (len - at) * 4294967296 + left_in old
falls len at taken old new le few works moves test = elim (cases_bool (is_at_work old)) [
  | inl work ↦ omega (arith, le, works work)
  | inr idle ↦ elim test [
    | inl lt ↦ omega (arith, le, few, lt, moves idle lt)
    | inr work ↦ absurd cc
  ]
]

module _ {D : Type 0} (view : View D) (laws : ViewLaws view) where
  fed : (start new : State) (pool after : D) (piece before sent : List ℕ) → Converses view.outline (PoolCall view) start piece pool before sent new after → IsCalm new → IsReady new.phase (view.outline after) (view.more after)
      → (view.outline after).geometry ≡ (view.outline pool).geometry → SparesOthers view start.phase pool new.phase after → Feeds view start pool piece before sent new after
  fed start new pool after piece before sent talks calm ready geometry others = record {
    talks = talks;
    traced = λ from s t has. talks_traced view laws from s start new piece before sent pool after t has talks;
    calm = calm;
    ready = ready;
    geometry = geometry;
    others = others;
  }

  -- a step changes nothing of what others hold
  spares : (old new : State) (pool after : D) (piece sent : List ℕ) (taken : ℕ) (ended : Bool) → Advances view old pool piece taken sent ended new after → SparesOthers view old.phase pool new.phase after
  spares old new pool after piece sent taken ended a = record {
    held = a.holds;
    more = λ others is i some.
        a.more i (beside_held (volumes_in old.phase) others (view.outline pool).holds i is some) (beside_held (volumes_in new.phase) others (view.outline after).holds i (a.holds others is) some);
  }

  -- nor do two
  spare_both : (old mid new : State) (pool q after : D) → SparesOthers view old.phase pool mid.phase q → SparesOthers view mid.phase q new.phase after → SparesOthers view old.phase pool new.phase after
  spare_both old mid new pool q after f a = record {
    held = λ others is. a.held others (f.held others is);
    more = λ others is i some. a.more others (f.held others is) i some ∙ f.more others is i some;
  }

  -- before the first step
  pub feeds_none : (start : State) (pool : D) (piece before : List ℕ) → IsCalm start → IsReady start.phase (view.outline pool) (view.more pool) → Feeds view start pool (take 0 piece) before before start pool
  feeds_none start pool piece before calm ready =
      fed start start pool pool (take 0 piece) before before (begins view.outline (PoolCall view) start pool piece before calm) calm ready refl (record { held = λ others is. is; more = λ others is i some. refl })

  -- and one step more
  pub feeds_more : (start mid new : State) (pool q after : D) (piece rest before now sent : List ℕ) (at taken : ℕ) (ended : Bool) → at ≤ length piece → rest ≡ drop at piece
      → Feeds view start pool (take at piece) before now mid q → Advances view mid q rest taken sent ended new after
      → Feeds view start pool (take (at + taken) piece) before (now ++ sent) new after
  feeds_more start mid new pool q after piece rest before now sent at taken ended le rest_is f a =
      fed start new pool after (take (at + taken) piece) before (now ++ sent)
      (goes_by view.outline (PoolCall view) start mid new pool q after piece rest before now sent at taken ended le rest_is f.talks a.steps)
      a.calm a.ready (a.geometry ∙ f.geometry) (spare_both start mid new pool q after f.others (spares mid new q after rest sent taken ended a))

  -- two pieces, one after the other
  pub feeds_join : (start mid new : State) (pool q after : D) (one two before now sent : List ℕ) → Feeds view start pool one before now mid q → Feeds view mid q two now sent new after
      → Feeds view start pool (one ++ two) before sent new after
  feeds_join start mid new pool q after one two before now sent f a =
      fed start new pool after (one ++ two) before sent (joins view.outline (PoolCall view) start mid new pool q after one two before now sent f.talks a.talks)
      a.calm a.ready (a.geometry ∙ f.geometry) (spare_both start mid new pool q after f.others a.others)
