-- Turns behind events that were served, as one list.
use Rattle.std.proofs.Common.{◌≡◌, List, [], ◌∷◌, ◌++◌, refl}
use Rattle.tp_model.specs.Pool.{Outline}
use Rattle.tp_model.specs.Calls.{Answer, Call}
use Rattle.nbd_session.specs.Turns.{AreTurns, Happened, Sessions, pool_after, sessions_after}
use Rattle.tp_hub.specs.Runs.{AreServed, Served, turns_in}

pub sessions_join : {S : Type 0} (at : Sessions) (xs ys : List (Happened S)) → sessions_after (sessions_after at xs) ys ≡ sessions_after at (xs ++ ys)
sessions_join at [] ys = refl
sessions_join at (x ∷ xs) ys = sessions_join x.sessions xs ys

pub pools_join : {S : Type 0} (p : S) (xs ys : List (Happened S)) → pool_after (pool_after p xs) ys ≡ pool_after p (xs ++ ys)
pools_join p [] ys = refl
pools_join p (x ∷ xs) ys = pools_join x.pool xs ys

module _ {S : Type 0} (outline : S → Outline) (Calls : S → Call → Answer → S → Type 0) where
  pub turns_join : (at : Sessions) (p : S) (xs ys : List (Happened S)) → AreTurns outline Calls at p xs → AreTurns outline Calls (sessions_after at xs) (pool_after p xs) ys → AreTurns outline Calls at p (xs ++ ys)
  turns_join at p [] ys first then_ = then_
  turns_join at p (x ∷ xs) ys first then_ = (first.0, turns_join x.sessions x.pool xs ys first.1 then_)

  pub turns_served : (at : Sessions) (p : S) (xs : List (Served S)) → AreServed outline Calls at p xs → AreTurns outline Calls at p (turns_in xs)
  turns_served at p [] are = tt
  turns_served at p (x ∷ xs) are = turns_join at p x.turns (turns_in xs) are.1 (turns_served (sessions_after at x.turns) (pool_after p x.turns) xs are.2)
