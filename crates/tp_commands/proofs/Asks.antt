-- What is asked of a desk that has a hub alone is asked of the hub.
use Rattle.std.proofs.Common.{List, [], ◌∷◌, ap}
use Rattle.tp_hub.specs.Told.{Answer}
use Rattle.tp_hub.specs.Runs.{Incoming}
use Rattle.tp_hub.specs.Desks.{AreAsked, Exchange}

module _ {A D : Type 0} (Did : D → List Incoming → List Answer → D → Type 0) (f : A → D) where
  pub asked_within : (xs : List Exchange) (a b : A) → AreAsked (λ x took answers y. Did (f x) took answers (f y)) a xs b → AreAsked Did (f a) xs (f b)
  asked_within [] a b h = ap f h
  asked_within (x ∷ xs) a b h = (f h.0, h.1, asked_within xs h.0 b h.2)
