-- Asks of a desk over what is seen of it through a function.
use Rattle.std.proofs.Common.{List, [], ◌∷◌, ap}
use Rattle.tp_hub.specs.Desks.{AreAsked, Exchange}
use Rattle.tp_hub.specs.Runs.{Incoming}
use Rattle.tp_hub.specs.Streams.{StreamCall}
use Rattle.tp_hub.specs.Told.{Answer}
use Rattle.tp_lines.specs.ReadLines.{Leads}

module _ {A D : Type 0} (Did : D → List Incoming → List Answer → D → Type 0) (f : A → D) where
  abbrev Seen : A → List Incoming → List Answer → A → Type 0
  Seen x took answers y = Did (f x) took answers (f y)

  asked_so : (xs : List Exchange) (a b : A) → AreAsked Seen a xs b → AreAsked Did (f a) xs (f b)
  asked_so [] a b h = ap f h
  asked_so (x ∷ xs) a b h = (f h.0, h.1, asked_so xs h.0 b h.2)

  pub leads_so : (Are : List Exchange → List StreamCall → Type 0) (a b : A) (t t' : List StreamCall) → Leads Seen Are a b t t' → Leads Did Are (f a) (f b) t t'
  leads_so Are a b t t' p = record { asks = p.asks; asked = asked_so p.asks a b p.asked; did = p.did; made = p.made; are = p.are }
