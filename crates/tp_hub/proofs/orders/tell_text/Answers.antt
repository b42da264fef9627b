use Rattle.std.proofs.Common.{◌∷◌, [], ◌∙◌, ℕ, List, ap, arith, length, subst}
use Rattle.tp_hub.specs.Told.{Grows, Lines}
use Rattle.tp_hub.proofs.orders.tell_text.Goals as goal

pub tell-requires-clause-bytes : goal.tell-requires-clause-bytes
tell-requires-clause-bytes c = let same = ap (λ (l : List ℕ). length l) c.as_bytes.ensures.value in omega (arith, c.requires.bytes, c.as_str.ensures.fits, same)

pub returns : goal.returns
returns c = subst (λ (l : List ℕ). Grows c.args.out.now c.tell.new.self (Lines l ∷ [])) (c.as_bytes.ensures.value ∙ c.as_str.ensures.value) c.tell.ensures
