use Rattle.std.proofs.Common.{◌≡◌, ◌++◌, ℕ, List, arith}
use Rattle.nbd_wire.specs.Replies.{greeting}
use Rattle.nbd_wire.proofs.Received.{again_of, found_of, greeting_again, greeting_takes, none_of}
use Rattle.nbd_wire.proofs.replies.read_greeting.Goals as goal

pub returns-clause-found : goal.returns-clause-found
returns-clause-found c =
    found_of _ _ _ (λ (rest : List ℕ). c.args.text.now ≡ greeting ++ rest) c.greeting_at.ensures (λ rest e. greeting_takes c.args.text.now rest (λ i. omega (arith, c.type_inv.text i)) e)

pub returns-clause-none : goal.returns-clause-none
returns-clause-none c = none_of _ _ _ _ c.greeting_at.ensures (λ none rest is. let s = greeting_again c.args.text.now rest is in absurd cc)

pub returns-clause-again : goal.returns-clause-again
returns-clause-again c = λ rest is. again_of _ _ _ rest _ c.greeting_at.ensures (greeting_again c.args.text.now rest is) (λ y same. same)
