use Rattle.std.proofs.Common.{◌≡◌, ◌<◌, ◌^◌, ◌++◌, length, ap, arith}
use Rattle.nbd_wire.specs.Replies.{option_reply}
use Rattle.nbd_wire.proofs.Received.{Told, again_of, found_of, none_of, option_reply_again, option_reply_takes}
use Rattle.nbd_wire.proofs.replies.read_option_reply.Goals as goal

pub returns-clause-found : goal.returns-clause-found
returns-clause-found c =
    found_of _ _ _ (λ (x : Told). (length x.2 < 2 ^ 32) × (c.args.text.now ≡ option_reply x.0 x.1 x.2 ++ x.3)) c.option_reply_at.ensures
    (λ x e. option_reply_takes c.args.text.now x (λ i. omega (arith, c.type_inv.text i)) e)

pub returns-clause-none : goal.returns-clause-none
returns-clause-none c = none_of _ _ _ _ c.option_reply_at.ensures (λ none option reply payload rest h k is. let s = option_reply_again c.args.text.now option reply payload rest h k is in absurd cc)

pub returns-clause-again : goal.returns-clause-again
returns-clause-again c = λ option reply payload rest h k is.
    again_of _ _ _ (option, reply, payload, rest) _ c.option_reply_at.ensures (option_reply_again c.args.text.now option reply payload rest h k is)
    (λ y same. (ap (λ (x : Told). x.0) same, ap (λ (x : Told). x.1) same, ap (λ (x : Told). x.2) same, ap (λ (x : Told). x.3) same))
