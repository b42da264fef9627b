use Rattle.std.proofs.Common.{◌≡◌, ◌++◌, ℕ, List, arith}
use Rattle.nbd_wire.specs.declared.replies.SimpleReply.{SimpleReply}
use Rattle.nbd_wire.specs.Replies.{simple_reply_head}
use Rattle.nbd_wire.proofs.Received.{found_of, none_of, pair_again, simple_reply_again, simple_reply_takes}
use Rattle.nbd_wire.proofs.replies.read_simple_reply_head.Goals as goal

pub returns-clause-found : goal.returns-clause-found
returns-clause-found c =
    found_of _ _ _ (λ (x : SimpleReply × List ℕ). c.args.text.now ≡ simple_reply_head x.0.error x.0.cookie ++ x.1) c.simple_reply_at.ensures (λ x e. simple_reply_takes c.args.text.now x (λ i. omega (arith, c.type_inv.text i)) e)

pub returns-clause-none : goal.returns-clause-none
returns-clause-none c = none_of _ _ _ _ c.simple_reply_at.ensures (λ none x rest h k is. let s = simple_reply_again c.args.text.now x rest h k is in absurd cc)

pub returns-clause-again : goal.returns-clause-again
returns-clause-again c = λ x rest h k is. pair_again _ _ x rest c.simple_reply_at.ensures (simple_reply_again c.args.text.now x rest h k is)
