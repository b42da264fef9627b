use Rattle.std.proofs.Common.{◌≡◌, ◌++◌, ℕ, List, arith}
use Rattle.nbd_wire.specs.declared.replies.Export.{Export}
use Rattle.nbd_wire.specs.Replies.{export_reply}
use Rattle.nbd_wire.proofs.Received.{export_reply_again, export_reply_takes, found_of, none_of, pair_again}
use Rattle.nbd_wire.proofs.replies.read_export_reply.Goals as goal

pub returns-clause-found : goal.returns-clause-found
returns-clause-found c =
    found_of _ _ _ (λ (x : Export × List ℕ). c.args.text.now ≡ export_reply x.0.size x.0.flags c.args.no_zeroes ++ x.1) c.export_reply_at.ensures (λ x e. export_reply_takes c.args.no_zeroes c.args.text.now x (λ i. omega (arith, c.type_inv.text i)) e)

pub returns-clause-none : goal.returns-clause-none
returns-clause-none c = none_of _ _ _ _ c.export_reply_at.ensures (λ none x rest h k is. let s = export_reply_again c.args.no_zeroes c.args.text.now x rest h k is in absurd cc)

pub returns-clause-again : goal.returns-clause-again
returns-clause-again c = λ x rest h k is. pair_again _ _ x rest c.export_reply_at.ensures (export_reply_again c.args.no_zeroes c.args.text.now x rest h k is)
