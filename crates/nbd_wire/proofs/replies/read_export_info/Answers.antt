use Rattle.std.proofs.Common.{◌≡◌, ◌++◌, ℕ, List, arith}
use Rattle.nbd_wire.specs.declared.replies.Export.{Export}
use Rattle.nbd_wire.specs.Replies.{export_info}
use Rattle.nbd_wire.proofs.Received.{export_info_again, export_info_takes, found_of, none_of, pair_again}
use Rattle.nbd_wire.proofs.replies.read_export_info.Goals as goal

pub returns-clause-found : goal.returns-clause-found
returns-clause-found c =
    found_of _ _ _ (λ (x : Export × List ℕ). c.args.text.now ≡ export_info x.0.size x.0.flags ++ x.1) c.export_info_at.ensures (λ x e. export_info_takes c.args.text.now x (λ i. omega (arith, c.type_inv.text i)) e)

pub returns-clause-none : goal.returns-clause-none
returns-clause-none c = none_of _ _ _ _ c.export_info_at.ensures (λ none x rest h k is. let s = export_info_again c.args.text.now x rest h k is in absurd cc)

pub returns-clause-again : goal.returns-clause-again
returns-clause-again c = λ x rest h k is. pair_again _ _ x rest c.export_info_at.ensures (export_info_again c.args.text.now x rest h k is)
