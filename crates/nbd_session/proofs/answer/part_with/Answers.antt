use Rattle.std.proofs.Common.{sym, ◌∙◌}
use Rattle.nbd_session.proofs.Serving.{matched, unmatched}
use Rattle.nbd_session.proofs.answer.part_with.Goals as goal

pub returns-then-is_of_clone : goal.returns-then-is_of_clone
returns-then-is_of_clone g c = matched _ _ _ (sym c.is_of_clone.ensures ∙ c.if-is_of_clone.true) c.give_up.ensures

pub returns : goal.returns
returns g c = unmatched _ _ _ (sym c.is_of_clone.ensures ∙ c.if-is_of_clone.false) c.let_go.ensures
