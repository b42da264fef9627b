use Rattle.std.proofs.Common.{sym, ap, ◌∙◌}
use Rattle.tp_model.specs.declared.mode.Mode.{Mode}
use Rattle.tp_model.specs.Calls.{is_failed}
use Rattle.nbd_session.proofs.Serving.{unmatched}
use Rattle.nbd_session.proofs.options.export_name.Goals as goal

pub returns-clause-answer : goal.returns-clause-answer
returns-clause-answer g c = unmatched _ _ _ (sym (c.has_failed.ensures ∙ ap (λ (m : Mode). is_failed m) c.mode.ensures) ∙ c.if-has_failed.false) c.export_by.ensures.answer
