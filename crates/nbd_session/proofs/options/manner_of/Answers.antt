use Rattle.std.proofs.Common.{Bool, false, ap, ◌∙◌}
use Rattle.nbd_session.specs.Session.{is_told_of, manner_by}
use Rattle.nbd_session.proofs.options.manner_of.Goals as goal

pub returns : goal.returns
returns c = c.manner_by.ensures ∙ ap (λ (b : Bool). manner_by c.args.terms b false) (c.is_told_of.ensures ∙ ap (is_told_of c.args.terms) c.number.ensures.value)
