use Rattle.std.proofs.Common.{Bool, true, ap, ◌∙◌}
use Rattle.nbd_session.specs.Session.{is_told_of_clone, manner_by}
use Rattle.nbd_session.proofs.clones.clone_manner.Goals as goal

pub returns : goal.returns
returns c = c.manner_by.ensures ∙ ap (λ (b : Bool). manner_by c.args.terms b true) (c.is_told_of_clone.ensures ∙ ap (is_told_of_clone c.args.terms) c.number.ensures.value)
