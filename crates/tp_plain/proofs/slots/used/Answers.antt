use Rattle.std.proofs.Common.{ap, sym, ◌∙◌}
use Rattle.tp_model.specs.Pool.{different}
use Rattle.tp_plain.proofs.slots.used.Goals as goal

pub returns : goal.returns
returns c p labels = c.count_labels.ensures ∙ ap different (sym labels)
