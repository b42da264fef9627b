use Rattle.std.proofs.Common.{◌∙◌}
use Rattle.tp_plain.proofs.Sharing.{is_alone-exclusive}
use Rattle.tp_plain.proofs.slots.is_exclusive.Goals as goal

pub returns : goal.returns
returns c p all at = c.is_alone.ensures ∙ is_alone-exclusive p c.args.slots.now c.args.volume c.args.block c.args.label all at
