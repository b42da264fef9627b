use Rattle.std.proofs.Common.{subst}
use Rattle.std.specs.Prelude.{IfOk}
use Rattle.tp_words.specs.Commands.{IsMade}
use Rattle.tp_words.proofs.command_line.with.Goals as goal

pub returns-in-Ok : goal.returns-in-Ok
returns-in-Ok c before rule was is = c.add_argument.ensures before rule (subst (λ r. IfOk r (IsMade before)) c.in-Ok.is was) is
