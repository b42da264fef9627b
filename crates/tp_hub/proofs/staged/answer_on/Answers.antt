use Rattle.std.proofs.Common.{Some, subst}
use Rattle.tp_hub.specs.Stages.{IsParted}
use Rattle.tp_hub.specs.declared.staged.Stage.{Stage}
use Rattle.tp_hub.proofs.Flushing.{serves_behind}
use Rattle.tp_hub.proofs.staged.answer_on.Goals as goal

pub answer_flush-requires-clause-serves : goal.answer_flush-requires-clause-serves
answer_flush-requires-clause-serves g c =
    let view = g.V.Volumes.view in
    let f = c.requires.flushed in
    serves_behind view f.0 c.in-Whole.pool c.args.sessions.now c.args.answer (subst (λ (s : Stage _ _). IsParted view g.V.Midway.SharedReads.of f.0 s (Some c.args.answer)) c.in-Whole.is f.1) f.2
