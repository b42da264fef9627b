use Rattle.std.proofs.Common.{Result, Some, subst, sym}
use Rattle.tp_model.specs.declared.refusal.Refusal.{Refusal}
use Rattle.tp_model.specs.Calls.{Answer}
use Rattle.tp_meta.specs.Standing.{StandsFor, changed_of, geometry_of, marks_of, room_of}
use Rattle.tp_served.specs.Served.{IsClosed}
use Rattle.tp_commands.specs.Lives.{HandsBack, closing_of}
use Rattle.tp_commands.specs.Living.{IsOfClosing}
use Rattle.tp_commands.proofs.Ending.{closing_known, closing_so}
use Rattle.tp_commands.proofs.Failing.{on_ok_numbered}
use Rattle.tp_commands.proofs.closing.finish.Goals as goal

pub returns-clause-back : goal.returns-clause-back
returns-clause-back g c =
    let disk = g.D.Disk.state c.close-answer.result.1 in
    subst (λ (r : Result (Unit {0}) Refusal). HandsBack c.args.pool (Some (closing_of r)) disk) (sym c.because-told.ensures)
    (closing_so (λ (a : Answer). IsClosed geometry_of StandsFor marks_of room_of changed_of c.args.pool disk a) c.close-answer.result.0 c.close-answer.ensures.closed)

pub returns-clause-settled : goal.returns-clause-settled
returns-clause-settled g c = on_ok_numbered _ c.because-told.result c.close-answer.result.0 c.because-told.ensures c.close-answer.ensures.settled

pub returns-clause-known : goal.returns-clause-known
returns-clause-known g c =
    subst (λ (r : Result (Unit {0}) Refusal). IsOfClosing (Some (closing_of r))) (sym c.because-told.ensures) (closing_known c.close-answer.result.0 c.close-answer.ensures.only)
