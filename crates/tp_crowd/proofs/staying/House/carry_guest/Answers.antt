use Rattle.std.proofs.Common.{List}
use Rattle.tp_hub.specs.Runs.{Incoming}
use Rattle.tp_hub.specs.Told.{Answer}
use Rattle.tp_crowd.specs.Guests.{IsGuest, but_ends}
use Rattle.tp_lock.specs.Locked.{SomeRuns}
use Rattle.tp_crowd.proofs.Controlling.{leads_so}
use Rattle.tp_crowd.proofs.Guests.{guest_led}
use Rattle.tp_crowd.proofs.staying.House.carry_guest.Goals as goal

pub returns : goal.returns
returns g c =
    let old = c.args.guest.now in
    let new = c.carry_over.new.stream in
    leads_so {D = Unit {0}} (λ (at : Unit {0}) (took : List Incoming) (answers : List Answer) (at' : Unit {0}). SomeRuns g.V.Volumes.view took answers) (λ _. tt)
    (λ asks did. IsGuest c.args.number c.args.profile asks did) _ c.carry_over.new.desk (but_ends old.socket.log.calls) (but_ends new.socket.log.calls)
    (guest_led _ c.args.number c.args.profile c.carry_over.result _ c.carry_over.new.desk old.log.calls new.log.calls old.socket.log.calls new.socket.log.calls old.told new.told c.carry_over.ensures)
