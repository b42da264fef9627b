use Rattle.std.proofs.Common.{sym, subst}
use Rattle.tp_hub.specs.declared.event.Event.{Event}
use Rattle.tp_hub.specs.Runs.{incoming}
use Rattle.tp_hub.specs.Desks.{IsAsked}
use Rattle.tp_lock.specs.Locked.{SomeRuns}
use Rattle.tp_lock.proofs.Locking.{at_once}
use Rattle.tp_lock.proofs.locked.LockedDeskDesk.ask.Goals as goal

pub returns-in-Bytes : goal.returns-in-Bytes
returns-in-Bytes g c =
    subst (λ (e : Event). IsAsked (λ took answers. SomeRuns g.V.Volumes.view took answers) (incoming e) c.ask_once.result.events c.ask_once.result.bytes c.args.out.now c.ask_once.new.out)
    (sym c.in-Bytes.is) c.ask_once.ensures

pub returns-in_default : goal.returns-in_default
returns-in_default g c = at_once g.V.Volumes.view _ _ _ _ _ c.ask_for.ensures.asked
