use Rattle.tp_crowd.proofs.Commanding.{some_health_told}
use Rattle.tp_crowd.proofs.ruling.obey.Goals as goal

pub returns-in-Stop : goal.returns-in-Stop
returns-in-Stop g c = rw c.in-Stop.is c.tell_done.ensures

pub returns-in-StopNow : goal.returns-in-StopNow
returns-in-StopNow g c = rw c.in-StopNow.is c.tell_done-in-StopNow.ensures

pub returns-in-Flush : goal.returns-in-Flush
returns-in-Flush g c = rw c.in-Flush.is c.flush.ensures

pub returns-in-Clients : goal.returns-in-Clients
returns-in-Clients g c = rw c.in-Clients.is c.tell_clients.ensures

pub returns-in-Health : goal.returns-in-Health
returns-in-Health g c =
    rw c.in-Health.is
    (some_health_told g.V.Volumes.view c.args.line.now c.health.result c.tell_health.result.events c.tell_health.result.bytes c.args.out.now c.tell_health.new.out c.tell_health.ensures)
