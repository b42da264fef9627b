use Rattle.tp_model.specs.Clauses.{found_now}
use Rattle.tp_model.proofs.PoolStopLaws.{MayBeLeftSince-settled}
use Rattle.tp_model.proofs.Running.{starts, stays, calls_traced, goes_on}
use Rattle.tp_model.proofs.laws.calls_are_traced.Goals as goal

pub returns-clause-starts : goal.returns-clause-starts
returns-clause-starts g c pool s =
    let p = g.V.Volumes in
    starts p.view g.met.V.Volumes.laws pool s

pub returns-clause-calls : goal.returns-clause-calls
returns-clause-calls g c from pool s t calls =
    let p = g.V.Volumes in
    calls_traced p.view g.met.V.Volumes.laws from s pool t calls

pub returns-clause-stays : goal.returns-clause-stays
returns-clause-stays g c from pool s t =
    let p = g.V.Volumes in
    stays p.view g.met.V.Volumes.laws from s pool t

pub returns-clause-joins : goal.returns-clause-joins
returns-clause-joins g c from a b d s t u v =
    let p = g.V.Volumes in
    goes_on p.view g.met.V.Volumes.laws from s a b d t u v

pub returns-clause-settled : goal.returns-clause-settled
returns-clause-settled g c from s first later P settled = MayBeLeftSince-settled (found_now g.V.Volumes.view from) s first later P settled
