use Rattle.nbd_session.proofs.Turning.{same_sent, turns_traced}
use Rattle.nbd_session.proofs.laws.turns_are_traced.Goals as goal

pub returns-clause-traced : goal.returns-clause-traced
returns-clause-traced g c from pool s at t turns =
    turns_traced g.V.Volumes.view g.met.V.Volumes.laws from s at pool t turns

pub returns-clause-sent : goal.returns-clause-sent
returns-clause-sent g c from pool s t turns plainly n =
    same_sent g.V.Volumes.view g.met.V.Volumes.laws from s n pool t turns plainly
