use Rattle.nbd_session.proofs.Turning.{end_plain, step_plain, talk_plain}
use Rattle.nbd_session.proofs.laws.sessions_are_plain.Goals as goal

pub returns-clause-step : goal.returns-clause-step
returns-clause-step g c pool after s old new piece sent taken ended =
    step_plain g.V.Volumes.view g.met.V.Volumes.laws old new pool after s piece sent taken ended

pub returns-clause-talk : goal.returns-clause-talk
returns-clause-talk g c pool after s old new piece before sent =
    talk_plain g.V.Volumes.view g.met.V.Volumes.laws old new pool after s piece before sent

pub returns-clause-end : goal.returns-clause-end
returns-clause-end g c pool after s phase =
    end_plain g.V.Volumes.view g.met.V.Volumes.laws phase pool after s
