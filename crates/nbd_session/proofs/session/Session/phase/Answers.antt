use Rattle.nbd_session.proofs.Stepping.{calm_state, sound_few}
use Rattle.nbd_session.proofs.session.Session.phase.Goals as goal

pub returns-clause-calm : goal.returns-clause-calm
returns-clause-calm c = rw (← c.self.view_is) (calm_state c.self.inside.phase c.self.inside.filled c.self.inside.input.items c.self.invariant.in_range c.self.invariant.partial)

pub returns-clause-few : goal.returns-clause-few
returns-clause-few c = rw (← c.self.view_is) (sound_few c.self.inside.phase c.self.invariant.sound)
