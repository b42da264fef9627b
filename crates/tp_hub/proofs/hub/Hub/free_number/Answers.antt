use Rattle.tp_hub.proofs.Least.{least_shown, open_shown}
use Rattle.tp_hub.proofs.hub.Hub.free_number.Goals as goal

pub returns-clause-free : goal.returns-clause-free
returns-clause-free g c = least_shown _ _ c.least_free.result c.self.view_is c.least_free.ensures.free

pub returns-clause-none : goal.returns-clause-none
returns-clause-none g c none = open_shown _ _ c.self.view_is (c.least_free.ensures.none none)
