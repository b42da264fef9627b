use Rattle.tp_unit_tests.proofs.Untelling.{none_held}
use Rattle.tp_unit_tests.proofs.session.put_in.Goals as goal

pub put-requires-clause-ready : goal.put-requires-clause-ready
put-requires-clause-ready c = none_held
