use Rattle.tp_unit_tests.proofs.Untelling.{none_held}
use Rattle.tp_unit_tests.proofs.session.told_of.Goals as goal

pub sent-requires : goal.sent-requires
sent-requires c = none_held
