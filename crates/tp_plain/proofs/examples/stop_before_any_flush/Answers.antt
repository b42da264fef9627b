use Rattle.std.proofs.Common.{IsTrue}
use Rattle.tp_plain.proofs.ExampleSteps.{may_be_found, shared_is_found}
use Rattle.tp_plain.proofs.examples.stop_before_any_flush.Goals as goal

pub returns-clause-own : goal.returns-clause-own
returns-clause-own c = may_be_found

pub returns-clause-shared : goal.returns-clause-shared
returns-clause-shared c P given h = shared_is_found P (λ id k x. IsTrue (given id k x)) h
