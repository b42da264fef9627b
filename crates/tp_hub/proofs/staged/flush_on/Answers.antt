use Rattle.tp_hub.proofs.Staging.{parted_few}
use Rattle.tp_hub.proofs.staged.flush_on.Goals as goal

pub returns-in-Some-clause-few : goal.returns-in-Some-clause-few
returns-in-Some-clause-few g c p q pool is = parted_few g.V.Volumes.view g.V.Midway.SharedReads.of g.V.Midway.SharedReads.left c.go_on.new.place p q c.in-Some.answer (c.in-Some.ensures.part p pool) is
