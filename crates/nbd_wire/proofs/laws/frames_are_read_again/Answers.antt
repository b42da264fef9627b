use Rattle.nbd_wire.proofs.Sent.{said_again, wanted_again, whole_again}
use Rattle.nbd_wire.proofs.laws.frames_are_read_again.Goals as goal

pub returns-clause-wanted : goal.returns-clause-wanted
returns-clause-wanted c = wanted_again

pub returns-clause-whole : goal.returns-clause-whole
returns-clause-whole c = whole_again

pub returns-clause-said : goal.returns-clause-said
returns-clause-said c = said_again
