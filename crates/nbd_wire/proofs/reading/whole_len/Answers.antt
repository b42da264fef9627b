use Rattle.std.proofs.Common.{rules}
use Rattle.nbd_wire.specs.Reading.{whole_len}
use Rattle.nbd_wire.proofs.reading.whole_len.Goals as goal

pub returns-then-head-le-MAX_OPTION-clause-length :
    goal.returns-then-head-le-MAX_OPTION-clause-length
unfolding whole_len
returns-then-head-le-MAX_OPTION-clause-length c = search rules
