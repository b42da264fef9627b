use Rattle.std.proofs.Common.{rules}
use Rattle.nbd_wire.specs.Reading.{name_in}
use Rattle.nbd_wire.proofs.info.name_at.Goals as goal

pub returns-then-types-count : goal.returns-then-types-count
unfolding name_in
returns-then-types-count c = search rules
