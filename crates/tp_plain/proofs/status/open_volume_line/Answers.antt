use Rattle.std.proofs.Common.{rules}
use Rattle.tp_plain.proofs.status.open_volume_line.Goals as goal

pub returns-in-Some : goal.returns-in-Some
returns-in-Some c = rw c.in-Some.is (search rules)

pub returns-in-None : goal.returns-in-None
returns-in-None c = rw c.in-None.is (search rules)
