use Rattle.std.proofs.Common.{rules}
use Rattle.tp_plain.proofs.room.takes_slot_of.Goals as goal

pub returns-then-is_mapped : goal.returns-then-is_mapped
returns-then-is_mapped c = search rules
