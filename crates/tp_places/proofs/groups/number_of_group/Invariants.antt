use Rattle.std.proofs.Common.{ℕ, Option, length}
use Rattle.tp_places.specs.Groups.{IsGroupOf, lines_of}
use Rattle.tp_places.proofs.groups.number_of_group.Given as goal

abbrev pub invariant-loop-line : goal.invariant-loop-line
invariant-loop-line l = (r : Option ℕ) → IsGroupOf l.group (lines_of l.rest) r → IsGroupOf l.group (lines_of l.text) r

abbrev pub decreases-loop-line : goal.decreases-loop-line
decreases-loop-line l = length l.rest
