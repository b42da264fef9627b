use Rattle.tp_plain.proofs.ExampleSteps.{zeroes_with_hole, hole_line, hole_used, zeroes_whole, whole_line, whole_used}
use Rattle.tp_plain.proofs.examples.write_zeroes_with_and_without_hole.Goals as goal

pub returns-clause-hole : goal.returns-clause-hole
returns-clause-hole c = zeroes_with_hole

pub returns-clause-hole_line : goal.returns-clause-hole_line
returns-clause-hole_line c = hole_line

pub returns-clause-hole_used : goal.returns-clause-hole_used
returns-clause-hole_used c = hole_used

pub returns-clause-whole : goal.returns-clause-whole
returns-clause-whole c = zeroes_whole

pub returns-clause-whole_line : goal.returns-clause-whole_line
returns-clause-whole_line c = whole_line

pub returns-clause-whole_used : goal.returns-clause-whole_used
returns-clause-whole_used c = whole_used
