use Rattle.tp_plain.proofs.ExampleSteps.{full_line, snaps, takes_three, takes_none, snapped_used, refused_without_change, deletes, now_in_place, rewrites, rewritten_line}
use Rattle.tp_plain.proofs.examples.full_pool_and_snapshot.Goals as goal

pub returns-clause-line : goal.returns-clause-line
returns-clause-line c = full_line

pub returns-clause-snapped : goal.returns-clause-snapped
returns-clause-snapped c = snaps

pub returns-clause-takes_three : goal.returns-clause-takes_three
returns-clause-takes_three c = takes_three

pub returns-clause-used : goal.returns-clause-used
returns-clause-used c = snapped_used

pub returns-clause-refused : goal.returns-clause-refused
returns-clause-refused c = refused_without_change

pub returns-clause-deleted : goal.returns-clause-deleted
returns-clause-deleted c = deletes

pub returns-clause-takes_none : goal.returns-clause-takes_none
returns-clause-takes_none c = takes_none

pub returns-clause-need : goal.returns-clause-need
returns-clause-need c = now_in_place

pub returns-clause-written : goal.returns-clause-written
returns-clause-written c = rewrites

pub returns-clause-same_line : goal.returns-clause-same_line
returns-clause-same_line c = rewritten_line
