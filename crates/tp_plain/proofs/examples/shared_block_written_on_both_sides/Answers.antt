use Rattle.tp_plain.proofs.ExampleSteps.{one_more, writes_origin, origin_written_line, snapshot_keeps, none_more, writes_snapshot, both_line}
use Rattle.tp_plain.proofs.examples.shared_block_written_on_both_sides.Goals as goal

pub returns-clause-need : goal.returns-clause-need
returns-clause-need c = one_more

pub returns-clause-origin : goal.returns-clause-origin
returns-clause-origin c = writes_origin

pub returns-clause-line : goal.returns-clause-line
returns-clause-line c = origin_written_line

pub returns-clause-snapshot_keeps : goal.returns-clause-snapshot_keeps
returns-clause-snapshot_keeps c = snapshot_keeps

pub returns-clause-no_need : goal.returns-clause-no_need
returns-clause-no_need c = none_more

pub returns-clause-snapshot : goal.returns-clause-snapshot
returns-clause-snapshot c = writes_snapshot

pub returns-clause-same_line : goal.returns-clause-same_line
returns-clause-same_line c = both_line
