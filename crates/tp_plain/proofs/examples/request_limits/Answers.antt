use Rattle.tp_plain.proofs.ExampleSteps.{write_at_511, write_past_end, read_past_end, read_nothing_at_end, unknown_command}
use Rattle.tp_plain.proofs.examples.request_limits.Goals as goal

pub returns-clause-odd_offset : goal.returns-clause-odd_offset
returns-clause-odd_offset c = write_at_511

pub returns-clause-write_at_end : goal.returns-clause-write_at_end
returns-clause-write_at_end c = write_past_end

pub returns-clause-read_at_end : goal.returns-clause-read_at_end
returns-clause-read_at_end c = read_past_end

pub returns-clause-nothing_at_end : goal.returns-clause-nothing_at_end
returns-clause-nothing_at_end c = read_nothing_at_end

pub returns-clause-unknown : goal.returns-clause-unknown
returns-clause-unknown c = unknown_command
