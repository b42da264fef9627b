use Rattle.std.proofs.Common.{rules}
use Rattle.tp_pool.proofs.messages.test_size.Goals as goal

pub returns-then-is_busy : goal.returns-then-is_busy
returns-then-is_busy = search rules

pub returns-then-blocks-gt-MOST_OF_VOLUME : goal.returns-then-blocks-gt-MOST_OF_VOLUME
returns-then-blocks-gt-MOST_OF_VOLUME = search rules

pub returns-else-blocks-gt-MOST_OF_VOLUME : goal.returns-else-blocks-gt-MOST_OF_VOLUME
returns-else-blocks-gt-MOST_OF_VOLUME = search rules
