use Rattle.tp_meta.proofs.Areas.{changed_parts, differing_parts}
use Rattle.tp_meta.proofs.stale.AreaMarks.changed_in.Goals as goal

pub returns-clause-same : goal.returns-clause-same
returns-clause-same c = changed_parts c.args.tm.now _ c.changed_blocks.ensures.same c.changed_blocks-2.ensures.same

pub returns-clause-differ : goal.returns-clause-differ
returns-clause-differ c = differing_parts c.args.tm.now _ c.changed_blocks.ensures.differ c.changed_blocks-2.ensures.differ
