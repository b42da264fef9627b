use Rattle.tp_meta.proofs.Areas.{joined_only_parts, joined_parts}
use Rattle.tp_meta.proofs.stale.AreaMarks.joined.Goals as goal

pub returns-clause-both : goal.returns-clause-both
returns-clause-both c = joined_parts _ c.args.self.now c.args.other.now c.either.ensures.both c.either-2.ensures.both

pub returns-clause-only : goal.returns-clause-only
returns-clause-only c = joined_only_parts _ c.args.self.now c.args.other.now c.either.ensures.only c.either-2.ensures.only
