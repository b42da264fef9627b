use Rattle.std.proofs.Common.{◌≤◌, ◌-◌}
use Rattle.tp_cache.specs.Table.{AreClean}
use Rattle.tp_cache.proofs.writing_out.clean_from.Given as goal

abbrev pub invariant-loop-at : goal.invariant-loop-at
invariant-loop-at l = (l.block ≤ l.at) × AreClean l.index l.block (l.at - l.block)
