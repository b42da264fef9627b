use Rattle.std.proofs.Common.{ℕ, ◌<◌}
use Rattle.std.specs.Prelude.{slice_index}
use Rattle.tp_meta.proofs.opening.are_counted.Given as goal

-- the blocks so far have counts over 0
abbrev pub invariant-loop-block : goal.invariant-loop-block
invariant-loop-block l = (b : ℕ) → b < l.block → 0 < slice_index l.tm.metadata_now b
