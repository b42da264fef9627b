use Rattle.std.proofs.Common.{◌∙◌, refl}
use Rattle.tp_commands.proofs.asking.count_volumes.Goals as goal

pub loop-count-preserved : goal.loop-count-preserved
loop-count-preserved g c = let met = c.in-Ok-Some.ensures in met.answered.reads refl ∙ c.loop-count.invariant

pub returns-in-Ok-None : goal.returns-in-Ok-None
returns-in-Ok-None g c = let met = c.in-Ok-None.ensures in met.answered.reads refl ∙ c.loop-count.invariant

pub returns-in-Err : goal.returns-in-Err
returns-in-Err g c = let met = c.in-Err.ensures in met.answered.reads refl ∙ c.loop-count.invariant
