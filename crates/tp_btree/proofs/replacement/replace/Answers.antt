use Rattle.std.proofs.Common.{arith}
use Rattle.std.proofs.lemmas.Result.{IfOk-weaker}
use Rattle.tp_btree.proofs.replacement.replace.Goals as goal

pub returns-clause-replaced : goal.returns-clause-replaced
returns-clause-replaced g c = IfOk-weaker c.replace_below.result _ _
    (λ done swapped honest opens held s k high was r. swapped honest opens held s k 0 high was r (omega (arith, r.levels, c.most_level.ensures))) c.replace_below.ensures.replaced
