use Rattle.std.proofs.Common.{rules}
use Rattle.std.proofs.lemmas.Bool.{false≢true}
use Rattle.tp_counts.proofs.Runs.{looked_on}
use Rattle.tp_counts.proofs.least_free.Goals as goal

pub loop-b-preserved : goal.loop-b-preserved
loop-b-preserved c =
    looked_on c.args.now.now c.args.kept.now c.args.from c.loop-b.b c.next_to_look_at-b.result
    c.loop-b.invariant (λ zeros. absurd (false≢true (c.if-is_zero.ensures.1 zeros))) c.next_to_look_at-b.ensures.used

pub returns-clause-least : goal.returns-clause-least
returns-clause-least c = search rules

pub loop-b-init : goal.loop-b-init
loop-b-init c = search rules
