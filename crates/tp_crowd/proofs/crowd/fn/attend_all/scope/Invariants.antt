use Rattle.std.proofs.Common.{◌<◌, ◌≤◌, ◌+◌, ◌-◌}
use Rattle.std.specs.Iterator.{IsFinite, size}
use Rattle.tp_crowd.proofs.crowd.fn.attend_all.scope.Given as goal

abbrev pub invariant-loop-client : goal.invariant-loop-client
invariant-loop-client g l = (l.came < 64) × g.I.Iterator.can_next l.client-iterator × (l.came + size (g.I.Iterator.remaining l.client-iterator) ≤ size (g.I.Iterator.remaining l.initial.client-iterator))
    × IsFinite (g.I.Iterator.remaining l.client-iterator)

abbrev pub decreases-loop-client : goal.decreases-loop-client
decreases-loop-client g l = 64 - l.came
