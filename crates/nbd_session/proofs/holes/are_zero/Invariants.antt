use Rattle.std.proofs.Common.{◌≡◌, ◌==◌}
use Rattle.std.specs.List.{list_all}
use Rattle.nbd_session.proofs.holes.are_zero.Given as goal

-- all are zero where all that are left are
abbrev pub invariant-loop-stride : goal.invariant-loop-stride
invariant-loop-stride l =
    (goal.iterator-loop-stride).can_next l.stride-iterator ×
    (goal.iterator-loop-stride).is_finite l.stride-iterator ×
    (list_all (λ b. b == 0) l.bytes ≡ list_all (λ b. b == 0) l.stride-iterator.rest.now)
