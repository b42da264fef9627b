use Rattle.std.proofs.Common.{◌≡◌, ◌-◌}
use Rattle.nbd_session.specs.Holes.{any_blank}
use Rattle.nbd_session.proofs.holes.any_blank.Given as goal

-- what is left tells what the whole does
abbrev pub invariant-loop : goal.invariant-loop
invariant-loop l = any_blank 17 l.first l.bytes ≡ any_blank (17 - l.counter) l.part l.rest
