use Rattle.std.proofs.Common.{◌≡◌, ◌-◌, [], false}
use Rattle.nbd_wire.specs.Reading.{told_by}
use Rattle.nbd_wire.proofs.contexts.told_by.Given as goal

abbrev pub invariant-loop : goal.invariant-loop
invariant-loop l = told_by l.count l.text false false [] ≡ told_by (l.count - l.counter) l.rest l.asks l.all l.since
