use Rattle.std.proofs.Common.{◌≡◌, ◌*◌, ◌≤◌, ◌++◌, drop, length}
use Rattle.nbd_session.specs.Spans.{as_pairs}
use Rattle.nbd_session.specs.Status.{extents_in}
use Rattle.nbd_session.proofs.spans.spans_of.Given as goal

-- what was put and what is left are the whole
abbrev pub invariant-loop-run : goal.invariant-loop-run
invariant-loop-run l = record {
  whole : as_pairs l.spans.items ++ extents_in l.context l.unit l.here l.end (drop l.run-index l.runs) ≡ extents_in l.context l.unit l.at l.end l.runs;
  few : length l.spans.items ≤ 2 * l.run-index;
  least : l.at ≤ l.here;
  most : l.here ≤ l.end;
  inside : l.run-index ≤ length l.runs;
}
