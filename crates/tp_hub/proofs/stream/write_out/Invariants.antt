use Rattle.std.proofs.Common.{◌≤◌, length}
use Rattle.tp_hub.proofs.Streaming.{Writing}
use Rattle.tp_hub.proofs.stream.write_out.Given as goal

abbrev pub invariant-loop-turn : goal.invariant-loop-turn
invariant-loop-turn g l = record {
  within : l.at ≤ length l.bytes;
  writing : Writing (g.S.Stream.calls l.initial.stream) (g.S.Stream.calls l.stream) l.bytes l.at l.turn;
}
