use Rattle.std.proofs.Common.{◌-◌, ◌≤◌, length, take, true}
use Rattle.tp_lines.specs.Texts.{hexed}
use Rattle.tp_hub.specs.Streams.{Writes}
use Rattle.tp_lines.proofs.text.put_hex.Given as goal

-- the bytes are written up to a place
abbrev pub invariant-loop-at : goal.invariant-loop-at
invariant-loop-at g l = record {
  within : l.at ≤ length l.bytes;
  wrote : Writes (g.S.Stream.calls l.initial.stream) (g.S.Stream.calls l.stream) (hexed (take l.at l.bytes)) true;
}

abbrev pub decreases-loop-at : goal.decreases-loop-at
decreases-loop-at g l = length l.bytes - l.at
