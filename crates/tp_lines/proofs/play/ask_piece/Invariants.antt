use Rattle.std.proofs.Common.{◌≡◌, ◌-◌, ◌≤◌, [], length}
use Rattle.tp_hub.specs.Told.{HasRoom}
use Rattle.tp_lines.specs.ReadLines.{Leads}
use Rattle.tp_lines.proofs.Playing.{GivenTo}
use Rattle.tp_lines.proofs.play.ask_piece.Given as goal

abbrev pub invariant-loop-at : goal.invariant-loop-at
invariant-loop-at g l = record {
  within : l.at ≤ length l.piece;
  empty : l.out.list ≡ [];
  fits : HasRoom l.out;
  giving : Leads g.D.Desk.asks (GivenTo l.fn.number l.piece l.at) l.initial.desk l.desk (g.S.Stream.calls l.initial.stream) (g.S.Stream.calls l.stream);
}

abbrev pub decreases-loop-at : goal.decreases-loop-at
decreases-loop-at g l = length l.piece - l.at
