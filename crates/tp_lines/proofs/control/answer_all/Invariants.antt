use Rattle.std.proofs.Common.{◌≡◌, ◌<◌, [], length}
use Rattle.tp_hub.specs.Told.{HasRoom}
use Rattle.tp_lines.specs.ReadLines.{Leads}
use Rattle.tp_lines.proofs.Controlling.{GoneOn}
use Rattle.tp_lines.proofs.control.answer_all.Given as goal

abbrev pub invariant-loop-turn : goal.invariant-loop-turn
invariant-loop-turn g l = record {
  some : 0 < length l.piece.items;
  empty : l.out.list ≡ [];
  fits : HasRoom l.out;
  so_far : Leads g.D.Desk.asks (GoneOn l.initial.line l.turn l.line) l.initial.desk l.desk (g.S.Stream.calls l.initial.stream) (g.S.Stream.calls l.stream);
}
