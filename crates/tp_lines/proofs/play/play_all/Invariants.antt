use Rattle.std.proofs.Common.{◌≡◌, ◌<◌, [], length}
use Rattle.tp_hub.specs.Told.{HasRoom}
use Rattle.tp_lines.specs.Plays.{PlaysLine, ends_last}
use Rattle.tp_lines.specs.ReadLines.{Leads}
use Rattle.tp_lines.specs.declared.play.Stopped.TheVariants.{Script}
use Rattle.tp_lines.proofs.Doing.{SoFar}
use Rattle.tp_lines.proofs.play.play_all.Given as goal

abbrev pub invariant-loop-turn : goal.invariant-loop-turn
invariant-loop-turn g l = record {
  some : 0 < length l.piece.items;
  room : length l.bytes ≡ 8192;
  empty : l.out.list ≡ [];
  fits : HasRoom l.out;
  so_far : Leads g.D.Desk.asks (SoFar (PlaysLine l.profile) Script ends_last l.initial.place.line l.initial.place.played l.turn l.place.line l.place.played) l.initial.desk l.desk (g.S.Stream.calls l.initial.stream) (g.S.Stream.calls l.stream);
}
