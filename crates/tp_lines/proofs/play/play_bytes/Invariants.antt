use Rattle.std.proofs.Common.{◌≡◌, [], length, take}
use Rattle.std.specs.Prelude.{Ok}
use Rattle.tp_hub.specs.Told.{HasRoom}
use Rattle.tp_lines.specs.Plays.{PlaysLine}
use Rattle.tp_lines.specs.ReadLines.{AreDone, Leads, left_from, lines_from}
use Rattle.tp_lines.proofs.play.play_bytes.Given as goal

abbrev pub invariant-loop-byte : goal.invariant-loop-byte
invariant-loop-byte g l = record {
  room : length l.bytes ≡ 8192;
  empty : l.out.list ≡ [];
  fits : HasRoom l.out;
  left : l.place.line ≡ left_from l.initial.place.line (take l.byte-index l.piece);
  so_far : Leads g.D.Desk.asks (λ asks did. AreDone (PlaysLine l.profile) (lines_from l.initial.place.line (take l.byte-index l.piece)) l.initial.place.played asks did l.place.played (Ok (tt {0}))) l.initial.desk l.desk (g.S.Stream.calls l.initial.stream) (g.S.Stream.calls l.stream);
}
