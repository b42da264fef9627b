use Rattle.std.proofs.Common.{◌≡◌, [], take}
use Rattle.std.specs.Prelude.{Ok}
use Rattle.tp_hub.specs.Told.{HasRoom}
use Rattle.tp_lines.specs.ReadLines.{Leads, left_from}
use Rattle.tp_lines.proofs.Controlling.{DoneSo}
use Rattle.tp_lines.proofs.control.answer_bytes.Given as goal

abbrev pub invariant-loop-byte : goal.invariant-loop-byte
invariant-loop-byte g l = record {
  empty : l.out.list ≡ [];
  fits : HasRoom l.out;
  left : l.line ≡ left_from l.initial.line (take l.byte-index l.piece);
  so_far : Leads g.D.Desk.asks (DoneSo l.initial.line (take l.byte-index l.piece) (Ok (tt {0}))) l.initial.desk l.desk (g.S.Stream.calls l.initial.stream) (g.S.Stream.calls l.stream);
}
