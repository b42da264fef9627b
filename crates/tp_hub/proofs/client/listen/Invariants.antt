use Rattle.std.proofs.Common.{◌≡◌, ◌<◌, ◌≤◌, [], length}
use Rattle.tp_hub.specs.Told.{HasRoom, KeepsRoom}
use Rattle.tp_hub.proofs.Carrying.{Listening}
use Rattle.tp_hub.proofs.client.listen.Given as goal

abbrev pub invariant-loop-turn : goal.invariant-loop-turn
invariant-loop-turn g l = record {
  room : 0 < length l.buffer.items;
  empty : l.out.list ≡ [];
  fits : HasRoom l.out;
  wide : KeepsRoom l.initial.out l.out;
  long : l.initial.out.marks ≤ l.out.marks;
  listening : Listening g.D.Desk.asks l.initial.out.most l.fn.number l.turn l.initial.desk l.desk (g.S.Stream.calls l.initial.stream) (g.S.Stream.calls l.stream);
}
