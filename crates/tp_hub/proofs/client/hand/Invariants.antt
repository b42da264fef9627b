use Rattle.std.proofs.Common.{◌≡◌, ◌≤◌, ◌-◌, [], length}
use Rattle.tp_hub.specs.Told.{HasRoom, KeepsRoom}
use Rattle.tp_hub.proofs.Carrying.{Handing}
use Rattle.tp_hub.proofs.client.hand.Given as goal

abbrev pub invariant-loop-at : goal.invariant-loop-at
invariant-loop-at g l = record {
  within : l.at ≤ length l.piece;
  empty : l.out.list ≡ [];
  fits : HasRoom l.out;
  wide : KeepsRoom l.initial.out l.out;
  long : l.initial.out.marks ≤ l.out.marks;
  handing : Handing g.D.Desk.asks l.initial.out.most l.fn.number l.piece l.at l.initial.desk l.desk (g.S.Stream.calls l.initial.stream) (g.S.Stream.calls l.stream);
}

abbrev pub decreases-loop-at : goal.decreases-loop-at
decreases-loop-at g l = length l.piece - l.at
