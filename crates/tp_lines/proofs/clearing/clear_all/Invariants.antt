use Rattle.std.proofs.Common.{◌≡◌, ◌≤◌, []}
use Rattle.tp_hub.specs.Told.{HasRoom}
use Rattle.tp_lines.proofs.Deleting.{Cleared}
use Rattle.tp_lines.proofs.clearing.clear_all.Given as goal

-- the ids up to here were asked for
abbrev pub invariant-loop-i : goal.invariant-loop-i
invariant-loop-i g l = record {
  within : l.i ≤ 64;
  empty : l.out.list ≡ [];
  fits : HasRoom l.out;
  few : l.deleted ≤ l.i;
  cleared : Cleared g.D.Desk.asks l.initial.desk l.desk l.i l.deleted;
}
