use Rattle.std.proofs.Common.{◌≡◌, ◌≤◌, ◌<◌, length}
use Rattle.std.specs.Prelude.{◌^◌}
use Rattle.tp_btree.proofs.Ends.{Counted}
use Rattle.tp_btree.proofs.extent.+count_below.Given as goal

-- the level is at most this, and falls
abbrev pub decreases-count_below : goal.decreases-count_below
decreases-count_below g l = l.top

abbrev pub invariant-loop-i : goal.invariant-loop-i
invariant-loop-i g l = record {
  state : g.D.Disk.state l.disk ≡ g.D.Disk.state l.fn.disk;
  kind : l.node.kind ≡ l.fn.kind;
  level : l.level ≡ l.node.level;
  low : l.level ≤ l.fn.top;
  more : 0 < l.level;
  end : l.i-end ≡ length l.node.entries;
  few : l.count ≤ 2 ^ 24;
  counted : Counted l.fn.tm (g.D.Disk.state l.fn.disk) l.fn.kind l.fn.block l.fn.top l.node l.i l.count;
}
