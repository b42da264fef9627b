use Rattle.std.proofs.Common.{◌≡◌, ◌≤◌, ◌<◌, length}
use Rattle.tp_btree.specs.Walks.{IsLonger}
use Rattle.tp_btree.proofs.Walking.{Walked}
use Rattle.tp_btree.proofs.walks.+walk_below.Given as goal

-- the level is at most this, and falls
abbrev pub decreases-walk_below : goal.decreases-walk_below
decreases-walk_below g l = l.top

abbrev pub invariant-loop-i : goal.invariant-loop-i
invariant-loop-i g l = record {
  state : g.D.Disk.state l.disk ≡ g.D.Disk.state l.fn.disk;
  kind : l.node.kind ≡ l.fn.kind;
  level : l.level ≡ l.node.level;
  low : l.level ≤ l.fn.top;
  more : 0 < l.level;
  end : l.i-end ≡ length l.node.entries;
  longer : IsLonger l.fn.entries.items l.entries.items;
  walked : Walked l.fn.tm (g.D.Disk.state l.fn.disk) l.fn.kind l.fn.block l.fn.top l.fn.from l.node l.i l.fn.entries.items l.entries.items;
}
