use Rattle.std.proofs.Common.{◌≡◌, ◌≤◌, ◌<◌, length}
use Rattle.tp_layout.specs.Node.{IsNode}
use Rattle.tp_refs.specs.Store.{rank_of}
use Rattle.tp_tm.specs.Tm.{OnlyFewer}
use Rattle.tp_tm.proofs.Releasing.{Left}
use Rattle.tp_tm.proofs.Tm.+release_to.Given as goal

-- the rank is at most this, and falls
abbrev pub decreases-release_to : goal.decreases-release_to
decreases-release_to g l = l.top

abbrev pub invariant-loop-i : goal.invariant-loop-i
invariant-loop-i g l = record {
  state : g.D.Disk.state l.disk ≡ g.D.Disk.state l.fn.disk;
  fewer : OnlyFewer l.fn.self l.self;
  good : IsNode l.node;
  kind : l.node.kind ≡ l.fn.kind;
  rank : l.rank ≡ rank_of l.fn.kind l.node.level;
  low : l.rank ≤ l.fn.top;
  more : 0 < l.fn.top;
  end : l.i-end ≡ length l.node.entries;
  left : Left l.fn.self (g.D.Disk.state l.fn.disk) l.fn.reference l.fn.kind l.fn.top l.node l.self l.i;
}
