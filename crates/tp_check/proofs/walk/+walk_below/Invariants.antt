use Rattle.std.proofs.Common.{◌≡◌}
use Rattle.tp_model.specs.Disk.{seen}
use Rattle.tp_check.specs.Walk.{IsBegun, IsSame, WalksOn, depth}
use Rattle.tp_check.proofs.walk.+walk_below.Given as goal

-- the depth below the name falls
abbrev pub decreases-walk_below : goal.decreases-walk_below
decreases-walk_below g l = depth l.demand.now.kind l.demand.now.level

-- the disk is as it was, and the trees that the entries so far name were walked
abbrev pub invariant-loop-i : goal.invariant-loop-i
invariant-loop-i g l = record {
  state : g.D.Disk.state l.disk ≡ g.D.Disk.state l.fn.disk;
  same : IsSame l.fn.walk l.walk;
  on : IsBegun (g.D.Disk.state l.fn.disk) l.fn.walk l.fn.demand → WalksOn (seen (g.D.Disk.state l.fn.disk).cells) l.fn.walk l.walk l.fn.demand l.node l.i l.last l.below;
}
