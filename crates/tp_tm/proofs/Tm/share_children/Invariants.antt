use Rattle.std.proofs.Common.{◌≡◌, length}
use Rattle.tp_tm.specs.Tm.{IsRaised}
use Rattle.tp_tm.proofs.Sharing.{SharedSoFar}
use Rattle.tp_tm.proofs.Tm.share_children.Given as goal

abbrev pub invariant-loop-i : goal.invariant-loop-i
invariant-loop-i l = record {
  raised : IsRaised l.fn.self l.self;
  kind : l.node.kind ≡ l.fn.kind;
  end : l.i-end ≡ length l.node.entries;
  left : SharedSoFar l.fn.self l.node l.self l.i;
}
