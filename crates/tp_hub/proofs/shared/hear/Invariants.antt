use Rattle.std.proofs.Common.{◌≤◌, length, take}
use Rattle.tp_hub.specs.Places.{HearsAnywhere}
use Rattle.tp_hub.proofs.shared.hear.Given as goal

abbrev pub invariant-loop-look : goal.invariant-loop-look
invariant-loop-look g l =
    let view = g.V.Volumes.view in
    record {
      in_range : l.at ≤ length l.piece;
      hears : HearsAnywhere view l.fn.number l.fn.session (g.S.SharedReads.of l.fn.pool) (take l.at l.piece) l.fn.out l.out l.fn.session (g.S.SharedReads.of l.fn.pool);
    }
