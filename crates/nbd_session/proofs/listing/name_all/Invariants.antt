use Rattle.std.proofs.Common.{◌≡◌, ◌-◌, ◌≤◌, length}
use Rattle.tp_model.specs.Clauses.{PoolCall}
use Rattle.nbd_session.specs.Session.{limit_of}
use Rattle.nbd_session.proofs.Naming.{Named}
use Rattle.nbd_session.proofs.listing.name_all.Given as goal

-- the ids up to here are named
abbrev pub invariant-loop-named : goal.invariant-loop-named
invariant-loop-named g l =
    let p = g.V.Volumes in
    record {
      most : l.named ≤ 65536;
      len : length l.out ≡ length l.fn.out;
      ids : Named p.view.outline (PoolCall p.view) (limit_of l.fn.terms.profile) l.fn.pool l.pool l.from l.named l.at l.out;
    }

abbrev pub decreases-loop-named : goal.decreases-loop-named
decreases-loop-named g l = 65536 - l.named
