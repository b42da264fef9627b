use Rattle.tp_model.proofs.DiskStopLaws.{goes_on_write, goes_on_flush, stopped}
use Rattle.tp_model.proofs.laws.moments_of_a_disk.Goals as goal

pub returns-clause-write : goal.returns-clause-write
returns-clause-write g c a b d at values =
    goes_on_write {P = g.P.Claim.claim} {Q = g.Q.Claim.claim} {a = a} {b = b} {c = d} {at = at} {values = values}

pub returns-clause-flush : goal.returns-clause-flush
returns-clause-flush g c a b d ok = goes_on_flush {P = g.P.Claim.claim} {a = a} {b = b} {c = d} ok

pub returns-clause-stopped : goal.returns-clause-stopped
returns-clause-stopped g c a b = stopped {P = g.P.Claim.claim} {a = a} {b = b}
