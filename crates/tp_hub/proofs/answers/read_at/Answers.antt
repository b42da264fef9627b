use Rattle.std.proofs.Common.{arith}
use Rattle.tp_hub.proofs.Sharing.{read_there}
use Rattle.tp_hub.proofs.answers.read_at.Goals as goal

pub returns-clause-reads : goal.returns-clause-reads
returns-clause-reads g c =
    let e = c.read_shared.ensures in
    read_there g.V.Volumes.view c.read_shared.result c.args.session.now (g.S.SharedReads.of c.args.pool.now) c.args.piece.now c.args.at c.args.bytes.now c.read_shared.new.out _ (omega (arith, c.requires.room)) e.steps e.goes_on e.fits
