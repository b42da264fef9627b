use Rattle.std.proofs.Common.{length}
use Rattle.std.proofs.lemmas.Result.{on_ok_weaker}
use Rattle.tp_blocks.proofs.Filling.{copied, zeroed}
use Rattle.tp_blocks.proofs.load.Goals as goal

pub returns-in-Some-clause-bytes : goal.returns-in-Some-clause-bytes
returns-in-Some-clause-bytes g c =
    on_ok_weaker c.read.result
    (copied c.args.geometry.now (g.D.Disk.state c.args.disk.now) (g.met.D.Disk.well_formed c.args.disk.now) c.args.from.now c.in-Some.source c.args.sector
    c.data_sector.result (length c.args.out.now) c.read.new.out c.in-Some.is c.data_sector.ensures c.requires.whole c.requires.inside)
    c.read.ensures.bytes

pub returns-in-None-clause-bytes : goal.returns-in-None-clause-bytes
returns-in-None-clause-bytes g c known =
    zeroed c.args.geometry.now (g.D.Disk.state c.args.disk.now).cells c.args.from.now c.args.sector (length c.args.out.now) c.fill.new.self c.in-None.is
    c.requires.whole c.requires.inside (c.fill.ensures.after (λ y e. e))
