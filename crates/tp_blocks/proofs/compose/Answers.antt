use Rattle.std.proofs.Common.{◌+◌, ◌/◌, length, refl, arith}
use Rattle.tp_blocks.proofs.Filling.{composed}
use Rattle.tp_blocks.proofs.compose.Goals as goal

pub returns-clause-bytes : goal.returns-clause-bytes
returns-clause-bytes g c =
    composed c.args.geometry.now 0 c.args.sector c.args.bytes.now c.args.from.now (g.D.Disk.state c.args.disk.now) (g.met.D.Disk.well_formed c.args.disk.now)
    c.requires.disk c.requires.from c.requires.whole c.requires.inside c.load.new.out c.copy_from_slice.new.self c.load-2.new.out
    (length c.split_at_mut-head.result.0.now) (length c.split_at_mut-middle.result.1.now) (c.args.sector + length c.args.bytes.now / 512)
    (g.D.Disk.state c.load.new.disk) c.in_ok-load.ensures.state (omega arith) (omega arith) refl c.in_ok-load.ensures.bytes c.copy_from_slice.ensures.after c.in_ok-load-2.ensures.bytes
