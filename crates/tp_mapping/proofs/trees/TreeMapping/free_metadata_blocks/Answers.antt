use Rattle.std.proofs.Common.{rules, ◌<◌, ap, arith}
use Rattle.tp_model.specs.Geometry.{Geometry}
use Rattle.tp_mapping.proofs.Tallying.{free_few}
use Rattle.tp_mapping.proofs.trees.TreeMapping.free_metadata_blocks.Goals as goal

pub overflow_cast-result : goal.overflow_cast-result
overflow_cast-result c =
    let small : c.free_metadata.result < 1048576 =
    omega (arith, free_few c.args.self.now.tm, c.free_metadata.ensures, ap (λ (z : Geometry). z.metadata_blocks) c.geometry.ensures.value, c.metadata_blocks.ensures.within.metadata_most) in
    search (rules, small)
