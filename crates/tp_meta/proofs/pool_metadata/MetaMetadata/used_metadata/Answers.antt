use Rattle.std.proofs.Common.{rules, ◌<◌, ap, arith}
use Rattle.tp_model.specs.Geometry.{Geometry}
use Rattle.tp_tm.specs.Tm.{Tm}
use Rattle.tp_meta.specs.Framing.{room_kept}
use Rattle.tp_meta.proofs.pool_metadata.MetaMetadata.used_metadata.Goals as goal

pub overflow_cast-result : goal.overflow_cast-result
overflow_cast-result c =
    let t = c.store-2.result.now in
    let blocks = ap (λ (z : Geometry). z.metadata_blocks) c.geometry.ensures.value in
    let same = ap (λ (z : Tm). z.geometry.metadata_blocks) c.store.ensures in
    let again = ap (λ (z : Tm). z.geometry.metadata_blocks) c.store-2.ensures in
    let small : c.used_metadata.result < 1048576 =
    omega (
      arith,
      room_kept t.geometry.metadata_blocks t.metadata_now,
      c.used_metadata.ensures,
      blocks,
      same,
      again,
      c.metadata_blocks.ensures.within.metadata_most,
    ) in
    search (rules, small)
