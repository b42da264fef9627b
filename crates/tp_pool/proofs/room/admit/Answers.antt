use Rattle.std.proofs.Common.{◌≡◌, ap, arith, refl, ◌∙◌}
use Rattle.tp_model.specs.Geometry.{Geometry}
use Rattle.tp_pool.proofs.room.admit.Goals as goal
use Rattle.tp_pool.proofs.room.admit.Goals.{then-wanted-data_blocks-via-then-wanted-data_blocks, then-wanted-data_blocks-via-else-wanted-data_blocks+then-used_data-data_blocks}

pub returns-then-wanted-data_blocks-clause-full : goal.returns-then-wanted-data_blocks-clause-full
returns-then-wanted-data_blocks-clause-full g c _ disk now kept stands =
    let gm = g.M.Metadata.geometry c.args.metadata.now in
    let size : c.data_blocks-data_blocks.result ≡ gm.data_blocks = c.data_blocks-data_blocks.ensures.value ∙ ap (λ (x : Geometry). x.data_blocks) c.geometry.ensures in
    elim c.then-wanted-data_blocks.branch [
      | then-wanted-data_blocks-via-then-wanted-data_blocks w ↦ omega (arith, w.if-wanted-data_blocks.true, size)
      | then-wanted-data_blocks-via-else-wanted-data_blocks+then-used_data-data_blocks w ↦
          let used_is = w.used_data.ensures disk now kept stands in
          omega (arith, w.if-used_data-data_blocks.true, w.if-wanted-data_blocks.false, used_is, size)
    ]

pub returns-clause-room : goal.returns-clause-room
returns-clause-room g c =
    let gm = g.M.Metadata.geometry c.args.metadata.now in
    let size : c.data_blocks-data_blocks.result ≡ gm.data_blocks = c.data_blocks-data_blocks.ensures.value ∙ ap (λ (x : Geometry). x.data_blocks) c.geometry.ensures in (
      refl,
      λ disk now kept stands. let used_is = c.used_data.ensures disk now kept stands in omega (arith, c.if-used_data-data_blocks.false, c.if-wanted-data_blocks.false, used_is, size),
    )
