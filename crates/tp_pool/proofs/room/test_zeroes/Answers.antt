use Rattle.std.proofs.Common.{◌≡◌, ℕ, ◌+◌, ◌/◌, ◌≤◌, ◌<◌, Bool, List, length, subst, ◌∙◌}
use Rattle.std.proofs.lemmas.Result.{IfOk-weaker}
use Rattle.tp_model.specs.Geometry.{Geometry}
use Rattle.tp_model.specs.Calls.{WriteZeroes}
use Rattle.tp_sharing.specs.Volumes.{Volumes, used}
use Rattle.tp_mapping.specs.Mapping.{IsWithin}
use Rattle.tp_shown.specs.Shown.{blocks_wanted_by}
use Rattle.tp_meta.specs.Metadata.{AreTold}
use Rattle.tp_pool.specs.Writing.{blocks_taken_by}
use Rattle.tp_pool.proofs.room.test_zeroes.Goals as goal

pub returns-clause-full : goal.returns-clause-full
returns-clause-full g c e disk now kept fua id stands told =
    let M = g.M.Metadata in
    let gm = M.geometry c.args.metadata.now in
    let within = (g.met.M.Metadata.within c.args.metadata.now disk now kept stands).volumes_now in
    let told_by = subst (λ (x : Geometry). (fua : Bool) (id : ℕ) (volumes : Volumes) (marks : List Bool) → IsWithin x volumes → AreTold id (c.args.sector / x.block_sectors) volumes marks (length c.args.homes.now) c.args.homes.now
    → (c.survey_zeroes-demand.result.wanted ≡ blocks_wanted_by x (WriteZeroes id c.args.sector c.args.count c.args.no_hole fua) id volumes (c.args.sector / x.block_sectors) (length c.args.homes.now))
    × (c.survey_zeroes-demand.result.taken ≡ blocks_taken_by x (WriteZeroes id c.args.sector c.args.count c.args.no_hole fua) id volumes marks (c.args.sector / x.block_sectors) (length c.args.homes.now)))
    c.geometry-geometry.ensures c.survey_zeroes-demand.ensures.told in
    let so = told_by fua id now.volumes (M.marks c.args.metadata.now) within told in
    subst (λ n. gm.data_blocks < used now.volumes + n) so.0 (c.admit.ensures.full e disk now kept stands)

pub returns-clause-room : goal.returns-clause-room
returns-clause-room g c =
    IfOk-weaker c.admit.result _ _
    (λ taken w disk now kept fua id stands told.
    let M = g.M.Metadata in
    let gm = M.geometry c.args.metadata.now in
    let within = (g.met.M.Metadata.within c.args.metadata.now disk now kept stands).volumes_now in
    let told_by = subst (λ (x : Geometry). (fua : Bool) (id : ℕ) (volumes : Volumes) (marks : List Bool) → IsWithin x volumes → AreTold id (c.args.sector / x.block_sectors) volumes marks (length c.args.homes.now) c.args.homes.now
    → (c.survey_zeroes-demand.result.wanted ≡ blocks_wanted_by x (WriteZeroes id c.args.sector c.args.count c.args.no_hole fua) id volumes (c.args.sector / x.block_sectors) (length c.args.homes.now))
    × (c.survey_zeroes-demand.result.taken ≡ blocks_taken_by x (WriteZeroes id c.args.sector c.args.count c.args.no_hole fua) id volumes marks (c.args.sector / x.block_sectors) (length c.args.homes.now)))
    c.geometry-geometry.ensures c.survey_zeroes-demand.ensures.told in
    let so = told_by fua id now.volumes (M.marks c.args.metadata.now) within told in
    (subst (λ n. used now.volumes + n ≤ gm.data_blocks) so.0 (w.1 disk now kept stands), w.0 ∙ so.1))
    c.admit.ensures.room
