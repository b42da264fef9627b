use Rattle.std.proofs.Common.{◌+◌, ◌≤◌, ◌<◌, subst, ◌∙◌}
use Rattle.std.proofs.lemmas.Result.{IfOk-weaker}
use Rattle.tp_sharing.specs.Volumes.{used}
use Rattle.tp_pool.proofs.room.test_room.Goals as goal

pub returns-clause-full : goal.returns-clause-full
returns-clause-full g c e disk now kept id first stands told =
    let M = g.M.Metadata in
    let gm = M.geometry c.args.metadata.now in
    let within = (g.met.M.Metadata.within c.args.metadata.now disk now kept stands).volumes_now in
    let so = c.survey-demand.ensures.told gm id first now.volumes (M.marks c.args.metadata.now) within told in
    subst (λ n. gm.data_blocks < used now.volumes + n) so.0 (c.admit.ensures.full e disk now kept stands)

pub returns-clause-room : goal.returns-clause-room
returns-clause-room g c =
    IfOk-weaker c.admit.result _ _
    (λ taken w disk now kept id first stands told.
    let M = g.M.Metadata in
    let gm = M.geometry c.args.metadata.now in
    let within = (g.met.M.Metadata.within c.args.metadata.now disk now kept stands).volumes_now in
    let so = c.survey-demand.ensures.told gm id first now.volumes (M.marks c.args.metadata.now) within told in
    (subst (λ n. used now.volumes + n ≤ gm.data_blocks) so.0 (w.1 disk now kept stands), w.0 ∙ so.1))
    c.admit.ensures.room
