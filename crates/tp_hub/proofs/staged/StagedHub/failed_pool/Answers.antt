use Rattle.std.proofs.Common.{◌∙◌, ap, refl, sym}
use Rattle.std.proofs.lemmas.Option.{IfSome_then}
use Rattle.tp_hub.specs.Staged.{hub_at, standing}
use Rattle.tp_hub.specs.declared.staged.Stage.{Stage}
use Rattle.tp_hub.proofs.Staging.{idle_whole}
use Rattle.tp_hub.proofs.staged.StagedHub.failed_pool.Goals as goal

pub returns-clause-some : goal.returns-clause-some
returns-clause-some g c =
    let of = g.V.Midway.SharedReads.of in
    let left = g.V.Midway.SharedReads.left in
    let i = c.self.inside in
    IfSome_then c.failed_pool.result c.failed_pool.ensures.some (λ pool is. (hub_at pool.now i.sessions, sym c.self.view_is ∙ ap (λ (s : Stage _ _). standing of left s i.sessions i.order) is.0, refl, is.1))

pub returns-clause-none : goal.returns-clause-none
returns-clause-none g c none hub is =
    let i = c.self.inside in
    c.failed_pool.ensures.none none hub.pool (idle_whole g.V.Midway.SharedReads.of g.V.Midway.SharedReads.left i.stage i.sessions i.order hub (c.self.view_is ∙ is))
