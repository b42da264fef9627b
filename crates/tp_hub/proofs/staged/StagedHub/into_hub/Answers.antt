use Rattle.std.proofs.Common.{subst, sym}
use Rattle.tp_hub.specs.Serving.{HubState}
use Rattle.tp_hub.specs.Staged.{IsSettled, Standing, Stands, standing}
use Rattle.tp_hub.proofs.Staging.{serving_of, settled_from, settled_hub, settled_serves}
use Rattle.tp_hub.proofs.staged.StagedHub.into_hub.Goals as goal

pub of_parts-requires : goal.of_parts-requires
of_parts-requires g c =
    let i = c.self.inside in
    settled_serves g.V.Volumes.view g.V.Midway.SharedReads.of g.V.Midway.SharedReads.left i.stage i.sessions i.order c.finished.result c.finished.ensures (serving_of g.V.Volumes.view g.K.Start.is_start _ c.self.invariant)

pub returns-clause-settled : goal.returns-clause-settled
returns-clause-settled g c =
    let view = g.V.Volumes.view in
    let i = c.self.inside in
    let parts = c.of_parts.ensures in
    subst (λ (s : Standing _). IsSettled view s c.of_parts.result) c.self.view_is
    (subst (λ (h : HubState _). IsSettled view (standing g.V.Midway.SharedReads.of g.V.Midway.SharedReads.left i.stage i.sessions i.order) h) (λ k. record { pool = sym parts.pool k; slots = sym parts.slots k })
    (settled_hub view g.V.Midway.SharedReads.of g.V.Midway.SharedReads.left g.met.V.Volumes.laws i.stage i.sessions i.order c.finished.result c.finished.ensures))

pub returns-clause-from : goal.returns-clause-from
returns-clause-from g c =
    settled_from g.V.Volumes.view g.K.Start.is_start c.args.self c.of_parts.result (subst (λ (s : Standing _). Stands g.V.Volumes.view g.K.Start.is_start s) c.self.view_is c.self.invariant) (returns-clause-settled g c)
