use Rattle.std.proofs.Common.{subst}
use Rattle.std.proofs.lemmas.Option.{IfSome_then}
use Rattle.tp_hub.specs.Staged.{IsOf, Standing, hub_at}
use Rattle.tp_hub.proofs.Staging.{seen_hub, seen_serves, serving_of, there_before}
use Rattle.tp_hub.proofs.staged.StagedHub.ask_shared.Goals as goal

pub look_on-requires-clause-serves : goal.look_on-requires-clause-serves
look_on-requires-clause-serves g c =
    let i = c.self.inside in
    seen_serves g.V.Volumes.view g.V.Midway.SharedReads.of g.V.Midway.SharedReads.left i.stage i.sessions i.order (serving_of g.V.Volumes.view g.K.Start.is_start _ c.self.invariant)

pub returns-clause-asked : goal.returns-clause-asked
returns-clause-asked g c =
    let view = g.V.Volumes.view in
    let of = g.V.Midway.SharedReads.of in
    let left = g.V.Midway.SharedReads.left in
    let i = c.self.inside in
    let seen = seen_hub of left i.stage i.sessions i.order (there_before view of left i.stage i.sessions i.order c.self.invariant.old c.self.invariant.before) in
    let hub = hub_at seen.0 i.sessions in
    IfSome_then c.look_on.result (c.look_on.ensures.asked seen.0 seen.1) (λ ran asked. (hub, subst (λ (s : Standing _). IsOf hub s) c.self.view_is seen.2, asked))
