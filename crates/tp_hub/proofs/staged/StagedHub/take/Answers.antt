use Rattle.std.proofs.Common.{ap, refl, subst, sym}
use Rattle.tp_hub.specs.Runs.{incoming}
use Rattle.tp_hub.specs.Serving.{Serves}
use Rattle.tp_hub.specs.Staged.{IsSettled, Standing, Stands, hub_at, standing}
use Rattle.tp_hub.specs.Stages.{IsPool}
use Rattle.tp_hub.specs.declared.staged.Stage.{Stage}
use Rattle.tp_hub.proofs.Owing.{asked_owed}
use Rattle.tp_hub.proofs.Staging.{asked_once, idle_stands, serving_of, settled_from, settled_hub, settled_serves}
use Rattle.tp_hub.proofs.staged.StagedHub.take.Goals as goal

pub take_on-requires-clause-serves : goal.take_on-requires-clause-serves
take_on-requires-clause-serves g c p pool =
    let view = g.V.Volumes.view in
    let of = g.V.Midway.SharedReads.of in
    let left = g.V.Midway.SharedReads.left in
    let i = c.self.inside in
    let s = c.settle.ensures in
    subst (λ d. Serves (view.outline d) (view.more d) i.sessions) (subst (λ (x : Stage _ _). IsPool of p x) s.1 pool)
    (settled_serves view of left i.stage i.sessions i.order s.0 s.2 (serving_of view g.K.Start.is_start _ c.self.invariant))

pub invariant_of-self : goal.invariant_of-self
invariant_of-self g c =
    let view = g.V.Volumes.view in
    let of = g.V.Midway.SharedReads.of in
    let left = g.V.Midway.SharedReads.left in
    let start = g.K.Start.is_start in
    let i = c.self.inside in
    let s = c.settle.ensures in
    let t = c.take_on in
    let took = t.ensures.took s.0 (subst (λ (x : Stage _ _). IsPool of s.0 x) (sym s.1) refl) in
    let mid = hub_at s.0 i.sessions in
    let new = hub_at took.0 t.new.sessions in
    subst (λ (x : Stage _ _). Stands view start (standing of left x t.new.sessions i.order)) (sym took.1)
    (idle_stands view start new took.2
    (asked_once view start mid new (incoming c.args.event) t.result.events t.result.bytes c.args.out.now t.new.out (settled_from view start _ mid c.self.invariant (settled_hub view of left g.met.V.Volumes.laws i.stage i.sessions i.order s.0 s.2)) took.3))

pub returns-clause-asked : goal.returns-clause-asked
returns-clause-asked g c =
    let view = g.V.Volumes.view in
    let of = g.V.Midway.SharedReads.of in
    let left = g.V.Midway.SharedReads.left in
    let i = c.self.inside in
    let s = c.settle.ensures in
    let t = c.take_on in
    let took = t.ensures.took s.0 (subst (λ (x : Stage _ _). IsPool of s.0 x) (sym s.1) refl) in
    let mid = hub_at s.0 i.sessions in (
      mid,
      hub_at took.0 t.new.sessions,
      subst (λ (x : Standing _). IsSettled view x mid) c.self.view_is (settled_hub view of left g.met.V.Volumes.laws i.stage i.sessions i.order s.0 s.2),
      ap (λ (x : Stage _ _). standing of left x t.new.sessions i.order) took.1,
      asked_owed view mid (hub_at took.0 t.new.sessions) (incoming c.args.event) t.result.events t.result.bytes c.args.out.now t.new.out took.3,
    )
