use Rattle.std.proofs.Common.{subst}
use Rattle.tp_model.specs.Flushing.{IsFlushing}
use Rattle.tp_hub.specs.Stages.{IsPool}
use Rattle.tp_hub.specs.declared.staged.Stage.{Stage}
use Rattle.tp_hub.proofs.staged.part.Goals as goal

pub returns-in-Whole-clause-part : goal.returns-in-Whole-clause-part
returns-in-Whole-clause-part g c old pool =
    let of = g.V.Midway.SharedReads.of in
    let same = subst (λ (s : Stage _ _). IsPool of old s) c.in-Whole.is pool in
    c.rest.ensures.same old (subst (λ d. IsFlushing g.V.Volumes.view of d c.begin_flush.result) same c.begin_flush.ensures)

pub returns-in-Midway-clause-part : goal.returns-in-Midway-clause-part
returns-in-Midway-clause-part g c old pool =
    let of = g.V.Midway.SharedReads.of in
    let same = subst (λ (s : Stage _ _). IsPool of old s) c.in-Midway.is pool in
    c.rest-in-Midway.ensures.same old (subst (λ d. IsFlushing g.V.Volumes.view of d c.go_on.result) same c.go_on.ensures.flushing)
