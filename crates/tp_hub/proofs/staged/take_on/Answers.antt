use Rattle.std.proofs.Common.{◌≡◌, refl, subst}
use Rattle.tp_hub.specs.Desks.{IsAsked, RunsSo}
use Rattle.tp_hub.specs.Runs.{incoming}
use Rattle.tp_hub.specs.Serving.{sessions_of}
use Rattle.tp_hub.specs.Stages.{IsPool}
use Rattle.tp_hub.specs.declared.staged.Stage.{Stage}
use Rattle.tp_hub.proofs.staged.take_on.Goals as goal

pub returns-clause-took : goal.returns-clause-took
returns-clause-took g c p pool =
    let view = g.V.Volumes.view in
    let t = c.take_batch in
    let same : c.in-Whole.pool ≡ p = subst (λ (s : Stage _ _). IsPool g.V.Midway.SharedReads.of p s) c.in-Whole.is pool in (
      t.new.pool,
      refl,
      t.ensures.serves,
      subst (λ d. IsAsked (λ took answers. RunsSo view (sessions_of c.args.sessions.now) d took answers (sessions_of t.new.sessions) t.new.pool) (incoming c.args.event) t.result.events t.result.bytes c.args.out.now t.new.out) same t.ensures.asked,
    )
