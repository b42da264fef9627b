use Rattle.std.proofs.Common.{ap, refl, subst, sym, ◌∙◌}
use Rattle.std.proofs.lemmas.Result.{IfErr-weaker, IfOk-weaker}
use Rattle.std.specs.Prelude.{not}
use Rattle.tp_model.specs.declared.refusal.Refusal.{Refusal}
use Rattle.tp_model.specs.Disk.{DiskState, after_read, seen}
use Rattle.tp_model.specs.Refusals.{is_fault_refusal}
use Rattle.tp_meta.specs.declared.whole.Meta.{Meta}
use Rattle.tp_meta.specs.Opening.{IsOpenedFrom}
use Rattle.tp_meta.specs.Standing.{StandsFor, changed_of, geometry_of, marks_of, opened_of, room_of}
use Rattle.tp_pool.specs.Held.{Held}
use Rattle.tp_pool.specs.Lives.{IsReopenedFrom}
use Rattle.tp_served.specs.Served.{IsAtStart}
use Rattle.tp_served.proofs.Inner.{opened_on}
use Rattle.tp_served.proofs.opening.Served+ReadCache+D+Meta.open.Goals as goal

pub returns-clause-start : goal.returns-clause-start
returns-clause-start g c =
    IfOk-weaker c.on_caches.result _ _ (λ served made. subst (λ (d : DiskState). IsAtStart geometry_of served c.args.room.changed d) c.in-Ok.ensures.state made.1) c.on_caches.ensures.made

pub returns-clause-holders : goal.returns-clause-holders
returns-clause-holders g c = IfOk-weaker c.on_caches.result _ _ (λ served made. ap (λ (h : Held Meta). h.holders) made.0 ∙ c.in-Ok.ensures.holders) c.on_caches.ensures.made

pub returns-clause-unchanged : goal.returns-clause-unchanged
returns-clause-unchanged g c =
    IfOk-weaker c.on_caches.result _ _ (λ served made. ap (λ (h : Held Meta). changed_of h.metadata) made.0 ∙ c.in-Ok.ensures.unchanged) c.on_caches.ensures.made

pub returns-clause-told : goal.returns-clause-told
returns-clause-told g c =
    IfOk-weaker c.on_caches.result _ _
    (λ served made honest. subst (λ (h : Held Meta). IsOpenedFrom (seen (g.D.Disk.state c.args.disk).cells) (opened_of h.metadata)) (sym made.0) (c.in-Ok.ensures.told honest)) c.on_caches.ensures.made

pub returns-clause-reopened : goal.returns-clause-reopened
returns-clause-reopened g c =
    IfOk-weaker c.on_caches.result _ _
    (λ served made honest settled.
    subst (λ (h : Held Meta). IsReopenedFrom geometry_of StandsFor (seen (g.D.Disk.state c.args.disk).cells) h) (sym made.0) (c.in-Ok.ensures.reopened honest settled)) c.on_caches.ensures.made

pub returns-clause-opened : goal.returns-clause-opened
returns-clause-opened g c =
    IfOk-weaker c.on_caches.result _ _
    (λ served made honest settled.
    let image = seen (g.D.Disk.state c.args.disk).cells in
    opened_on geometry_of StandsFor marks_of room_of changed_of served served c.in-Ok.pool refl made.0 made.1.line image
    (c.opened_pools_go_on.ensures image c.in-Ok.pool (c.in-Ok.ensures.reopened honest settled) c.in-Ok.ensures.unchanged)) c.on_caches.ensures.made

pub returns-clause-why : goal.returns-clause-why
returns-clause-why g c = IfErr-weaker c.on_caches.result _ _ (λ back is no_fault no_memory honest. absurd (no_memory is.0)) c.on_caches.ensures.memory

pub returns-clause-refused : goal.returns-clause-refused
returns-clause-refused g c = IfErr-weaker c.on_caches.result _ _ (λ back is no_fault no_memory honest k contents holds. no_memory is.0) c.on_caches.ensures.memory

pub returns-clause-back : goal.returns-clause-back
returns-clause-back g c =
    IfErr-weaker c.on_caches.result _ _
    (λ back is. is.1 ∙ c.in-Ok.ensures.state ∙ ap (λ (r : Refusal). after_read (not (is_fault_refusal r)) (g.D.Disk.state c.args.disk)) (sym is.0)) c.on_caches.ensures.memory
