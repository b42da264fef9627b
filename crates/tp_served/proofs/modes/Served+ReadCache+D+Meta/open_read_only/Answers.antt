use Rattle.std.proofs.Common.{ap, subst, sym, ◌∙◌}
use Rattle.std.proofs.lemmas.Result.{IfErr-weaker, IfOk-weaker}
use Rattle.tp_model.specs.declared.refusal.Refusal.{Refusal}
use Rattle.tp_model.specs.Disk.{DiskState, after_read}
use Rattle.tp_model.specs.Refusals.{is_fault_refusal}
use Rattle.std.specs.Prelude.{not}
use Rattle.tp_meta.specs.declared.whole.Meta.{Meta}
use Rattle.tp_meta.specs.Standing.{StandsFor, changed_of, geometry_of}
use Rattle.tp_pool.specs.Checked.{read_only}
use Rattle.tp_pool.specs.Held.{Held, shows}
use Rattle.tp_served.specs.Served.{IsAtStart}
use Rattle.tp_served.proofs.modes.Served+ReadCache+D+Meta.open_read_only.Goals as goal

pub returns-clause-start : goal.returns-clause-start
returns-clause-start g c =
    IfOk-weaker c.on_caches.result _ _ (λ served made. subst (λ (d : DiskState). IsAtStart geometry_of served c.args.room.changed d) c.in-Ok.ensures.state made.1) c.on_caches.ensures.made

pub returns-clause-shows : goal.returns-clause-shows
returns-clause-shows g c =
    IfOk-weaker c.on_caches.result _ _ (λ served made honest settled k s is stands.
    subst (λ (h : Held Meta). shows geometry_of StandsFor h (read_only s)) (sym made.0) (c.in-Ok.ensures.shows honest settled k s is stands)) c.on_caches.ensures.made

pub returns-clause-mode : goal.returns-clause-mode
returns-clause-mode g c = IfOk-weaker c.on_caches.result _ _ (λ served made. ap (λ (h : Held Meta). h.mode) made.0 ∙ c.in-Ok.ensures.mode) c.on_caches.ensures.made

pub returns-clause-holders : goal.returns-clause-holders
returns-clause-holders g c = IfOk-weaker c.on_caches.result _ _ (λ served made. ap (λ (h : Held Meta). h.holders) made.0 ∙ c.in-Ok.ensures.holders) c.on_caches.ensures.made

pub returns-clause-unchanged : goal.returns-clause-unchanged
returns-clause-unchanged g c =
    IfOk-weaker c.on_caches.result _ _ (λ served made. ap (λ (h : Held Meta). changed_of h.metadata) made.0 ∙ c.in-Ok.ensures.unchanged) c.on_caches.ensures.made

pub returns-clause-why : goal.returns-clause-why
returns-clause-why g c = IfErr-weaker c.on_caches.result _ _ (λ back is no_fault no_memory honest. absurd (no_memory is.0)) c.on_caches.ensures.memory

pub returns-clause-refused : goal.returns-clause-refused
returns-clause-refused g c = IfErr-weaker c.on_caches.result _ _ (λ back is no_fault no_memory honest k contents holds. no_memory is.0) c.on_caches.ensures.memory

pub returns-clause-back : goal.returns-clause-back
returns-clause-back g c =
    IfErr-weaker c.on_caches.result _ _
    (λ back is. is.1 ∙ c.in-Ok.ensures.state ∙ ap (λ (r : Refusal). after_read (not (is_fault_refusal r)) (g.D.Disk.state c.args.disk)) (sym is.0)) c.on_caches.ensures.memory
