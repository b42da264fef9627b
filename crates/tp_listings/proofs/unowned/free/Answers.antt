use Rattle.std.proofs.Common.{inl, List, ap, arith, length, subst, sym, ◌∙◌, ◌≡◌, ℕ}
use Rattle.std.proofs.lemmas.Result.{IfOk-weaker}
use Rattle.tp_model.specs.Geometry.{Geometry}
use Rattle.tp_model.specs.Pool.{Outline}
use Rattle.tp_listings.specs.Listings.{AreRunsOf}
use Rattle.tp_listings.proofs.Freeing.{IsBlank, free_is}
use Rattle.tp_listings.proofs.Surveys.{back}
use Rattle.tp_model.specs.declared.refusal.Refusal.{Refusal}
use Rattle.tp_model.specs.Pool.{PlainPool}
use Rattle.tp_listings.specs.Refusing.{IsRefusalOfAll}
use Rattle.tp_listings.proofs.Looked.{refusal_on}
use Rattle.std.proofs.lemmas.Result.{err_from_is_err_and}
use Rattle.tp_listings.proofs.Following.{memory_alone}
use Rattle.tp_listings.proofs.unowned.free.Goals as goal

pub returns-clause-exact : goal.returns-clause-exact
returns-clause-exact g c =
    let lent : length c.survey.new.owners ≡ length c.in_ok-owners.owners.items = c.survey.auto.owners ∙ ap (λ (l : List ℕ). length l) c.deref_mut.ensures.value in
    let table : c.deref.result.now ≡ c.survey.new.owners = c.deref.ensures.value ∙ back c.in_ok-owners.owners.len c.in_ok-owners.owners.items c.survey.new.owners lent c.in_ok-owners.owners.ok.0 in
    let laws = g.met.V.Volumes.laws in
    IfOk-weaker c.blank_runs.result _ _ (λ extents runs s shown.
    let outline = laws.shown c.survey.new.pool s (c.in_ok-survey.ensures.looked.still s shown) in
    let size = c.data_blocks.ensures.value ∙ ap (λ (x : Geometry). x.data_blocks) (c.geometry.ensures ∙ sym (ap (λ (o : Outline). o.geometry) outline)) in
    free_is s c.in_ok-survey.field-0.items c.survey.new.owners c.data_blocks.result extents.items (c.in_ok-survey.ensures.survey s shown)
    (laws.consistent c.args.pool.now s shown (c.in_ok-survey.ensures.works s shown)) size (omega (arith, lent, c.in_ok-owners.ensures.long, c.data_blocks.ensures.within.data_most, c.data_blocks.ensures.value))
    (subst (λ (t : List ℕ). AreRunsOf extents.items (IsBlank t c.data_blocks.result)) table runs)) c.blank_runs.ensures.runs

pub returns-in_err-owners-clause-refused : goal.returns-in_err-owners-clause-refused
returns-in_err-owners-clause-refused g c =
    let p = err_from_is_err_and c.from_residual.result c.from_residual.ensures.1 in
    refusal_on g.V.Volumes.view c.args.pool.now (λ (s : PlainPool) (x : Refusal). IsRefusalOfAll s x) c.in_err-owners.field-0.0 p.0 c.from_residual.result p.1 p.2 (λ s shown. inl c.in_err-owners.ensures.refused)

pub returns-in_err-survey-clause-refused : goal.returns-in_err-survey-clause-refused
returns-in_err-survey-clause-refused g c =
    let p = err_from_is_err_and c.from_residual-in_err-survey.result c.from_residual-in_err-survey.ensures.1 in
    refusal_on g.V.Volumes.view c.args.pool.now (λ (s : PlainPool) (x : Refusal). IsRefusalOfAll s x) c.in_err-survey.field-0.0 p.0 c.from_residual-in_err-survey.result p.1 p.2 c.in_err-survey.ensures.refused

pub returns-clause-refused : goal.returns-clause-refused
returns-clause-refused g c = memory_alone g.V.Volumes.view c.args.pool.now c.blank_runs.result c.blank_runs.ensures.refused
