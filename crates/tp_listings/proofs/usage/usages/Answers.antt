use Rattle.std.proofs.Common.{inl, ap, length, List, ℕ, ◌∙◌}
use Rattle.tp_listings.proofs.Surveys.{back, usages_told}
use Rattle.tp_model.specs.declared.refusal.Refusal.{Refusal}
use Rattle.tp_model.specs.Pool.{PlainPool}
use Rattle.tp_listings.specs.Refusing.{IsRefusalOfAll}
use Rattle.tp_listings.proofs.Looked.{refusal_on}
use Rattle.std.proofs.lemmas.Result.{err_from_is_err_and}
use Rattle.tp_listings.proofs.usage.usages.Goals as goal

pub returns-clause-exact : goal.returns-clause-exact
returns-clause-exact g c s shown =
    let table =
    c.deref.ensures.value
    ∙ back c.in_ok-owners.owners.len c.in_ok-owners.owners.items c.survey.new.owners (c.survey.auto.owners ∙ ap (λ (l : List ℕ). length l) c.deref_mut.ensures.value) c.in_ok-owners.owners.ok.0 in
    usages_told s c.in_ok-usages.usages.items c.deref_mut-2.result.now c.count_owners.new.usages c.in_ok-usages.usages.len c.deref.result.now c.survey.new.owners (c.in_ok-usages.ensures.survey s shown)
    (g.met.V.Volumes.laws.consistent c.args.pool.now s shown (c.in_ok-usages.ensures.works s shown)) c.deref_mut-2.ensures.value c.count_owners.auto.usages c.in_ok-usages.usages.ok.0 table c.count_owners.ensures

pub returns-in_err-owners-clause-refused : goal.returns-in_err-owners-clause-refused
returns-in_err-owners-clause-refused g c =
    let p = err_from_is_err_and c.from_residual.result c.from_residual.ensures.1 in
    refusal_on g.V.Volumes.view c.args.pool.now (λ (s : PlainPool) (x : Refusal). IsRefusalOfAll s x) c.in_err-owners.field-0.0 p.0 c.from_residual.result p.1 p.2 (λ s shown. inl c.in_err-owners.ensures.refused)

pub returns-in_err-usages-clause-refused : goal.returns-in_err-usages-clause-refused
returns-in_err-usages-clause-refused g c =
    let p = err_from_is_err_and c.from_residual-in_err-usages.result c.from_residual-in_err-usages.ensures.1 in
    refusal_on g.V.Volumes.view c.args.pool.now (λ (s : PlainPool) (x : Refusal). IsRefusalOfAll s x) c.in_err-usages.field-0.0 p.0 c.from_residual-in_err-usages.result p.1 p.2 c.in_err-usages.ensures.refused
