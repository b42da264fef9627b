use Rattle.std.proofs.Common.{inl, arith, ap, length, List, [], ◌∷◌, subst, sym, ◌+◌, ◌<◌, ◌≡◌, ◌∙◌, ℕ, Option}
use Rattle.std.proofs.lemmas.List.{length-append}
use Rattle.std.proofs.lemmas.Result.{err_from_is_err_and}
use Rattle.tp_listings.specs.declared.extent.Usage.{Usage}
use Rattle.tp_listings.specs.Owned.{IsNext, IsSurvey, usage_at}
use Rattle.tp_listings.proofs.Steps.{begun, handed_on, joined, no_memory, with_value}
use Rattle.tp_listings.proofs.Surveys.{blank_each, blank_of, survey_all, survey_first, survey_more, survey_over}
use Rattle.tp_model.specs.declared.refusal.Refusal.{Refusal}
use Rattle.tp_model.specs.Pool.{PlainPool}
use Rattle.tp_listings.specs.Refusing.{IsRefusalOfAll}
use Rattle.tp_listings.proofs.Looked.{refusal_on}
use Rattle.tp_listings.proofs.usage.survey.Goals as goal

pub loop-from-init : goal.loop-from-init
loop-from-init g c = record {
  looked = begun g.V.Volumes.view c.args.pool.now (tt {0});
  most = omega arith;
  few = let n = ap (λ (l : List Usage). length l) c.new-usages.ensures.items in omega (arith, n);
  blank = λ j lt. let n = ap (λ (l : List Usage). length l) c.new-usages.ensures.items in absurd (omega (arith, lt, n));
  survey = λ s shown. subst (λ (l : List Usage). IsSurvey s 0 l c.args.owners.now) (sym c.new-usages.ensures.items) (survey_first s c.args.owners.now c.requires.blank);
  works = λ s shown lt. absurd (omega (arith, lt));
}

pub returns-in_err-usage-clause-looked : goal.returns-in_err-usage-clause-looked
returns-in_err-usage-clause-looked g c =
    let p = err_from_is_err_and c.from_residual.result c.from_residual.ensures.1 in
    joined g.V.Volumes.view c.args.pool.now c.loop-from.pool c.next_usage.new.pool (tt {0}) c.from_residual.result c.loop-from.invariant.looked
    (handed_on g.V.Volumes.view c.loop-from.pool c.next_usage.new.pool c.in_err-usage.field-0.0 p.0 c.from_residual.result p.1 p.2 c.in_err-usage.ensures.looked)

pub returns-in_default-clause-looked : goal.returns-in_default-clause-looked
returns-in_default-clause-looked g c =
    joined g.V.Volumes.view c.args.pool.now c.loop-from.pool c.next_usage.new.pool (tt {0}) _ c.loop-from.invariant.looked
    (with_value g.V.Volumes.view c.loop-from.pool c.next_usage.new.pool c.in_ok-usage.field-0 _ c.in_ok-usage.ensures.looked)

pub returns-in_default-clause-survey : goal.returns-in_default-clause-survey
returns-in_default-clause-survey g c s shown =
    let n = c.in_ok-usage.ensures.next s (c.loop-from.invariant.looked.still s shown) in
    survey_all s c.loop-from.from (c.len.result + 2) c.loop-from.usages.items c.loop-from.owners c.next_usage.new.owners c.loop-from.invariant.most
    (subst (λ (o : Option Usage). IsNext s c.loop-from.from (c.len.result + 2) o c.loop-from.owners c.next_usage.new.owners) c.in_default.is n) (c.loop-from.invariant.survey s shown)

pub returns-in_default-clause-works : goal.returns-in_default-clause-works
returns-in_default-clause-works g c s shown = (c.in_ok-usage.ensures.next s (c.loop-from.invariant.looked.still s shown)).0

pub returns-in_err-push_usage-clause-looked : goal.returns-in_err-push_usage-clause-looked
returns-in_err-push_usage-clause-looked g c =
    let p = err_from_is_err_and c.from_residual-in_err-push_usage.result c.from_residual-in_err-push_usage.ensures.1 in
    no_memory g.V.Volumes.view c.args.pool.now c.next_usage.new.pool (tt {0}) c.in_err-push_usage.field-0.0 p.0 c.from_residual-in_err-push_usage.result p.1 p.2 c.in_err-push_usage.ensures.refused
    (joined g.V.Volumes.view c.args.pool.now c.loop-from.pool c.next_usage.new.pool (tt {0}) _ c.loop-from.invariant.looked
    (with_value g.V.Volumes.view c.loop-from.pool c.next_usage.new.pool c.in_ok-usage.field-0 (tt {0}) c.in_ok-usage.ensures.looked))

pub loop-from-preserved : goal.loop-from-preserved
loop-from-preserved g c =
    let is = c.in_ok-push_usage.ensures.pushed in
    let long = ap (λ (l : List Usage). length l) is ∙ length-append c.loop-from.usages.items (c.in-Some.usage ∷ []) in
    record {
      looked =
          joined g.V.Volumes.view c.args.pool.now c.loop-from.pool c.next_usage.new.pool (tt {0}) _ c.loop-from.invariant.looked
          (with_value g.V.Volumes.view c.loop-from.pool c.next_usage.new.pool c.in_ok-usage.field-0 (tt {0}) c.in_ok-usage.ensures.looked);
      most = c.next_of-from.ensures.most;
      few = omega (arith, long, c.loop-from.invariant.few, c.next_of-from.ensures.further);
      blank = subst (λ (l : List Usage). (j : ℕ) → j < length l → (usage_at l j).exclusive ≡ 0) (sym is) (blank_each c.loop-from.usages.items c.in-Some.usage c.loop-from.invariant.blank (blank_of c.in_ok-usage.field-0 c.in-Some.usage c.in-Some.is c.in_ok-usage.ensures.blank));
      survey = λ s shown.
          let n = c.in_ok-usage.ensures.next s (c.loop-from.invariant.looked.still s shown) in
          survey_more s c.loop-from.from c.next_of-from.result (c.len.result + 2) c.loop-from.usages.items c.push_usage.new.usages.items c.in-Some.usage c.loop-from.owners c.next_usage.new.owners
          (omega (arith, c.len.ensures, c.loop-from.usages.ok.0)) c.next_of-from.ensures.next is
          (subst (λ (o : Option Usage). IsNext s c.loop-from.from (c.len.result + 2) o c.loop-from.owners c.next_usage.new.owners) c.in-Some.is n) (c.loop-from.invariant.survey s shown);
      works = λ s shown lt. (c.in_ok-usage.ensures.next s (c.loop-from.invariant.looked.still s shown)).0;
    }

pub returns-clause-survey : goal.returns-clause-survey
returns-clause-survey g c s shown =
    survey_over s c.loop-from.from c.loop-from.usages.items c.loop-from.owners c.loop-from.invariant.most (omega (arith, c.loop-from-test.false)) (c.loop-from.invariant.survey s shown)

pub returns-clause-works : goal.returns-clause-works
returns-clause-works g c s shown = c.loop-from.invariant.works s shown (omega (arith, c.loop-from-test.false))

pub returns-in_err-usage-clause-refused : goal.returns-in_err-usage-clause-refused
returns-in_err-usage-clause-refused g c =
    let p = err_from_is_err_and c.from_residual.result c.from_residual.ensures.1 in
    refusal_on g.V.Volumes.view c.args.pool.now (λ (s : PlainPool) (x : Refusal). IsRefusalOfAll s x) c.in_err-usage.field-0.0 p.0 c.from_residual.result p.1 p.2
    (λ s shown. c.in_err-usage.ensures.refused s (c.loop-from.invariant.looked.still s shown))

pub returns-in_err-push_usage-clause-refused : goal.returns-in_err-push_usage-clause-refused
returns-in_err-push_usage-clause-refused g c =
    let p = err_from_is_err_and c.from_residual-in_err-push_usage.result c.from_residual-in_err-push_usage.ensures.1 in
    refusal_on g.V.Volumes.view c.args.pool.now (λ (s : PlainPool) (x : Refusal). IsRefusalOfAll s x) c.in_err-push_usage.field-0.0 p.0 c.from_residual-in_err-push_usage.result p.1 p.2 (λ s shown. inl c.in_err-push_usage.ensures.refused)
