use Rattle.std.proofs.Common.{◌∙◌, inl, inr, None, ap, sym, arith}
use Rattle.std.specs.Prelude.{is_some, slice_index_or}
use Rattle.std.proofs.lemmas.Bool.{cases_eq}
use Rattle.std.proofs.lemmas.List.{get_or_default}
use Rattle.tp_mapping.proofs.WithoutRuns.{none_when}
use Rattle.tp_meta.proofs.losing.has_some.Goals as goal

pub returns-then-is_some-clause-some : goal.returns-then-is_some-clause-some
returns-then-is_some-clause-some c there =
    let x = c.index-places-i.result in
    let here = c.index-places-i.is ∙ get_or_default c.args.places.now c.loop-i.i x None c.loop-i-test.true in
    (c.loop-i.i, c.loop-i-test.true, sym (ap is_some here) ∙ (sym c.is_some.ensures ∙ c.if-is_some.true))

pub loop-i-preserved : goal.loop-i-preserved
loop-i-preserved c k lt =
    let x = c.index-places-i.result in
    let here = c.index-places-i.is ∙ get_or_default c.args.places.now c.loop-i.i x None c.loop-i-test.true in
    elim (cases_eq k c.loop-i.i) [
      | inl e ↦ ap (λ j. slice_index_or c.args.places.now j None) e ∙ (sym here ∙ none_when x (sym c.is_some.ensures ∙ c.if-is_some.false))
      | inr before ↦ c.loop-i.invariant k (omega (arith, lt, before))
    ]
