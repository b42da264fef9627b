use Rattle.std.proofs.Common.{◌≡◌, ◌+◌, inl, inr, None, Some, ap, arith, sym, ◌∙◌}
use Rattle.std.specs.Prelude.{slice_index_or}
use Rattle.std.proofs.lemmas.Bool.{cases_eq}
use Rattle.std.proofs.lemmas.List.{get_or_default}
use Rattle.tp_pool.specs.Reading.{place_for}
use Rattle.tp_pool.proofs.together.run_of.Goals as goal

pub loop-run-init : goal.loop-run-init
loop-run-init c = record {
  some = omega arith;
  most = omega (arith, c.requires.inside);
  run_is = λ i lt.
      let a : c.args.index + i ≡ c.args.index = omega (arith, lt) in
      let b : c.args.place ≡ c.args.place + i = omega (arith, lt) in
      ap (λ k. place_for c.args.purpose (slice_index_or c.args.homes.now k None)) a ∙ (c.requires.own ∙ ap Some b);
}

pub loop-run-preserved : goal.loop-run-preserved
loop-run-preserved c =
    let inv = c.loop-run.invariant in
    let homes = c.args.homes.now in
    let run = c.loop-run.run in
    let at = c.args.index + run in
    let home = c.index-homes-at.result in
    let is : home ≡ slice_index_or homes at None = c.index-homes-at.is ∙ get_or_default homes at home None (omega (arith, c.loop-run-test.true)) in
    let here = c.is_at.ensures.told c.if-not-is_at.false in
    let place : c.number.result + run ≡ c.args.place + run = omega (arith, c.number.ensures.value) in
    record {
      some = omega arith;
      most = omega (arith, c.loop-run-test.true);
      run_is = λ i lt. elim (cases_eq i run) [
        | inl e ↦
            let a : c.args.index + i ≡ at = omega (arith, e) in
            let b : c.number.result + run ≡ c.args.place + i = omega (arith, place, e) in
            ap (λ k. place_for c.args.purpose (slice_index_or homes k None)) a ∙ (ap (place_for c.args.purpose) (sym is) ∙ (here ∙ ap Some b))
        | inr n ↦ inv.run_is i (omega (arith, lt, n))
      ];
    }
