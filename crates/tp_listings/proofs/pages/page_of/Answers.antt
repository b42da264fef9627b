use Rattle.std.proofs.Common.{List, ap, arith, inl, inr, length, refl, subst, sym}
use Rattle.tp_model.specs.Slots.{listed}
use Rattle.tp_listings.specs.declared.extent.Extent.{Extent}
use Rattle.tp_listings.specs.Listings.{AreRunsOf}
use Rattle.tp_listings.specs.Paging.{IsTold}
use Rattle.tp_listings.proofs.Paging.{page_ends, page_full, page_over, told_more, told_none}
use Rattle.tp_listings.proofs.pages.page_of.Goals as goal

pub loop-at-init : goal.loop-at-init
loop-at-init c =
    let same = c.number-at.ensures.value in
    let none = ap (λ (l : List Extent). length l) c.new-runs.ensures in
    record {
      low = omega (arith, same);
      high = inr same;
      few = omega (arith, none);
      runs = λ one other.
          subst (λ n. AreRunsOf c.new-runs.result.items (IsTold (listed c.args.old.now) (listed c.args.new.now) c.args.from n)) (sym same)
          (subst (λ (l : List Extent). AreRunsOf l (IsTold (listed c.args.old.now) (listed c.args.new.now) c.args.from c.args.from)) (sym c.new-runs.ensures) (told_none _ _ c.args.from));
    }

pub loop-at-preserved : goal.loop-at-preserved
loop-at-preserved c =
    let was = c.loop-at.invariant in
    let found = c.in-Some.ensures.found in
    let low = found.0 in
    let lt = found.1 in
    record {
      low = omega (arith, was.low, low);
      high = inl (omega (arith, lt));
      few = c.add_block.ensures.few;
      runs = λ one other.
          let first = c.in-Some.ensures.first one other in
          told_more _ _ c.args.from c.loop-at.at c.in-Some.block c.loop-at.runs.items c.add_block.new.runs.items was.low low first.0 first.1 (c.if-not-add_block.ensures.pushed refl) (was.runs one other);
    }

pub returns-in_default-clause-page : goal.returns-in_default-clause-page
returns-in_default-clause-page c one other =
    let was = c.loop-at.invariant in
    page_ends _ _ c.args.from c.loop-at.at c.args.most c.limit_of-limit.result c.limit_of-limit.ensures.value c.loop-at.runs.items was.few (omega (arith, c.loop-at-test.true))
    (c.in_default.ensures.none refl one other) (was.runs one other)

pub returns-in_default-clause-few : goal.returns-in_default-clause-few
returns-in_default-clause-few c = c.loop-at.invariant.few

pub returns-then-not-add_block-clause-page : goal.returns-then-not-add_block-clause-page
returns-then-not-add_block-clause-page c one other =
    let was = c.loop-at.invariant in
    let found = c.in-Some.ensures.found in
    let first = c.in-Some.ensures.first one other in
    page_full _ _ c.args.from c.loop-at.at c.args.most c.limit_of-limit.result c.limit_of-limit.ensures.value c.in-Some.block c.loop-at.runs.items c.add_block.new.runs.items was.low found.0 found.1 first.0 first.1
    (c.if-not-add_block.ensures.full refl) (was.runs one other)

pub returns-clause-page : goal.returns-clause-page
returns-clause-page c one other =
    let was = c.loop-at.invariant in
    page_over _ _ c.args.from c.loop-at.at c.args.most c.limit_of-limit.result c.limit_of-limit.ensures.value c.loop-at.runs.items was.few (omega (arith, c.loop-at-test.false)) was.high (was.runs one other)

pub returns-clause-few : goal.returns-clause-few
returns-clause-few c = c.loop-at.invariant.few
