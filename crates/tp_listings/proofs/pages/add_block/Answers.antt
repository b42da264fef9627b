use Rattle.std.proofs.Common.{List, ap, arith, length, refl}
use Rattle.tp_listings.specs.declared.extent.Extent.{Extent}
use Rattle.tp_listings.proofs.Paging.{alone_pushed, full_left}
use Rattle.tp_listings.proofs.Runs.{longer_left, more_left}
use Rattle.tp_listings.proofs.pages.add_block.Goals as goal

pub push_run-requires : goal.push_run-requires
push_run-requires c = let empty = ap (λ (l : List Extent). length l) (c.in_default.ensures.none refl).1 in omega (arith, empty)

pub returns-in_default-clause-pushed : goal.returns-in_default-clause-pushed
returns-in_default-clause-pushed c done =
    alone_pushed c.args.block c.args.runs.now.items c.take_last.new.runs.items c.push_run.new.runs.items _ (c.in_default.ensures.none refl) refl refl c.push_run.ensures.pushed

pub returns-in_default-clause-few : goal.returns-in_default-clause-few
returns-in_default-clause-few c = let empty = ap (λ (l : List Extent). length l) (c.in_default.ensures.none refl).1 in omega (arith, empty, c.push_run.ensures.len)

pub returns-then-goes_on-clause-pushed : goal.returns-then-goes_on-clause-pushed
returns-then-goes_on-clause-pushed c done =
    longer_left c.args.block c.args.runs.now.items c.take_last.new.runs.items c.push_run-then-goes_on.new.runs.items c.in-Some.last _ c.goes_on.result c.goes_on.ensures c.if-goes_on.true refl refl
    c.in-Some.ensures.some c.push_run-then-goes_on.ensures.pushed

pub returns-then-is_full-clause-full : goal.returns-then-is_full-clause-full
returns-then-is_full-clause-full c full =
    full_left c.args.block c.args.runs.now.items c.take_last.new.runs.items c.push_run-2.new.runs.items c.in-Some.last c.goes_on.result c.goes_on.ensures c.if-goes_on.false c.in-Some.ensures.some
    c.push_run-2.ensures.pushed (c.is_full.ensures.full c.if-is_full.true) c.requires.few

pub returns-clause-pushed : goal.returns-clause-pushed
returns-clause-pushed c done =
    more_left c.args.block c.args.runs.now.items c.take_last.new.runs.items c.push_run-2.new.runs.items c.push_run-3.new.runs.items c.in-Some.last _ c.goes_on.result c.goes_on.ensures c.if-goes_on.false
    refl refl c.in-Some.ensures.some c.push_run-2.ensures.pushed c.push_run-3.ensures.pushed
