use Rattle.std.proofs.Common.{sym, ◌∙◌}
use Rattle.tp_listings.proofs.Paging.{reach_none, reach_some}
use Rattle.tp_listings.proofs.pages.reach_of.Goals as goal

pub returns-in-Some-clause-value : goal.returns-in-Some-clause-value
returns-in-Some-clause-value c = reach_some c.args.slots.now c.in-Some.slot c.number.result (sym c.in-Some.ensures) (c.number.ensures.value ∙ c.block.ensures.value)

pub returns-in-None-clause-value : goal.returns-in-None-clause-value
returns-in-None-clause-value c = reach_none c.args.slots.now (sym c.in-None.ensures)
