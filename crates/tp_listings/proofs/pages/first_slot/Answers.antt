use Rattle.std.proofs.Common.{sym, ◌∙◌}
use Rattle.tp_listings.proofs.Paging.{first_in, later_of}
use Rattle.tp_listings.proofs.pages.first_slot.Goals as goal

pub returns-clause-first : goal.returns-clause-first
returns-clause-first c ordered = first_in c.args.slots.now c.args.from c.skip.result c.skip.ensures.below c.slot_of.result c.slot_of.ensures c.skip.ensures.later ordered

pub returns-clause-later : goal.returns-clause-later
returns-clause-later c = later_of c.args.from c.slot_of.result (λ x e. c.skip.ensures.later x (sym c.slot_of.ensures ∙ e))
