use Rattle.std.proofs.Common.{◌-◌, ◌≤◌}
use Rattle.tp_model.specs.Slots.{listed}
use Rattle.tp_listings.specs.Pages.{AreOrdered}
use Rattle.tp_listings.specs.Paging.{AreAlike}
use Rattle.tp_listings.proofs.pages.next_differing.Given as goal

-- in the blocks before this one they do not differ
abbrev pub invariant-loop-at : goal.invariant-loop-at
invariant-loop-at l = record {
  low : l.fn.from ≤ l.at;
  alike : AreOrdered (listed l.old) → AreOrdered (listed l.new) → AreAlike (listed l.old) (listed l.new) l.fn.from l.at;
}

abbrev pub decreases-loop-at : goal.decreases-loop-at
decreases-loop-at l = l.limit - l.at
