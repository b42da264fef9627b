use Rattle.std.proofs.Common.{◌≡◌, ◌⊎◌, ◌-◌, ◌≤◌, length}
use Rattle.tp_model.specs.Slots.{listed}
use Rattle.tp_listings.specs.Listings.{AreRunsOf}
use Rattle.tp_listings.specs.Pages.{AreOrdered}
use Rattle.tp_listings.specs.Paging.{IsTold}
use Rattle.tp_listings.proofs.pages.page_of.Given as goal

-- the blocks before this one in which they differ are told
abbrev pub invariant-loop-at : goal.invariant-loop-at
invariant-loop-at l = record {
  low : l.fn.from ≤ l.at;
  high : (l.at ≤ l.limit) ⊎ (l.at ≡ l.fn.from);
  few : length l.runs.items ≤ 7;
  runs : AreOrdered (listed l.old) → AreOrdered (listed l.new) → AreRunsOf l.runs.items (IsTold (listed l.old) (listed l.new) l.fn.from l.at);
}

abbrev pub decreases-loop-at : goal.decreases-loop-at
decreases-loop-at l = l.limit - l.at
