use Rattle.tp_listings.specs.Listings.{AreRunsOf}
use Rattle.tp_listings.proofs.Freeing.{IsBlank}
use Rattle.tp_listings.proofs.unowned.blank_runs.Given as goal

-- those so far are listed
abbrev pub invariant-loop-place : goal.invariant-loop-place
invariant-loop-place l = AreRunsOf l.extents.items (IsBlank l.owners l.place)
