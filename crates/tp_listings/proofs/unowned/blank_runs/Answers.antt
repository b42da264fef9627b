use Rattle.tp_listings.proofs.Freeing.{blank_first}
use Rattle.tp_listings.proofs.unowned.blank_runs.Goals as goal

pub loop-place-init : goal.loop-place-init
loop-place-init c = blank_first c.args.owners.now c.new-extents.result.items c.new-extents.ensures.items
