use Rattle.tp_meta.proofs.Areas.{all_areas, all_parts}
use Rattle.tp_meta.proofs.stale.StaleBlocks.all.Goals as goal

pub returns : goal.returns
returns c =
    all_areas (record { zero = c.all.result; one = c.all-2.result }) (all_parts c.all.result c.all.ensures.metadata c.all.ensures.others)
    (all_parts c.all-2.result c.all-2.ensures.metadata c.all-2.ensures.others)
