use Rattle.tp_images.proofs.Shelved.{shelved_new}
use Rattle.tp_images.proofs.memory.MemImages.new.Goals as goal

pub invariant_of-result : goal.invariant_of-result
invariant_of-result c = shelved_new c.no_deeds.result.deeds c.new.result.items c.no_deeds.ensures c.new.ensures.items
