use Rattle.tp_disk.specs.Memory.{mem_state}
use Rattle.tp_images.proofs.Kept.{kept_given_back, shelved_closed}
use Rattle.tp_images.proofs.memory.MemImagesImages.close.Goals as goal

pub invariant_of-self : goal.invariant_of-self
invariant_of-self c =
    let was = c.self.invariant in
    shelved_closed c.args.name.now (mem_state c.args.disk) c.self.inside.log.deeds c.closed-self-inside.result.deeds c.self.inside.shelf.items c.put_disk.new.shelf.items c.closed-self-inside.ensures was
    (kept_given_back c.args.name.now c.as_bytes.result.now c.as_bytes-2.result.now c.self.inside.log.deeds c.closed-self-inside.result.deeds c.self.inside.shelf.items c.take_disk.new.shelf.items c.put_disk.new.shelf.items c.args.disk
    c.put_disk.result was.kept c.as_bytes.ensures.value c.as_bytes-2.ensures.value c.closed-self-inside.ensures c.take_disk.ensures.left c.put_disk.ensures.there c.put_disk.ensures.full)
