use Rattle.tp_images.proofs.Shelved.{change_at}
use Rattle.tp_images.proofs.shelf.stop_disk.Goals as goal

pub returns-in-Some : goal.returns-in-Some
returns-in-Some c = change_at c.args.name.now c.deref.result.now c.args.shelf.now.items c.in-Some.i c.index_mut.result.now c.stop.new.self c.deref.ensures.value c.in-Some.ensures.place c.index_mut.ensures.value c.stop.ensures.name c.stop.ensures.stands
