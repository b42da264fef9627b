use Rattle.tp_images.proofs.Shelved.{absent_in, puts_at}
use Rattle.tp_images.proofs.shelf.put_disk.Goals as goal

pub returns-in-Some-clause-there : goal.returns-in-Some-clause-there
returns-in-Some-clause-there c = puts_at c.args.name.now c.deref.result.now c.args.shelf.now.items c.in-Some.i c.index_mut.result.now c.put.new.self c.args.disk c.deref.ensures.value c.in-Some.ensures.place c.index_mut.ensures.value c.put.ensures.name c.put.ensures.put

pub add-requires : goal.add-requires
add-requires c = absent_in c.args.name.now c.deref.result.now c.args.shelf.now.items c.deref.ensures.value c.in-None.ensures.absent
