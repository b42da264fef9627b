use Rattle.std.proofs.Common.{◌∙◌, None}
use Rattle.tp_images.proofs.Shelved.{absent_found, absent_puts, found_at, puts_at}
use Rattle.tp_images.proofs.shelf.take_disk.Goals as goal

pub returns-in-Some-clause-taken : goal.returns-in-Some-clause-taken
returns-in-Some-clause-taken c = c.take.ensures.taken ∙ found_at c.args.name.now c.deref.result.now c.args.shelf.now.items c.in-Some.i c.index_mut.result.now c.deref.ensures.value c.in-Some.ensures.place c.index_mut.ensures.value

pub returns-in-Some-clause-left : goal.returns-in-Some-clause-left
returns-in-Some-clause-left c = puts_at c.args.name.now c.deref.result.now c.args.shelf.now.items c.in-Some.i c.index_mut.result.now c.take.new.self None c.deref.ensures.value c.in-Some.ensures.place c.index_mut.ensures.value c.take.ensures.name c.take.ensures.left

pub returns-in-None-clause-taken : goal.returns-in-None-clause-taken
returns-in-None-clause-taken c = absent_found c.args.name.now c.deref.result.now c.args.shelf.now.items c.deref.ensures.value c.in-None.ensures.absent

pub returns-in-None-clause-left : goal.returns-in-None-clause-left
returns-in-None-clause-left c = absent_puts c.args.name.now c.deref.result.now c.args.shelf.now.items c.deref.ensures.value c.in-None.ensures.absent
