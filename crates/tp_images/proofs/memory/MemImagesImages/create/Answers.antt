use Rattle.std.proofs.Common.{List, subst}
use Rattle.tp_disk.specs.Memory.{mem_state}
use Rattle.tp_images.specs.Deeds.{Answers, Deed}
use Rattle.tp_images.specs.declared.way.Way.TheVariants.{ToMake}
use Rattle.tp_images.proofs.Kept.{answers_to_make, kept_made, shelved_answered}
use Rattle.tp_images.proofs.memory.MemImagesImages.create.Goals as goal

pub invariant_of-self : goal.invariant_of-self
invariant_of-self c =
    let was = c.self.invariant in
    shelved_answered ToMake c.args.name.now c.make_new-answer.result c.self.inside.log.deeds c.opened-self-inside.result.deeds c.self.inside.shelf.items c.make_new-answer.new.shelf.items c.opened-self-inside.ensures was
    (kept_made c.args.name.now c.as_bytes-2.result.now c.self.inside.log.deeds c.opened-self-inside.result.deeds c.self.inside.shelf.items c.make_new-answer.new.shelf.items c.args.sectors c.make_new-answer.result was.kept
    c.as_bytes-2.ensures.value c.opened-self-inside.ensures c.make_new-answer.ensures)

pub returns-clause-told : goal.returns-clause-told
returns-clause-told c = subst (λ (old : List Deed). Answers ToMake c.args.name.now old c.opened-self-inside.result.deeds mem_state c.make_new-answer.result) c.self.view_is (answers_to_make c.args.name.now c.as_bytes-2.result.now c.self.inside.log.deeds c.opened-self-inside.result.deeds c.self.inside.shelf.items c.make_new-answer.new.shelf.items c.args.sectors c.make_new-answer.result
    c.opened-self-inside.ensures c.make_new-answer.ensures)
