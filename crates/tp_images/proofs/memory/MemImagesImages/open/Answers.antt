use Rattle.std.proofs.Common.{List, subst}
use Rattle.tp_disk.specs.Memory.{mem_state}
use Rattle.tp_images.specs.Deeds.{Answers, Deed}
use Rattle.tp_images.specs.declared.way.Way.TheVariants.{ToWrite}
use Rattle.tp_images.proofs.Kept.{answers_to_write, kept_opened, shelved_answered}
use Rattle.tp_images.proofs.memory.MemImagesImages.open.Goals as goal

pub invariant_of-self : goal.invariant_of-self
invariant_of-self c =
    let was = c.self.invariant in
    shelved_answered ToWrite c.args.name.now c.hand_out-answer.result c.self.inside.log.deeds c.opened-self-inside.result.deeds c.self.inside.shelf.items c.hand_out-answer.new.shelf.items c.opened-self-inside.ensures was
    (kept_opened c.args.name.now c.self.inside.log.deeds c.opened-self-inside.result.deeds c.self.inside.shelf.items c.hand_out-answer.new.shelf.items c.hand_out-answer.result was.kept ToWrite c.as_bytes.result.now
    c.as_bytes.ensures.value c.opened-self-inside.ensures c.hand_out-answer.ensures)

pub returns : goal.returns
returns c =
    let was = c.self.invariant in
    subst (λ (old : List Deed). Answers ToWrite c.args.name.now old c.opened-self-inside.result.deeds mem_state c.hand_out-answer.result) c.self.view_is (answers_to_write c.args.name.now c.as_bytes.result.now c.self.inside.log.deeds c.opened-self-inside.result.deeds c.self.inside.shelf.items c.hand_out-answer.new.shelf.items c.hand_out-answer.result was.kept
    c.as_bytes.ensures.value c.opened-self-inside.ensures c.hand_out-answer.ensures)
