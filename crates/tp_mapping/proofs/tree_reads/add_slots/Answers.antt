use Rattle.std.proofs.Common.{◌≡◌, ◌∙◌, ◌++◌, ◌∷◌, [], ap, get_or, sym, map, take}
use Rattle.tp_trees.specs.Tree.{blank}
use Rattle.tp_mapping.specs.Telling.{as_slot}
use Rattle.tp_mapping.proofs.Filling.{added_on, longer_refl, longer_trans, nothing_added}
use Rattle.tp_mapping.proofs.Walked.{next_slot}
use Rattle.tp_mapping.proofs.tree_reads.add_slots.Goals as goal

pub loop-i-init : goal.loop-i-init
loop-i-init c = record { value = nothing_added 252 c.args.slots.now.items c.requires; longer = longer_refl c.args.slots.now.items }

pub loop-i-preserved : goal.loop-i-preserved
loop-i-preserved c =
    let is : c.in_ok-slot.slot ≡ as_slot (get_or c.args.entries.now c.loop-i.i blank) = c.in_ok-slot.ensures.value in
    record {
      value =
          added_on 252 (map as_slot (take c.loop-i.i c.args.entries.now)) (c.in_ok-slot.slot ∷ []) c.args.slots.now.items c.loop-i.slots.items c.add_slot.new.slots.items c.loop-i.invariant.value
          c.add_slot.ensures.value
          ∙ ap (λ l. take 252 (c.args.slots.now.items ++ l)) (sym (next_slot c.loop-i.i c.args.entries.now c.in_ok-slot.slot c.loop-i-test.true is));
      longer = longer_trans c.args.slots.now.items c.loop-i.slots.items c.add_slot.new.slots.items c.loop-i.invariant.longer c.add_slot.ensures.longer;
    }
