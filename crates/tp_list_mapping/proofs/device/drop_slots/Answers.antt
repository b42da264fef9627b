use Rattle.std.proofs.Common.{◌∙◌, ap, arith, refl}
use Rattle.tp_sharing.specs.Volumes.{without_slot}
use Rattle.tp_list_mapping.specs.List.{volumes}
use Rattle.tp_list_mapping.proofs.WithoutRuns.{run_next}
use Rattle.tp_list_mapping.proofs.device.drop_slots.Goals as goal

pub loop-i-init : goal.loop-i-init
loop-i-init c = record { value = refl; room = record { sized = refl; room = λ n r. r }; capacity = refl }

pub loop-i-preserved : goal.loop-i-preserved
loop-i-preserved c = record {
  value =
      c.drop_slot.ensures.value
      ∙ (ap (without_slot c.args.id c.new.result) c.loop-i.invariant.value
      ∙ run_next c.args.id c.args.first c.loop-i.i c.new.result (volumes c.args.devices.now.items) (omega (arith, c.new.ensures)));
  room = record {
    sized = c.drop_slot.ensures.room.sized ∙ c.loop-i.invariant.room.sized;
    room = λ n r. c.drop_slot.ensures.room.room n (c.loop-i.invariant.room.room n r);
  };
  capacity = c.drop_slot.ensures.capacity ∙ c.loop-i.invariant.capacity;
}
