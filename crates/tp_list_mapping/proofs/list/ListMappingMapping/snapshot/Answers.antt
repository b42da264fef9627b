use Rattle.std.proofs.Common.{rules, ◌∙◌, ap, arith, sym, ◌+◌}
use Rattle.tp_sharing.specs.Volumes.{device_of, with_device}
use Rattle.tp_list_mapping.specs.List.{volumes}
use Rattle.tp_list_mapping.proofs.Changing.{on_ok_three, popped}
use Rattle.tp_list_mapping.proofs.Stands.{copied, copied_size, copy_fits, device_added, own_ascend, own_below, own_within}
use Rattle.tp_list_mapping.proofs.list.ListMappingMapping.snapshot.Goals as goal

pub returns-in_err-copy_of : goal.returns-in_err-copy_of
returns-in_err-copy_of g c = record {
  made = search rules;
  damaged = λ e honest now kept s none few some.
      let m = c.args.self.now in
      let had = popped (m.most_blocks + 1) c.in-Some.spare m.spare.items c.pop.new.self.items c.in-Some.ensures.items s.spare_roomy in
      copy_fits m now kept s c.deref.result.now c.deref.ensures.value c.args.origin some _ had.0 c.in_err-copy_of.ensures.err.1;
  ran = search rules;
  used = search rules;
  same_kept = search rules;
  same_held = search rules;
}

pub returns : goal.returns
returns g c = record {
  made =
      let m = c.args.self.now in
      on_ok_three c.add.result
      (λ v z r honest now kept s none few some. (
        λ slots size is told.
            let had = popped (m.most_blocks + 1) c.in-Some.spare m.spare.items c.pop.new.self.items c.in-Some.ensures.items s.spare_roomy in
            let id = c.in_ok-copy_of.ensures.id in
            let size_is = copied_size m now kept s c.deref.result.now c.deref.ensures.value c.args.origin size c.copy_of.new.device.size told c.in_ok-copy_of.ensures.size in
            let same = copied m now kept s c.deref.result.now c.deref.ensures.value c.args.origin slots c.copy_of.new.device.slots.items is c.in_ok-copy_of.ensures.value in
            device_added m now kept s (record { geometry = m.geometry; most_blocks = m.most_blocks; devices = c.add.new.devices; spare = c.pop.new.self; kept = m.kept }) (record { id = c.args.device; size = size; slots = slots }) (s.within.volumes_now.sized.told c.args.origin size told) (s.bounded c.args.origin size told) (own_below m.geometry now s.within.volumes_now c.args.origin slots is size told)
            (omega (arith, c.number.ensures.below)) few (own_ascend m.geometry now s.within.volumes_now c.args.origin slots is) (own_within m.geometry now s.within.volumes_now c.args.origin slots is)
            (v (ap (λ q. device_of q (volumes m.devices.items)) id ∙ (ap (device_of c.args.device) (sym s.listed) ∙ none)) ∙ (λ i. with_device (record { id = id i; size = size_is i; slots = same i }) (volumes m.devices.items)))
            (r (m.most_blocks + 1) s.roomy (omega (arith, had.0, c.copy_of.ensures.capacity))) had.1
            (omega (arith, z, c.in-Some.ensures.len)) c.add.ensures.capacity c.pop.ensures.capacity,
        omega arith,
      ))
      c.add.ensures.value c.add.ensures.sized c.add.ensures.room;
  damaged = search rules;
  ran = search rules;
  used = search rules;
  same_kept = search rules;
  same_held = search rules;
}
