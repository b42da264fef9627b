use Rattle.std.proofs.Common.{rules, inl, refl, ◌∙◌, ap, arith, sym, ◌+◌, []}
use Rattle.tp_sharing.specs.Volumes.{device_of, with_device}
use Rattle.tp_list_mapping.specs.List.{volumes}
use Rattle.tp_list_mapping.proofs.Changing.{on_ok_three, popped}
use Rattle.tp_list_mapping.proofs.Stands.{device_added, empty_below, empty_within}
use Rattle.tp_list_mapping.proofs.list.ListMappingMapping.create.Goals as goal

pub returns-clause-changed : goal.returns-clause-changed
returns-clause-changed g c = record {
  made =
      let m = c.args.self.now in
      on_ok_three c.add.result
      (λ v z r honest now kept s none few.
      let had = popped (m.most_blocks + 1) c.in-Some.spare m.spare.items c.pop.new.self.items c.in-Some.ensures.items s.spare_roomy in
      device_added m now kept s (record { geometry = m.geometry; most_blocks = m.most_blocks; devices = c.add.new.devices; spare = c.pop.new.self; kept = m.kept }) (record { id = c.args.device; size = 0; slots = [] }) (inl refl) s.least (empty_below m.geometry 0)
      (omega (arith, c.number.ensures.below)) few tt (empty_within m.geometry)
      (v (ap (device_of c.args.device) (sym s.listed) ∙ none) ∙ ap (λ l. with_device (record { id = c.args.device; size = 0; slots = l }) (volumes m.devices.items)) c.clear.ensures.items)
      (r (m.most_blocks + 1) s.roomy (omega (arith, had.0, c.clear.ensures.capacity))) had.1
      (omega (arith, z, c.in-Some.ensures.len)) c.add.ensures.capacity c.pop.ensures.capacity)
      c.add.ensures.value c.add.ensures.sized c.add.ensures.room;
  damaged = search rules;
  ran = search rules;
  used = search rules;
  same_kept = search rules;
  same_held = search rules;
}
