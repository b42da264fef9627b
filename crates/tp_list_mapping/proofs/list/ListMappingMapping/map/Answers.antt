use Rattle.std.proofs.Common.{rules, ◌∙◌, ◌<◌, ap, arith}
use Rattle.tp_sharing.specs.Volumes.{with_slot}
use Rattle.tp_list_mapping.specs.List.{volumes}
use Rattle.tp_list_mapping.proofs.Stands.{least_free, none_free, not_full, slot_put, taken_by}
use Rattle.tp_list_mapping.proofs.list.ListMappingMapping.map.Goals as goal

pub returns-in_default-clause-changed : goal.returns-in_default-clause-changed
returns-in_default-clause-changed g c = record {
  made = λ honest now kept s some below.
      none_free c.args.self.now now kept s
      (λ p l. taken_by c.deref.result.now c.args.self.now.devices.items c.deref-2.result.now c.args.self.now.kept.items c.deref.ensures.value c.deref-2.ensures.value p
      ∙ c.in_default.ensures.free p (omega (arith, l, c.data_blocks.ensures.value)));
  damaged = search rules;
  ran = search rules;
  used = search rules;
  same_kept = search rules;
  same_held = search rules;
}

pub returns-in_err-put_slot-clause-changed : goal.returns-in_err-put_slot-clause-changed
returns-in_err-put_slot-clause-changed g c = record {
  made = search rules;
  damaged = λ e honest now kept s some below. not_full c.args.self.now now kept s c.args.device some c.in_err-put_slot.ensures.err.1;
  ran = search rules;
  used = search rules;
  same_kept = search rules;
  same_held = search rules;
}

pub returns-clause-changed : goal.returns-clause-changed
returns-clause-changed g c = record {
  made = λ honest now kept s some below.
      let m = c.args.self.now in
      let p = c.in-Some.place in
      let inside : p < m.geometry.data_blocks = omega (arith, c.in-Some.ensures.inside, c.data_blocks.ensures.value) in (
        least_free m now kept s p inside
            (taken_by c.deref.result.now m.devices.items c.deref-2.result.now m.kept.items c.deref.ensures.value c.deref-2.ensures.value p ∙ c.in-Some.ensures.free)
            (λ q l. taken_by c.deref.result.now m.devices.items c.deref-2.result.now m.kept.items c.deref.ensures.value c.deref-2.ensures.value q ∙ c.in-Some.ensures.least q l),
        slot_put m now kept s (record { geometry = m.geometry; most_blocks = m.most_blocks; devices = c.put_slot.new.devices; spare = m.spare; kept = m.kept }) c.args.device c.args.block p some (omega (arith, c.number.ensures.below)) below inside
            (c.in_ok-put_slot.ensures.value ∙ ap (λ x. with_slot c.args.device x (volumes m.devices.items)) c.new.ensures) c.in_ok-put_slot.ensures.room c.put_slot.ensures.capacity,
      );
  damaged = search rules;
  ran = search rules;
  used = search rules;
  same_kept = search rules;
  same_held = search rules;
}
