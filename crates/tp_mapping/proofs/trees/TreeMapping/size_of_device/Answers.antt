use Rattle.std.proofs.Common.{rules, ◌≡◌, ◌∙◌, Err, Some, ap, sym, subst}
use Rattle.std.specs.Option.{option_map}
use Rattle.tp_counts.specs.declared.error.StoreError.TheVariants.{Damaged}
use Rattle.tp_model.specs.Geometry.{Geometry}
use Rattle.tp_model.specs.Told.{told_blocks}
use Rattle.tp_mapping.specs.Telling.{IsThere}
use Rattle.tp_mapping.proofs.Telling.{none_sized, size_told_there}
use Rattle.tp_mapping.proofs.trees.TreeMapping.size_of_device.Goals as goal

pub returns-in_err-there-clause-sized : goal.returns-in_err-there-clause-sized
returns-in_err-there-clause-sized g c = record {
  told = search rules;
  damaged = λ e honest now kept s.
      let f : c.volume_of.result ≡ Err Damaged = search (rules, e) in c.volume_of.ensures.looked.damaged f honest now kept s;
  state = search rules;
}

pub returns-in-Some-clause-sized : goal.returns-in-Some-clause-sized
returns-in-Some-clause-sized g c = record {
  told = λ honest now kept s.
      let m = c.args.self.now in
      let d = g.D.Disk.state c.volume_of.new.disk in
      ap Some (c.told_blocks.ensures ∙ ap (λ (z : Geometry). told_blocks z c.in-Some.there.volume.size) c.geometry-geometry.ensures.value)
      ∙ sym (ap (option_map (told_blocks m.tm.geometry))
      (size_told_there m d now c.args.device c.in-Some.there (subst (IsThere m d now c.args.device) c.in-Some.is (c.in_ok-there.ensures.looked.told honest now kept s))));
  damaged = search rules;
  state = search rules;
}

pub returns-in-None-clause-sized : goal.returns-in-None-clause-sized
returns-in-None-clause-sized g c = record {
  told = λ honest now kept s.
      sym (ap (option_map (told_blocks c.args.self.now.tm.geometry))
      (none_sized c.args.device now (subst (IsThere c.args.self.now (g.D.Disk.state c.volume_of.new.disk) now c.args.device) c.in-None.is (c.in_ok-there.ensures.looked.told honest now kept s))));
  damaged = search rules;
  state = search rules;
}
