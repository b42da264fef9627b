use Rattle.std.proofs.Common.{rules, ◌≡◌, ◌+◌, Err, None, Option, Some, ap, length, refl, subst, sym, true, ℕ, List}
use Rattle.std.specs.Prelude.{IsTrue, is_some}
use Rattle.std.specs.Option.{option_map}
use Rattle.tp_counts.specs.declared.error.StoreError.TheVariants.{Damaged}
use Rattle.tp_model.specs.Disk.{DiskState}
use Rattle.tp_sharing.specs.Volumes.{BlockSlot, device_of, place_or_none}
use Rattle.tp_mapping.specs.Mapping.{IsTold}
use Rattle.tp_mapping.specs.Telling.{IsThere}
use Rattle.tp_mapping.proofs.Telling.{mapped_told}
use Rattle.tp_mapping.proofs.tree_mapping.TreeMappingMapping.look_up_run.Goals as goal

some_measured : (o : Option (List BlockSlot)) (n : ℕ) → Some n ≡ option_map length o → true ≡ is_some o
some_measured None n h = search (rules, h)
some_measured (Some slots) n h = refl

pub returns-in_err-there-clause-looked : goal.returns-in_err-there-clause-looked
returns-in_err-there-clause-looked g c = record {
  told = search rules;
  damaged = λ e honest now kept s.
      let f : c.volume_of.result ≡ Err Damaged = search (rules, e) in c.volume_of.ensures.looked.damaged f honest now kept s;
  state = search rules;
}

pub returns-in_err-places_at-in-Some-clause-looked : goal.returns-in_err-places_at-in-Some-clause-looked
returns-in_err-places_at-in-Some-clause-looked g c = record {
  told = search rules;
  damaged = λ e honest now kept s.
      let m = c.args.self.now in
      let f : c.places_at.result ≡ Err Damaged = search (rules, e) in
      c.places_at.ensures.looked.damaged f (subst (λ (z : DiskState). IsTrue z.is_honest) (sym c.in_ok-there.ensures.looked.state) honest) m.tm.geometry m.root now c.args.device
      (subst (IsThere m (g.D.Disk.state c.volume_of.new.disk) now c.args.device) c.in-Some.is (c.in_ok-there.ensures.looked.told honest now kept s)) c.requires.run;
  state = search rules;
}

pub returns-in_ok-places_at-in-Some-clause-looked : goal.returns-in_ok-places_at-in-Some-clause-looked
returns-in_ok-places_at-in-Some-clause-looked g c = record {
  told = λ honest now kept s.
      let m = c.args.self.now in
      let there = subst (IsThere m (g.D.Disk.state c.volume_of.new.disk) now c.args.device) c.in-Some.is (c.in_ok-there.ensures.looked.told honest now kept s) in (
        some_measured (device_of c.args.device now) c.in-Some.there.volume.mapped (mapped_told m (g.D.Disk.state c.volume_of.new.disk) now c.args.device c.in-Some.there there),
        c.in_ok-places_at-in-Some.ensures.looked.told (subst (λ (z : DiskState). IsTrue z.is_honest) (sym c.in_ok-there.ensures.looked.state) honest) m.tm.geometry m.root now c.args.device there c.requires.run,
      );
  damaged = search rules;
  state = search rules;
}

pub returns-in-None-clause-looked : goal.returns-in-None-clause-looked
returns-in-None-clause-looked g c = record {
  told = λ honest now kept s.
      let there = subst (IsThere c.args.self.now (g.D.Disk.state c.volume_of.new.disk) now c.args.device) c.in-None.is (c.in_ok-there.ensures.looked.told honest now kept s) in (
        sym (ap is_some there),
        λ i lt. subst (IsTold c.args.device (c.args.first + i) now) (sym (c.clear.ensures.none i lt)) (ap (place_or_none (c.args.first + i)) there),
      );
  damaged = search rules;
  state = search rules;
}
