use Rattle.std.proofs.Common.{rules, ◌≡◌, ◌+◌, ◌∙◌, Err, ap, arith, subst, sym}
use Rattle.std.specs.Prelude.{IsTrue, is_some}
use Rattle.std.specs.Option.{option_map}
use Rattle.tp_counts.specs.declared.error.StoreError.TheVariants.{Damaged}
use Rattle.tp_model.specs.Disk.{DiskState}
use Rattle.tp_sharing.specs.Volumes.{place_or_none}
use Rattle.tp_mapping.specs.declared.mapped.Mapped.{Mapped}
use Rattle.tp_mapping.specs.Telling.{IsCopied}
use Rattle.tp_mapping.proofs.trees.TreeMapping.find_copied.Goals as goal

pub returns-in_err-there-clause-looked : goal.returns-in_err-there-clause-looked
returns-in_err-there-clause-looked g c = record {
  told = search rules;
  damaged = λ e honest now kept s.
      let f : c.copy_of.result ≡ Err Damaged = search (rules, e) in c.copy_of.ensures.looked.damaged f honest now kept s;
  state = search rules;
}

pub returns-in_err-places_at-in-Some-clause-looked : goal.returns-in_err-places_at-in-Some-clause-looked
returns-in_err-places_at-in-Some-clause-looked g c = record {
  told = search rules;
  damaged = λ e honest now kept s.
      let f : c.places_at.result ≡ Err Damaged = search (rules, e) in
      let there = subst (IsCopied c.args.self.now (g.D.Disk.state c.copy_of.new.disk) now c.args.device) c.in-Some.is (c.in_ok-there.ensures.looked.told honest now kept s) in
      c.places_at.ensures.named.damaged f (subst (λ (z : DiskState). IsTrue z.is_honest) (sym c.in_ok-there.ensures.looked.state) honest) there.refs there.store there.volume
      (omega (arith, c.requires.run, c.requires.same));
  state = search rules;
}

pub returns-in_ok-places_at-in-Some-clause-looked : goal.returns-in_ok-places_at-in-Some-clause-looked
returns-in_ok-places_at-in-Some-clause-looked g c = record {
  told = λ honest now kept s.
      let there = subst (IsCopied c.args.self.now (g.D.Disk.state c.copy_of.new.disk) now c.args.device) c.in-Some.is (c.in_ok-there.ensures.looked.told honest now kept s) in (
        sym there.there,
        λ i lt. c.put_places.ensures.value i lt
            ∙ (c.in_ok-places_at-in-Some.ensures.named.told (subst (λ (z : DiskState). IsTrue z.is_honest) (sym c.in_ok-there.ensures.looked.state) honest) there.refs there.store there.volume
            (omega (arith, c.requires.run, c.requires.same)) i (omega (arith, lt, c.requires.same)) ∙ sym (there.slots (c.args.first + i))),
      );
  damaged = search rules;
  state = search rules;
}

pub returns-in-None-clause-looked : goal.returns-in-None-clause-looked
returns-in-None-clause-looked g c = record {
  told = λ honest now kept s.
      let none = subst (IsCopied c.args.self.now (g.D.Disk.state c.copy_of.new.disk) now c.args.device) c.in-None.is (c.in_ok-there.ensures.looked.told honest now kept s) in (
        sym (ap is_some none),
        λ i lt. c.put_places-in-None.ensures.value i lt
            ∙ (ap (option_map (λ (at : Mapped). at.place)) (c.clear.ensures.none i (omega (arith, lt, c.requires.same))) ∙ sym (ap (place_or_none (c.args.first + i)) none)),
      );
  damaged = search rules;
  state = search rules;
}
