use Rattle.std.proofs.Common.{rules, ◌≡◌, ◌∙◌, ◌++◌, List, Err, IsTrue, Option, ap, sym, subst, arith, take}
use Rattle.std.proofs.lemmas.Result.{on_ok_weaker}
use Rattle.tp_counts.specs.declared.error.StoreError.TheVariants.{Damaged}
use Rattle.tp_model.specs.Disk.{DiskState}
use Rattle.tp_sharing.specs.Volumes.{BlockSlot}
use Rattle.tp_mapping.specs.Mapping.{from_block, slots_or_none}
use Rattle.tp_mapping.specs.Telling.{IsThere}
use Rattle.tp_mapping.proofs.Filling.{nothing_added}
use Rattle.tp_mapping.proofs.trees.TreeMapping.walk_slots.Goals as goal

pub returns-in_err-there-clause-looked : goal.returns-in_err-there-clause-looked
returns-in_err-there-clause-looked g c = record {
  told = search rules;
  damaged = λ e honest now kept s.
      let f : c.volume_of.result ≡ Err Damaged = search (rules, e) in c.volume_of.ensures.looked.damaged f honest now kept s;
  state = search rules;
}

pub returns-in-Some-clause-looked : goal.returns-in-Some-clause-looked
returns-in-Some-clause-looked g c = record {
  told = on_ok_weaker c.walk_from.result
      (λ f honest now kept s.
      let m = c.args.self.now in
      f (subst (λ (z : DiskState). IsTrue z.is_honest) (sym c.in_ok-there.ensures.looked.state) honest) m.tm.geometry m.root now c.args.device
      (subst (IsThere m (g.D.Disk.state c.volume_of.new.disk) now c.args.device) c.in-Some.is (c.in_ok-there.ensures.looked.told honest now kept s)).volume) c.walk_from.ensures.looked.told;
  damaged = λ e honest now kept s.
      let m = c.args.self.now in
      c.walk_from.ensures.looked.damaged e (subst (λ (z : DiskState). IsTrue z.is_honest) (sym c.in_ok-there.ensures.looked.state) honest) m.tm.geometry m.root now c.args.device
      (subst (IsThere m (g.D.Disk.state c.volume_of.new.disk) now c.args.device) c.in-Some.is (c.in_ok-there.ensures.looked.told honest now kept s)).volume;
  state = search rules;
}

pub returns-in-None-clause-looked : goal.returns-in-None-clause-looked
returns-in-None-clause-looked g c = record {
  told = λ honest now kept s.
      let old = c.args.slots.now.items in
      let none = subst (IsThere c.args.self.now (g.D.Disk.state c.volume_of.new.disk) now c.args.device) c.in-None.is (c.in_ok-there.ensures.looked.told honest now kept s) in
      nothing_added 252 old (omega (arith, c.len.ensures.fits, c.len.ensures.value)) ∙ ap (λ (o : Option (List BlockSlot)). take 252 (old ++ from_block c.args.from (slots_or_none o))) (sym none);
  damaged = search rules;
  state = search rules;
}
