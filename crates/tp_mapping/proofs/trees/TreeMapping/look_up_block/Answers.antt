use Rattle.std.proofs.Common.{rules, ◌≡◌, Err, IsTrue, ap, sym, subst}
use Rattle.std.proofs.lemmas.Result.{IfOk-weaker}
use Rattle.tp_counts.specs.declared.error.StoreError.TheVariants.{Damaged}
use Rattle.tp_model.specs.Disk.{DiskState}
use Rattle.tp_sharing.specs.Volumes.{place_or_none}
use Rattle.tp_mapping.specs.Telling.{IsThere}
use Rattle.tp_mapping.proofs.trees.TreeMapping.look_up_block.Goals as goal

pub returns-in_err-there-clause-looked : goal.returns-in_err-there-clause-looked
returns-in_err-there-clause-looked g c = record {
  told = search rules;
  damaged = λ e honest now kept s.
      let f : c.volume_of.result ≡ Err Damaged = search (rules, e) in c.volume_of.ensures.looked.damaged f honest now kept s;
  state = search rules;
}

pub returns-in-Some-clause-looked : goal.returns-in-Some-clause-looked
returns-in-Some-clause-looked g c = record {
  told = IfOk-weaker c.place_at.result _ _
      (λ answer f honest now kept s.
      let m = c.args.self.now in
      f (subst (λ (z : DiskState). IsTrue z.is_honest) (sym c.in_ok-there.ensures.looked.state) honest) m.tm.geometry m.root now c.args.device
      (subst (IsThere m (g.D.Disk.state c.volume_of.new.disk) now c.args.device) c.in-Some.is (c.in_ok-there.ensures.looked.told honest now kept s))) c.place_at.ensures.looked.told;
  damaged = λ e honest now kept s.
      let m = c.args.self.now in
      c.place_at.ensures.looked.damaged e (subst (λ (z : DiskState). IsTrue z.is_honest) (sym c.in_ok-there.ensures.looked.state) honest) m.tm.geometry m.root now c.args.device
      (subst (IsThere m (g.D.Disk.state c.volume_of.new.disk) now c.args.device) c.in-Some.is (c.in_ok-there.ensures.looked.told honest now kept s));
  state = search rules;
}

pub returns-in-None-clause-looked : goal.returns-in-None-clause-looked
returns-in-None-clause-looked g c = record {
  told = λ honest now kept s. ap (place_or_none c.args.block) (subst (IsThere c.args.self.now (g.D.Disk.state c.volume_of.new.disk) now c.args.device) c.in-None.is (c.in_ok-there.ensures.looked.told honest now kept s));
  damaged = search rules;
  state = search rules;
}
