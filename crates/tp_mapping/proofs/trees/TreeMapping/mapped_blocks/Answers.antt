use Rattle.std.proofs.Common.{rules, ◌≡◌, Err, subst}
use Rattle.tp_counts.specs.declared.error.StoreError.TheVariants.{Damaged}
use Rattle.tp_mapping.specs.Telling.{IsThere}
use Rattle.tp_mapping.proofs.Telling.{mapped_told, none_mapped}
use Rattle.tp_mapping.proofs.trees.TreeMapping.mapped_blocks.Goals as goal

pub returns-in_err-there : goal.returns-in_err-there
returns-in_err-there g c = record {
  told = search rules;
  damaged = λ e honest now kept s.
      let f : c.volume_of.result ≡ Err Damaged = search (rules, e) in c.volume_of.ensures.looked.damaged f honest now kept s;
  state = search rules;
}

pub returns-in-Some : goal.returns-in-Some
returns-in-Some g c = record {
  told = λ honest now kept s.
      let d = g.D.Disk.state c.volume_of.new.disk in
      mapped_told c.args.self.now d now c.args.device c.in-Some.there (subst (IsThere c.args.self.now d now c.args.device) c.in-Some.is (c.in_ok-there.ensures.looked.told honest now kept s));
  damaged = search rules;
  state = search rules;
}

pub returns-in-None : goal.returns-in-None
returns-in-None g c = record {
  told = λ honest now kept s. none_mapped c.args.device now (subst (IsThere c.args.self.now (g.D.Disk.state c.volume_of.new.disk) now c.args.device) c.in-None.is (c.in_ok-there.ensures.looked.told honest now kept s));
  damaged = search rules;
  state = search rules;
}
