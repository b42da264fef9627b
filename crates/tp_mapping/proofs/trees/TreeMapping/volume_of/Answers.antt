use Rattle.std.proofs.Common.{rules, ◌≡◌, [], Err, sym, subst}
use Rattle.tp_counts.specs.declared.error.StoreError.TheVariants.{Damaged}
use Rattle.tp_mapping.specs.Held.{HoldTrees}
use Rattle.tp_mapping.proofs.Between.{held_trees}
use Rattle.tp_mapping.proofs.Holding.{now_root}
use Rattle.tp_mapping.proofs.Telling.{told_there}
use Rattle.tp_mapping.proofs.trees.TreeMapping.volume_of.Goals as goal

pub returns-in_err-root-clause-looked : goal.returns-in_err-root-clause-looked
returns-in_err-root-clause-looked g c = record {
  told = search rules;
  damaged = λ e honest now kept s.
      let f : c.device_root.result ≡ Err Damaged = search (rules, e) in c.device_root.ensures.damaged f (g.D.Disk.state c.args.disk.now) now kept s;
  state = search rules;
}

pub returns-clause-looked : goal.returns-clause-looked
returns-clause-looked g c = record {
  told = told_there c.args.self.now (g.D.Disk.state c.args.disk.now) (g.D.Disk.state c.volume_at.new.disk) c.in_ok-root.root c.args.device c.volume_at.result c.in_ok-root.ensures.inside.0 c.volume_at.ensures.looked.state c.volume_at.ensures.looked.told;
  damaged = λ e honest now kept s.
      let m = c.args.self.now in
      let d = g.D.Disk.state c.args.disk.now in
      let h = subst (λ b. HoldTrees m.tm.geometry m.tm d b [] now) (sym c.in_ok-root.ensures.inside.0) (held_trees m d now kept s) in
      c.volume_at.ensures.looked.damaged e honest m.tm.geometry _ h.store (now_root m.tm.geometry m.tm d c.in_ok-root.root [] now h);
  state = search rules;
}
