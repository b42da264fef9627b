use Rattle.std.proofs.Common.{rules, ◌≡◌, ◌∙◌, [], Err, sym, subst, arith}
use Rattle.tp_counts.specs.declared.error.StoreError.TheVariants.{Damaged}
use Rattle.tp_mapping.specs.Held.{HoldTrees}
use Rattle.tp_mapping.proofs.Between.{held_trees}
use Rattle.tp_mapping.proofs.Holding.{devices_few, root_stands}
use Rattle.tp_mapping.proofs.Telling.{devices_many}
use Rattle.tp_mapping.proofs.trees.TreeMapping.count_devices.Goals as goal

pub returns-in_err-root : goal.returns-in_err-root
returns-in_err-root g c = record {
  told = search rules;
  damaged = λ e honest now kept s.
      let f : c.device_root.result ≡ Err Damaged = search (rules, e) in c.device_root.ensures.damaged f (g.D.Disk.state c.args.disk.now) now kept s;
  state = search rules;
}

pub returns-in_err-number : goal.returns-in_err-number
returns-in_err-number g c = record {
  told = search rules;
  damaged = λ e honest now kept s.
      let m = c.args.self.now in
      let d = g.D.Disk.state c.args.disk.now in
      let f : c.count.result ≡ Err Damaged = search (rules, e) in
      let h = subst (λ b. HoldTrees m.tm.geometry m.tm d b [] now) (sym c.in_ok-root.ensures.inside.0) (held_trees m d now kept s) in
      c.count.ensures.damaged f honest _ _ h.store _ _ (root_stands m.tm.geometry m.tm d c.in_ok-root.root [] now h) (omega (arith, devices_few m.tm.geometry m.tm d c.in_ok-root.root [] now h));
  state = search rules;
}

pub returns : goal.returns
returns g c = record {
  told = λ honest now kept s.
      let m = c.args.self.now in
      let d = g.D.Disk.state c.args.disk.now in
      let h = subst (λ b. HoldTrees m.tm.geometry m.tm d b [] now) (sym c.in_ok-root.ensures.inside.0) (held_trees m d now kept s) in
      c.in_ok-number.ensures.told honest _ _ h.store _ _ (root_stands m.tm.geometry m.tm d c.in_ok-root.root [] now h) ∙ devices_many m.tm.geometry m.tm d c.in_ok-root.root [] now h;
  damaged = search rules;
  state = search rules;
}
