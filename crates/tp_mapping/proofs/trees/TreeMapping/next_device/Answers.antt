use Rattle.std.proofs.Common.{rules, ◌≡◌, ◌∙◌, [], Err, IsTrue, Option, Some, None, ap, sym, subst, refl}
use Rattle.std.specs.Option.{option_map}
use Rattle.tp_counts.specs.declared.error.StoreError.TheVariants.{Damaged}
use Rattle.tp_layout.specs.declared.entry.Entry.{Entry}
use Rattle.tp_layout.specs.declared.kind.TreeKind.TheVariants.{Device}
use Rattle.tp_refs.specs.Store.{first_named, moved_by}
use Rattle.tp_sharing.specs.Forest.{content}
use Rattle.tp_sharing.specs.Volumes.{Volumes}
use Rattle.tp_btree.specs.Least.{first_entry}
use Rattle.tp_btree.specs.Walks.{from_key}
use Rattle.tp_mapping.specs.Held.{HoldTrees}
use Rattle.tp_mapping.proofs.Between.{held_trees}
use Rattle.tp_mapping.proofs.Holding.{root_stands}
use Rattle.tp_mapping.proofs.Nexts.{next_inside, next_told}
use Rattle.tp_mapping.proofs.trees.TreeMapping.next_device.Given.{Over}
use Rattle.tp_mapping.proofs.trees.TreeMapping.next_device.Goals as goal
use Rattle.tp_mapping.proofs.trees.TreeMapping.next_device.Goals.{In_ok-entry}

pub returns-in_err-root : goal.returns-in_err-root
returns-in_err-root g c = record {
  told = search rules;
  damaged = λ e honest now kept s.
      let f : c.device_root.result ≡ Err Damaged = search (rules, e) in c.device_root.ensures.damaged f (g.D.Disk.state c.args.disk.now) now kept s;
  state = search rules;
}

pub returns-in_err-entry : goal.returns-in_err-entry
returns-in_err-entry g c = record {
  told = search rules;
  damaged = λ e honest now kept s.
      let m = c.args.self.now in
      let d = g.D.Disk.state c.args.disk.now in
      let f : c.least_from.result ≡ Err Damaged = search (rules, e) in
      let h = subst (λ b. HoldTrees m.tm.geometry m.tm d b [] now) (sym c.in_ok-root.ensures.inside.0) (held_trees m d now kept s) in
      c.least_from.ensures.damaged f honest _ _ h.store _ _ (root_stands m.tm.geometry m.tm d c.in_ok-root.root [] now h);
  state = search rules;
}

-- what the tree tells
there : (g : Over) (c : In_ok-entry g) → IsTrue (g.D.Disk.state c.args.disk.now).is_honest → (now : Volumes)
    → (h : HoldTrees c.args.self.now.tm.geometry c.args.self.now.tm (g.D.Disk.state c.args.disk.now) c.in_ok-root.root [] now) → (o : Option Entry) → c.in_ok-entry.field-0 ≡ o
    → option_map (moved_by (first_named c.args.self.now.tm.geometry.metadata_blocks Device 0)) o ≡ first_entry (from_key c.args.from (content 5 h.store c.in_ok-root.root))
there g c honest now h o is =
    let m = c.args.self.now in
    let d = g.D.Disk.state c.args.disk.now in
    ap (option_map (moved_by (first_named m.tm.geometry.metadata_blocks Device 0))) (sym is)
    ∙ (c.in_ok-entry.ensures.told honest _ _ h.store _ _ (root_stands m.tm.geometry m.tm d c.in_ok-root.root [] now h)
    ∙ ap (λ q. first_entry (from_key q (content 5 h.store c.in_ok-root.root))) c.number-first.ensures.value)

pub returns-in_default : goal.returns-in_default
returns-in_default g c = record {
  told = λ honest now kept s.
      let m = c.args.self.now in
      let d = g.D.Disk.state c.args.disk.now in
      let h = subst (λ b. HoldTrees m.tm.geometry m.tm d b [] now) (sym c.in_ok-root.ensures.inside.0) (held_trees m d now kept s) in
      next_told m.tm.geometry m.tm d c.in_ok-root.root now h c.args.from None (there g (goal.at.returns-in_default g c).In_ok-entry honest now h None c.in_default.is) None refl;
  damaged = search rules;
  state = search rules;
}

pub returns-in_err-device_of : goal.returns-in_err-device_of
returns-in_err-device_of g c = record {
  told = search rules;
  damaged = λ e honest now kept s.
      let m = c.args.self.now in
      let d = g.D.Disk.state c.args.disk.now in
      let h = subst (λ b. HoldTrees m.tm.geometry m.tm d b [] now) (sym c.in_ok-root.ensures.inside.0) (held_trees m d now kept s) in
      next_inside m.tm.geometry m.tm d c.in_ok-root.root now h s.within.volumes_now c.args.from c.in-Some.entry
      (there g (goal.at.returns-in_err-device_of g c).In_ok-entry honest now h (Some c.in-Some.entry) c.in-Some.is) c.in_err-device_of.ensures.err.1;
  state = search rules;
}

pub returns : goal.returns
returns g c = record {
  told = λ honest now kept s.
      let m = c.args.self.now in
      let d = g.D.Disk.state c.args.disk.now in
      let h = subst (λ b. HoldTrees m.tm.geometry m.tm d b [] now) (sym c.in_ok-root.ensures.inside.0) (held_trees m d now kept s) in
      next_told m.tm.geometry m.tm d c.in_ok-root.root now h c.args.from (Some c.in-Some.entry)
      (there g (goal.at.returns g c).In_ok-entry honest now h (Some c.in-Some.entry) c.in-Some.is) (Some c.in_ok-device_of.field-0) (ap Some c.in_ok-device_of.ensures.value);
  damaged = search rules;
  state = search rules;
}
