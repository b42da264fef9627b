use Rattle.std.proofs.Common.{rules, ◌≡◌, ◌∙◌, ◌++◌, ℕ, List, [], Err, IsTrue, ap, map, sym, subst, take}
use Rattle.std.proofs.lemmas.Result.{IfErr-at_err, on_ok_weaker}
use Rattle.tp_counts.specs.declared.error.StoreError.TheVariants.{Damaged}
use Rattle.tp_model.specs.Geometry.{Geometry}
use Rattle.tp_layout.specs.declared.entry.Entry.{Entry}
use Rattle.tp_layout.specs.declared.kind.TreeKind.TheVariants.{Mapping}
use Rattle.tp_sharing.specs.Forest.{content}
use Rattle.tp_sharing.specs.Volumes.{Volumes}
use Rattle.tp_btree.specs.Walks.{IsFilled, from_key}
use Rattle.tp_mapping.specs.Held.{HasVolume, entry_of}
use Rattle.tp_mapping.specs.Telling.{NameBlocks, as_slot}
use Rattle.tp_mapping.proofs.Holding.{volume_stands}
use Rattle.tp_mapping.proofs.Walked.{filled_by, names_blocks}
use Rattle.tp_mapping.proofs.tree_reads.walk_from.Given.{Over}
use Rattle.tp_mapping.proofs.tree_reads.walk_from.Goals as goal
use Rattle.tp_mapping.proofs.tree_reads.walk_from.Goals.{In_ok-walk}

-- what the walk added
walked : (g : Over) (c : In_ok-walk g) → IsTrue (g.D.Disk.state c.args.disk.now).is_honest → (geo : Geometry) (root : ℕ) (now : Volumes) (device : ℕ)
    → (h : HasVolume geo c.args.tm.now (g.D.Disk.state c.args.disk.now) root [] now device c.args.volume)
    → IsFilled c.args.tm.now.geometry.metadata_blocks Mapping (from_key c.args.from (content 1 h.trees.store c.args.volume.root)) [] c.walk.new.entries.items
walked g c honest geo root now device h =
    let m = c.args.tm.now.geometry.metadata_blocks in
    let p = content 1 h.trees.store c.args.volume.root in
    subst (λ (k : ℕ). IsFilled m Mapping (from_key k p) [] c.walk.new.entries.items) c.number-first.ensures.value
    (subst (λ (l : List Entry). IsFilled m Mapping (from_key c.number-first.result p) l c.walk.new.entries.items) c.new-entries.ensures
    (c.in_ok-walk.ensures.looked.told honest _ _ h.trees.store _ _ (volume_stands geo c.args.tm.now (g.D.Disk.state c.args.disk.now) root [] now h.trees device (entry_of device c.args.volume) h.told)))

pub returns-in_err-walk-clause-looked : goal.returns-in_err-walk-clause-looked
returns-in_err-walk-clause-looked g c = record {
  told = search rules;
  damaged = λ e honest geo root now device h.
      let f : c.walk.result ≡ Err Damaged = search (rules, e) in
      c.walk.ensures.looked.damaged f honest _ _ h.trees.store _ _ (volume_stands geo c.args.tm.now (g.D.Disk.state c.args.disk.now) root [] now h.trees device (entry_of device c.args.volume) h.told);
  state = search rules;
}

pub returns-clause-looked : goal.returns-clause-looked
returns-clause-looked g c = record {
  told = on_ok_weaker c.add_slots.result
      (λ f honest geo root now device h.
      filled_by geo c.args.tm.now (g.D.Disk.state c.args.disk.now) root now device c.args.volume h c.args.from c.walk.new.entries.items
      (walked g (goal.at.returns-clause-looked g c).In_ok-walk honest geo root now device h) c.args.slots.now.items c.add_slots.new.slots.items
      (f ∙ ap (λ (l : List Entry). take 252 (c.args.slots.now.items ++ map as_slot l)) c.deref.ensures.0)) c.add_slots.ensures.value;
  damaged = λ e honest geo root now device h.
      let n = c.args.tm.now.geometry.data_blocks in
      let p = IfErr-at_err _ e c.add_slots.ensures.err in
      p.1 (subst (NameBlocks n) (sym c.deref.ensures.0)
      (names_blocks geo c.args.tm.now (g.D.Disk.state c.args.disk.now) root now device c.args.volume h c.args.from c.walk.new.entries.items
      (walked g (goal.at.returns-clause-looked g c).In_ok-walk honest geo root now device h)));
  state = search rules;
}
