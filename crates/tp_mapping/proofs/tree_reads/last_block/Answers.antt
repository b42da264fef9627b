use Rattle.std.proofs.Common.{rules, ◌≡◌, ◌∙◌, ℕ, [], Err, IsTrue, Option, Some, None, ap, sym, arith, refl}
use Rattle.std.specs.Option.{option_map}
use Rattle.tp_counts.specs.declared.error.StoreError.TheVariants.{Damaged}
use Rattle.tp_model.specs.Geometry.{Geometry}
use Rattle.tp_layout.specs.declared.entry.Entry.{Entry}
use Rattle.tp_layout.specs.declared.kind.TreeKind.TheVariants.{Mapping}
use Rattle.tp_refs.specs.Store.{first_named, moved_by}
use Rattle.tp_sharing.specs.Forest.{content}
use Rattle.tp_sharing.specs.Volumes.{Volumes}
use Rattle.tp_btree.specs.Walks.{last_entry}
use Rattle.tp_mapping.specs.Held.{HasVolume, entry_of}
use Rattle.tp_mapping.proofs.Holding.{volume_stands}
use Rattle.tp_mapping.proofs.Topmost.{highest_told, last_inside}
use Rattle.tp_mapping.proofs.tree_reads.last_block.Given.{Over}
use Rattle.tp_mapping.proofs.tree_reads.last_block.Goals as goal
use Rattle.tp_mapping.proofs.tree_reads.last_block.Goals.{In_ok-entry}

-- what the tree has last
there : (g : Over) (c : In_ok-entry g) → IsTrue (g.D.Disk.state c.args.disk.now).is_honest → (geo : Geometry) (root : ℕ) (now : Volumes) (device : ℕ)
    → (h : HasVolume geo c.args.tm.now (g.D.Disk.state c.args.disk.now) root [] now device c.args.volume) → (o : Option Entry) → c.in_ok-entry.field-0 ≡ o
    → option_map (moved_by (first_named c.args.tm.now.geometry.metadata_blocks Mapping 0)) o ≡ last_entry (content 1 h.trees.store c.args.volume.root)
there g c honest geo root now device h o is =
    ap (option_map (moved_by (first_named c.args.tm.now.geometry.metadata_blocks Mapping 0))) (sym is)
    ∙ c.in_ok-entry.ensures.told honest _ _ h.trees.store _ _ (volume_stands geo c.args.tm.now (g.D.Disk.state c.args.disk.now) root [] now h.trees device (entry_of device c.args.volume) h.told)
    (omega arith) (omega arith)

pub returns-in_err-entry : goal.returns-in_err-entry
returns-in_err-entry g c = record {
  told = search rules;
  damaged = λ e honest geo root now device h.
      let f : c.last.result ≡ Err Damaged = search (rules, e) in
      c.last.ensures.damaged f honest _ _ h.trees.store _ _ (volume_stands geo c.args.tm.now (g.D.Disk.state c.args.disk.now) root [] now h.trees device (entry_of device c.args.volume) h.told)
      (omega arith) (omega arith);
  state = search rules;
}

pub returns-in_default : goal.returns-in_default
returns-in_default g c = record {
  told = λ honest geo root now device h. highest_told geo c.args.tm.now (g.D.Disk.state c.args.disk.now) root now device c.args.volume h None
      (there g (goal.at.returns-in_default g c).In_ok-entry honest geo root now device h None c.in_default.is) None refl;
  damaged = search rules;
  state = search rules;
}

pub returns-in_err-virtual_block_of : goal.returns-in_err-virtual_block_of
returns-in_err-virtual_block_of g c = record {
  told = search rules;
  damaged = λ e honest geo root now device h. last_inside geo c.args.tm.now (g.D.Disk.state c.args.disk.now) root now device c.args.volume h c.in-Some.entry
      (there g (goal.at.returns-in_err-virtual_block_of g c).In_ok-entry honest geo root now device h (Some c.in-Some.entry) c.in-Some.is) c.in_err-virtual_block_of.ensures.err.1;
  state = search rules;
}

pub returns : goal.returns
returns g c = record {
  told = λ honest geo root now device h. highest_told geo c.args.tm.now (g.D.Disk.state c.args.disk.now) root now device c.args.volume h (Some c.in-Some.entry)
      (there g (goal.at.returns g c).In_ok-entry honest geo root now device h (Some c.in-Some.entry) c.in-Some.is) (Some c.in_ok-virtual_block_of.field-0) (ap Some c.in_ok-virtual_block_of.ensures.value);
  damaged = search rules;
  state = search rules;
}
