use Rattle.std.proofs.Common.{rules, ◌≡◌, ◌+◌, ◌-◌, ◌<◌, ◌≤◌, ℕ, List, Err, IsTrue, false, length, arith}
use Rattle.tp_counts.specs.declared.error.StoreError.TheVariants.{Damaged}
use Rattle.tp_refs.specs.Store.{Store}
use Rattle.tp_btree.specs.Runs.{LeadsToLeaf}
use Rattle.tp_btree.specs.Trees.{StandsBelow}
use Rattle.tp_btree.proofs.look_up_run.tell_leaf.Given.{Over}
use Rattle.tp_btree.proofs.look_up_run.tell_leaf.Goals as goal
use Rattle.tp_btree.proofs.look_up_run.tell_leaf.Goals.{After-tell_keys}

pub returns-in_err-leaf-clause-looked : goal.returns-in_err-leaf-clause-looked
returns-in_err-leaf-clause-looked g c = record {
  told = search rules;
  damaged = λ e honest opens held s k high st fits.
      let f : c.leaf_below.result ≡ Err Damaged = search (rules, e) in
      c.leaf_below.ensures.damaged f honest opens held s k 0 high st (omega (arith, st.levels, c.most_level-top.ensures)) (omega arith) (omega (arith, fits, c.requires.within));
  state = search rules;
}

-- the leaf that each key of the run up to this place leads to
leads : (g : Over) (c : After-tell_keys g) → IsTrue (g.D.Disk.state c.args.disk.now).is_honest → (opens held : List ℕ) (s : Store) (k high : ℕ)
    → StandsBelow c.args.tm.now (g.D.Disk.state c.args.disk.now) c.args.kind opens held s k 0 high c.args.root → c.args.first + length c.args.out.now ≤ high
    → (i : ℕ) → c.args.from ≤ i → i < c.min.result - c.args.first
    → LeadsToLeaf c.args.tm.now (g.D.Disk.state c.args.disk.now) c.args.kind opens held s k (c.args.first + i) c.args.root false c.leaf_below.new.bytes c.in_ok-leaf.leaf.is_shared
leads g c honest opens held s k high st fits i low lt =
    c.in_ok-leaf.ensures.leads honest opens held s k 0 high st (omega (arith, st.levels, c.most_level-top.ensures)) (c.args.first + i) (omega (arith, low)) (omega (arith, lt, c.min.ensures)) (omega arith)
    (omega (arith, fits, lt, c.min.ensures))

pub returns-in_err-tell_keys-clause-looked : goal.returns-in_err-tell_keys-clause-looked
returns-in_err-tell_keys-clause-looked g c = record {
  told = search rules;
  damaged = λ e honest opens held s k high st fits.
      let no = c.in_err-tell_keys.ensures.err.1 in
      no.3 (g.D.Disk.state c.args.disk.now) opens held s k c.args.root false
      (leads g (goal.at.returns-in_err-tell_keys-clause-looked g c).After-tell_keys honest opens held s k high st fits no.0 no.1 no.2);
  state = search rules;
}

pub returns-clause-looked : goal.returns-clause-looked
returns-clause-looked g c = record {
  told = λ honest opens held s k high st fits i low lt. c.in_ok-tell_keys.ensures.told i low lt (g.D.Disk.state c.args.disk.now) opens held s k c.args.root false
      (leads g (goal.at.returns-clause-looked g c).After-tell_keys honest opens held s k high st fits i low lt);
  damaged = search rules;
  state = search rules;
}
