use Rattle.std.proofs.Common.{rules, ◌≡◌, ◌-◌, ◌<◌, ◌≤◌, ◌∙◌, ℕ, suc, List, Err, IsTrue, length, get_or, take, sym, ap, subst, arith}
use Rattle.tp_counts.specs.declared.error.StoreError.TheVariants.{Damaged}
use Rattle.tp_model.specs.Disk.{DiskState}
use Rattle.tp_layout.proofs.Ordered.{rank_of_from_bounds}
use Rattle.tp_refs.specs.Store.{Store, node_at, node_from}
use Rattle.tp_trees.specs.Tree.{blank, joined, pairs}
use Rattle.tp_btree.specs.Trees.{StandsBelow}
use Rattle.tp_btree.specs.Walks.{IsFilled, from_key}
use Rattle.tp_btree.proofs.Steps.{standing}
use Rattle.tp_btree.proofs.Looking.{tree_ranked}
use Rattle.tp_btree.proofs.Filling.{filled_full, longer_refl, longer_trans}
use Rattle.tp_btree.proofs.Walking.{child_at, leaf_filled, level_of, number_is, walk_ends, walk_goes, walk_starts}
use Rattle.tp_btree.proofs.walks.+walk_below.Given.{Over}
use Rattle.tp_btree.proofs.walks.+walk_below.Goals as goal
use Rattle.tp_btree.proofs.walks.+walk_below.Goals.{After-known-node, After-entry}

pub returns-then-len-eq-MOST_ENTRIES-clause-looked : goal.returns-then-len-eq-MOST_ENTRIES-clause-looked
returns-then-len-eq-MOST_ENTRIES-clause-looked g t c = record {
  told = λ honest opens held s k low high st fits. filled_full 252 c.args.tm.now.geometry.metadata_blocks c.args.kind (from_key c.args.from (pairs k s c.args.block)) c.args.entries.now.items (omega (arith, c.len.ensures.value, c.if-len-eq-MOST_ENTRIES.true));
  damaged = search rules;
  state = search rules;
}

pub returns-in_err-read-clause-looked : goal.returns-in_err-read-clause-looked
returns-in_err-read-clause-looked g t c = record {
  told = search rules;
  damaged = λ e honest opens held s k low high st fits.
      let disk = g.D.Disk.state c.args.disk.now in
      let f : c.read.result ≡ Err Damaged = search (rules, e) in
      let r = standing c.args.tm.now disk c.args.kind opens held s c.args.block st.holds st.live st.closed (tree_ranked c.args.tm.now disk c.args.kind opens held s k low high c.args.block st) in
      c.read.ensures.damaged f honest r.node r.there r.kind_is;
  state = search rules;
}

-- the node that was read is the one that the store has there
read_is : (g : Over) (t : ℕ) (c : After-known-node g t) → IsTrue (g.D.Disk.state c.args.disk.now).is_honest → (opens held : List ℕ) (s : Store) (k low high : ℕ)
    → StandsBelow c.args.tm.now (g.D.Disk.state c.args.disk.now) c.args.kind opens held s k low high c.args.block
    → node_at s c.args.block ≡ node_from c.args.tm.now.geometry.metadata_blocks c.known-node.result
read_is g t c honest opens held s k low high st =
    let disk = g.D.Disk.state c.args.disk.now in
    let r = standing c.args.tm.now disk c.args.kind opens held s c.args.block st.holds st.live st.closed (tree_ranked c.args.tm.now disk c.args.kind opens held s k low high c.args.block st) in
    r.same ∙ ap (node_from c.args.tm.now.geometry.metadata_blocks) (sym (c.known-node.ensures.only r.node r.there.good r.kind_is (c.in_ok-read.ensures.found honest ∙ r.there.bytes)))

-- its level is that of the tree
level_is : (g : Over) (t : ℕ) (c : After-known-node g t) → IsTrue (g.D.Disk.state c.args.disk.now).is_honest → (opens held : List ℕ) (s : Store) (k low high : ℕ)
    → StandsBelow c.args.tm.now (g.D.Disk.state c.args.disk.now) c.args.kind opens held s k low high c.args.block → c.known-node.result.level ≡ k
level_is g t c honest opens held s k low high st =
    level_of c.args.tm.now (g.D.Disk.state c.args.disk.now) c.args.kind opens held s k low high c.args.block st c.known-node.result c.known-node.ensures.found.1 (read_is g t c honest opens held s k low high st)

pub returns-then-level-top-clause-looked : goal.returns-then-level-top-clause-looked
returns-then-level-top-clause-looked g t c = record {
  told = search rules;
  damaged = λ e honest opens held s k low high st fits. omega (arith, c.if-level-top.true, c.level-level.ensures.value, fits, level_is g t (goal.at.returns-then-level-top-clause-looked g t c).After-known-node honest opens held s k low high st);
  state = search rules;
}

pub returns-then-level-eq0-clause-looked : goal.returns-then-level-eq0-clause-looked
returns-then-level-eq0-clause-looked g t c = record {
  told = λ honest opens held s k low high st fits. leaf_filled c.args.tm.now (g.D.Disk.state c.args.disk.now) c.args.kind opens held s k low high c.args.block st c.known-node.result c.known-node.ensures.found.1
      (read_is g t (goal.at.returns-then-level-eq0-clause-looked g t c).After-known-node honest opens held s k low high st) c.args.from c.args.entries.now.items c.add_leaf.new.entries.items
      (omega (arith, c.level-level.ensures.value, c.if-level-eq0.true)) c.add_leaf.ensures.value;
  damaged = search rules;
  state = search rules;
}

pub loop-i-init : goal.loop-i-init
loop-i-init g t c = record {
  state = c.in_ok-read.ensures.state;
  kind = c.known-node.ensures.found.1;
  level = c.level-level.ensures.value;
  low = omega (arith, c.if-level-top.false);
  more = omega (arith, c.if-level-eq0.false);
  end = c.len-i-end.ensures.value;
  longer = longer_refl c.args.entries.now.items;
  walked = λ honest opens held s k low high st fits.
      walk_starts c.args.tm.now (g.D.Disk.state c.args.disk.now) c.args.kind opens held s k low high c.args.block st c.known-node.result c.known-node.ensures.found.1
      (read_is g t (goal.at.loop-i-init g t c).After-known-node honest opens held s k low high st) c.args.from c.saturating_sub-i.result c.args.entries.now.items
      (omega (arith, c.saturating_sub-i.ensures, rank_of_from_bounds c.args.from c.rank.result c.known-node.result.entries c.rank.ensures.within c.rank.ensures.below c.rank.ensures.above))
      (omega (arith, c.len.ensures.value, c.len.ensures.fits)) (omega (arith, c.level-level.ensures.value, c.if-level-eq0.false));
}

-- the child that the loop is at
record Under (g : Over) (t : ℕ) (c : After-entry g t) (opens held : List ℕ) (s : Store) (k : ℕ) : Type 0 where
  pub from : ℕ
  pub to : ℕ
  pub below : ℕ
  pub deeper : k ≡ suc below
  pub at : node_at s c.args.block ≡ node_from c.args.tm.now.geometry.metadata_blocks c.known-node.result
  pub named : c.entry.result.value ≡ (get_or (node_at s c.args.block).entries c.loop-i.i blank).value
  pub filled : IsFilled c.args.tm.now.geometry.metadata_blocks c.args.kind (from_key c.args.from (joined (pairs below s) (take c.loop-i.i (node_at s c.args.block).entries))) c.args.entries.now.items c.loop-i.entries.items
  pub stands : StandsBelow c.args.tm.now (g.D.Disk.state c.args.disk.now) c.args.kind opens held s below from to c.entry.result.value
  pub inside : c.entry.result.value < c.args.tm.now.geometry.metadata_blocks
  pub fits : below ≤ c.level-level.result - 1

under : (g : Over) (t : ℕ) (c : After-entry g t) → IsTrue (g.D.Disk.state c.args.disk.now).is_honest → (opens held : List ℕ) (s : Store) (k low high : ℕ)
    → StandsBelow c.args.tm.now (g.D.Disk.state c.args.disk.now) c.args.kind opens held s k low high c.args.block → k ≤ c.args.top → Under g t c opens held s k
under g t c honest opens held s k low high st fits =
    let tm = c.args.tm.now in
    let disk = g.D.Disk.state c.args.disk.now in
    let n = c.known-node.result in
    let w = c.loop-i.invariant.walked honest opens held s k low high st fits in
    let more : 0 < n.level = omega (arith, c.loop-i.invariant.level, c.loop-i.invariant.more) in
    let within : c.loop-i.i < length n.entries = omega (arith, c.loop-i-test.true, c.loop-i.invariant.end) in
    let r = child_at tm disk c.args.kind opens held s k low high c.args.block st n c.loop-i.invariant.kind w.2 c.loop-i.i within more in
    let same : r.0 ≡ w.0 = omega (arith, r.1, w.1) in
    let at : c.entry.result.value ≡ (get_or (node_at s c.args.block).entries c.loop-i.i blank).value =
    number_is tm disk c.args.kind opens held s k low high c.args.block st n c.loop-i.invariant.kind w.2 c.loop-i.i c.entry.result c.entry.ensures more in
    record {
      from = r.2.from;
      to = r.2.to;
      below = w.0;
      deeper = w.1;
      at = w.2;
      named = at;
      filled = w.3;
      stands = subst (λ b. StandsBelow tm disk c.args.kind opens held s w.0 r.2.from r.2.to b) (sym at) (subst (λ j. StandsBelow tm disk c.args.kind opens held s j r.2.from r.2.to (get_or (node_at s c.args.block).entries c.loop-i.i blank).value) same r.2.stands);
      inside = omega (arith, at, r.2.inside);
      fits = omega (arith, w.1, c.loop-i.invariant.level, level_of tm disk c.args.kind opens held s k low high c.args.block st n c.loop-i.invariant.kind w.2);
    }

pub returns-in_err-child-clause-looked : goal.returns-in_err-child-clause-looked
returns-in_err-child-clause-looked g t c = record {
  told = search rules;
  damaged = λ e honest opens held s k low high st fits.
      let u = under g t (goal.at.returns-in_err-child-clause-looked g t c).After-entry honest opens held s k low high st fits in
      omega (arith, c.in_err-child.ensures.err.1, u.inside);
  state = search rules;
}

pub returns-in_err-walk_below-clause-looked : goal.returns-in_err-walk_below-clause-looked
returns-in_err-walk_below-clause-looked g t c = record {
  told = search rules;
  damaged = λ e honest opens held s k low high st fits.
      let f : c.walk_below.result ≡ Err Damaged = search (rules, e) in
      let u = under g t (goal.at.returns-in_err-walk_below-clause-looked g t c).After-entry honest opens held s k low high st fits in
      c.walk_below.ensures.looked.damaged f (subst (λ (z : DiskState). IsTrue z.is_honest) (sym c.loop-i.invariant.state) honest) opens held s u.below u.from u.to
      (subst (λ (z : DiskState). StandsBelow c.args.tm.now z c.args.kind opens held s u.below u.from u.to c.in_ok-child.child) (sym c.loop-i.invariant.state)
      (subst (λ b. StandsBelow c.args.tm.now (g.D.Disk.state c.args.disk.now) c.args.kind opens held s u.below u.from u.to b) (sym c.in_ok-child.ensures.inside.0) u.stands)) u.fits;
  state = search rules;
}

pub loop-i-preserved : goal.loop-i-preserved
loop-i-preserved g t c = record {
  state = c.in_ok-walk_below.ensures.looked.state ∙ c.loop-i.invariant.state;
  kind = c.loop-i.invariant.kind;
  level = c.loop-i.invariant.level;
  low = c.loop-i.invariant.low;
  more = c.loop-i.invariant.more;
  end = c.loop-i.invariant.end;
  longer = longer_trans c.args.entries.now.items c.loop-i.entries.items c.walk_below.new.entries.items c.loop-i.invariant.longer c.in_ok-walk_below.ensures.longer;
  walked = λ honest opens held s k low high st fits.
      let tm = c.args.tm.now in
      let disk = g.D.Disk.state c.args.disk.now in
      let u = under g t (goal.at.loop-i-preserved g t c).After-entry honest opens held s k low high st fits in
      let here = c.in_ok-walk_below.ensures.looked.told (subst (λ (z : DiskState). IsTrue z.is_honest) (sym c.loop-i.invariant.state) honest) opens held s u.below u.from u.to
      (subst (λ (z : DiskState). StandsBelow tm z c.args.kind opens held s u.below u.from u.to c.in_ok-child.child) (sym c.loop-i.invariant.state)
      (subst (λ b. StandsBelow tm disk c.args.kind opens held s u.below u.from u.to b) (sym c.in_ok-child.ensures.inside.0) u.stands)) u.fits in
      walk_goes tm disk c.args.kind opens held s k low high c.args.block st c.known-node.result c.loop-i.invariant.kind u.at c.args.from c.loop-i.i u.below c.args.entries.now.items c.loop-i.entries.items
      c.walk_below.new.entries.items (omega (arith, c.loop-i-test.true, c.loop-i.invariant.end)) u.deeper u.filled
      (subst (λ b. IsFilled tm.geometry.metadata_blocks c.args.kind (from_key c.args.from (pairs u.below s b)) c.loop-i.entries.items c.walk_below.new.entries.items) (c.in_ok-child.ensures.inside.0 ∙ u.named) here);
}

pub returns-clause-looked : goal.returns-clause-looked
returns-clause-looked g t c = record {
  told = λ honest opens held s k low high st fits.
      let w = c.loop-i.invariant.walked honest opens held s k low high st fits in
      walk_ends c.args.tm.now (g.D.Disk.state c.args.disk.now) c.args.kind opens held s k low high c.args.block st c.known-node.result c.loop-i.invariant.kind w.2 c.args.from c.loop-i.i w.0 c.args.entries.now.items
      c.loop-i.entries.items (omega (arith, c.loop-i-test.false, c.loop-i.invariant.end)) w.1 w.3;
  damaged = search rules;
  state = search rules;
}
