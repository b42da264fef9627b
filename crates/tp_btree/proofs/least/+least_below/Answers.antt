use Rattle.std.proofs.Common.{rules, ◌≡◌, ◌≤◌, ◌∙◌, ℕ, List, Err, IsTrue, get_or, sym, ap, subst, arith}
use Rattle.std.specs.Option.{option_map}
use Rattle.tp_counts.specs.declared.error.StoreError.TheVariants.{Damaged}
use Rattle.tp_model.specs.Disk.{DiskState}
use Rattle.tp_layout.specs.Node.{NodeValue}
use Rattle.tp_layout.specs.declared.kind.TreeKind.{TreeKind}
use Rattle.tp_tm.specs.Tm.{Tm}
use Rattle.tp_layout.proofs.Ordered.{rank_of_from_bounds}
use Rattle.tp_refs.specs.Store.{Store, first_named, moved_by, node_at, node_from}
use Rattle.tp_trees.specs.Tree.{blank, pairs}
use Rattle.tp_btree.specs.Least.{first_entry}
use Rattle.tp_btree.specs.Trees.{StandsBelow}
use Rattle.tp_btree.specs.Walks.{from_key}
use Rattle.tp_btree.proofs.Steps.{standing}
use Rattle.tp_btree.proofs.Looking.{tree_ranked}
use Rattle.tp_btree.proofs.Seeking.{Under, child_under, is_none, sought_all, sought_here, sought_in_leaf, sought_on}
use Rattle.tp_btree.proofs.Walking.{level_of, nothing_before}
use Rattle.tp_btree.proofs.least.+least_below.Given.{Over}
use Rattle.tp_btree.proofs.least.+least_below.Goals as goal
use Rattle.tp_btree.proofs.least.+least_below.Goals.{After-known-node, After-entry, In_ok-found}

pub returns-in_err-read : goal.returns-in_err-read
returns-in_err-read g t c = record {
  told = search rules;
  damaged = λ e honest opens held s k low high st fits.
      let disk = g.D.Disk.state c.args.disk.now in
      let f : c.read.result ≡ Err Damaged = search (rules, e) in
      let r = standing c.args.tm.now disk c.args.kind opens held s c.args.block st.holds st.live st.closed (tree_ranked c.args.tm.now disk c.args.kind opens held s k low high c.args.block st) in
      c.read.ensures.damaged f honest r.node r.there r.kind_is;
  state = search rules;
}

-- the node that was read is the one that the store has there
read_is : (g : Over) (t : ℕ) (c : After-known-node g t) → IsTrue (g.D.Disk.state c.args.disk.now).is_honest → (opens held : List ℕ) (s : Store) (k low high : ℕ)
    → StandsBelow c.args.tm.now (g.D.Disk.state c.args.disk.now) c.args.kind opens held s k low high c.args.block
    → node_at s c.args.block ≡ node_from c.args.tm.now.geometry.metadata_blocks c.known-node.result
read_is g t c honest opens held s k low high st =
    let disk = g.D.Disk.state c.args.disk.now in
    let r = standing c.args.tm.now disk c.args.kind opens held s c.args.block st.holds st.live st.closed (tree_ranked c.args.tm.now disk c.args.kind opens held s k low high c.args.block st) in
    r.same ∙ ap (node_from c.args.tm.now.geometry.metadata_blocks) (sym (c.known-node.ensures.only r.node r.there.good r.kind_is (c.in_ok-read.ensures.found honest ∙ r.there.bytes)))

-- its level is that of the tree
level_is : (g : Over) (t : ℕ) (c : After-known-node g t) → IsTrue (g.D.Disk.state c.args.disk.now).is_honest → (opens held : List ℕ) (s : Store) (k low high : ℕ)
    → StandsBelow c.args.tm.now (g.D.Disk.state c.args.disk.now) c.args.kind opens held s k low high c.args.block → c.known-node.result.level ≡ k
level_is g t c honest opens held s k low high st =
    level_of c.args.tm.now (g.D.Disk.state c.args.disk.now) c.args.kind opens held s k low high c.args.block st c.known-node.result c.known-node.ensures.found.1 (read_is g t c honest opens held s k low high st)

pub returns-then-level-top : goal.returns-then-level-top
returns-then-level-top g t c = record {
  told = search rules;
  damaged = λ e honest opens held s k low high st fits. omega (arith, c.if-level-top.true, c.level-level.ensures.value, fits, level_is g t (goal.at.returns-then-level-top g t c).After-known-node honest opens held s k low high st);
  state = search rules;
}

pub returns-then-level-eq0 : goal.returns-then-level-eq0
returns-then-level-eq0 g t c = record {
  told = λ honest opens held s k low high st fits. sought_in_leaf c.args.tm.now (g.D.Disk.state c.args.disk.now) c.args.kind opens held s k low high c.args.block st c.known-node.result c.known-node.ensures.found.1
      (read_is g t (goal.at.returns-then-level-eq0 g t c).After-known-node honest opens held s k low high st) c.args.from c.least_in.result
      (omega (arith, c.level-level.ensures.value, c.if-level-eq0.true)) c.least_in.ensures;
  damaged = search rules;
  state = search rules;
}

pub loop-i-init : goal.loop-i-init
loop-i-init g t c = record {
  state = c.in_ok-read.ensures.state;
  kind = c.known-node.ensures.found.1;
  level = c.level-level.ensures.value;
  low = omega (arith, c.if-level-top.false);
  more = omega (arith, c.if-level-eq0.false);
  end = c.len-i-end.ensures.value;
  sought = λ honest opens held s k low high st fits.
      let same = read_is g t (goal.at.loop-i-init g t c).After-known-node honest opens held s k low high st in
      let w = nothing_before c.args.tm.now (g.D.Disk.state c.args.disk.now) c.args.kind opens held s k low high c.args.block st c.known-node.result c.known-node.ensures.found.1 same c.args.from c.saturating_sub-i.result
      (omega (arith, c.saturating_sub-i.ensures, rank_of_from_bounds c.args.from c.rank.result c.known-node.result.entries c.rank.ensures.within c.rank.ensures.below c.rank.ensures.above))
      (omega (arith, c.level-level.ensures.value, c.if-level-eq0.false)) in
      (w.0, w.1, same, w.2);
}

-- the child that the loop is at
under : (g : Over) (t : ℕ) (c : After-entry g t) → IsTrue (g.D.Disk.state c.args.disk.now).is_honest → (opens held : List ℕ) (s : Store) (k low high : ℕ)
    → StandsBelow c.args.tm.now (g.D.Disk.state c.args.disk.now) c.args.kind opens held s k low high c.args.block → k ≤ c.args.top
    → Under c.args.tm.now (g.D.Disk.state c.args.disk.now) c.args.kind c.args.block c.args.from c.known-node.result c.loop-i.i c.entry.result.value opens held s k
under g t c = child_under c.args.tm.now (g.D.Disk.state c.args.disk.now) c.args.kind c.args.block c.args.top c.args.from c.known-node.result c.loop-i.i c.entry.result c.loop-i.invariant.sought
    c.loop-i.invariant.kind (omega (arith, c.loop-i.invariant.level, c.loop-i.invariant.more)) (omega (arith, c.loop-i-test.true, c.loop-i.invariant.end)) c.entry.ensures

-- its tree, on the disk as the reads before left it
stands_now : (t : Tm) (d d' : DiskState) (kind : TreeKind) (x q : ℕ) (n : NodeValue) (i value place : ℕ) (opens held : List ℕ) (s : Store) (k : ℕ) → (u : Under t d kind x q n i value opens held s k)
    → d' ≡ d → place ≡ value → StandsBelow t d' kind opens held s u.below u.from u.to place
stands_now t d d' kind x q n i value place opens held s k u same at =
    subst (λ (z : DiskState). StandsBelow t z kind opens held s u.below u.from u.to place) (sym same) (subst (λ b. StandsBelow t d kind opens held s u.below u.from u.to b) (sym at) u.stands)

pub returns-in_err-child : goal.returns-in_err-child
returns-in_err-child g t c = record {
  told = search rules;
  damaged = λ e honest opens held s k low high st fits.
      let u = under g t (goal.at.returns-in_err-child g t c).After-entry honest opens held s k low high st fits in
      omega (arith, c.in_err-child.ensures.err.1, u.inside);
  state = search rules;
}

pub returns-in_err-found : goal.returns-in_err-found
returns-in_err-found g t c = record {
  told = search rules;
  damaged = λ e honest opens held s k low high st fits.
      let f : c.least_below.result ≡ Err Damaged = search (rules, e) in
      let u = under g t (goal.at.returns-in_err-found g t c).After-entry honest opens held s k low high st fits in
      c.least_below.ensures.damaged f (subst (λ (z : DiskState). IsTrue z.is_honest) (sym c.loop-i.invariant.state) honest) opens held s u.below u.from u.to
      (stands_now c.args.tm.now (g.D.Disk.state c.args.disk.now) (g.D.Disk.state c.loop-i.disk) c.args.kind c.args.block c.args.from c.known-node.result c.loop-i.i c.entry.result.value c.in_ok-child.child opens held s k u
      c.loop-i.invariant.state c.in_ok-child.ensures.inside.0) (omega (arith, u.fits, c.loop-i.invariant.level));
  state = search rules;
}

-- what is told of it
told_here : (g : Over) (t : ℕ) (c : In_ok-found g t) → IsTrue (g.D.Disk.state c.args.disk.now).is_honest → (opens held : List ℕ) (s : Store) (k : ℕ)
    → (u : Under c.args.tm.now (g.D.Disk.state c.args.disk.now) c.args.kind c.args.block c.args.from c.known-node.result c.loop-i.i c.entry.result.value opens held s k)
    → option_map (moved_by (first_named c.args.tm.now.geometry.metadata_blocks c.args.kind 0)) c.in_ok-found.found
    ≡ first_entry (from_key c.args.from (pairs u.below s (get_or (node_at s c.args.block).entries c.loop-i.i blank).value))
told_here g t c honest opens held s k u =
    c.in_ok-found.ensures.told (subst (λ (z : DiskState). IsTrue z.is_honest) (sym c.loop-i.invariant.state) honest) opens held s u.below u.from u.to
    (stands_now c.args.tm.now (g.D.Disk.state c.args.disk.now) (g.D.Disk.state c.loop-i.disk) c.args.kind c.args.block c.args.from c.known-node.result c.loop-i.i c.entry.result.value c.in_ok-child.child opens held s k u
    c.loop-i.invariant.state c.in_ok-child.ensures.inside.0) (omega (arith, u.fits, c.loop-i.invariant.level))
    ∙ ap (λ b. first_entry (from_key c.args.from (pairs u.below s b))) (c.in_ok-child.ensures.inside.0 ∙ u.named)

pub returns-then-is_some : goal.returns-then-is_some
returns-then-is_some g t c = record {
  told = λ honest opens held s k low high st fits.
      let at = goal.at.returns-then-is_some g t c in
      let u = under g t at.After-entry honest opens held s k low high st fits in
      sought_here c.args.tm.now (g.D.Disk.state c.args.disk.now) c.args.kind opens held s k low high c.args.block st c.known-node.result c.loop-i.invariant.kind u.at c.args.from c.loop-i.i u.below
      (omega (arith, c.loop-i-test.true, c.loop-i.invariant.end)) u.deeper u.before c.in_ok-found.found (sym c.is_some.ensures ∙ c.if-is_some.true) (told_here g t at.In_ok-found honest opens held s k u);
  damaged = search rules;
  state = search rules;
}

pub loop-i-preserved : goal.loop-i-preserved
loop-i-preserved g t c = record {
  state = c.in_ok-found.ensures.state ∙ c.loop-i.invariant.state;
  kind = c.loop-i.invariant.kind;
  level = c.loop-i.invariant.level;
  low = c.loop-i.invariant.low;
  more = c.loop-i.invariant.more;
  end = c.loop-i.invariant.end;
  sought = λ honest opens held s k low high st fits.
      let at = goal.at.loop-i-preserved g t c in
      let u = under g t at.After-entry honest opens held s k low high st fits in
      sought_on c.args.tm.now (g.D.Disk.state c.args.disk.now) c.args.kind opens held s k low high c.args.block st c.known-node.result c.loop-i.invariant.kind u.at c.args.from c.loop-i.i u.below
      (omega (arith, c.loop-i-test.true, c.loop-i.invariant.end)) u.deeper u.before c.in_ok-found.found (is_none c.in_ok-found.found (sym c.is_some.ensures ∙ c.if-is_some.false)) (told_here g t at.In_ok-found honest opens held s k u);
}

pub returns : goal.returns
returns g t c = record {
  told = λ honest opens held s k low high st fits.
      let w = c.loop-i.invariant.sought honest opens held s k low high st fits in
      sought_all c.args.tm.now (g.D.Disk.state c.args.disk.now) c.args.kind opens held s k low high c.args.block st c.known-node.result c.loop-i.invariant.kind w.2 c.args.from c.loop-i.i w.0
      (omega (arith, c.loop-i-test.false, c.loop-i.invariant.end)) w.1 w.3;
  damaged = search rules;
  state = search rules;
}
