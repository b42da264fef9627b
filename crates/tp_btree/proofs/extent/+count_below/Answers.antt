use Rattle.std.proofs.Common.{rules, ◌≡◌, ◌-◌, ◌<◌, ◌≤◌, ◌∙◌, ℕ, suc, List, Err, IsTrue, length, get_or, take, refl, sym, ap, subst, arith}
use Rattle.tp_counts.specs.declared.error.StoreError.TheVariants.{Damaged}
use Rattle.tp_model.specs.Disk.{DiskState}
use Rattle.tp_refs.specs.Store.{Store, node_at, node_from}
use Rattle.tp_trees.specs.Tree.{blank, joined, pairs}
use Rattle.tp_btree.specs.Trees.{StandsBelow}
use Rattle.tp_btree.proofs.Steps.{standing}
use Rattle.tp_btree.proofs.Looking.{tree_ranked}
use Rattle.tp_btree.proofs.Walking.{child_at, level_of, number_is}
use Rattle.tp_btree.proofs.Ends.{count_ends, count_fits, count_goes, count_starts, leaf_counted}
use Rattle.tp_btree.proofs.extent.+count_below.Given.{Over}
use Rattle.tp_btree.proofs.extent.+count_below.Goals as goal
use Rattle.tp_btree.proofs.extent.+count_below.Goals.{After-known-node, After-entry, In_ok-below}

pub returns-in_err-read-clause-damaged : goal.returns-in_err-read-clause-damaged
returns-in_err-read-clause-damaged g t c e honest opens held s k low high st fits few =
    let disk = g.D.Disk.state c.args.disk.now in
    let f : c.read.result ≡ Err Damaged = search (rules, e) in
    let r = standing c.args.tm.now disk c.args.kind opens held s c.args.block st.holds st.live st.closed (tree_ranked c.args.tm.now disk c.args.kind opens held s k low high c.args.block st) in
    c.read.ensures.damaged f honest r.node r.there r.kind_is

-- the node that was read is the one that the store has there
read_is : (g : Over) (t : ℕ) (c : After-known-node g t) → IsTrue (g.D.Disk.state c.args.disk.now).is_honest → (opens held : List ℕ) (s : Store) (k low high : ℕ)
    → StandsBelow c.args.tm.now (g.D.Disk.state c.args.disk.now) c.args.kind opens held s k low high c.args.block
    → node_at s c.args.block ≡ node_from c.args.tm.now.geometry.metadata_blocks c.known-node.result
read_is g t c honest opens held s k low high st =
    let disk = g.D.Disk.state c.args.disk.now in
    let r = standing c.args.tm.now disk c.args.kind opens held s c.args.block st.holds st.live st.closed (tree_ranked c.args.tm.now disk c.args.kind opens held s k low high c.args.block st) in
    r.same ∙ ap (node_from c.args.tm.now.geometry.metadata_blocks) (sym (c.known-node.ensures.only r.node r.there.good r.kind_is (c.in_ok-read.ensures.found honest ∙ r.there.bytes)))

-- its level is that of the tree
level_is : (g : Over) (t : ℕ) (c : After-known-node g t) → IsTrue (g.D.Disk.state c.args.disk.now).is_honest → (opens held : List ℕ) (s : Store) (k low high : ℕ)
    → StandsBelow c.args.tm.now (g.D.Disk.state c.args.disk.now) c.args.kind opens held s k low high c.args.block → c.known-node.result.level ≡ k
level_is g t c honest opens held s k low high st =
    level_of c.args.tm.now (g.D.Disk.state c.args.disk.now) c.args.kind opens held s k low high c.args.block st c.known-node.result c.known-node.ensures.found.1 (read_is g t c honest opens held s k low high st)

pub returns-then-level-top-clause-damaged : goal.returns-then-level-top-clause-damaged
returns-then-level-top-clause-damaged g t c e honest opens held s k low high st fits few =
    omega (arith, c.if-level-top.true, c.level-level.ensures.value, fits, level_is g t (goal.at.returns-then-level-top-clause-damaged g t c).After-known-node honest opens held s k low high st)

pub returns-then-level-eq0-clause-told : goal.returns-then-level-eq0-clause-told
returns-then-level-eq0-clause-told g t c honest opens held s k low high st fits =
    c.len.ensures.value
    ∙ sym (leaf_counted c.args.tm.now (g.D.Disk.state c.args.disk.now) c.args.kind opens held s k low high c.args.block st c.known-node.result c.known-node.ensures.found.1
    (read_is g t (goal.at.returns-then-level-eq0-clause-told g t c).After-known-node honest opens held s k low high st) (omega (arith, c.level-level.ensures.value, c.if-level-eq0.true)))

pub loop-i-init : goal.loop-i-init
loop-i-init g t c = record {
  state = c.in_ok-read.ensures.state;
  kind = c.known-node.ensures.found.1;
  level = c.level-level.ensures.value;
  low = omega (arith, c.if-level-top.false);
  more = omega (arith, c.if-level-eq0.false);
  end = c.len-i-end.ensures.value;
  few = omega arith;
  counted = λ honest opens held s k low high st fits.
      count_starts c.args.tm.now (g.D.Disk.state c.args.disk.now) c.args.kind opens held s k low high c.args.block st c.known-node.result c.known-node.ensures.found.1
      (read_is g t (goal.at.loop-i-init g t c).After-known-node honest opens held s k low high st) (omega (arith, c.level-level.ensures.value, c.if-level-eq0.false));
}

-- the child that the loop is at
record Under (g : Over) (t : ℕ) (c : After-entry g t) (opens held : List ℕ) (s : Store) (k : ℕ) : Type 0 where
  pub from : ℕ
  pub to : ℕ
  pub below : ℕ
  pub deeper : k ≡ suc below
  pub at : node_at s c.args.block ≡ node_from c.args.tm.now.geometry.metadata_blocks c.known-node.result
  pub named : c.entry.result.value ≡ (get_or (node_at s c.args.block).entries c.loop-i.i blank).value
  pub counted : c.loop-i.count ≡ length (joined (pairs below s) (take c.loop-i.i (node_at s c.args.block).entries))
  pub stands : StandsBelow c.args.tm.now (g.D.Disk.state c.args.disk.now) c.args.kind opens held s below from to c.entry.result.value
  pub inside : c.entry.result.value < c.args.tm.now.geometry.metadata_blocks
  pub fits : below ≤ c.level-level.result - 1
  pub within : c.loop-i.i < length c.known-node.result.entries

under : (g : Over) (t : ℕ) (c : After-entry g t) → IsTrue (g.D.Disk.state c.args.disk.now).is_honest → (opens held : List ℕ) (s : Store) (k low high : ℕ)
    → StandsBelow c.args.tm.now (g.D.Disk.state c.args.disk.now) c.args.kind opens held s k low high c.args.block → k ≤ c.args.top → Under g t c opens held s k
under g t c honest opens held s k low high st fits =
    let tm = c.args.tm.now in
    let disk = g.D.Disk.state c.args.disk.now in
    let n = c.known-node.result in
    let w = c.loop-i.invariant.counted honest opens held s k low high st fits in
    let more : 0 < n.level = omega (arith, c.loop-i.invariant.level, c.loop-i.invariant.more) in
    let within : c.loop-i.i < length n.entries = omega (arith, c.loop-i-test.true, c.loop-i.invariant.end) in
    let r = child_at tm disk c.args.kind opens held s k low high c.args.block st n c.loop-i.invariant.kind w.2 c.loop-i.i within more in
    let same : r.0 ≡ w.0 = omega (arith, r.1, w.1) in
    let at : c.entry.result.value ≡ (get_or (node_at s c.args.block).entries c.loop-i.i blank).value =
    number_is tm disk c.args.kind opens held s k low high c.args.block st n c.loop-i.invariant.kind w.2 c.loop-i.i c.entry.result c.entry.ensures more in
    record {
      from = r.2.from;
      to = r.2.to;
      below = w.0;
      deeper = w.1;
      at = w.2;
      named = at;
      counted = w.3;
      stands = subst (λ b. StandsBelow tm disk c.args.kind opens held s w.0 r.2.from r.2.to b) (sym at) (subst (λ j. StandsBelow tm disk c.args.kind opens held s j r.2.from r.2.to (get_or (node_at s c.args.block).entries c.loop-i.i blank).value) same r.2.stands);
      inside = omega (arith, at, r.2.inside);
      fits = omega (arith, w.1, c.loop-i.invariant.level, level_of tm disk c.args.kind opens held s k low high c.args.block st n c.loop-i.invariant.kind w.2);
      within = within;
    }

pub returns-in_err-child-clause-damaged : goal.returns-in_err-child-clause-damaged
returns-in_err-child-clause-damaged g t c e honest opens held s k low high st fits few =
    let u = under g t (goal.at.returns-in_err-child-clause-damaged g t c).After-entry honest opens held s k low high st fits in
    omega (arith, c.in_err-child.ensures.err.1, u.inside)

pub returns-in_err-below-clause-damaged : goal.returns-in_err-below-clause-damaged
returns-in_err-below-clause-damaged g t c e honest opens held s k low high st fits few =
    let tm = c.args.tm.now in
    let disk = g.D.Disk.state c.args.disk.now in
    let f : c.count_below.result ≡ Err Damaged = search (rules, e) in
    let u = under g t (goal.at.returns-in_err-below-clause-damaged g t c).After-entry honest opens held s k low high st fits in
    c.count_below.ensures.damaged f (subst (λ (z : DiskState). IsTrue z.is_honest) (sym c.loop-i.invariant.state) honest) opens held s u.below u.from u.to
    (subst (λ (z : DiskState). StandsBelow tm z c.args.kind opens held s u.below u.from u.to c.in_ok-child.child) (sym c.loop-i.invariant.state)
    (subst (λ b. StandsBelow tm disk c.args.kind opens held s u.below u.from u.to b) (sym c.in_ok-child.ensures.inside.0) u.stands)) u.fits
    (omega (
      arith,
      few,
      ap (λ b. length (pairs u.below s b)) (c.in_ok-child.ensures.inside.0 ∙ u.named),
      count_fits tm disk c.args.kind opens held s k low high c.args.block st c.known-node.result c.loop-i.invariant.kind u.at c.loop-i.i u.below c.loop-i.count
          (length (pairs u.below s (get_or (node_at s c.args.block).entries c.loop-i.i blank).value)) u.within u.deeper u.counted refl,
    ))

-- what was counted below the child
record Here (g : Over) (t : ℕ) (c : In_ok-below g t) (opens held : List ℕ) (s : Store) (k : ℕ) : Type 0 where
  pub below : ℕ
  pub deeper : k ≡ suc below
  pub at : node_at s c.args.block ≡ node_from c.args.tm.now.geometry.metadata_blocks c.known-node.result
  pub within : c.loop-i.i < length c.known-node.result.entries
  pub counted : c.loop-i.count ≡ length (joined (pairs below s) (take c.loop-i.i (node_at s c.args.block).entries))
  pub more : c.in_ok-below.below ≡ length (pairs below s (get_or (node_at s c.args.block).entries c.loop-i.i blank).value)

here : (g : Over) (t : ℕ) (c : In_ok-below g t) → IsTrue (g.D.Disk.state c.args.disk.now).is_honest → (opens held : List ℕ) (s : Store) (k low high : ℕ)
    → StandsBelow c.args.tm.now (g.D.Disk.state c.args.disk.now) c.args.kind opens held s k low high c.args.block → k ≤ c.args.top → Here g t c opens held s k
here g t c honest opens held s k low high st fits =
    let tm = c.args.tm.now in
    let disk = g.D.Disk.state c.args.disk.now in
    let u = under g t (goal.at.In_ok-below g t c).After-entry honest opens held s k low high st fits in
    record {
      below = u.below;
      deeper = u.deeper;
      at = u.at;
      within = u.within;
      counted = u.counted;
      more = c.in_ok-below.ensures.told (subst (λ (z : DiskState). IsTrue z.is_honest) (sym c.loop-i.invariant.state) honest) opens held s u.below u.from u.to
          (subst (λ (z : DiskState). StandsBelow tm z c.args.kind opens held s u.below u.from u.to c.in_ok-child.child) (sym c.loop-i.invariant.state)
          (subst (λ b. StandsBelow tm disk c.args.kind opens held s u.below u.from u.to b) (sym c.in_ok-child.ensures.inside.0) u.stands)) u.fits
          ∙ ap (λ b. length (pairs u.below s b)) (c.in_ok-child.ensures.inside.0 ∙ u.named);
    }

pub returns-in_err-count-clause-damaged : goal.returns-in_err-count-clause-damaged
returns-in_err-count-clause-damaged g t c e honest opens held s k low high st fits few =
    let h = here g t (goal.at.returns-in_err-count-clause-damaged g t c).In_ok-below honest opens held s k low high st fits in
    omega (
      arith,
      few,
      c.in_err-count.ensures.err.1,
      count_fits c.args.tm.now (g.D.Disk.state c.args.disk.now) c.args.kind opens held s k low high c.args.block st c.known-node.result c.loop-i.invariant.kind h.at c.loop-i.i h.below c.loop-i.count c.in_ok-below.below h.within h.deeper h.counted h.more,
    )

pub loop-i-preserved : goal.loop-i-preserved
loop-i-preserved g t c = record {
  state = c.in_ok-below.ensures.state ∙ c.loop-i.invariant.state;
  kind = c.loop-i.invariant.kind;
  level = c.loop-i.invariant.level;
  low = c.loop-i.invariant.low;
  more = c.loop-i.invariant.more;
  end = c.loop-i.invariant.end;
  few = c.in_ok-count.ensures.sum.1;
  counted = λ honest opens held s k low high st fits.
      let h = here g t (goal.at.loop-i-preserved g t c).In_ok-below honest opens held s k low high st fits in (
        h.below,
        h.deeper,
        h.at,
        c.in_ok-count.ensures.sum.0
            ∙ count_goes c.args.tm.now (g.D.Disk.state c.args.disk.now) c.args.kind opens held s k low high c.args.block st c.known-node.result c.loop-i.invariant.kind h.at c.loop-i.i h.below c.loop-i.count c.in_ok-below.below h.within h.counted h.more,
      );
}

pub returns-clause-told : goal.returns-clause-told
returns-clause-told g t c honest opens held s k low high st fits =
    let w = c.loop-i.invariant.counted honest opens held s k low high st fits in
    count_ends c.args.tm.now (g.D.Disk.state c.args.disk.now) c.args.kind opens held s k low high c.args.block st c.known-node.result c.loop-i.invariant.kind w.2 c.loop-i.i w.0 c.loop-i.count
    (omega (arith, c.loop-i-test.false, c.loop-i.invariant.end)) w.1 w.3
