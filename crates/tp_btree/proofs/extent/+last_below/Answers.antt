use Rattle.std.proofs.Common.{rules, ◌≡◌, ◌-◌, ◌+◌, ◌<◌, ◌≤◌, ◌∙◌, ℕ, suc, List, Err, IsTrue, get_or, sym, ap, subst, arith}
use Rattle.std.specs.Prelude.{◌^◌}
use Rattle.std.proofs.lemmas.Result.{IfOk-weaker}
use Rattle.tp_counts.specs.declared.error.StoreError.TheVariants.{Damaged}
use Rattle.tp_model.specs.Disk.{DiskState}
use Rattle.tp_refs.specs.Store.{Store, node_at}
use Rattle.tp_trees.specs.Tree.{blank, pairs}
use Rattle.tp_btree.specs.Trees.{IsStep, StandsBelow}
use Rattle.tp_btree.specs.Walks.{last_entry}
use Rattle.tp_btree.proofs.Looking.{tree_low, tree_ranked}
use Rattle.tp_btree.proofs.Ends.{LastChild, child_value, last_child, last_inner, leaf_last, some_child, step_level}
use Rattle.tp_btree.proofs.extent.+last_below.Given.{Over}
use Rattle.tp_btree.proofs.extent.+last_below.Goals as goal
use Rattle.tp_btree.proofs.extent.+last_below.Goals.{After-last_below, In-Some, In_ok-here}

pub returns-in_err-here : goal.returns-in_err-here
returns-in_err-here g t c = record {
  told = search rules;
  damaged = λ e honest opens held s k low high st fits l top.
      let disk = g.D.Disk.state c.args.disk.now in
      let f : c.step_at.result ≡ Err Damaged = search (rules, e) in
      c.step_at.ensures.damaged f honest opens held s st.holds st.live st.closed (tree_ranked c.args.tm.now disk c.args.kind opens held s k low high c.args.block st)
      (tree_low c.args.tm.now disk c.args.kind opens held s k low high c.args.block c.args.top st fits);
  state = search rules;
}

-- the step that was taken
step_of : (g : Over) (t : ℕ) (c : In_ok-here g t) → IsTrue (g.D.Disk.state c.args.disk.now).is_honest → (opens held : List ℕ) (s : Store) (k low high : ℕ)
    → StandsBelow c.args.tm.now (g.D.Disk.state c.args.disk.now) c.args.kind opens held s k low high c.args.block → IsStep c.args.tm.now.geometry.metadata_blocks c.args.kind s 18446744073709551615 c.args.block c.in_ok-here.here
step_of g t c honest opens held s k low high st =
    c.in_ok-here.ensures.step honest opens held s st.holds st.live st.closed (tree_ranked c.args.tm.now (g.D.Disk.state c.args.disk.now) c.args.kind opens held s k low high c.args.block st)

pub returns-then-here-eq0 : goal.returns-then-here-eq0
returns-then-here-eq0 g t c = record {
  told = λ honest opens held s k low high st fits l top. leaf_last c.args.tm.now (g.D.Disk.state c.args.disk.now) c.args.kind opens held s k low high c.args.block 18446744073709551615 st c.in_ok-here.here
      (step_of g t (goal.at.returns-then-here-eq0 g t c).In_ok-here honest opens held s k low high st) (omega (arith, top)) c.if-here-eq0.true;
  damaged = search rules;
  state = search rules;
}

-- the last child of the node that was read
record Below (g : Over) (t : ℕ) (c : In_ok-here g t) (opens held : List ℕ) (s : Store) (k low high : ℕ)
    (st : StandsBelow c.args.tm.now (g.D.Disk.state c.args.disk.now) c.args.kind opens held s k low high c.args.block) : Type 0 where
  pub all : high ≤ 18446744073709551615 + 1
  pub is : IsStep c.args.tm.now.geometry.metadata_blocks c.args.kind s 18446744073709551615 c.args.block c.in_ok-here.here
  pub below : ℕ
  pub deeper : k ≡ suc below
  pub child : LastChild c.args.tm.now (g.D.Disk.state c.args.disk.now) c.args.kind opens held s k low high c.args.block 18446744073709551615 st c.in_ok-here.here is all below

last_of : (g : Over) (t : ℕ) (c : In_ok-here g t) → IsTrue (g.D.Disk.state c.args.disk.now).is_honest → (opens held : List ℕ) (s : Store) (k low high : ℕ)
    → (st : StandsBelow c.args.tm.now (g.D.Disk.state c.args.disk.now) c.args.kind opens held s k low high c.args.block) → low < high → high ≤ 2 ^ 64 → 0 < c.in_ok-here.here.level → Below g t c opens held s k low high st
last_of g t c honest opens held s k low high st l top more =
    let all : high ≤ 18446744073709551615 + 1 = omega (arith, top) in
    let is = step_of g t c honest opens held s k low high st in
    let r = last_child c.args.tm.now (g.D.Disk.state c.args.disk.now) c.args.kind opens held s k low high c.args.block 18446744073709551615 st c.in_ok-here.here is all more l in
    record { all = all; is = is; below = r.0; deeper = r.1; child = r.2 }

pub returns-in_default : goal.returns-in_default
returns-in_default g t c = record {
  told = search rules;
  damaged = λ e honest opens held s k low high st fits l top.
      let b = last_of g t (goal.at.returns-in_default g t c).In_ok-here honest opens held s k low high st l top (omega (arith, c.if-here-eq0.false)) in
      some_child c.args.tm.now (g.D.Disk.state c.args.disk.now) c.args.kind opens held s k low high c.args.block 18446744073709551615 st c.in_ok-here.here b.is b.all b.below b.child c.in_default.is;
  state = search rules;
}

-- the child that was named
child_named : (g : Over) (t : ℕ) (c : In-Some g t) → (opens held : List ℕ) (s : Store) (k low high : ℕ)
    → (st : StandsBelow c.args.tm.now (g.D.Disk.state c.args.disk.now) c.args.kind opens held s k low high c.args.block) → (b : Below g t (goal.at.In-Some g t c).In_ok-here opens held s k low high st)
    → c.in-Some.entry.value ≡ (get_or (node_at s c.args.block).entries b.child.index blank).value
child_named g t c opens held s k low high st b =
    child_value c.args.tm.now (g.D.Disk.state c.args.disk.now) c.args.kind opens held s k low high c.args.block 18446744073709551615 st c.in_ok-here.here b.is b.all b.below b.child c.in-Some.entry c.in-Some.is (omega (arith, c.if-here-eq0.false))

pub returns-in_err-child : goal.returns-in_err-child
returns-in_err-child g t c = record {
  told = search rules;
  damaged = λ e honest opens held s k low high st fits l top.
      let b = last_of g t (goal.at.returns-in_err-child g t c).In_ok-here honest opens held s k low high st l top (omega (arith, c.if-here-eq0.false)) in
      omega (arith, c.in_err-child.ensures.err.1, b.child.inside, child_named g t (goal.at.returns-in_err-child g t c).In-Some opens held s k low high st b);
  state = search rules;
}

-- its tree, on the disk as the read left it
record Under (g : Over) (t : ℕ) (c : After-last_below g t) (opens held : List ℕ) (s : Store) (k low high : ℕ)
    (st : StandsBelow c.args.tm.now (g.D.Disk.state c.args.disk.now) c.args.kind opens held s k low high c.args.block) : Type 0 where
  pub last : Below g t (goal.at.After-last_below g t c).In_ok-here opens held s k low high st
  pub at : c.in_ok-child.child ≡ (get_or (node_at s c.args.block).entries last.child.index blank).value
  pub stands : StandsBelow c.args.tm.now (g.D.Disk.state c.step_at.new.disk) c.args.kind opens held s last.below last.child.from high c.in_ok-child.child
  pub fits : last.below ≤ c.in_ok-here.here.level - 1

under : (g : Over) (t : ℕ) (c : After-last_below g t) → IsTrue (g.D.Disk.state c.args.disk.now).is_honest → (opens held : List ℕ) (s : Store) (k low high : ℕ)
    → (st : StandsBelow c.args.tm.now (g.D.Disk.state c.args.disk.now) c.args.kind opens held s k low high c.args.block) → low < high → high ≤ 2 ^ 64 → Under g t c opens held s k low high st
under g t c honest opens held s k low high st l top =
    let tm = c.args.tm.now in
    let disk = g.D.Disk.state c.args.disk.now in
    let b = last_of g t (goal.at.After-last_below g t c).In_ok-here honest opens held s k low high st l top (omega (arith, c.if-here-eq0.false)) in
    let at : c.in_ok-child.child ≡ (get_or (node_at s c.args.block).entries b.child.index blank).value = c.in_ok-child.ensures.inside.0 ∙ child_named g t (goal.at.After-last_below g t c).In-Some opens held s k low high st b in
    record {
      last = b;
      at = at;
      stands =
          subst (λ (z : DiskState). StandsBelow tm z c.args.kind opens held s b.below b.child.from high c.in_ok-child.child) (sym c.in_ok-here.ensures.state)
          (subst (λ x. StandsBelow tm disk c.args.kind opens held s b.below b.child.from high x) (sym at) b.child.stands);
      fits = omega (arith, b.deeper, step_level tm disk c.args.kind opens held s k low high c.args.block 18446744073709551615 st c.in_ok-here.here b.is b.all);
    }

pub returns : goal.returns
returns g t c = record {
  told = IfOk-weaker c.last_below.result _ _
      (λ answer told honest opens held s k low high st fits l top.
      let m = c.args.tm.now.geometry.metadata_blocks in
      let u = under g t (goal.at.returns g t c).After-last_below honest opens held s k low high st l top in
      let here = told (subst (λ (z : DiskState). IsTrue z.is_honest) (sym c.in_ok-here.ensures.state) honest) opens held s u.last.below u.last.child.from high u.stands u.fits u.last.child.less top in
      last_inner c.args.tm.now (g.D.Disk.state c.args.disk.now) c.args.kind opens held s k low high c.args.block 18446744073709551615 st c.in_ok-here.here u.last.is u.last.all u.last.below u.last.child u.last.deeper answer
      (here ∙ ap (λ x. last_entry (pairs u.last.below s x)) u.at))
      c.last_below.ensures.told;
  damaged = λ e honest opens held s k low high st fits l top.
      let u = under g t (goal.at.returns g t c).After-last_below honest opens held s k low high st l top in
      c.last_below.ensures.damaged e (subst (λ (z : DiskState). IsTrue z.is_honest) (sym c.in_ok-here.ensures.state) honest) opens held s u.last.below u.last.child.from high u.stands u.fits u.last.child.less top;
  state = search rules;
}
