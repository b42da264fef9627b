use Rattle.std.proofs.Common.{rules, ◌≡◌, ◌-◌, ◌<◌, ◌≤◌, ◌||◌, ℕ, suc, List, Err, IsTrue, nat_lt, slice_index, sym, ap, subst, ◌∙◌, arith}
use Rattle.std.specs.Prelude.{IfOk, Ok, Result}
use Rattle.std.proofs.lemmas.Result.{IfOk-weaker}
use Rattle.tp_counts.specs.declared.error.StoreError.{StoreError}
use Rattle.tp_counts.specs.declared.error.StoreError.TheVariants.{Damaged}
use Rattle.tp_model.specs.Disk.{DiskState}
use Rattle.tp_refs.specs.Store.{Store, node_at}
use Rattle.tp_trees.specs.Tree.{led_to}
use Rattle.tp_trees.proofs.Trees.{Led}
use Rattle.tp_tm.specs.Tm.{counts_now}
use Rattle.tp_btree.specs.Runs.{LeadsToLeaf}
use Rattle.tp_btree.specs.Trees.{IsStep, StandsBelow, base_of}
use Rattle.tp_btree.proofs.Leading.{leads_below, leads_here}
use Rattle.tp_btree.proofs.Looking.{child_inside, child_is, child_stands, inner, level_is, some_inner, tree_low, tree_ranked}
use Rattle.tp_btree.proofs.look_up_run.+leaf_below.Given.{Over}
use Rattle.tp_btree.proofs.look_up_run.+leaf_below.Goals as goal
use Rattle.tp_btree.proofs.look_up_run.+leaf_below.Goals.{After-is_many-is_shared, After-leaf_below, In_ok-turn}

pub returns-in_err-turn-clause-damaged : goal.returns-in_err-turn-clause-damaged
returns-in_err-turn-clause-damaged g t c e honest opens held s k low high st fits l u =
    let disk = g.D.Disk.state c.args.disk.now in
    let f : c.turn_at.result ≡ Err Damaged = search (rules, e) in
    c.turn_at.ensures.damaged f honest opens held s st.holds st.live st.closed (tree_ranked c.args.tm.now disk c.args.kind opens held s k low high c.args.block st)
    (tree_low c.args.tm.now disk c.args.kind opens held s k low high c.args.block c.args.top st fits)

-- the step that was taken, by this key
step_of : (g : Over) (t : ℕ) (c : In_ok-turn g t) → IsTrue (g.D.Disk.state c.args.disk.now).is_honest → (opens held : List ℕ) (s : Store) (k low high : ℕ)
    → StandsBelow c.args.tm.now (g.D.Disk.state c.args.disk.now) c.args.kind opens held s k low high c.args.block → (next : ℕ) → c.args.key ≤ next → next < c.in_ok-turn.turn.until
    → IsStep c.args.tm.now.geometry.metadata_blocks c.args.kind s next c.args.block c.in_ok-turn.turn.step
step_of g t c honest opens held s k low high st next le lt =
    c.in_ok-turn.ensures.step honest opens held s st.holds st.live st.closed
    (tree_ranked c.args.tm.now (g.D.Disk.state c.args.disk.now) c.args.kind opens held s k low high c.args.block st) next le lt

-- the same by the key itself
first_of_key : (g : Over) (t : ℕ) (c : In_ok-turn g t) → IsTrue (g.D.Disk.state c.args.disk.now).is_honest → (opens held : List ℕ) (s : Store) (k low high : ℕ)
    → StandsBelow c.args.tm.now (g.D.Disk.state c.args.disk.now) c.args.kind opens held s k low high c.args.block
    → IsStep c.args.tm.now.geometry.metadata_blocks c.args.kind s c.args.key c.args.block c.in_ok-turn.turn.step
first_of_key g t c honest opens held s k low high st = step_of g t c honest opens held s k low high st c.args.key (omega arith) c.in_ok-turn.ensures.further.0

-- whether a block down to here is named more than once
here_is : (g : Over) (t : ℕ) (c : After-is_many-is_shared g t) → c.is_many-is_shared.result ≡ (c.args.above || nat_lt 1 (slice_index (counts_now c.args.tm.now) c.args.block))
here_is g t c = c.is_many-is_shared.ensures ∙ ap (λ n. c.args.above || nat_lt 1 (slice_index (counts_now c.args.tm.now) n)) c.number.ensures.value

pub returns-in_default-clause-damaged : goal.returns-in_default-clause-damaged
returns-in_default-clause-damaged g t c e honest opens held s k low high st fits l u =
    let is = first_of_key g t (goal.at.returns-in_default-clause-damaged g t c).In_ok-turn honest opens held s k low high st in
    some_inner c.args.tm.now (g.D.Disk.state c.args.disk.now) c.args.kind opens held s k low high c.args.block c.args.key st l u c.in_ok-turn.turn.step is c.in_default.is (omega (arith, c.if-turn-eq0.false))

pub returns-in_err-child-clause-damaged : goal.returns-in_err-child-clause-damaged
returns-in_err-child-clause-damaged g t c e honest opens held s k low high st fits l u =
    let is = first_of_key g t (goal.at.returns-in_err-child-clause-damaged g t c).In_ok-turn honest opens held s k low high st in
    let more : 0 < c.in_ok-turn.turn.step.level = omega (arith, c.if-turn-eq0.false) in
    omega (
      arith,
      c.in_err-child.ensures.err.1,
      child_is c.args.tm.now (g.D.Disk.state c.args.disk.now) c.args.kind opens held s k low high c.args.block c.args.key st l u c.in_ok-turn.turn.step is c.in-Some.entry c.in-Some.is more,
      child_inside c.args.tm.now (g.D.Disk.state c.args.disk.now) c.args.kind opens held s k low high c.args.block c.args.key st l u c.in_ok-turn.turn.step is more,
    )

pub returns-then-turn-eq0-clause-leads : goal.returns-then-turn-eq0-clause-leads
returns-then-turn-eq0-clause-leads g t c honest opens held s k low high st fits next le lt l u =
    let is = first_of_key g t (goal.at.returns-then-turn-eq0-clause-leads g t c).In_ok-turn honest opens held s k low high st in
    leads_here c.args.tm.now (g.D.Disk.state c.args.disk.now) c.args.kind opens held s k low high c.args.block next st l u c.args.key c.in_ok-turn.turn.step is c.args.above c.is_many-is_shared.result
    c.turn_at.new.bytes (omega (arith, c.if-turn-eq0.true)) (c.in_ok-turn.ensures.bytes honest) (here_is g t (goal.at.returns-then-turn-eq0-clause-leads g t c).After-is_many-is_shared)

both_ok : {T : Type 0} (r : Result T StoreError) (P Q : T → Type 0) → IfOk r P → IfOk r Q → IfOk r (λ x. P x × Q x)
both_ok (Ok x) P Q p q = (p, q)
both_ok (Err x) P Q p q = tt

-- the tree below the child that a key leads to, on the disk as the read left it
record Below (g : Over) (t : ℕ) (c : After-leaf_below g t) (opens held : List ℕ) (s : Store) (k low high next : ℕ) : Type 0 where
  pub below : ℕ
  pub deeper : k ≡ suc below
  pub led : Led (base_of c.args.kind) below s low high c.args.block next
  pub at : c.in_ok-child.child ≡ led_to next (node_at s c.args.block).entries
  pub stands : StandsBelow c.args.tm.now (g.D.Disk.state c.turn_at.new.disk) c.args.kind opens held s below led.from led.to c.in_ok-child.child
  pub fits : below ≤ c.in_ok-turn.turn.step.level - 1

child_tree : (g : Over) (t : ℕ) (c : After-leaf_below g t) → (opens held : List ℕ) (s : Store) (k low high next : ℕ)
    → (st : StandsBelow c.args.tm.now (g.D.Disk.state c.args.disk.now) c.args.kind opens held s k low high c.args.block) → (l : low ≤ next) → (u : next < high)
    → IsStep c.args.tm.now.geometry.metadata_blocks c.args.kind s next c.args.block c.in_ok-turn.turn.step → Below g t c opens held s k low high next
child_tree g t c opens held s k low high next st l u is =
    let disk = g.D.Disk.state c.args.disk.now in
    let more : 0 < c.in_ok-turn.turn.step.level = omega (arith, c.if-turn-eq0.false) in
    let r = inner c.args.tm.now disk c.args.kind opens held s k low high c.args.block next st l u c.in_ok-turn.turn.step is more in
    let at : c.in_ok-child.child ≡ led_to next (node_at s c.args.block).entries =
    c.in_ok-child.ensures.inside.0 ∙ child_is c.args.tm.now disk c.args.kind opens held s k low high c.args.block next st l u c.in_ok-turn.turn.step is c.in-Some.entry c.in-Some.is more in
    record {
      below = r.0;
      deeper = r.1;
      led = r.2;
      at = at;
      stands =
          subst (λ (z : DiskState). StandsBelow c.args.tm.now z c.args.kind opens held s r.0 r.2.from r.2.to c.in_ok-child.child) (sym c.in_ok-turn.ensures.state)
          (subst (λ b. StandsBelow c.args.tm.now disk c.args.kind opens held s r.0 r.2.from r.2.to b) (sym at)
          (child_stands c.args.tm.now disk c.args.kind opens held s k low high c.args.block next st l u c.in_ok-turn.turn.step is r.0 r.1 r.2));
      fits = omega (arith, r.1, level_is c.args.tm.now disk c.args.kind opens held s k low high c.args.block next st l u c.in_ok-turn.turn.step is);
    }

pub returns-clause-leads : goal.returns-clause-leads
returns-clause-leads g t c = IfOk-weaker c.leaf_below.result _ _
    (λ leaf both honest opens held s k low high st fits next le lt l u.
    let disk = g.D.Disk.state c.args.disk.now in
    let is = step_of g t (goal.at.returns-clause-leads g t c).In_ok-turn honest opens held s k low high st next le (omega (arith, lt, both.0.1)) in
    let r = child_tree g t (goal.at.returns-clause-leads g t c).After-leaf_below opens held s k low high next st l u is in
    let under = both.1 (subst (λ (z : DiskState). IsTrue z.is_honest) (sym c.in_ok-turn.ensures.state) honest) opens held s r.below r.led.from r.led.to r.stands r.fits next le lt r.led.lower r.led.upper in
    leads_below c.args.tm.now disk c.args.kind opens held s k low high c.args.block next st l u c.in_ok-turn.turn.step is c.args.above c.is_many-is_shared.result c.leaf_below.new.bytes leaf.is_shared
    (here_is g t (goal.at.returns-clause-leads g t c).After-is_many-is_shared) r.below r.deeper r.led
    (subst (λ b. LeadsToLeaf c.args.tm.now disk c.args.kind opens held s r.below next b c.is_many-is_shared.result c.leaf_below.new.bytes leaf.is_shared) r.at
    (subst (λ (z : DiskState). LeadsToLeaf c.args.tm.now z c.args.kind opens held s r.below next c.in_ok-child.child c.is_many-is_shared.result c.leaf_below.new.bytes leaf.is_shared) c.in_ok-turn.ensures.state under)))
    (both_ok c.leaf_below.result _ _ c.leaf_below.ensures.further c.leaf_below.ensures.leads)

pub returns-clause-damaged : goal.returns-clause-damaged
returns-clause-damaged g t c e honest opens held s k low high st fits l u =
    let is = first_of_key g t (goal.at.returns-clause-damaged g t c).In_ok-turn honest opens held s k low high st in
    let r = child_tree g t (goal.at.returns-clause-damaged g t c).After-leaf_below opens held s k low high c.args.key st l u is in
    c.leaf_below.ensures.damaged e (subst (λ (z : DiskState). IsTrue z.is_honest) (sym c.in_ok-turn.ensures.state) honest) opens held s r.below r.led.from r.led.to r.stands r.fits r.led.lower r.led.upper
