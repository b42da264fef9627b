use Rattle.std.proofs.Common.{rules, ◌≡◌, ◌-◌, ◌<◌, ◌≤◌, ◌||◌, ℕ, suc, List, Err, IsTrue, nat_lt, slice_index, sym, ap, subst, ◌∙◌, arith}
use Rattle.std.proofs.lemmas.Result.{IfOk-weaker}
use Rattle.tp_counts.specs.declared.error.StoreError.TheVariants.{Damaged}
use Rattle.tp_model.specs.Disk.{DiskState}
use Rattle.tp_layout.specs.Entries.{found}
use Rattle.tp_refs.specs.Store.{Store, node_at}
use Rattle.tp_trees.specs.Tree.{is_shared_path, led_to, pairs}
use Rattle.tp_tm.specs.Tm.{counts_now}
use Rattle.tp_btree.specs.Trees.{IsStep, StandsBelow, Told, base_of}
use Rattle.tp_trees.proofs.Trees.{Led}
use Rattle.tp_btree.proofs.Looking.{child_inside, child_is, child_stands, inner, level_is, none_at_key, none_in_leaf, some_inner, told_inner, told_leaf, tree_low, tree_ranked, value_inside}
use Rattle.tp_btree.proofs.look_up.+look_below.Given.{Over}
use Rattle.tp_btree.proofs.look_up.+look_below.Goals as goal
use Rattle.tp_btree.proofs.look_up.+look_below.Goals.{After-is_many-is_shared, After-look_below, In_ok-here}

pub returns-in_err-here : goal.returns-in_err-here
returns-in_err-here g t c = record {
  told = search rules;
  damaged = λ e honest opens held s k low high st fits l u.
      let disk = g.D.Disk.state c.args.disk.now in
      let f : c.step_at.result ≡ Err Damaged = search (rules, e) in
      c.step_at.ensures.damaged f honest opens held s st.holds st.live st.closed (tree_ranked c.args.tm.now disk c.args.kind opens held s k low high c.args.block st)
      (tree_low c.args.tm.now disk c.args.kind opens held s k low high c.args.block c.args.top st fits);
  state = search rules;
}

-- the step that was taken
step_of : (g : Over) (t : ℕ) (c : In_ok-here g t) → IsTrue (g.D.Disk.state c.args.disk.now).is_honest → (opens held : List ℕ) (s : Store) (k low high : ℕ)
    → StandsBelow c.args.tm.now (g.D.Disk.state c.args.disk.now) c.args.kind opens held s k low high c.args.block → IsStep c.args.tm.now.geometry.metadata_blocks c.args.kind s c.args.key c.args.block c.in_ok-here.here
step_of g t c honest opens held s k low high st =
    c.in_ok-here.ensures.step honest opens held s st.holds st.live st.closed (tree_ranked c.args.tm.now (g.D.Disk.state c.args.disk.now) c.args.kind opens held s k low high c.args.block st)

-- whether a block down to here is named more than once
here_is : (g : Over) (t : ℕ) (c : After-is_many-is_shared g t) → c.is_many-is_shared.result ≡ (c.args.above || nat_lt 1 (slice_index (counts_now c.args.tm.now) c.args.block))
here_is g t c = c.is_many-is_shared.ensures ∙ ap (λ n. c.args.above || nat_lt 1 (slice_index (counts_now c.args.tm.now) n)) c.number.ensures.value

pub returns-then-here-gt0 : goal.returns-then-here-gt0
returns-then-here-gt0 g t c = record {
  told = search rules;
  damaged = λ e honest opens held s k low high st fits l u.
      let is = step_of g t (goal.at.returns-then-here-gt0 g t c).In_ok-here honest opens held s k low high st in
      some_inner c.args.tm.now (g.D.Disk.state c.args.disk.now) c.args.kind opens held s k low high c.args.block c.args.key st l u c.in_ok-here.here is c.in_default.is c.if-here-gt0.true;
  state = search rules;
}

pub returns-in_default : goal.returns-in_default
returns-in_default g t c = record {
  told = λ honest opens held s k low high st fits l u.
      let is = step_of g t (goal.at.returns-in_default g t c).In_ok-here honest opens held s k low high st in
      none_in_leaf c.args.tm.now (g.D.Disk.state c.args.disk.now) c.args.kind opens held s k low high c.args.block c.args.key st l u c.in_ok-here.here is c.in_default.is c.if-here-gt0.false;
  damaged = search rules;
  state = search rules;
}

pub returns-in_err-child : goal.returns-in_err-child
returns-in_err-child g t c = record {
  told = search rules;
  damaged = λ e honest opens held s k low high st fits l u.
      let is = step_of g t (goal.at.returns-in_err-child g t c).In_ok-here honest opens held s k low high st in
      omega (
        arith,
        c.in_err-child.ensures.err.1,
        child_is c.args.tm.now (g.D.Disk.state c.args.disk.now) c.args.kind opens held s k low high c.args.block c.args.key st l u c.in_ok-here.here is c.in-Some.entry c.in-Some.is c.if-here-gt0-2.true,
        child_inside c.args.tm.now (g.D.Disk.state c.args.disk.now) c.args.kind opens held s k low high c.args.block c.args.key st l u c.in_ok-here.here is c.if-here-gt0-2.true,
      );
  state = search rules;
}

-- the tree below the child, on the disk as the read left it
record Below (g : Over) (t : ℕ) (c : After-look_below g t) (opens held : List ℕ) (s : Store) (k low high : ℕ) : Type 0 where
  pub below : ℕ
  pub deeper : k ≡ suc below
  pub led : Led (base_of c.args.kind) below s low high c.args.block c.args.key
  pub at : c.in_ok-child.child ≡ led_to c.args.key (node_at s c.args.block).entries
  pub stands : StandsBelow c.args.tm.now (g.D.Disk.state c.step_at.new.disk) c.args.kind opens held s below led.from led.to c.in_ok-child.child
  pub fits : below ≤ c.in_ok-here.here.level - 1

child_tree : (g : Over) (t : ℕ) (c : After-look_below g t) → (opens held : List ℕ) (s : Store) (k low high : ℕ)
    → (st : StandsBelow c.args.tm.now (g.D.Disk.state c.args.disk.now) c.args.kind opens held s k low high c.args.block) → (l : low ≤ c.args.key) → (u : c.args.key < high)
    → IsStep c.args.tm.now.geometry.metadata_blocks c.args.kind s c.args.key c.args.block c.in_ok-here.here → Below g t c opens held s k low high
child_tree g t c opens held s k low high st l u is =
    let disk = g.D.Disk.state c.args.disk.now in
    let r = inner c.args.tm.now disk c.args.kind opens held s k low high c.args.block c.args.key st l u c.in_ok-here.here is c.if-here-gt0-2.true in
    let at : c.in_ok-child.child ≡ led_to c.args.key (node_at s c.args.block).entries =
    c.in_ok-child.ensures.inside.0 ∙ child_is c.args.tm.now disk c.args.kind opens held s k low high c.args.block c.args.key st l u c.in_ok-here.here is c.in-Some.entry c.in-Some.is c.if-here-gt0-2.true in
    record {
      below = r.0;
      deeper = r.1;
      led = r.2;
      at = at;
      stands =
          subst (λ (z : DiskState). StandsBelow c.args.tm.now z c.args.kind opens held s r.0 r.2.from r.2.to c.in_ok-child.child) (sym c.in_ok-here.ensures.state)
          (subst (λ b. StandsBelow c.args.tm.now disk c.args.kind opens held s r.0 r.2.from r.2.to b) (sym at)
          (child_stands c.args.tm.now disk c.args.kind opens held s k low high c.args.block c.args.key st l u c.in_ok-here.here is r.0 r.1 r.2));
      fits = omega (arith, r.1, level_is c.args.tm.now disk c.args.kind opens held s k low high c.args.block c.args.key st l u c.in_ok-here.here is);
    }

pub returns-then-here-gt0-2 : goal.returns-then-here-gt0-2
returns-then-here-gt0-2 g t c = record {
  told = IfOk-weaker c.look_below.result _ _
      (λ answer told honest opens held s k low high st fits l u.
      let is = step_of g t (goal.at.returns-then-here-gt0-2 g t c).In_ok-here honest opens held s k low high st in
      let r = child_tree g t (goal.at.returns-then-here-gt0-2 g t c).After-look_below opens held s k low high st l u is in
      let under = told (subst (λ (z : DiskState). IsTrue z.is_honest) (sym c.in_ok-here.ensures.state) honest) opens held s r.below r.led.from r.led.to r.stands r.fits r.led.lower r.led.upper in
      told_inner c.args.tm.now (g.D.Disk.state c.args.disk.now) c.args.kind opens held s k low high c.args.block c.args.key st l u c.in_ok-here.here is c.args.above c.is_many-is_shared.result
      (here_is g t (goal.at.returns-then-here-gt0-2 g t c).After-is_many-is_shared) answer r.below r.deeper r.led
      (subst (λ b. Told c.args.tm.now.geometry.metadata_blocks c.args.kind (found c.args.key (pairs r.below s b)) (c.is_many-is_shared.result || is_shared_path r.below s c.args.key b) answer) r.at under))
      c.look_below.ensures.told;
  damaged = λ e honest opens held s k low high st fits l u.
      let is = step_of g t (goal.at.returns-then-here-gt0-2 g t c).In_ok-here honest opens held s k low high st in
      let r = child_tree g t (goal.at.returns-then-here-gt0-2 g t c).After-look_below opens held s k low high st l u is in
      c.look_below.ensures.damaged e (subst (λ (z : DiskState). IsTrue z.is_honest) (sym c.in_ok-here.ensures.state) honest) opens held s r.below r.led.from r.led.to r.stands r.fits r.led.lower r.led.upper;
  state = search rules;
}

pub returns-in_err-reference : goal.returns-in_err-reference
returns-in_err-reference g t c = record {
  told = search rules;
  damaged = λ e honest opens held s k low high st fits l u.
      let is = step_of g t (goal.at.returns-in_err-reference g t c).In_ok-here honest opens held s k low high st in
      omega (
        arith,
        c.in_err-reference.ensures.err.1,
        c.reference.ensures.sized,
        value_inside c.args.tm.now (g.D.Disk.state c.args.disk.now) c.args.kind opens held s k low high c.args.block c.args.key st l u c.in_ok-here.here is c.in-Some.entry c.in-Some.is c.if-here-gt0-2.false,
      );
  state = search rules;
}

pub returns-then-entry-key : goal.returns-then-entry-key
returns-then-entry-key g t c = record {
  told = λ honest opens held s k low high st fits l u.
      let is = step_of g t (goal.at.returns-then-entry-key g t c).In_ok-here honest opens held s k low high st in
      none_at_key c.args.tm.now (g.D.Disk.state c.args.disk.now) c.args.kind opens held s k low high c.args.block c.args.key st l u c.in_ok-here.here is c.in-Some.entry c.in-Some.is c.if-here-gt0-2.false c.if-entry-key.true;
  damaged = search rules;
  state = search rules;
}

pub returns : goal.returns
returns g t c = record {
  told = λ honest opens held s k low high st fits l u.
      let is = step_of g t (goal.at.returns g t c).In_ok-here honest opens held s k low high st in
      told_leaf c.args.tm.now (g.D.Disk.state c.args.disk.now) c.args.kind opens held s k low high c.args.block c.args.key st l u c.in_ok-here.here is c.args.above c.is_many-is_shared.result c.is_many.result
      c.in-Some.entry c.in_ok-reference.reference c.in-Some.is c.if-here-gt0-2.false c.if-entry-key.false c.in_ok-reference.ensures.found (here_is g t (goal.at.returns g t c).After-is_many-is_shared) c.is_many.ensures;
  damaged = search rules;
  state = search rules;
}
