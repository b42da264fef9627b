use Rattle.std.proofs.Common.{rules, ◌≡◌, ◌∙◌, ◌+◌, ◌-◌, ◌*◌, ◌<◌, ◌≤◌, ◌∷◌, ◌++◌, ℕ, suc, List, Err, IsTrue, get_or, drop, None, ap, sym, subst, arith, false, map}
use Rattle.std.proofs.lemmas.Result.{IfOk-weaker, err_from_is_err_and}
use Rattle.tp_counts.specs.declared.error.StoreError.TheVariants.{Damaged}
use Rattle.std.specs.Prelude.{Result}
use Rattle.tp_counts.specs.declared.error.StoreError.{StoreError}
use Rattle.tp_btree.specs.declared.split.Parts.{Parts}
use Rattle.tp_counts.specs.StoreErrors.{is_fault}
use Rattle.tp_model.specs.Disk.{DiskState}
use Rattle.tp_layout.specs.Node.{NodeValue}
use Rattle.tp_layout.specs.Value.{node_value}
use Rattle.tp_layout.specs.Entries.{first_key, found}
use Rattle.tp_layout.specs.Entries as entries
use Rattle.tp_layout.specs.declared.entry.Entry.{Entry}
use Rattle.tp_refs.specs.Store.{Store, first_named, moved_by, node_at, node_from}
use Rattle.tp_trees.specs.Tree.{blank, pairs}
use Rattle.tp_trees.specs.Growth.{others}
use Rattle.tp_trees.proofs.Trees.{led_inner, tree_rank}
use Rattle.tp_tm.specs.Holds.{Shadowed}
use Rattle.tp_btree.specs.Trees.{base_of}
use Rattle.tp_btree.specs.Inserts.{Grew, IsBetween, Ran, Wanted, grown}
use Rattle.tp_btree.proofs.Steps.{standing}
use Rattle.tp_btree.proofs.Looking.{tree_ranked}
use Rattle.tp_btree.proofs.Walking.{level_of}
use Rattle.tp_counts.proofs.Refusing.{fault_is}
use Rattle.tp_btree.proofs.Running.{ran_more, ran_read, ran_then}
use Rattle.tp_btree.proofs.Adding.{between, entries_are, child_place, child_wanted, entries_raw, inner_grew, inner_lands, leaf_grew, leaf_lands, none_moved, wanted_stands}
use Rattle.tp_btree.proofs.growth.+add.Given.{Over}
use Rattle.tp_btree.proofs.growth.+add.Goals as goal
use Rattle.tp_btree.proofs.growth.+add.Goals.{After-block_of, After-node_in-node, In_ok-child, In_ok-parts}

pub returns-in_err-own-clause-damaged : goal.returns-in_err-own-clause-damaged
returns-in_err-own-clause-damaged g t c e honest opens held s k low high w fits =
    let tm = c.args.tm.now in
    let d = g.D.Disk.state c.args.disk.now in
    let x = moved_by (first_named tm.geometry.metadata_blocks c.args.kind 0) c.args.entry in
    let f : c.shadow.result ≡ Err Damaged = search (rules, e) in
    let st = wanted_stands tm d c.args.kind opens held s k low high c.args.from x w in
    c.shadow.ensures.damaged f honest opens (x.value ∷ held) s w.holds (tree_ranked tm d c.args.kind opens (c.args.from ∷ x.value ∷ held) s k low high c.args.from st) (omega (arith, w.room))

-- what is known once the block was opened and its node read
record Opened (g : Over) (t : ℕ) (c : After-node_in-node g t) (opens held : List ℕ) (s : Store) (k : ℕ) (value : ℕ) : Type 0 where
  pub shadowed : Shadowed s c.shadow.new.self (g.D.Disk.state c.args.disk.now) c.in_ok-own.own c.args.from opens (value ∷ held)
  pub node : NodeValue
  pub kind : node.kind ≡ c.args.kind
  pub same : node_at s c.args.from ≡ node_from c.args.tm.now.geometry.metadata_blocks node
  pub read : node_value c.node_in-node.result ≡ record node { own = c.in_ok-own.own }
  pub level : node.level ≡ k
  pub here : c.node_in-node.result.level ≡ k

opened : (g : Over) (t : ℕ) (c : After-node_in-node g t) → IsTrue (g.D.Disk.state c.args.disk.now).is_honest → (opens held : List ℕ) (s : Store) (k low high : ℕ) (x : Entry)
    → Wanted c.args.tm.now (g.D.Disk.state c.args.disk.now) c.args.kind opens held s k low high c.args.from x → Opened g t c opens held s k x.value
opened g t c honest opens held s k low high x w =
    let tm = c.args.tm.now in
    let d = g.D.Disk.state c.args.disk.now in
    let st = wanted_stands tm d c.args.kind opens held s k low high c.args.from x w in
    let ranked = tree_ranked tm d c.args.kind opens (c.args.from ∷ x.value ∷ held) s k low high c.args.from st in
    let r = standing tm d c.args.kind opens (c.args.from ∷ x.value ∷ held) s c.args.from st.holds st.live st.closed ranked in
    let read : node_value c.node_in-node.result ≡ record { kind = r.node.kind; level = r.node.level; own = c.in_ok-own.own; entries = r.node.entries } =
    c.node_in-node.ensures.value r.node r.there.good r.kind_is (c.in_ok-own.ensures.found honest ∙ r.there.bytes) in
    let level : r.node.level ≡ k = level_of tm d c.args.kind opens (c.args.from ∷ x.value ∷ held) s k low high c.args.from st r.node r.kind_is r.same in
    record {
      shadowed = c.in_ok-own.ensures.shadowed honest opens (x.value ∷ held) s w.holds ranked (omega (arith, w.room));
      node = r.node;
      kind = r.kind_is;
      same = r.same;
      read = read;
      level = level;
      here = ap (λ (v : NodeValue). v.level) read ∙ level;
    }

pub returns-then-node-eq0-clause-grew : goal.returns-then-node-eq0-clause-grew
returns-then-node-eq0-clause-grew g t c = IfOk-weaker c.put_new.result _ _
    (λ parts placed honest opens held s k low high w fits.
    let tm = c.args.tm.now in
    let d = g.D.Disk.state c.args.disk.now in
    let m = tm.geometry.metadata_blocks in
    let x = moved_by (first_named m c.args.kind 0) c.args.entry in
    let o = opened g t (goal.at.returns-then-node-eq0-clause-grew g t c).After-node_in-node honest opens held s k low high x w in
    let flat : k ≡ 0 = sym o.here ∙ c.if-node-eq0.true in
    leaf_grew tm d c.args.kind opens held s k low high c.args.from x w c.shadow.new.self c.in_ok-own.own o.shadowed flat c.put_new.new.tm (g.D.Disk.state c.put_new.new.disk) (grown parts)
    (leaf_lands m c.shadow.new.self.geometry.metadata_blocks (ap (λ z. z.metadata_blocks) c.in_ok-own.ensures.kept.0) c.args.kind s c.args.from c.in_ok-own.own o.node (node_value c.node_in-node.result) o.read o.kind o.same
    c.args.entry (o.level ∙ flat) c.shadow.new.self (g.D.Disk.state c.shadow.new.disk) d c.put_new.new.tm (g.D.Disk.state c.put_new.new.disk) (grown parts) c.in_ok-own.ensures.state placed))
    c.put_new.ensures.placed

pub returns-then-node-eq0-clause-damaged : goal.returns-then-node-eq0-clause-damaged
returns-then-node-eq0-clause-damaged g t c e honest opens held s k low high w fits =
    let tm = c.args.tm.now in
    let d = g.D.Disk.state c.args.disk.now in
    let m = tm.geometry.metadata_blocks in
    let f = first_named m c.args.kind 0 in
    let key = c.args.entry.key in
    let x = moved_by (first_named m c.args.kind 0) c.args.entry in
    let o = opened g t (goal.at.returns-then-node-eq0-clause-damaged g t c).After-node_in-node honest opens held s k low high x w in
    let flat : k ≡ 0 = sym o.here ∙ c.if-node-eq0.true in
    let absent : found c.args.entry.key (node_at s c.args.from).entries ≡ None = subst (λ j. found c.args.entry.key (pairs j s c.args.from) ≡ None) flat w.adding.absent in
    let es : (node_at s c.args.from).entries ≡ map (moved_by (first_named m c.args.kind 0)) o.node.entries =
    entries_are m c.shadow.new.self.geometry.metadata_blocks (ap (λ z. z.metadata_blocks) c.in_ok-own.ensures.kept.0) c.args.kind s c.args.from c.in_ok-own.own o.node (node_value c.node_in-node.result) o.read o.kind o.same
    ∙ ap (λ l. map (moved_by (first_named m c.args.kind l)) o.node.entries) (o.level ∙ flat) in
    c.put_new.ensures.damaged e (ap (λ (v : NodeValue). found key v.entries) o.read ∙ none_moved f key o.node.entries (ap (found key) (sym es) ∙ absent))

pub returns-then-node-top-clause-damaged : goal.returns-then-node-top-clause-damaged
returns-then-node-top-clause-damaged g t c e honest opens held s k low high w fits =
    let x = moved_by (first_named c.args.tm.now.geometry.metadata_blocks c.args.kind 0) c.args.entry in
    let o = opened g t (goal.at.returns-then-node-top-clause-damaged g t c).After-node_in-node honest opens held s k low high x w in
    omega (arith, o.here, fits, c.if-node-top.true)

-- the read and the block that was opened
opened_ran : (g : Over) (t : ℕ) (c : After-node_in-node g t) → Ran 1 false c.args.tm.now c.shadow.new.self (g.D.Disk.state c.args.disk.now) (g.D.Disk.state c.shadow.new.disk)
opened_ran g t c =
    ran_read 1 false c.args.tm.now c.shadow.new.self (g.D.Disk.state c.args.disk.now) (g.D.Disk.state c.shadow.new.disk) c.in_ok-own.ensures.kept.0 c.in_ok-own.ensures.kept.1 c.in_ok-own.ensures.kept.2 c.in_ok-own.ensures.kept.3 c.in_ok-own.ensures.free c.in_ok-own.ensures.used c.in_ok-own.ensures.state

pub returns-then-node-top-clause-ran : goal.returns-then-node-top-clause-ran
returns-then-node-top-clause-ran g t c =
    ran_more 1 (2 * (c.args.top + 1)) false c.args.tm.now c.shadow.new.self (g.D.Disk.state c.args.disk.now) (g.D.Disk.state c.shadow.new.disk) (omega arith) (opened_ran g t (goal.at.returns-then-node-top-clause-ran g t c).After-node_in-node)

-- the store's entries are those in memory
raw : (g : Over) (t : ℕ) (c : After-node_in-node g t) (opens held : List ℕ) (s : Store) (k v : ℕ) → Opened g t c opens held s k v → 0 < c.node_in-node.result.level → (node_at s c.args.from).entries ≡ c.node_in-node.result.entries.items
raw g t c opens held s k v o more =
    entries_raw c.args.tm.now.geometry.metadata_blocks c.shadow.new.self.geometry.metadata_blocks (ap (λ z. z.metadata_blocks) c.in_ok-own.ensures.kept.0) c.args.kind s c.args.from c.in_ok-own.own o.node (node_value c.node_in-node.result) o.read o.kind o.same
    (omega (arith, more, o.here, o.level))

pub returns-then-rank-eq0-clause-damaged : goal.returns-then-rank-eq0-clause-damaged
returns-then-rank-eq0-clause-damaged g t c e honest opens held s k low high w fits =
    let x = moved_by (first_named c.args.tm.now.geometry.metadata_blocks c.args.kind 0) c.args.entry in
    let a = (goal.at.returns-then-rank-eq0-clause-damaged g t c).After-node_in-node in
    let o = opened g t a honest opens held s k low high x w in
    let es = raw g t a opens held s k x.value o (omega (arith, c.if-node-eq0.false)) in
    let r = led_inner (base_of c.args.kind) k s low high c.args.from x.key w.adding.tree (λ f. omega (arith, f, tree_rank (base_of c.args.kind) k s low high c.args.from w.adding.tree, o.here, c.if-node-eq0.false)) w.adding.lower w.adding.upper in
    omega (arith, r.2.placed, ap (entries.rank_of c.args.entry.key) es, c.rank-rank.ensures.value, c.if-rank-eq0.true)

pub returns-then-rank-eq0-clause-ran : goal.returns-then-rank-eq0-clause-ran
returns-then-rank-eq0-clause-ran g t c =
    ran_more 1 (2 * (c.args.top + 1)) false c.args.tm.now c.shadow.new.self (g.D.Disk.state c.args.disk.now) (g.D.Disk.state c.shadow.new.disk) (omega arith) (opened_ran g t (goal.at.returns-then-rank-eq0-clause-ran g t c).After-node_in-node)

-- the entry of the child that the key leads to
record Deep (g : Over) (t : ℕ) (c : After-node_in-node g t) (s : Store) (k rank : ℕ) : Type 0 where
  pub below : ℕ
  pub deeper : k ≡ suc below
  pub index : entries.rank_of c.args.entry.key (node_at s c.args.from).entries ≡ suc (rank - 1)
  pub es : (node_at s c.args.from).entries ≡ c.node_in-node.result.entries.items
  pub fits : below ≤ c.node_in-node.result.level - 1

deep : (g : Over) (t : ℕ) (c : After-node_in-node g t) (opens held : List ℕ) (s : Store) (k low high rank : ℕ)
    → (w : Wanted c.args.tm.now (g.D.Disk.state c.args.disk.now) c.args.kind opens held s k low high c.args.from (moved_by (first_named c.args.tm.now.geometry.metadata_blocks c.args.kind 0) c.args.entry))
    → Opened g t c opens held s k (moved_by (first_named c.args.tm.now.geometry.metadata_blocks c.args.kind 0) c.args.entry).value
    → 0 < c.node_in-node.result.level → 0 < rank → rank ≡ entries.rank_of c.args.entry.key c.node_in-node.result.entries.items → Deep g t c s k rank
deep g t c opens held s k low high rank w o inner more at =
    let x = moved_by (first_named c.args.tm.now.geometry.metadata_blocks c.args.kind 0) c.args.entry in
    let es = raw g t c opens held s k x.value o inner in
    let r = led_inner (base_of c.args.kind) k s low high c.args.from x.key w.adding.tree (λ f. omega (arith, f, tree_rank (base_of c.args.kind) k s low high c.args.from w.adding.tree, o.here, inner)) w.adding.lower w.adding.upper in
    record {
      below = r.0;
      deeper = r.1;
      index = ap (entries.rank_of c.args.entry.key) es ∙ omega (arith, at, more);
      es = es;
      fits = omega (arith, r.1, o.here);
    }

pub returns-in_err-child-clause-damaged : goal.returns-in_err-child-clause-damaged
returns-in_err-child-clause-damaged g t c e honest opens held s k low high w fits =
    let tm = c.args.tm.now in
    let d = g.D.Disk.state c.args.disk.now in
    let x = moved_by (first_named tm.geometry.metadata_blocks c.args.kind 0) c.args.entry in
    let a = (goal.at.returns-in_err-child-clause-damaged g t c).After-node_in-node in
    let o = opened g t a honest opens held s k low high x w in
    let i = c.rank-rank.result - 1 in
    let q = deep g t a opens held s k low high c.rank-rank.result w o (omega (arith, c.if-node-eq0.false)) (omega (arith, c.if-rank-eq0.false)) c.rank-rank.ensures.value in
    let same : (get_or c.deref.result.now (c.rank-rank.result - 1) blank).value ≡ (get_or (node_at s c.args.from).entries (c.rank-rank.result - 1) blank).value =
    ap (λ xs. (get_or xs i blank).value) (c.deref.ensures.0 ∙ sym q.es) in
    omega (arith, c.in_err-child.ensures.err.1, same, child_place tm d c.args.kind opens held s k low high c.args.from x w c.shadow.new.self c.in_ok-own.own o.shadowed q.below i q.deeper q.index)

pub returns-in_err-child-clause-ran : goal.returns-in_err-child-clause-ran
returns-in_err-child-clause-ran g t c =
    let d0 = g.D.Disk.state c.args.disk.now in
    let d1 = g.D.Disk.state c.shadow.new.disk in
    let p = err_from_is_err_and c.from_residual-in_err-child.result c.from_residual-in_err-child.ensures.1 in
    let failed : c.from_residual-in_err-child.result ≡ Err Damaged = p.1 ∙ ap Err (p.2 ∙ c.in_err-child.ensures.err.0) in
    subst (λ (r : Result Parts StoreError). Ran (2 * (c.args.top + 1)) (is_fault r) c.args.tm.now c.shadow.new.self d0 d1) (sym failed)
    (ran_more 1 (2 * (c.args.top + 1)) false c.args.tm.now c.shadow.new.self d0 d1 (omega arith) (opened_ran g t (goal.at.returns-in_err-child-clause-ran g t c).After-node_in-node))

-- the same for the child, on the disk as the read left it
child_ready : (g : Over) (t : ℕ) (c : After-node_in-node g t) (opens held : List ℕ) (s : Store) (k low high rank child : ℕ)
    → (w : Wanted c.args.tm.now (g.D.Disk.state c.args.disk.now) c.args.kind opens held s k low high c.args.from (moved_by (first_named c.args.tm.now.geometry.metadata_blocks c.args.kind 0) c.args.entry))
    → (o : Opened g t c opens held s k (moved_by (first_named c.args.tm.now.geometry.metadata_blocks c.args.kind 0) c.args.entry).value)
    → (q : Deep g t c s k rank) → child ≡ (get_or (node_at s c.args.from).entries (rank - 1) blank).value
    → Wanted c.shadow.new.self (g.D.Disk.state c.shadow.new.disk) c.args.kind (c.in_ok-own.own ∷ opens) (others (node_at s c.args.from).entries (rank - 1) ++ held) o.shadowed.after q.below
    (get_or (node_at s c.args.from).entries (rank - 1) blank).key (first_key (drop (suc (rank - 1)) (node_at s c.args.from).entries) high) child
    (moved_by (first_named c.shadow.new.self.geometry.metadata_blocks c.args.kind 0) c.args.entry)
child_ready g t c opens held s k low high rank child w o q at =
    let u = c.shadow.new.self in
    let d = g.D.Disk.state c.args.disk.now in
    let kind = c.args.kind in
    let m = c.args.tm.now.geometry.metadata_blocks in
    let x = moved_by (first_named m kind 0) c.args.entry in
    let es = (node_at s c.args.from).entries in
    let i = rank - 1 in
    let low' = (get_or es i blank).key in
    let high' = first_key (drop (suc i) es) high in
    let size : m ≡ u.geometry.metadata_blocks = sym (ap (λ z. z.metadata_blocks) c.in_ok-own.ensures.kept.0) in
    subst (λ n. Wanted u (g.D.Disk.state c.shadow.new.disk) kind (c.in_ok-own.own ∷ opens) (others es i ++ held) o.shadowed.after q.below low' high' child (moved_by (first_named n kind 0) c.args.entry)) size
    (subst (λ b. Wanted u (g.D.Disk.state c.shadow.new.disk) kind (c.in_ok-own.own ∷ opens) (others es i ++ held) o.shadowed.after q.below low' high' b x) (sym at)
    (subst (λ (z : DiskState). Wanted u z kind (c.in_ok-own.own ∷ opens) (others es i ++ held) o.shadowed.after q.below low' high' (get_or es i blank).value x) (sym c.in_ok-own.ensures.state)
    (child_wanted c.args.tm.now d kind opens held s k low high c.args.from x w u c.in_ok-own.own o.shadowed q.below i q.deeper q.index)))

pub returns-in_err-parts-clause-damaged : goal.returns-in_err-parts-clause-damaged
returns-in_err-parts-clause-damaged g t c e honest opens held s k low high w fits =
    let tm = c.args.tm.now in
    let x = moved_by (first_named tm.geometry.metadata_blocks c.args.kind 0) c.args.entry in
    let f : c.add.result ≡ Err Damaged = search (rules, e) in
    let a = (goal.at.returns-in_err-parts-clause-damaged g t c).After-node_in-node in
    let o = opened g t a honest opens held s k low high x w in
    let i = c.rank-rank.result - 1 in
    let q = deep g t a opens held s k low high c.rank-rank.result w o (omega (arith, c.if-node-eq0.false)) (omega (arith, c.if-rank-eq0.false)) c.rank-rank.ensures.value in
    let at : c.in_ok-child.child ≡ (get_or (node_at s c.args.from).entries (c.rank-rank.result - 1) blank).value =
    c.in_ok-child.ensures.inside.0 ∙ ap (λ xs. (get_or xs i blank).value) (c.deref.ensures.0 ∙ sym q.es) in
    c.add.ensures.damaged f (subst (λ (z : DiskState). IsTrue z.is_honest) (sym c.in_ok-own.ensures.state) honest) (c.in_ok-own.own ∷ opens) (others (node_at s c.args.from).entries i ++ held) o.shadowed.after q.below
    (get_or (node_at s c.args.from).entries i blank).key (first_key (drop (suc i) (node_at s c.args.from).entries) high) (child_ready g t a opens held s k low high c.rank-rank.result c.in_ok-child.child w o q at) q.fits

pub returns-clause-grew : goal.returns-clause-grew
returns-clause-grew g t c = IfOk-weaker c.graft.result _ _
    (λ made grafted honest opens held s k low high w fits.
    let tm = c.args.tm.now in
    let d = g.D.Disk.state c.args.disk.now in
    let m = tm.geometry.metadata_blocks in
    let kind = c.args.kind in
    let u = c.shadow.new.self in
    let u2 = c.add.new.tm in
    let d2 = g.D.Disk.state c.add.new.disk in
    let x = moved_by (first_named m c.args.kind 0) c.args.entry in
    let a = (goal.at.returns-clause-grew g t c).After-node_in-node in
    let o = opened g t a honest opens held s k low high x w in
    let i = c.rank-rank.result - 1 in
    let es = (node_at s c.args.from).entries in
    let inner : 0 < c.node_in-node.result.level = omega (arith, c.if-node-eq0.false) in
    let q = deep g t a opens held s k low high c.rank-rank.result w o inner (omega (arith, c.if-rank-eq0.false)) c.rank-rank.ensures.value in
    let at : c.in_ok-child.child ≡ (get_or (node_at s c.args.from).entries (c.rank-rank.result - 1) blank).value =
    c.in_ok-child.ensures.inside.0 ∙ ap (λ xs. (get_or xs i blank).value) (c.deref.ensures.0 ∙ sym q.es) in
    let size : u.geometry.metadata_blocks ≡ m = ap (λ z. z.metadata_blocks) c.in_ok-own.ensures.kept.0 in
    let gr0 = c.in_ok-parts.ensures.grew (subst (λ (z : DiskState). IsTrue z.is_honest) (sym c.in_ok-own.ensures.state) honest) (c.in_ok-own.own ∷ opens) (others es i ++ held) o.shadowed.after q.below
    (get_or es i blank).key (first_key (drop (suc i) es) high) (child_ready g t a opens held s k low high c.rank-rank.result c.in_ok-child.child w o q at) q.fits in
    let gr : Grew o.shadowed.after c.add.new.tm (g.D.Disk.state c.add.new.disk) c.args.kind (c.in_ok-own.own ∷ opens) (others (node_at s c.args.from).entries (c.rank-rank.result - 1) ++ held) q.below
    (get_or (node_at s c.args.from).entries (c.rank-rank.result - 1) blank).key (first_key (drop (suc (c.rank-rank.result - 1)) (node_at s c.args.from).entries) high)
    (get_or (node_at s c.args.from).entries (c.rank-rank.result - 1) blank).value (moved_by (first_named tm.geometry.metadata_blocks c.args.kind 0) c.args.entry) (grown c.in_ok-parts.parts) =
    subst (λ n. Grew o.shadowed.after u2 d2 kind (c.in_ok-own.own ∷ opens) (others es i ++ held) q.below (get_or es i blank).key (first_key (drop (suc i) es) high) (get_or es i blank).value (moved_by (first_named n kind 0) c.args.entry) (grown c.in_ok-parts.parts)) size
    (subst (λ b. Grew o.shadowed.after u2 d2 kind (c.in_ok-own.own ∷ opens) (others es i ++ held) q.below (get_or es i blank).key (first_key (drop (suc i) es) high) b (moved_by (first_named u.geometry.metadata_blocks kind 0) c.args.entry) (grown c.in_ok-parts.parts)) at gr0) in
    let b = between tm d kind opens held s k low high c.args.from x w u c.in_ok-own.own o.shadowed q.below i q.deeper q.index u2 d2 (grown c.in_ok-parts.parts) gr in
    inner_grew tm d kind opens held s k low high c.args.from x w u c.in_ok-own.own o.shadowed q.below i q.deeper q.index u2 d2 (grown c.in_ok-parts.parts) gr c.graft.new.tm (g.D.Disk.state c.graft.new.disk) (grown made)
    (inner_lands m u2.geometry.metadata_blocks (ap (λ z. z.metadata_blocks) c.in_ok-parts.ensures.ran.geometry ∙ size) kind s c.args.from c.in_ok-own.own o.node (node_value c.node_in-node.result) o.read o.kind o.same i (grown c.in_ok-parts.parts)
    (omega (arith, inner, o.here, o.level)) u2 d2 c.graft.new.tm (g.D.Disk.state c.graft.new.disk) (grown made) (grafted (subst (λ xs. IsBetween xs i (grown c.in_ok-parts.parts)) q.es b))))
    c.graft.ensures.grafted

pub returns-clause-damaged : goal.returns-clause-damaged
returns-clause-damaged g t c e honest opens held s k low high w fits =
    let tm = c.args.tm.now in
    let d = g.D.Disk.state c.args.disk.now in
    let m = tm.geometry.metadata_blocks in
    let kind = c.args.kind in
    let u = c.shadow.new.self in
    let u2 = c.add.new.tm in
    let d2 = g.D.Disk.state c.add.new.disk in
    let x = moved_by (first_named m c.args.kind 0) c.args.entry in
    let a = (goal.at.returns-clause-damaged g t c).After-node_in-node in
    let o = opened g t a honest opens held s k low high x w in
    let i = c.rank-rank.result - 1 in
    let es = (node_at s c.args.from).entries in
    let inner : 0 < c.node_in-node.result.level = omega (arith, c.if-node-eq0.false) in
    let q = deep g t a opens held s k low high c.rank-rank.result w o inner (omega (arith, c.if-rank-eq0.false)) c.rank-rank.ensures.value in
    let at : c.in_ok-child.child ≡ (get_or (node_at s c.args.from).entries (c.rank-rank.result - 1) blank).value =
    c.in_ok-child.ensures.inside.0 ∙ ap (λ xs. (get_or xs i blank).value) (c.deref.ensures.0 ∙ sym q.es) in
    let size : u.geometry.metadata_blocks ≡ m = ap (λ z. z.metadata_blocks) c.in_ok-own.ensures.kept.0 in
    let gr0 = c.in_ok-parts.ensures.grew (subst (λ (z : DiskState). IsTrue z.is_honest) (sym c.in_ok-own.ensures.state) honest) (c.in_ok-own.own ∷ opens) (others es i ++ held) o.shadowed.after q.below
    (get_or es i blank).key (first_key (drop (suc i) es) high) (child_ready g t a opens held s k low high c.rank-rank.result c.in_ok-child.child w o q at) q.fits in
    let gr : Grew o.shadowed.after c.add.new.tm (g.D.Disk.state c.add.new.disk) c.args.kind (c.in_ok-own.own ∷ opens) (others (node_at s c.args.from).entries (c.rank-rank.result - 1) ++ held) q.below
    (get_or (node_at s c.args.from).entries (c.rank-rank.result - 1) blank).key (first_key (drop (suc (c.rank-rank.result - 1)) (node_at s c.args.from).entries) high)
    (get_or (node_at s c.args.from).entries (c.rank-rank.result - 1) blank).value (moved_by (first_named tm.geometry.metadata_blocks c.args.kind 0) c.args.entry) (grown c.in_ok-parts.parts) =
    subst (λ n. Grew o.shadowed.after u2 d2 kind (c.in_ok-own.own ∷ opens) (others es i ++ held) q.below (get_or es i blank).key (first_key (drop (suc i) es) high) (get_or es i blank).value (moved_by (first_named n kind 0) c.args.entry) (grown c.in_ok-parts.parts)) size
    (subst (λ b. Grew o.shadowed.after u2 d2 kind (c.in_ok-own.own ∷ opens) (others es i ++ held) q.below (get_or es i blank).key (first_key (drop (suc i) es) high) b (moved_by (first_named u.geometry.metadata_blocks kind 0) c.args.entry) (grown c.in_ok-parts.parts)) at gr0) in
    let b = between tm d kind opens held s k low high c.args.from x w u c.in_ok-own.own o.shadowed q.below i q.deeper q.index u2 d2 (grown c.in_ok-parts.parts) gr in
    c.graft.ensures.damaged e (subst (λ xs. IsBetween xs i (grown c.in_ok-parts.parts)) q.es b)

pub returns-in_err-parts-clause-ran : goal.returns-in_err-parts-clause-ran
returns-in_err-parts-clause-ran g t c =
    let d0 = g.D.Disk.state c.args.disk.now in
    let d1 = g.D.Disk.state c.shadow.new.disk in
    let d2 = g.D.Disk.state c.add.new.disk in
    let p = err_from_is_err_and c.from_residual-in_err-parts.result c.from_residual-in_err-parts.ensures.1 in
    subst (λ b. Ran (2 * (c.args.top + 1)) b c.args.tm.now c.add.new.tm d0 d2) (sym (fault_is c.from_residual-in_err-parts.result p.0 c.in_err-parts.field-0.0 p.1 p.2))
    (ran_then 1 (2 * (c.node_in-node.result.level - 1 + 1)) (2 * (c.args.top + 1)) _ c.args.tm.now c.shadow.new.self c.add.new.tm d0 d1 d2 (omega (arith, c.if-node-top.false, c.if-node-eq0.false))
    (opened_ran g t (goal.at.returns-in_err-parts-clause-ran g t c).After-node_in-node) c.in_err-parts.ensures.ran)

pub returns-clause-ran : goal.returns-clause-ran
returns-clause-ran g t c =
    let d0 = g.D.Disk.state c.args.disk.now in
    let d1 = g.D.Disk.state c.shadow.new.disk in
    let d2 = g.D.Disk.state c.add.new.disk in
    let d3 = g.D.Disk.state c.graft.new.disk in
    ran_then 1 (2 * (c.node_in-node.result.level - 1 + 1) + 1) (2 * (c.args.top + 1)) (is_fault c.graft.result) c.args.tm.now c.shadow.new.self c.graft.new.tm d0 d1 d3 (omega (arith, c.if-node-top.false, c.if-node-eq0.false))
    (opened_ran g t (goal.at.returns-clause-ran g t c).After-node_in-node)
    (ran_then (2 * (c.node_in-node.result.level - 1 + 1)) 1 (2 * (c.node_in-node.result.level - 1 + 1) + 1) (is_fault c.graft.result) c.shadow.new.self c.add.new.tm c.graft.new.tm d1 d2 d3 (omega arith) c.in_ok-parts.ensures.ran c.graft.ensures.ran)

pub returns-in_err-parts-clause-room : goal.returns-in_err-parts-clause-room
returns-in_err-parts-clause-room g t c honest opens held s k low high w fits =
    let tm = c.args.tm.now in
    let x = moved_by (first_named tm.geometry.metadata_blocks c.args.kind 0) c.args.entry in
    let a = (goal.at.returns-in_err-parts-clause-room g t c).After-node_in-node in
    let o = opened g t a honest opens held s k low high x w in
    let i = c.rank-rank.result - 1 in
    let q = deep g t a opens held s k low high c.rank-rank.result w o (omega (arith, c.if-node-eq0.false)) (omega (arith, c.if-rank-eq0.false)) c.rank-rank.ensures.value in
    let at : c.in_ok-child.child ≡ (get_or (node_at s c.args.from).entries (c.rank-rank.result - 1) blank).value =
    c.in_ok-child.ensures.inside.0 ∙ ap (λ xs. (get_or xs i blank).value) (c.deref.ensures.0 ∙ sym q.es) in
    let r = c.add.ensures.room (subst (λ (z : DiskState). IsTrue z.is_honest) (sym c.in_ok-own.ensures.state) honest) (c.in_ok-own.own ∷ opens) (others (node_at s c.args.from).entries i ++ held) o.shadowed.after q.below
    (get_or (node_at s c.args.from).entries i blank).key (first_key (drop (suc i) (node_at s c.args.from).entries) high) (child_ready g t a opens held s k low high c.rank-rank.result c.in_ok-child.child w o q at) q.fits in
    omega (arith, r, c.in_ok-own.ensures.free, q.deeper)

pub returns-clause-room : goal.returns-clause-room
returns-clause-room g t c honest opens held s k low high w fits =
    let tm = c.args.tm.now in
    let x = moved_by (first_named tm.geometry.metadata_blocks c.args.kind 0) c.args.entry in
    let a = (goal.at.returns-clause-room g t c).After-node_in-node in
    let o = opened g t a honest opens held s k low high x w in
    let i = c.rank-rank.result - 1 in
    let q = deep g t a opens held s k low high c.rank-rank.result w o (omega (arith, c.if-node-eq0.false)) (omega (arith, c.if-rank-eq0.false)) c.rank-rank.ensures.value in
    let at : c.in_ok-child.child ≡ (get_or (node_at s c.args.from).entries (c.rank-rank.result - 1) blank).value =
    c.in_ok-child.ensures.inside.0 ∙ ap (λ xs. (get_or xs i blank).value) (c.deref.ensures.0 ∙ sym q.es) in
    let r = c.add.ensures.room (subst (λ (z : DiskState). IsTrue z.is_honest) (sym c.in_ok-own.ensures.state) honest) (c.in_ok-own.own ∷ opens) (others (node_at s c.args.from).entries i ++ held) o.shadowed.after q.below
    (get_or (node_at s c.args.from).entries i blank).key (first_key (drop (suc i) (node_at s c.args.from).entries) high) (child_ready g t a opens held s k low high c.rank-rank.result c.in_ok-child.child w o q at) q.fits in
    omega (arith, r, c.in_ok-own.ensures.free, q.deeper, c.graft.ensures.ran.room)

pub returns-then-node-eq0-clause-ran : goal.returns-then-node-eq0-clause-ran
returns-then-node-eq0-clause-ran g t c =
    ran_then 1 1 (2 * (c.args.top + 1)) (is_fault c.put_new.result) c.args.tm.now c.shadow.new.self c.put_new.new.tm (g.D.Disk.state c.args.disk.now) (g.D.Disk.state c.shadow.new.disk) (g.D.Disk.state c.put_new.new.disk) (omega arith)
    (opened_ran g t (goal.at.returns-then-node-eq0-clause-ran g t c).After-node_in-node) c.put_new.ensures.ran
