-- Where a reachable node stands in the trees of an image that keeps the rules.
use Rattle.std.proofs.Common.{◌≡◌, ℕ, zero, suc, Bool, true, false, List, [], ◌∷◌, refl, sym, ap, subst, ◌∙◌, arith, inl, inr}
use Rattle.std.specs.Prelude.{All, Contains, ◌^◌, if◌then◌else◌}
use Rattle.std.proofs.lemmas.Bool.{false≢true}
use Rattle.std.proofs.lemmas.List.Elements.{All-contains}
use Rattle.tp_model.specs.Geometry.{Geometry, IsTreeBlock}
use Rattle.tp_model.specs.Told.{told_blocks}
use Rattle.tp_model.specs.Sectors.{Sector}
use Rattle.tp_layout.specs.Node.{NodeValue, kind_number}
use Rattle.tp_layout.specs.declared.entry.Entry.{Entry}
use Rattle.tp_layout.specs.declared.kind.TreeKind.{TreeKind}
use Rattle.tp_layout.specs.declared.kind.TreeKind.TheVariants.{Device, Mapping}
use Rattle.tp_layout.specs.declared.superblock.Version.{Version}
use Rattle.tp_image.specs.Nodes.{IsNodeAt, LeadsTo, ends, goes}
use Rattle.tp_image.specs.Counts.{IsReachable, is_naming_data, itself, through, values}
use Rattle.tp_image.specs.Rules.{Children, IsInRange, IsTree, KeepTheRules, KeepsRules}
use Rattle.tp_image.proofs.Uniqueness.{IsNodeAt-one}
use Rattle.tp_refs.specs.Store.{MayName, rank_of}
use Rattle.tp_stored.proofs.Members.{Among, contains_among, among_contains, map_among}
use Rattle.tp_stored.proofs.Standing.{base_positive, rank_split}

child_among : (Q : ℕ → ℕ → ℕ → Type 0) (high : ℕ) (es : List Entry) → Children Q high es → (e : Entry) → Among e es → (to : ℕ) × Q e.key to e.value
child_among Q high [] h e k = absurd k
child_among Q high (x ∷ []) h e (inl p) = (high, subst (λ (y : Entry). Q y.key high y.value) p h)
child_among Q high (x ∷ []) h e (inr k) = absurd k
child_among Q high (x ∷ next ∷ es) h e (inl p) = (next.key, subst (λ (y : Entry). Q y.key next.key y.value) p h.0)
child_among Q high (x ∷ next ∷ es) h e (inr k) = child_among Q high (next ∷ es) h.1 e k

pub root_of : (image : List Sector) (g : Geometry) (kind : TreeKind) (top : Bool) (level low high b : ℕ) → IsTree image g kind top level low high b → (n : NodeValue) → IsNodeAt image b n
    → KeepsRules image g kind top level low high b n
unfolding IsTree
root_of image g kind top zero low high b t n here = subst (λ (m : NodeValue). KeepsRules image g kind top zero low high b m) (IsNodeAt-one image b t.0 n t.1.here here) t.1
root_of image g kind top (suc level) low high b t n here =
    subst (λ (m : NodeValue). KeepsRules image g kind top (suc level) low high b m) (IsNodeAt-one image b t.0 n t.1.here here) t.1

pub child_of : (image : List Sector) (g : Geometry) (kind : TreeKind) (top : Bool) (level low high b : ℕ) → IsTree image g kind top (suc level) low high b → (n : NodeValue) → IsNodeAt image b n
    → (e : Entry) → Among e n.entries → (to : ℕ) × IsTree image g kind false level e.key to e.value
unfolding IsTree
child_of image g kind top level low high b t n here e k =
    child_among (λ from to c. IsTree image g kind false level from to c) high n.entries
    (subst (λ (m : NodeValue). Children (λ from to c. IsTree image g kind false level from to c) high m.entries) (IsNodeAt-one image b t.0 n t.1.here here) t.3) e k

-- the node at the root of a tree
pub top_of : (image : List Sector) (g : Geometry) (kind : TreeKind) (top : Bool) (level low high b : ℕ) → IsTree image g kind top level low high b
    → (n : NodeValue) × KeepsRules image g kind top level low high b n
unfolding IsTree
top_of image g kind top zero low high b t = (t.0, t.1)
top_of image g kind top (suc level) low high b t = (t.0, t.1)

all_among : (P : Entry → Type 0) (es : List Entry) → All P es → (e : Entry) → Among e es → P e
all_among P es all e k = All-contains P es e all (among_contains e es k)

names_nodes : (kind : TreeKind) (level : ℕ) → ((kind ≡ Mapping) × (level ≡ 0) → ⊥) → is_naming_data kind level ≡ false
names_nodes Mapping zero inner = absurd (inner (refl, refl))
names_nodes Mapping (suc level) inner = refl
names_nodes Device level inner = refl

module _ (image : List Sector) (version : Version) (g : Geometry) (roots : List ℕ) (within : (r : ℕ) → Contains roots r → IsTreeBlock g r) (rules : (r : ℕ) → Contains roots r → KeepTheRules image version g r) where
  -- one of the roots leads to the record
  abbrev pub IsRecord : Entry → Type 0
  IsRecord e = (r : ℕ) × Contains roots r × LeadsTo image Device r e

  -- The node is the root of a tree of its level that keeps the rules, whose blocks hold nodes; each record below a node of the devices is one of a whole
  -- device tree.
  pub record Placed (n : NodeValue) : Type 0 where
    pub here : IsNodeAt image n.own n
    pub inside : IsTreeBlock g n.own
    pub top : Bool
    pub low : ℕ
    pub high : ℕ
    pub tree : IsTree image g n.kind top n.level low high n.own
    pub records : n.kind ≡ Device → (e : Entry) → LeadsTo image Device n.own e → IsRecord e

  -- the node in the block of a tree
  placed_in : (kind : TreeKind) (top : Bool) (level low high b : ℕ) → IsTreeBlock g b → IsTree image g kind top level low high b
      → (kind ≡ Device → (e : Entry) → LeadsTo image Device b e → IsRecord e) → (n : NodeValue) → IsNodeAt image b n → Placed n
  placed_in kind top level low high b inside t records n here =
      let k = root_of image g kind top level low high b t n here in
      record {
        here = subst (λ x. IsNodeAt image x n) (sym here.own) here;
        inside = subst (IsTreeBlock g) (sym here.own) inside;
        top = top;
        low = low;
        high = high;
        tree = subst (λ x. IsTree image g n.kind top n.level low high x) (sym here.own)
            (subst (λ (x : TreeKind). IsTree image g x top n.level low high b) (sym k.kind_is) (subst (λ x. IsTree image g kind top x low high b) (sym k.level_is) t));
        records = λ is e path. records (sym k.kind_is ∙ is) e (subst (λ x. LeadsTo image Device x e) here.own path);
      }

  -- what a placed node names lies where it should
  pub named_within : (p : NodeValue) → Placed p → (e : Entry) → Among e p.entries → IsInRange g (is_naming_data p.kind p.level) e.value
  named_within p h e k =
      let r = root_of image g p.kind h.top p.level h.low h.high p.own h.tree p h.here in
      all_among (λ (x : Entry). IsInRange g (is_naming_data p.kind p.level) x.value) p.entries r.values e k

  -- so where it is no data block, it is a tree block
  named_inside : (p : NodeValue) → Placed p → (e : Entry) → Among e p.entries → ((p.kind ≡ Mapping) × (p.level ≡ 0) → ⊥) → IsTreeBlock g e.value
  named_inside p h e k inner = subst (λ b. IsInRange g b e.value) (names_nodes p.kind p.level inner) (named_within p h e k)

  -- what a placed node names is placed
  below : (p n : NodeValue) → Placed p → (e : Entry) → Among e p.entries → IsNodeAt image e.value n → (kind : TreeKind) (level : ℕ) → p.kind ≡ kind → p.level ≡ level
      → ((kind ≡ Mapping) × (level ≡ 0) → ⊥) → Placed n
  below p n h e k at Mapping zero is l inner = absurd (inner (refl, refl))
  below p n h e k at Device zero is l inner =
      let path : LeadsTo image Device p.own e = ends p h.here is l (among_contains e p.entries k) in
      let r = h.records is e path in
      let w = (rules r.0 r.1).volumes e.key e.value e.mapped e.size r.2 in
      placed_in Mapping true w.level 0 (told_blocks g e.size) e.value (named_inside p h e k (λ leaf. inner (sym is ∙ leaf.0, sym l ∙ leaf.1))) w.tree (λ other. absurd (omega (arith, ap kind_number other))) n at
  below p n h e k at kind (suc level) is l inner =
      let t = subst (λ x. IsTree image g p.kind h.top x h.low h.high p.own) l h.tree in
      let c = child_of image g p.kind h.top level h.low h.high p.own t p h.here e k in
      placed_in p.kind false level e.key c.0 e.value (named_inside p h e k (λ leaf. absurd (omega (arith, l, leaf.1)))) c.1
      (λ dev x path. h.records dev x (goes p e h.here dev (omega (arith, l)) (among_contains e p.entries k) path)) n at

  -- a node stands where a placed one names it, of a rank that it may have there
  pub record IsChild (rank b : ℕ) : Type 0 where
    pub node : NodeValue
    pub here : IsNodeAt image b node
    pub may : MayName rank (rank_of node.kind node.level)

  pub child_placed : (p : NodeValue) → Placed p → (e : Entry) → Among e p.entries → (kind : TreeKind) (level : ℕ) → p.kind ≡ kind → p.level ≡ level
      → ((kind ≡ Mapping) × (level ≡ 0) → ⊥) → IsChild (rank_of kind level) e.value
  child_placed p h e k Mapping zero is l inner = absurd (inner (refl, refl))
  child_placed p h e k Device zero is l inner =
      let r = h.records is e (ends p h.here is l (among_contains e p.entries k)) in
      let w = (rules r.0 r.1).volumes e.key e.value e.mapped e.size r.2 in
      let t = top_of image g Mapping true w.level 0 (told_blocks g e.size) e.value w.tree in
      let rank : rank_of t.0.kind t.0.level ≡ suc w.level = ap (λ (x : TreeKind). rank_of x t.0.level) t.1.kind_is ∙ ap suc t.1.level_is in
      record { node = t.0; here = t.1.here; may = record { below = omega (arith, rank, w.low_enough); next = λ d. absurd (d refl); root = λ five. omega (arith, rank) } }
  child_placed p h e k kind (suc level) is l inner =
      let tree = subst (λ x. IsTree image g p.kind h.top x h.low h.high p.own) l h.tree in
      let c = child_of image g p.kind h.top level h.low h.high p.own tree p h.here e k in
      let t = top_of image g p.kind false level e.key c.0 e.value c.1 in
      let rank : rank_of t.0.kind t.0.level ≡ rank_of kind level = (λ i. rank_of ((t.1.kind_is ∙ is) i) (t.1.level_is i)) in
      record {
        node = t.0;
        here = t.1.here;
        may = record { below = omega (arith, rank, rank_split kind level, rank_split kind (suc level)); next = λ d. omega (arith, rank, rank_split kind level, rank_split kind (suc level)); root = λ five. omega (arith, rank, rank_split kind level, base_positive kind) };
      }

  naming : (b : Bool) (p : NodeValue) (v : ℕ) → is_naming_data p.kind p.level ≡ b → Contains (if b then [] else values p) v
      → (e : Entry) × Among e p.entries × (v ≡ e.value) × (((p.kind ≡ Mapping) × (p.level ≡ 0)) → ⊥)
  naming true p v is named = absurd (contains_among v [] named)
  naming false p v is named =
      let k = map_among (λ (e : Entry). e.value) v p.entries (contains_among v (values p) named) in
      (k.0, k.1, k.2, λ leaf. false≢true (sym is ∙ (ap (λ (t : TreeKind). is_naming_data t p.level) leaf.0 ∙ ap (is_naming_data Mapping) leaf.1)))

  pub placed : (n : NodeValue) → IsReachable image roots n → Placed n
  placed n (itself r x known here) = placed_in Device true (rules r known).devices.level 0 (2 ^ 24) r (within r known) (rules r known).devices.tree (λ is e path. (r, known, path)) n here
  placed n (through parent x reached named here) =
      let h = placed parent reached in
      let k = naming (is_naming_data parent.kind parent.level) parent n.own refl named in
      below parent n h k.0 k.1 (subst (λ x. IsNodeAt image x n) k.2 here) parent.kind parent.level refl refl k.3
