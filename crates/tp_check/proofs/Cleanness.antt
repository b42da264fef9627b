-- A clean image has no fault.
use Rattle.std.proofs.Common.{◌≡◌, ℕ, zero, suc, Bool, false, ◌+◌, ◌-◌, ◌<◌, ◌≤◌, List, [], ◌∷◌, length, get_or, map, Some, inl, inr, ◌⊎◌, refl, sym, ap, ◌∙◌, subst, arith}
use Rattle.std.specs.Prelude.{◌==◌, nat_eq, MatchOption, Result, Ok, Err, slice_get, Contains, count_by, sum_by}
use Rattle.std.specs.List.{AllByRecursion, IsDistinct, remove}
use Rattle.std.specs.List.Sorted.{IsStrictlyIncreasing}
use Rattle.std.proofs.lemmas.Bool.{cases_lt, eq-eqb, false≢true}
use Rattle.std.proofs.lemmas.List.{get_or_default}
use Rattle.std.proofs.lemmas.List.Edits.{get_or-remove_above, get_or-remove_below, length-remove}
use Rattle.std.proofs.lemmas.List.Elements.{All-contains}
use Rattle.std.proofs.lemmas.List.Sums.{sum_by-cons, sum_by-remove}
use Rattle.std.proofs.lemmas.Option.{none-some, same_Some}
use Rattle.tp_model.specs.declared.refusal.Refusal.{Refusal}
use Rattle.tp_model.specs.Geometry.{Geometry, sectors_of_image}
use Rattle.tp_model.specs.Sectors.{Sector}
use Rattle.tp_layout.specs.Node.{NodeValue, keys}
use Rattle.tp_layout.specs.Super.{roots_of}
use Rattle.tp_layout.specs.declared.counts.Part.{Part}
use Rattle.tp_layout.specs.declared.counts.Part.TheVariants.{Data, Metadata}
use Rattle.tp_layout.specs.declared.entry.Entry.{Entry}
use Rattle.tp_layout.specs.declared.kind.TreeKind.{TreeKind}
use Rattle.tp_layout.specs.declared.kind.TreeKind.TheVariants.{Device}
use Rattle.tp_layout.specs.declared.superblock.Superblock.{Superblock}
use Rattle.tp_layout.specs.declared.superblock.Version.{Version}
use Rattle.tp_image.specs.Clean.{IsClean, true_count}
use Rattle.tp_image.specs.Counts.{AreReachable, data_names, is_naming_data, metadata_names, times_named}
use Rattle.tp_image.specs.Faults.{HasBadCount, HasBadMapped, HasBadNode, HasBadOrder, HasBadRecordSize, HasBadSuper, HasHalfEmpty, HasOutOfPlace, IsFormedAs, IsNamed, Name, child, devices, end_of, entry, few, is_root, many, nonzero, unformed, untrue, volume}
use Rattle.tp_image.specs.Nodes.{IsNodeAt, block_at, ends}
use Rattle.tp_image.specs.Rules.{BeginsAt, Children, IsInRange, IsRecordSize, IsTree, KeepTheRules, KeepsRules, least_of}
use Rattle.tp_image.specs.Slots.{Chooses}
use Rattle.tp_image.proofs.AreaLaws.{HoldsCounts-one}
use Rattle.tp_image.proofs.Uniqueness.{IsFormed-one, IsNodeAt-one}
use Rattle.tp_super.proofs.Choice.{Chooses-one, same_superblock}
use Rattle.tp_check.specs.declared.error.CheckError.{CheckError}
use Rattle.tp_check.specs.declared.error.CheckError.TheVariants.{Fault, Memory, BadSuper, BadNode, BadOrder, BadCount, OutOfPlace, HalfEmpty, BadMapped, BadRecordSize}
use Rattle.tp_check.specs.Found.{HasFault}
use Rattle.tp_check.proofs.Closing.{cons_cases, cons_more}
use Rattle.tp_check.proofs.Telling.{named_device, node_at_name}

-- ---- the tree below a name

children_at : (Q : ℕ → ℕ → ℕ → Type 0) (high : ℕ) (es : List Entry) → Children Q high es → (k : ℕ) (e : Entry) → slice_get es k ≡ Some e → Q e.key (end_of (slice_get es (suc k)) high) e.value
children_at Q high [] h k e at = absurd (none-some e at)
children_at Q high (x ∷ []) h zero e at = subst (λ (y : Entry). Q y.key high y.value) (same_Some x e at) h
children_at Q high (x ∷ []) h (suc k) e at = absurd (none-some e at)
children_at Q high (x ∷ next ∷ es) h zero e at = subst (λ (y : Entry). Q y.key next.key y.value) (same_Some x e at) h.0
children_at Q high (x ∷ next ∷ es) h (suc k) e at = children_at Q high (next ∷ es) h.1 k e at

record NodeOf (image : List Sector) (g : Geometry) (kind : TreeKind) (top : Bool) (level low high b : ℕ) : Type 0 where
  node : NodeValue
  keeps : KeepsRules image g kind top level low high b node
  begins : 0 < level → BeginsAt low node.entries

node_of_tree : (image : List Sector) (g : Geometry) (kind : TreeKind) (top : Bool) (level low high b : ℕ) → IsTree image g kind top level low high b → NodeOf image g kind top level low high b
unfolding IsTree
node_of_tree image g kind top zero low high b t = record { node = t.0; keeps = t.1; begins = λ deep. absurd (omega (arith, deep)) }
node_of_tree image g kind top (suc level) low high b t = record { node = t.0; keeps = t.1; begins = λ deep. t.2 }

child_of_tree : (image : List Sector) (g : Geometry) (kind : TreeKind) (top : Bool) (level low high b : ℕ) (n : NodeValue) → IsTree image g kind top (suc level) low high b → IsNodeAt image b n
    → (k : ℕ) (e : Entry) → slice_get n.entries k ≡ Some e → IsTree image g kind false level e.key (end_of (slice_get n.entries (suc k)) high) e.value
unfolding IsTree
child_of_tree image g kind top level low high b n t here k e at =
    let same : t.0 ≡ n = IsNodeAt-one image b t.0 n t.1.here here in
    children_at (λ from to c. IsTree image g kind false level from to c) high n.entries
    (subst (λ (m : NodeValue). Children (λ from to c. IsTree image g kind false level from to c) high m.entries) same t.3) k e at

module _ (image : List Sector) (version : Version) (g : Geometry) (roots : List ℕ) (rules : (root : ℕ) → Contains roots root → KeepTheRules image version g root) where
  record TreeAt (x : Name) : Type 0 where
    level : ℕ
    like : MatchOption x.level (Unit {0}) (λ l. level ≡ l)
    tree : IsTree image g x.kind (is_root x.level) level x.low x.high x.block

  node_at : (x : Name) → (t : TreeAt x) → NodeOf image g x.kind (is_root x.level) t.level x.low x.high x.block
  node_at x t = node_of_tree image g x.kind (is_root x.level) t.level x.low x.high x.block t.tree

  -- the child's tree, by the level of its parent's
  child_at : (x : Name) (n : NodeValue) (level i : ℕ) (e : Entry) (j : ℕ) → IsTree image g x.kind (is_root x.level) j x.low x.high x.block → IsNodeAt image x.block n → n.level ≡ suc level → slice_get n.entries i ≡ Some e
      → (k : ℕ) × (k ≡ level) × IsTree image g x.kind false k e.key (end_of (slice_get n.entries (suc i)) x.high) e.value
  child_at x n level i e zero t here up at =
      let m = node_of_tree image g x.kind (is_root x.level) zero x.low x.high x.block t in
      let same : m.node.level ≡ n.level = ap (λ (y : NodeValue). y.level) (IsNodeAt-one image x.block m.node n m.keeps.here here) in
      absurd (omega (arith, same, m.keeps.level_is, up))
  child_at x n level i e (suc j) t here up at =
      let m = node_of_tree image g x.kind (is_root x.level) (suc j) x.low x.high x.block t in
      let same : m.node.level ≡ n.level = ap (λ (y : NodeValue). y.level) (IsNodeAt-one image x.block m.node n m.keeps.here here) in
      (j, omega (arith, same, m.keeps.level_is, up), child_of_tree image g x.kind (is_root x.level) j x.low x.high x.block n t here i e at)

  tree_at : (x : Name) → IsNamed image g roots x → TreeAt x
  tree_at _ (devices root there) = record { level = (rules root there).devices.level; like = tt; tree = (rules root there).devices.tree }
  tree_at _ (child x n level i e named good up at) =
      let t = tree_at x named in
      let c = child_at x n level i e t.level t.tree (node_at_name image g x n good) up at in
      record { level = c.0; like = c.1; tree = c.2 }
  tree_at _ (volume x n e named good kind leaf there) =
      let is : x.kind ≡ Device = sym good.formed.kind ∙ kind in
      let below = named_device image g roots x named is e (ends n (node_at_name image g x n good) kind leaf there) in
      let v = (rules below.0 below.1).volumes e.key e.value e.mapped e.size below.2 in
      record { level = v.level; like = tt; tree = v.tree }

  -- the node that stands under a name keeps the rules of its name
  record Kept (x : Name) (n : NodeValue) : Type 0 where
    level : ℕ
    keeps : KeepsRules image g x.kind (is_root x.level) level x.low x.high x.block n
    begins : 0 < level → BeginsAt x.low n.entries

  kept_as : (x : Name) (n : NodeValue) → IsNamed image g roots x → IsFormedAs image g x n → Kept x n
  kept_as x n named formed =
      let t = tree_at x named in
      let m = node_at x t in
      let same : m.node ≡ n = IsFormed-one (block_at image x.block) m.node n m.keeps.here.good.form formed.form m.keeps.here.bytes formed.bytes in
      record {
        level = t.level;
        keeps = subst (λ (y : NodeValue). KeepsRules image g x.kind (is_root x.level) t.level x.low x.high x.block y) same m.keeps;
        begins = λ deep. subst (λ (y : NodeValue). BeginsAt x.low y.entries) same (m.begins deep);
      }

  no_bad_node : HasBadNode image version g roots → ⊥
  no_bad_node (unformed x named place none) =
      let t = tree_at x named in
      let m = node_at x t in
      none m.node (record {
        place = place;
        form = m.keeps.here.good.form;
        own = m.keeps.here.own;
        bytes = m.keeps.here.bytes;
        kind = m.keeps.kind_is;
        level = subst (λ (l : ℕ). MatchOption x.level (Unit {0}) (λ wanted. l ≡ wanted)) (sym m.keeps.level_is) t.like;
      })
  no_bad_node (nonzero root there id volume_root mapped size old path some) = some (subst (λ (v : Version). IsRecordSize v g size) old ((rules root there).sizes id volume_root mapped size path))

  in_order : (x : Name) (n : NodeValue) → Kept x n → (IsStrictlyIncreasing (keys n.entries) → ⊥) ⊎ ((e : Entry) × Contains n.entries e × ((e.key < x.low) ⊎ (x.high ≤ e.key))) ⊎ ((0 < n.level) × (0 < length n.entries) × (BeginsAt x.low n.entries → ⊥)) → ⊥
  in_order x n k (inl not) = not k.keeps.here.good.ascending
  in_order x n k (inr (inl out)) =
      let key = All-contains (λ (e : Entry). (x.low ≤ e.key) × (e.key < x.high)) n.entries out.0 k.keeps.keys out.1 in
      elim out.2 [
        | inl low ↦ absurd (omega (arith, key.0, low))
        | inr high ↦ absurd (omega (arith, key.1, high))
      ]
  in_order x n k (inr (inr not)) = not.2 (k.begins (omega (arith, not.0, k.keeps.level_is)))

  no_bad_order : HasBadOrder image g roots → ⊥
  no_bad_order h = in_order h.name h.node (kept_as h.name h.node h.named h.formed) h.broken

  no_half_empty : HasHalfEmpty image g roots → ⊥
  no_half_empty h =
      let k = kept_as h.name h.node h.named h.good.formed in
      let least : least_of (is_root h.name.level) h.node.kind h.node.level ≡ least_of (is_root h.name.level) h.name.kind k.level = λ i. least_of (is_root h.name.level) (k.keeps.kind_is i) (k.keeps.level_is i) in
      omega (arith, h.few, least, k.keeps.filled)

  no_out_of_place : HasOutOfPlace image g roots → ⊥
  no_out_of_place (entry x n e named good there out) =
      let k = kept_as x n named good.formed in
      let value = All-contains (λ (y : Entry). IsInRange g (is_naming_data x.kind k.level) y.value) n.entries e k.keeps.values there in
      out (subst (λ (t : Bool). IsInRange g t e.value) (λ i. is_naming_data (sym k.keeps.kind_is i) (sym k.keeps.level_is i)) value)
  no_out_of_place (many root there level records content more) = omega (arith, (rules root there).few_devices level records content, more)

  no_bad_mapped : HasBadMapped image g roots → ⊥
  no_bad_mapped h = h.differs ((rules h.root h.known).mapped_is h.id h.volume_root h.mapped h.size h.level h.entries h.device h.content)

  no_bad_size : HasBadRecordSize image version g roots → ⊥
  no_bad_size h = h.bad (subst (λ (v : Version). IsRecordSize v g h.size) h.version_is ((rules h.root h.known).sizes h.id h.volume_root h.mapped h.size h.device))

-- ---- counts

abbrev owns : List NodeValue → List ℕ
owns ns = map (λ (n : NodeValue). n.own) ns

own_apart : (x : ℕ) (ns : List NodeValue) → AllByRecursion (λ y. nat_eq x y ≡ false) (owns ns) → (n : NodeValue) → Contains ns n → n.own ≡ x → ⊥
own_apart x [] h n there same = absurd (omega (arith, there.1))
own_apart x (m ∷ ms) h n there same =
    elim (cons_cases m ms n there) [
      | inl e ↦ absurd (false≢true (sym h.0 ∙ eq-eqb x m.own (sym (ap (λ (y : NodeValue). y.own) e ∙ same))))
      | inr rest ↦ own_apart x ms h.1 n rest same
    ]

still_there : (ys : List NodeValue) (k : ℕ) (n : NodeValue) → k < length ys → (there : Contains ys n) → (there.0 ≡ k → ⊥) → Contains (remove ys k) n
still_there ys k n inside there apart =
    let long = length-remove ys k inside in
    elim (cases_lt there.0 k) [
      | inl lt ↦ (there.0, omega (arith, lt, long, inside), get_or-remove_below ys k n there.0 lt inside ∙ there.2)
      | inr le ↦
          let before : ℕ = there.0 - 1 in
          let next : before + 1 ≡ there.0 = omega (arith, le, apart) in
          (before, omega (arith, next, there.1, long), get_or-remove_above ys k n before (omega (arith, next, le, apart)) inside ∙ (ap (λ (i : ℕ). get_or ys i n) next ∙ there.2))
    ]

sum_within : (f : NodeValue → ℕ) (xs ys : List NodeValue) → IsDistinct nat_eq (owns xs) → ((n : NodeValue) → Contains xs n → Contains ys n) → sum_by f xs ≤ sum_by f ys
unfolding IsDistinct
sum_within f [] ys once each = omega arith
sum_within f (x ∷ xs) ys once each =
    let at = each x (0, omega arith, refl) in
    let rest = sum_within f xs (remove ys at.0) once.1 (λ n there. kept n there at) in
    let whole = sum_by-remove f ys at.0 x at.1 in
    let here : f (get_or ys at.0 x) ≡ f x = ap f at.2 in
    omega (arith, rest, whole, here, sum_by-cons f x xs)
  where
    kept : (n : NodeValue) → Contains xs n → (at : Contains ys x) → Contains (remove ys at.0) n
    kept n there at =
        let h = each n (cons_more x xs n there) in
        still_there ys at.0 n at.1 h (λ same.
        let one : n ≡ x = sym h.2 ∙ (ap (λ (i : ℕ). get_or ys i n) same ∙ (get_or_default ys at.0 n x at.1 ∙ at.2)) in
        own_apart x.own xs once.0 n there (ap (λ (y : NodeValue). y.own) one))

same_times : (image : List Sector) (roots : List ℕ) (xs ys : List NodeValue) (names : NodeValue → List ℕ) (b : ℕ) → AreReachable image roots xs → AreReachable image roots ys → times_named names xs b ≡ times_named names ys b
same_times image roots xs ys names b r q =
    let f : NodeValue → ℕ = λ (n : NodeValue). count_by (λ x. x == b) (names n) in
    let up = sum_within f xs ys r.once (λ n there. q.all n (r.only n there)) in
    let down = sum_within f ys xs q.once (λ n there. r.all n (q.only n there)) in
    omega (arith, up, down)

same_counts : (image : List Sector) (g : Geometry) (roots : List ℕ) (xs ys : List NodeValue) (part : Part) (b : ℕ) → AreReachable image roots xs → AreReachable image roots ys → true_count g roots xs part b ≡ true_count g roots ys part b
same_counts image g roots xs ys Metadata b r q = let t = same_times image roots xs ys metadata_names b r q in omega (arith, t)
same_counts image g roots xs ys Data b r q = same_times image roots xs ys data_names b r q

abbrev IsRefused : Result Superblock Refusal → Type 0
IsRefused (Ok x) = ⊥
IsRefused (Err e) = Unit {0}

err_ok : (x : Superblock) (e : Refusal) → ◌≡◌ {A = Result Superblock Refusal} (Err e) (Ok x) → ⊥
err_ok x e same = subst IsRefused same tt

module _ (image : List Sector) (clean : IsClean image) where
  abbrev s : Superblock
  s = clean.superblock

  true_there : HasBadCount image s → ⊥
  true_there (untrue part area nodes its reach none) =
      none (clean.counts.counts part) (clean.counts.stored part area its) (λ b lt. clean.counts.true_ones part b lt ∙ same_counts image s.geometry (roots_of s) clean.nodes nodes part b clean.reachable reach)
  true_there (few area counts its held low) =
      let same = HoldsCounts-one image s.geometry Metadata area counts (clean.counts.counts Metadata) held (clean.counts.stored Metadata area its) in
      omega (arith, low, ap (λ (xs : List ℕ). count_by (λ n. n == 0) xs) same, clean.counts.spare)

  no_bad_super : HasBadSuper image → ⊥
  no_bad_super (inl h) = err_ok s h.0 (Chooses-one image (Err h.0) (Ok s) h.1 clean.chosen)
  no_bad_super (inr h) =
      let same = same_superblock image s h.0 clean.chosen h.1 in
      omega (arith, h.2, ap (λ (x : Superblock). sectors_of_image x.geometry) same, clean.whole)

  -- what is so of the chosen superblock
  of_chosen : (F : Superblock → Type 0) (x : Superblock) → Chooses image (Ok x) → F x → F s
  of_chosen F x chosen h = subst F (same_superblock image s x clean.chosen chosen) h

  pub clean_no_fault : (e : CheckError) → HasFault image e → (e ≡ Fault) ⊎ (e ≡ Memory)
  clean_no_fault Fault h = inl refl
  clean_no_fault Memory h = inr refl
  clean_no_fault BadSuper h = absurd (no_bad_super h)
  clean_no_fault BadNode h = absurd (no_bad_node image s.version s.geometry (roots_of s) clean.rules (of_chosen (λ x. HasBadNode image x.version x.geometry (roots_of x)) h.0 h.1 h.3))
  clean_no_fault BadOrder h = absurd (no_bad_order image s.version s.geometry (roots_of s) clean.rules (of_chosen (λ x. HasBadOrder image x.geometry (roots_of x)) h.0 h.1 h.3))
  clean_no_fault BadCount h = absurd (true_there (of_chosen (λ x. HasBadCount image x) h.0 h.1 h.3))
  clean_no_fault OutOfPlace h = absurd (no_out_of_place image s.version s.geometry (roots_of s) clean.rules (of_chosen (λ x. HasOutOfPlace image x.geometry (roots_of x)) h.0 h.1 h.3))
  clean_no_fault HalfEmpty h = absurd (no_half_empty image s.version s.geometry (roots_of s) clean.rules (of_chosen (λ x. HasHalfEmpty image x.geometry (roots_of x)) h.0 h.1 h.3))
  clean_no_fault BadMapped h = absurd (no_bad_mapped image s.version s.geometry (roots_of s) clean.rules (of_chosen (λ x. HasBadMapped image x.geometry (roots_of x)) h.0 h.1 h.3))
  clean_no_fault BadRecordSize h = absurd (no_bad_size image s.version s.geometry (roots_of s) clean.rules (of_chosen (λ x. HasBadRecordSize image x.version x.geometry (roots_of x)) h.0 h.1 h.3))
