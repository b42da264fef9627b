-- What is known of a block once the trees below it are: the lemmas behind its summary.
use Rattle.std.proofs.Common.{◌≡◌, ℕ, zero, suc, Bool, true, false, ◌-◌, ◌<◌, ◌≤◌, List, length, get_or, take, Some, None, inl, inr, refl, sym, ap, ◌∙◌, subst, arith}
use Rattle.std.specs.Prelude.{if◌then◌else◌, Option, slice_get, slice_index, Contains, All}
use Rattle.std.specs.List.Sorted.{IsStrictlyIncreasing}
use Rattle.std.proofs.lemmas.List.{length-map, take_all}
use Rattle.std.proofs.lemmas.List.Elements.{Contains-get_or}
use Rattle.std.proofs.lemmas.List.Kept.{AllPairs-from_increasing}
use Rattle.std.proofs.lemmas.Bool.{cases_lt, cases_eq}
use Rattle.std.proofs.lemmas.Option.{none-some, slice_get-get_or, slice_get_past, slice_get_within}
use Rattle.tp_model.specs.Geometry.{Geometry, IsTreeBlock}
use Rattle.tp_model.specs.Told.{told_blocks}
use Rattle.tp_model.specs.Sectors.{Sector}
use Rattle.tp_layout.specs.Node.{NodeValue, IsNode, keys, most_level}
use Rattle.tp_layout.proofs.Ordered.{get_or-keys}
use Rattle.tp_layout.specs.declared.entry.Entry.{Entry}
use Rattle.tp_layout.specs.declared.kind.TreeKind.{TreeKind}
use Rattle.tp_layout.specs.declared.kind.TreeKind.TheVariants.{Device, Mapping}
use Rattle.tp_layout.specs.declared.superblock.Version.{Version}
use Rattle.tp_image.specs.Nodes.{IsNodeAt}
use Rattle.tp_image.specs.Counts.{is_naming_data}
use Rattle.tp_image.specs.Rules.{BeginsAt, IsContent, IsInRange, IsTree, Joined, KeepsRules, least_of}
use Rattle.tp_image.specs.Faults.{Name, IsFormedAs, IsNamed, child, HasBadOrder, end_of, child_name}
use Rattle.tp_image.proofs.Uniqueness.{contains_at}
use Rattle.tp_check.specs.declared.summary.Demand.{Demand}
use Rattle.tp_check.specs.declared.summary.Summary.{Summary}
use Rattle.tp_check.specs.Walk.{AreRecorded, IsBelow, IsGoodVolume, IsInside, IsUnder, Knows, Suits, demand_under, leaf_or, summary_of, under_at}
use Rattle.tp_check.proofs.Telling.{no_data_above, no_data_of_devices}
use Rattle.tp_check.proofs.Trees.{begins_first, children_each, key_at, same_content}

-- ---- the keys of a node

-- each lies from the first to the last
ordered : (xs : List ℕ) (i j : ℕ) → IsStrictlyIncreasing xs → i ≤ j → j < length xs → slice_index xs i ≤ slice_index xs j
ordered xs i j up le lt =
    elim (cases_eq i j) [
      | inl e ↦ omega (arith, ap (slice_index xs) e)
      | inr d ↦ omega (arith, AllPairs-from_increasing xs up i j 0 (omega (arith, le, d)) lt)
    ]

pub first_key_least : (es : List Entry) (i : ℕ) (d : Entry) → IsStrictlyIncreasing (keys es) → i < length es → slice_index (keys es) 0 ≤ (get_or es i d).key
first_key_least es i d up lt =
    let h = ordered (keys es) 0 i up (omega arith) (omega (arith, lt, length-map es (λ (x : Entry). x.key))) in omega (arith, h, get_or-keys es i d lt)

pub last_key_most : (es : List Entry) (i : ℕ) (d : Entry) → IsStrictlyIncreasing (keys es) → i < length es → (get_or es i d).key ≤ slice_index (keys es) (length es - 1)
last_key_most es i d up lt =
    let h = ordered (keys es) i (length es - 1) up (omega (arith, lt)) (omega (arith, lt, length-map es (λ (x : Entry). x.key))) in omega (arith, h, get_or-keys es i d lt)

-- where a summary is known to be of some entries, its first key is at most its last
pub first_last : (image : List Sector) (g : Geometry) (roots : List ℕ) (b : ℕ) (s : Summary) → Knows image g roots b s → 0 < s.len → s.first ≤ s.last
first_last image g roots b s k some = let h = k.keys some 0 (record { key = 0; value = 0; mapped = 0; size = 0 }) (omega (arith, some, k.len_is)) in omega (arith, h.0, h.1)

-- ---- the rules of one node

pub keeps : (image : List Sector) (g : Geometry) (b level : ℕ) (n : NodeValue) (s : Summary) → IsNodeAt image b n → s.kind ≡ n.kind → s.level ≡ level → n.level ≡ level → s.len ≡ length n.entries → IsInside g n
    → (0 < s.len → All (λ (e : Entry). (s.first ≤ e.key) × (e.key ≤ s.last)) n.entries) → (is_root : Bool) (low high : ℕ) → Suits s is_root low high → KeepsRules image g s.kind is_root level low high b n
keeps image g b level n s here kind s_level n_level len inside keys is_root low high suits = record {
  here = here;
  kind_is = sym kind;
  level_is = n_level;
  filled = let f : least_of is_root s.kind level ≤ s.len = subst (λ (x : ℕ). least_of is_root s.kind x ≤ s.len) s_level suits.filled in subst (λ (x : ℕ). least_of is_root s.kind level ≤ x) len f;
  keys = λ i d lt.
      let some : 0 < s.len = omega (arith, lt, len) in
      let k = keys some i d lt in (omega (arith, k.0, suits.above some), omega (arith, k.1, suits.under some));
  values = λ i d lt.
      let v = inside (get_or n.entries i d) (Contains-get_or n.entries i d lt) in
      subst (λ (x : ℕ). IsInRange g (is_naming_data s.kind x) (get_or n.entries i d).value) n_level (subst (λ (x : TreeKind). IsInRange g (is_naming_data x n.level) (get_or n.entries i d).value) (sym kind) v);
}

-- ---- a leaf

leaf_tree : (image : List Sector) (g : Geometry) (kind : TreeKind) (is_root : Bool) (low high b level : ℕ) (n : NodeValue) → level ≡ 0 → KeepsRules image g kind is_root 0 low high b n → IsTree image g kind is_root level low high b
unfolding IsTree
leaf_tree image g kind is_root low high b level n e h = subst (λ (x : ℕ). IsTree image g kind is_root x low high b) (sym e) (n, h)

leaf_content : (image : List Sector) (b level : ℕ) (n : NodeValue) → IsNodeAt image b n → level ≡ 0 → n.level ≡ level → IsContent image n.kind level b n.entries
unfolding IsContent
leaf_content image b level n here e same = subst (λ (x : ℕ). IsContent image n.kind x b n.entries) (sym e) (n, here, refl, same ∙ e, refl)

pub leaf_known : (image : List Sector) (g : Geometry) (roots : List ℕ) (b last below : ℕ) (n : NodeValue) → IsNodeAt image b n → n.level ≡ 0 → IsInside g n → Knows image g roots b (summary_of n last below)
leaf_known image g roots b last below n here leaf inside =
    let es = n.entries in
    let last_is : (summary_of n last below).last ≡ slice_index (keys es) (length es - 1) = ap (λ (x : ℕ). leaf_or x (slice_index (keys es) (length es - 1)) last) leaf in
    let within : 0 < length es → All (λ (e : Entry). (slice_index (keys es) 0 ≤ e.key) × (e.key ≤ (summary_of n last below).last)) es =
    λ some i d lt. (first_key_least es i d here.good.ascending lt, omega (arith, last_key_most es i d here.good.ascending lt, last_is)) in
    record {
      node = n;
      here = here;
      kind_is = refl;
      level_is = refl;
      len_is = refl;
      begins = λ some. begins_first es some;
      keys = within;
      tree = λ is_root low high suits. leaf_tree image g n.kind is_root low high b n.level n leaf (keeps image g b 0 n (summary_of n last below) here refl leaf leaf refl inside within is_root low high suits);
      content = (es, leaf_content image b n.level n here leaf refl, sym (ap (λ (x : ℕ). leaf_or x (length es) below) leaf));
      late = λ x named formed some past.
          let d : Entry = record { key = 0; value = 0; mapped = 0; size = 0 } in
          let inside_list : length es - 1 < length es = omega (arith, some) in
          let key = get_or-keys es (length es - 1) d inside_list in
          record {
            name = x;
            node = n;
            named = named;
            formed = formed;
            broken = inr (inl (get_or es (length es - 1) d, Contains-get_or es (length es - 1) d inside_list, inr (omega (arith, key, last_is, past))));
          };
    }

-- ---- an inner node

some_filled : (kind : TreeKind) (is_root : Bool) (level : ℕ) → 0 < least_of is_root kind (suc level)
some_filled kind true level = omega arith
some_filled Mapping false level = omega arith
some_filled Device false level = omega arith

child_filled : (kind : TreeKind) (level : ℕ) → 0 < least_of false kind level
child_filled Mapping level = omega arith
child_filled Device zero = omega arith
child_filled Device (suc level) = omega arith

module _ (image : List Sector) (g : Geometry) (roots : List ℕ) (d : Demand) (n : NodeValue) (last below level : ℕ)
    (here : IsNodeAt image n.own n) (kind : n.kind ≡ d.kind) (up : n.level ≡ suc level) (inside : IsInside g n) (all : IsBelow image g roots d n (length n.entries) last below) where
  abbrev es : List Entry
  es = n.entries

  abbrev s : Summary
  s = summary_of n last below

  last_is : s.last ≡ last
  last_is = ap (λ (x : ℕ). leaf_or x (slice_index (keys es) (length es - 1)) last) up

  -- what is known of a child
  record Child (k : ℕ) (e : Entry) : Type 0 where
    summary : Summary
    knows : Knows image g roots e.value summary
    kind_is : summary.kind ≡ n.kind
    level_is : summary.level ≡ level
    some : 0 < summary.len
    filled : least_of false summary.kind summary.level ≤ summary.len
    above : e.key ≤ summary.first
    begins : 0 < summary.level → summary.first ≡ e.key
    under : summary.last < end_of (slice_get es (suc k)) d.high
    last_one : suc k ≡ length es → summary.last ≡ last

  child_of : (k : ℕ) (e : Entry) → slice_get es k ≡ Some e → Child k e
  child_of k e at =
      let u = all.each k e (slice_get_within es k e at) at in
      let same : demand_under g d n k e ≡ under_at (suc level) g d (slice_get es (suc k)) e = ap (λ (x : ℕ). under_at x g d (slice_get es (suc k)) e) up in
      let v = subst (λ (x : Demand). (u : IsUnder image g roots x) × (suc k ≡ length es → u.summary.last ≡ last)) same u in
      let passes = v.0.passes in
      let full : 0 < v.0.summary.len = omega (arith, passes.suits.filled, child_filled v.0.summary.kind v.0.summary.level) in
      record {
        summary = v.0.summary;
        knows = v.0.knows;
        kind_is = passes.like.0 ∙ sym kind;
        level_is = passes.like.1;
        some = full;
        filled = passes.suits.filled;
        above = passes.suits.above full;
        begins = passes.suits.begins full;
        under = passes.suits.under full;
        last_one = v.1;
      }

  end_cases : (k : ℕ) (e : Entry) (high : ℕ) (o : Option Entry) → slice_get es (suc k) ≡ o → slice_get es k ≡ Some e → (c : Child k e) → s.last < high → c.summary.last < end_of o high
  end_cases k e high None is at c under =
      elim (cases_lt (suc k) (length es)) [
        | inl lt ↦ absurd (none-some (get_or es (suc k) e) (sym is ∙ slice_get-get_or es (suc k) e lt))
        | inr le ↦
            let whole : suc k ≡ length es = omega (arith, le, slice_get_within es k e at) in
            omega (arith, c.last_one whole, last_is, under)
      ]
  end_cases k e high (Some x) is at c under = subst (λ (o : Option Entry). c.summary.last < end_of o d.high) is c.under

  child_tree : (high k : ℕ) (e : Entry) → s.last < high → slice_get es k ≡ Some e → IsTree image g n.kind false level e.key (end_of (slice_get es (suc k)) high) e.value
  child_tree high k e under at =
      let c = child_of k e at in
      let t = c.knows.tree false e.key (end_of (slice_get es (suc k)) high) (record { filled = c.filled; above = λ some. c.above; begins = λ some deep. c.begins deep; under = λ some. end_cases k e high (slice_get es (suc k)) refl at c under }) in
      subst (λ (x : ℕ). IsTree image g n.kind false x e.key (end_of (slice_get es (suc k)) high) e.value) c.level_is
      (subst (λ (x : TreeKind). IsTree image g x false c.summary.level e.key (end_of (slice_get es (suc k)) high) e.value) c.kind_is t)

  -- the last child
  abbrev end : ℕ
  end = length es - 1

  abbrev blank : Entry
  blank = record { key = 0; value = 0; mapped = 0; size = 0 }

  abbrev last_entry : Entry
  last_entry = get_or es end blank

  last_at : 0 < length es → slice_get es end ≡ Some last_entry
  last_at some = slice_get-get_or es end blank (omega (arith, some))

  key_under : 0 < length es → slice_index (keys es) end ≤ s.last
  key_under some =
      let c = child_of end last_entry (last_at some) in
      let key = key_at es end last_entry (last_at some) in
      let order = first_last image g roots last_entry.value c.summary c.knows c.some in
      let whole : suc end ≡ length es = omega (arith, some) in
      omega (arith, c.above, key, order, c.last_one whole, last_is)

  inner_keys : 0 < s.len → All (λ (e : Entry). (s.first ≤ e.key) × (e.key ≤ s.last)) es
  inner_keys some i x lt = (first_key_least es i x here.good.ascending lt, omega (arith, last_key_most es i x here.good.ascending lt, key_under some))

  inner_tree : (is_root : Bool) (low high : ℕ) → Suits s is_root low high → IsTree image g n.kind is_root n.level low high n.own
  unfolding IsTree
  inner_tree is_root low high suits =
      let full : least_of is_root n.kind (suc level) ≤ length es = subst (λ (x : ℕ). least_of is_root n.kind x ≤ length es) up suits.filled in
      let some : 0 < length es = omega (arith, full, some_filled n.kind is_root level) in
      let first : slice_index (keys es) 0 ≡ low = suits.begins some (omega (arith, up)) in
      let under : s.last < high = suits.under some in
      subst (λ (x : ℕ). IsTree image g n.kind is_root x low high n.own) (sym up) (
        n,
        keeps image g n.own (suc level) n s here refl up up refl inside inner_keys is_root low high suits,
        subst (λ (x : ℕ). BeginsAt x es) first (begins_first es some),
        children_each (λ from to c. IsTree image g n.kind false level from to c) high es (λ k e at. child_tree high k e under at),
      )

  inner_content : (xs : List Entry) × IsContent image n.kind n.level n.own xs × (length xs ≡ s.below)
  unfolding IsContent
  inner_content =
      let c = all.content level up in
      let whole : take (length es) es ≡ es = take_all (length es) es (omega arith) in
      let joined : Joined (λ child entries. IsContent image n.kind level child entries) es c.0 = subst (λ (xs : List Entry). Joined (λ child entries. IsContent image n.kind level child entries) xs c.0) whole c.1 in
      (c.0, subst (λ (x : ℕ). IsContent image n.kind x n.own c.0) (sym up) (n, here, refl, up, joined), c.2 ∙ sym (ap (λ (x : ℕ). leaf_or x (length es) below) up))

  child_place : (e : Entry) → Contains es e → IsTreeBlock g e.value
  child_place e there = subst (λ (t : Bool). IsInRange g t e.value) (no_data_above n.kind n.level level up) (inside e there)

  inner_late : (x : Name) → IsNamed image g roots x → IsFormedAs image g x n → 0 < s.len → x.high ≤ s.last → HasBadOrder image g roots
  inner_late x named formed some past =
      let at = last_at some in
      let c = child_of end last_entry at in
      let named_child = child x n level end last_entry named (record { formed = formed; ascending = here.good.ascending }) up at in
      let none : slice_get es (suc end) ≡ None = slice_get_past es (suc end) (omega (arith, some)) in
      let whole : suc end ≡ length es = omega (arith, some) in
      let high : end_of (slice_get es (suc end)) x.high ≡ x.high = ap (λ (o : Option Entry). end_of o x.high) none in
      c.knows.late (child_name x n level end last_entry) named_child (record {
        place = child_place last_entry (contains_at es end last_entry at);
        form = c.knows.here.good.form;
        own = c.knows.here.own;
        bytes = c.knows.here.bytes;
        kind = sym c.knows.kind_is ∙ (c.kind_is ∙ formed.kind);
        level = sym c.knows.level_is ∙ c.level_is;
      }) c.some (omega (arith, high, past, last_is, c.last_one whole))

  pub inner_known : Knows image g roots n.own s
  inner_known = record {
    node = n;
    here = here;
    kind_is = refl;
    level_is = refl;
    len_is = refl;
    begins = λ some. begins_first es some;
    keys = inner_keys;
    tree = inner_tree;
    content = inner_content;
    late = inner_late;
  }

-- ---- any node

known_at : (image : List Sector) (g : Geometry) (roots : List ℕ) (d : Demand) (n : NodeValue) (i last below level : ℕ) → n.level ≡ level → IsNodeAt image n.own n → n.kind ≡ d.kind → IsInside g n
    → i ≡ (if is_naming_data n.kind n.level then 0 else length n.entries) → IsBelow image g roots d n i last below → Knows image g roots n.own (summary_of n last below)
known_at image g roots d n i last below zero e here kind inside count all = leaf_known image g roots n.own last below n here e inside
known_at image g roots d n i last below (suc level) e here kind inside count all =
    let whole : i ≡ length n.entries = count ∙ ap (λ (t : Bool). if t then 0 else length n.entries) (no_data_above n.kind n.level level e) in
    inner_known image g roots d n last below level here kind e inside (subst (λ (x : ℕ). IsBelow image g roots d n x last below) whole all)

pub node_known : (image : List Sector) (g : Geometry) (roots : List ℕ) (d : Demand) (n : NodeValue) (i last below : ℕ) → IsNodeAt image n.own n → n.kind ≡ d.kind → IsInside g n
    → i ≡ (if is_naming_data n.kind n.level then 0 else length n.entries) → IsBelow image g roots d n i last below → Knows image g roots n.own (summary_of n last below)
node_known image g roots d n i last below here kind inside count all = known_at image g roots d n i last below n.level refl here kind inside count all

-- ---- the volumes of a leaf of the device tree

low_level : (n : NodeValue) → IsNode n → n.kind ≡ Mapping → n.level ≤ 3
low_level n good kind = subst (λ (k : TreeKind). n.level ≤ most_level k) kind good.form.level

pub volume_good : (image : List Sector) (version : Version) (g : Geometry) (roots : List ℕ) (d : Demand) (n : NodeValue) (i last below : ℕ) → AreRecorded version g n → n.kind ≡ Device → n.level ≡ 0
    → i ≡ (if is_naming_data n.kind n.level then 0 else length n.entries) → IsBelow image g roots d n i last below → (e : Entry) → Contains n.entries e → IsGoodVolume image version g e
volume_good image version g roots d n i last below recorded kind leaf count all e there =
    let es = n.entries in
    let whole : i ≡ length es = count ∙ ap (λ (t : Bool). if t then 0 else length es) (no_data_of_devices n.kind n.level kind) in
    let at : slice_get es there.0 ≡ Some e = slice_get-get_or es there.0 e there.1 ∙ ap (λ (x : Entry). Some x) there.2 in
    let u = all.each there.0 e (omega (arith, there.1, whole)) at in
    let next = slice_get es (suc there.0) in
    let v = subst (λ (x : Demand). IsUnder image g roots x) (ap (λ (x : ℕ). under_at x g d next e) leaf) u.0 in
    let s = v.summary in
    let k = v.knows in
    let tree = subst (λ (x : TreeKind). IsTree image g x true s.level 0 (told_blocks g e.size) e.value) v.passes.like.0 (k.tree true 0 (told_blocks g e.size) v.passes.suits) in
    let content = subst (λ (x : TreeKind). IsContent image x s.level e.value k.content.0) v.passes.like.0 k.content.1 in
    record {
      size = recorded kind leaf e there;
      tree = record { level = s.level; low_enough = omega (arith, k.level_is, low_level k.node k.here.good (sym k.kind_is ∙ v.passes.like.0)); tree = tree };
      mapped = λ level entries h. ap length (same_content image Mapping level s.level e.value entries k.content.0 h content) ∙ (k.content.2 ∙ v.passes.counted);
    }
