-- How often blocks are named: by nodes, by their entries, and by ranges of blocks.
use Rattle.std.proofs.Common.{◌≡◌, ◌≢◌, ℕ, zero, suc, ◌+◌, ◌<◌, ◌≤◌, ◌==◌, true, false, List, [], ◌∷◌, map, refl, sym, ap, ◌∙◌, arith, ◌⊎◌, inl, inr}
use Rattle.std.specs.Prelude.{nat_eq, nat_lt, if◌then◌else◌, sum_by, count_by}
use Rattle.std.specs.List.{AllByRecursion, IsDistinct, range_with_len}
use Rattle.std.proofs.lemmas.Bool.{cases_eq, cases_lt, eq-eqb, ne_eqb, false≢true, lt-ltb, le-ltb}
use Rattle.std.proofs.lemmas.List.Sums.{sum_by-cons}
use Rattle.tp_layout.specs.Node.{NodeValue}
use Rattle.tp_layout.specs.declared.entry.Entry.{Entry}
use Rattle.tp_layout.specs.declared.kind.TreeKind.{TreeKind}
use Rattle.tp_layout.specs.declared.kind.TreeKind.TheVariants.{Device, Mapping}
use Rattle.tp_image.specs.Counts.{data_names, is_naming_data, metadata_names}
use Rattle.tp_refs.specs.Store.{MayName, Node, first_named, moved_by, node_from, rank_of, values}
use Rattle.tp_refs.specs.Balance.{occurrences, one_if_same, sum_below}
use Rattle.tp_refs.proofs.Moved.{moved_by_nothing}
use Rattle.tp_refs.proofs.Steps.{one_other, one_same}
use Rattle.tp_refs.proofs.Sums.{sum_swap}
use Rattle.tp_stored.proofs.Members.{Among}
use Rattle.tp_stored.proofs.Ranges.{behind, in_range}

-- ---- sums over nodes, each in a block of its own

-- a function without its value at x
abbrev without : (ℕ → ℕ) → ℕ → ℕ → ℕ
without f x c = if c == x then 0 else f c

without_same : (f : ℕ → ℕ) (x c : ℕ) → c ≡ x → without f x c ≡ 0
without_same f x c e = ap (λ b. if b then 0 else f c) (eq-eqb c x e)

without_other : (f : ℕ → ℕ) (x c : ℕ) → c ≢ x → without f x c ≡ f c
without_other f x c e = ap (λ b. if b then 0 else f c) (ne_eqb c x e)

sum_none : (f : ℕ → ℕ) (n : ℕ) → ((c : ℕ) → c < n → f c ≡ 0) → sum_below f n ≡ 0
unfolding sum_below
sum_none f zero h = refl
sum_none f (suc n) h = omega (arith, h n (omega arith), sum_none f n (λ c l. h c (omega arith)))

pub sum_agree : (f g : NodeValue → ℕ) (ns : List NodeValue) → ((n : NodeValue) → Among n ns → f n ≡ g n) → sum_by f ns ≡ sum_by g ns
sum_agree f g [] h = refl
sum_agree f g (n ∷ ns) h =
    sum_by-cons f n ns ∙ ((let a : f n ≡ g n = h n (inl refl) in let r : sum_by f ns ≡ sum_by g ns = sum_agree f g ns (λ x k. h x (inr k)) in let z : f n + sum_by f ns ≡ g n + sum_by g ns = omega arith in z) ∙ sym (sum_by-cons g n ns))

abbrev pub owns : List NodeValue → List ℕ
owns ns = map (λ n. n.own) ns

apart : (x : ℕ) (ns : List NodeValue) → AllByRecursion (λ y. nat_eq x y ≡ false) (owns ns) → (n : NodeValue) → Among n ns → n.own ≢ x
apart x [] h n k = absurd k
apart x (m ∷ ms) h n (inl e) = λ p. absurd (false≢true (sym h.0 ∙ eq-eqb x m.own (sym (ap (λ (y : NodeValue). y.own) e ∙ p))))
apart x (m ∷ ms) h n (inr k) = apart x ms h.1 n k

pub sum_owns : (f : ℕ → ℕ) (top : ℕ) (ns : List NodeValue) → IsDistinct nat_eq (owns ns) → ((n : NodeValue) → Among n ns → n.own < top)
    → ((c : ℕ) → c < top → ((n : NodeValue) → Among n ns → n.own ≡ c → ⊥) → f c ≡ 0) → sum_by (λ n. f n.own) ns ≡ sum_below f top
unfolding IsDistinct
sum_owns f top [] once inside none = sym (sum_none f top (λ c l. none c l (λ n k e. absurd k)))
sum_owns f top (n ∷ ns) once inside none =
    let rest : sum_by (λ x. without f n.own x.own) ns ≡ sum_below (without f n.own) top =
    sum_owns (without f n.own) top ns once.1 (λ x k. inside x (inr k)) (λ c l free. by_block c l free (cases_eq c n.own)) in
    let same : sum_by (λ x. without f n.own x.own) ns ≡ sum_by (λ x. f x.own) ns = sum_agree _ _ ns (λ x k. without_other f n.own x.own (apart n.own ns once.0 x k)) in
    let swap : sum_below f top + without f n.own n.own ≡ sum_below (without f n.own) top + f n.own =
    sum_swap f (without f n.own) top n.own (inside n (inl refl)) (λ i ne. sym (without_other f n.own i ne)) in
    sum_by-cons (λ x. f x.own) n ns ∙ omega (arith, rest, same, swap, without_same f n.own n.own refl)
  where
    by_block : (c : ℕ) → c < top → ((x : NodeValue) → Among x ns → x.own ≡ c → ⊥) → (c ≡ n.own) ⊎ (c ≡ n.own → ⊥) → without f n.own c ≡ 0
    by_block c l free (inl e) = without_same f n.own c e
    by_block c l free (inr d) = without_other f n.own c d ∙ none c l (by_node c free d)
      where
        by_node : (c : ℕ) → ((x : NodeValue) → Among x ns → x.own ≡ c → ⊥) → (c ≡ n.own → ⊥) → (x : NodeValue) → Among x (n ∷ ns) → x.own ≡ c → ⊥
        by_node c free d x (inl e) p = d (sym (ap (λ (y : NodeValue). y.own) e ∙ p))
        by_node c free d x (inr k) p = free x k p

-- ---- how often a block stands in a list

-- the names of a node's entries
abbrev pub names : List Entry → List ℕ
names es = map (λ (e : Entry). e.value) es

pub times_named_in : (b : ℕ) (es : List Entry) → count_by (λ x. x == b) (names es) ≡ occurrences b (values es)
unfolding one_if_same
times_named_in b [] = refl
times_named_in b (e ∷ es) = sum_by-cons (λ x. if x == b then 1 else 0) e.value (names es) ∙ ap (λ n. (if e.value == b then 1 else 0) + n) (times_named_in b es)

pub moved_below : (m b : ℕ) (es : List Entry) → b < m → occurrences b (values (map (moved_by m) es)) ≡ 0
moved_below m b [] h = refl
moved_below m b (e ∷ es) h = omega (arith, one_other (m + e.value) b (λ p. absurd (omega (arith, p))), moved_below m b es h)

moved_same : (m p v : ℕ) → one_if_same (m + v) (m + p) ≡ one_if_same v p
moved_same m p v =
    elim (cases_eq v p) [
      | inl e ↦ one_same (m + v) (m + p) (omega arith) ∙ sym (one_same v p e)
      | inr d ↦ one_other (m + v) (m + p) (λ e. d (omega (arith, e))) ∙ sym (one_other v p d)
    ]

pub moved_named : (m p : ℕ) (es : List Entry) → occurrences (m + p) (values (map (moved_by m) es)) ≡ occurrences p (values es)
moved_named m p [] = refl
moved_named m p (e ∷ es) = omega (arith, moved_same m p e.value, moved_named m p es)

pub in_fixed : (n b : ℕ) → occurrences b (range_with_len 0 n) ≡ (if nat_lt b n then 1 else 0)
in_fixed n b =
    elim (cases_lt b n) [
      | inl l ↦ in_range b 0 n (omega arith) (omega arith) ∙ ap (λ t. if t then 1 else 0) (sym (lt-ltb b n l))
      | inr g ↦ behind b 0 n (omega arith) ∙ ap (λ t. if t then 1 else 0) (sym (le-ltb b n g))
    ]

pub is_root : (r b : ℕ) → one_if_same r b ≡ (if b == r then 1 else 0)
is_root r b =
    elim (cases_eq r b) [
      | inl e ↦ one_same r b e ∙ ap (λ t. if t then 1 else 0) (sym (eq-eqb b r (sym e)))
      | inr d ↦ one_other r b d ∙ ap (λ t. if t then 1 else 0) (sym (ne_eqb b r (λ e. d (sym e))))
    ]

-- ---- what a node names

abbrev pub NamesData : ℕ → TreeKind → ℕ → Type 0
NamesData m kind level = (is_naming_data kind level ≡ true) × (first_named m kind level ≡ m)

abbrev pub NamesMetadata : ℕ → TreeKind → ℕ → Type 0
NamesMetadata m kind level = (is_naming_data kind level ≡ false) × (first_named m kind level ≡ 0) × (1 < rank_of kind level)

pub either_names : (m : ℕ) (kind : TreeKind) (level : ℕ) → NamesData m kind level ⊎ NamesMetadata m kind level
either_names m Mapping zero = inl (refl, refl)
either_names m Mapping (suc level) = inr (refl, refl, omega arith)
either_names m Device level = inr (refl, refl, omega arith)

-- what names data blocks is a leaf of a mapping tree
pub no_ranks_below : (m : ℕ) (kind : TreeKind) (level a b : ℕ) → NamesData m kind level → a ≡ rank_of kind level → MayName a b → 0 < b → ⊥
no_ranks_below m Mapping zero a b d e may h = absurd (omega (arith, e, h, may.below))
no_ranks_below m Mapping (suc level) a b d e may h = absurd (false≢true d.0)
no_ranks_below m Device level a b d e may h = absurd (false≢true d.0)

module _ (m : ℕ) (node : Node) (n : NodeValue) (is : node ≡ node_from m n) where
  pub data_entries : NamesData m n.kind n.level → node.entries ≡ map (moved_by m) n.entries
  data_entries d = ap (λ (x : Node). x.entries) is ∙ ap (λ f. map (moved_by f) n.entries) d.1

  pub metadata_entries : NamesMetadata m n.kind n.level → node.entries ≡ n.entries
  metadata_entries d = ap (λ (x : Node). x.entries) is ∙ (ap (λ f. map (moved_by f) n.entries) d.1 ∙ moved_by_nothing n.entries)

  pub rank_from : node.rank ≡ rank_of n.kind n.level
  rank_from = ap (λ (x : Node). x.rank) is

pub no_metadata : (n : NodeValue) → is_naming_data n.kind n.level ≡ true → metadata_names n ≡ []
no_metadata n h = ap (λ t. if t then [] else names n.entries) h

pub metadata_are : (n : NodeValue) → is_naming_data n.kind n.level ≡ false → metadata_names n ≡ names n.entries
metadata_are n h = ap (λ t. if t then [] else names n.entries) h

pub no_data : (n : NodeValue) → is_naming_data n.kind n.level ≡ false → data_names n ≡ []
no_data n h = ap (λ t. if t then names n.entries else []) h

pub data_are : (n : NodeValue) → is_naming_data n.kind n.level ≡ true → data_names n ≡ names n.entries
data_are n h = ap (λ t. if t then names n.entries else []) h

-- ---- how often a node names a block, in the image and in a store of m metadata blocks

pub metadata_values : (m b : ℕ) → b < m → (n : NodeValue) → count_by (λ x. x == b) (metadata_names n) ≡ occurrences b (values (node_from m n).entries)
metadata_values m b lt n =
    elim (either_names m n.kind n.level) [
      | inl d ↦
          ap (count_by (λ x. x == b)) (no_metadata n d.0)
          ∙ sym (ap (λ es. occurrences b (values es)) (data_entries m (node_from m n) n refl d) ∙ moved_below m b n.entries lt)
      | inr d ↦
          ap (count_by (λ x. x == b)) (metadata_are n d.0)
          ∙ (times_named_in b n.entries ∙ sym (ap (λ es. occurrences b (values es)) (metadata_entries m (node_from m n) n refl d)))
    ]

pub data_values : (m p : ℕ) (n : NodeValue) → (NamesMetadata m n.kind n.level → occurrences (m + p) (values n.entries) ≡ 0)
    → count_by (λ x. x == p) (data_names n) ≡ occurrences (m + p) (values (node_from m n).entries)
data_values m p n none =
    elim (either_names m n.kind n.level) [
      | inl d ↦
          ap (count_by (λ x. x == p)) (data_are n d.0)
          ∙ (times_named_in p n.entries ∙ sym (ap (λ es. occurrences (m + p) (values es)) (data_entries m (node_from m n) n refl d) ∙ moved_named m p n.entries))
      | inr d ↦
          ap (count_by (λ x. x == p)) (no_data n d.0)
          ∙ sym (ap (λ es. occurrences (m + p) (values es)) (metadata_entries m (node_from m n) n refl d) ∙ none d)
    ]

-- a node whose data names lie elsewhere does not name the block
pub no_data_named : (m p : ℕ) (n : NodeValue) → (NamesData m n.kind n.level → occurrences p (values n.entries) ≡ 0) → count_by (λ x. x == p) (data_names n) ≡ 0
no_data_named m p n none =
    elim (either_names m n.kind n.level) [
      | inl d ↦ ap (count_by (λ x. x == p)) (data_are n d.0) ∙ (times_named_in p n.entries ∙ none d)
      | inr d ↦ ap (count_by (λ x. x == p)) (no_data n d.0)
    ]

-- ---- sums over nodes

pub sum_nothing : (f : NodeValue → ℕ) (ns : List NodeValue) → ((n : NodeValue) → Among n ns → f n ≡ 0) → sum_by f ns ≡ 0
sum_nothing f [] h = refl
sum_nothing f (n ∷ ns) h = let r : sum_by f ns ≡ 0 = sum_nothing f ns (λ x k. h x (inr k)) in let a : f n ≡ 0 = h n (inl refl) in omega (arith, sum_by-cons f n ns)

pub sum_at_least : (f : NodeValue → ℕ) (n : NodeValue) (ns : List NodeValue) → Among n ns → f n ≤ sum_by f ns
sum_at_least f n [] k = absurd k
sum_at_least f n (x ∷ xs) (inl e) = let same : f x ≡ f n = ap f e in omega (arith, sum_by-cons f x xs)
sum_at_least f n (x ∷ xs) (inr k) = omega (arith, sum_by-cons f x xs, sum_at_least f n xs k)

pub count_some : (v : ℕ) (xs : List ℕ) → Among v xs → 0 < count_by (λ x. x == v) xs
count_some v [] k = absurd k
count_some v (x ∷ xs) (inl e) =
    let c : count_by (λ y. y == v) (x ∷ xs) ≡ (if x == v then 1 else 0) + count_by (λ y. y == v) xs = sum_by-cons (λ y. if y == v then 1 else 0) x xs in
    let one : (if x == v then 1 else 0) ≡ 1 = ap {B = ℕ} (λ t. if t then 1 else 0) (eq-eqb x v e) in
    omega (arith, c, one)
count_some v (x ∷ xs) (inr k) =
    let c : count_by (λ y. y == v) (x ∷ xs) ≡ (if x == v then 1 else 0) + count_by (λ y. y == v) xs = sum_by-cons (λ y. if y == v then 1 else 0) x xs in
    omega (arith, c, count_some v xs k)
