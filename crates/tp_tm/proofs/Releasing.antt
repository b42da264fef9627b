-- References that are given up, one after another.
use Rattle.std.proofs.Common.{◌≡◌, ◌≢◌, ℕ, zero, suc, ◌+◌, ◌-◌, ◌<◌, ◌≤◌, List, [], ◌∷◌, ◌++◌, length, get_or, set, map, drop, refl, sym, ap, subst, ◌∙◌, arith, inl, inr, Bool, true, false, rules}
use Rattle.std.specs.Prelude.{IsTrue, ◌↔◌, if◌then◌else◌, slice_get, Some}
use Rattle.std.proofs.lemmas.Option.{gets}
use Rattle.std.proofs.lemmas.Bool.{cases_eq, cases_lt, lt-ltb, le-ltb, false≢true}
use Rattle.std.proofs.lemmas.List.{get_or_past}
use Rattle.tp_model.specs.Disk.{DiskState, seen}
use Rattle.tp_layout.specs.Node.{NodeValue, most_level}
use Rattle.tp_layout.specs.declared.entry.Entry.{Entry}
use Rattle.tp_layout.specs.declared.kind.TreeKind.{TreeKind}
use Rattle.tp_layout.specs.declared.kind.TreeKind.TheVariants.{Device, Mapping}
use Rattle.tp_refs.specs.Store.{MayName, Node, Store, children, count_of, first_named, moved_by, named_by, no_node, node_at, node_from, rank_of, values, with_count}
use Rattle.tp_refs.specs.Balance.{Balanced, occurrences}
use Rattle.tp_refs.proofs.Steps.{count_other, count_same, live_below, one_other, one_same, held_live, held_closed}
use Rattle.tp_refs.proofs.Moves.{abandoned, last_gone, let_go}
use Rattle.tp_refs.proofs.Names.{no_entry, drop_whole}
use Rattle.tp_refs.proofs.Children.{child_rank, releasing, same_node, same_trans}
use Rattle.tp_refs.proofs.Bounds.{held_below}
use Rattle.tp_tm.specs.Tm.{Tm, IsRecounted, OnlyFewer, counts_now}
use Rattle.tp_tm.specs.Holds.{Holds, IsRankOf, IsSpelled, IsUnder, Released, kind_below}
use Rattle.tp_tm.proofs.Standing.{live_before, recounted}

is_true : (r : Bool) → IsTrue r → r ≡ true
is_true true q = refl
is_true false q = search (rules, q)

-- a count that is named no longer after one name goes
pub one_left : (still : Bool) (n : ℕ) → (IsTrue still ↔ (1 < n)) → still ≡ false → 0 < n → n ≡ 1
one_left still n iff e positive =
    elim (cases_lt 1 n) [
      | inl l ↦ absurd (false≢true (sym e ∙ is_true still (iff.1 l)))
      | inr g ↦ omega arith
    ]

pub more_left : (still : Bool) (n : ℕ) → (IsTrue still ↔ (1 < n)) → still ≡ true → 1 < n
more_left still n iff e = iff.0 (search (rules, e))

-- a block with a node is a metadata block
pub ranked_below : (s : Store) (x : ℕ) → 0 < (node_at s x).rank → x < length s.nodes
ranked_below s x h =
    elim (cases_lt x (length s.nodes)) [
      | inl l ↦ l
      | inr g ↦ let e : (node_at s x).rank ≡ 0 = ap (λ (n : Node). n.rank) (get_or_past s.nodes x no_node g) in absurd (omega arith)
    ]

pub fewer_refl : (t : Tm) → OnlyFewer t t
fewer_refl t = record { geometry = refl; metadata_kept = refl; data_kept = refl; held_root = refl; metadata = λ b. omega arith; others = λ b. omega arith }

pub fewer_trans : (t u v : Tm) → OnlyFewer t u → OnlyFewer u v → OnlyFewer t v
fewer_trans t u v p q = record {
  geometry = q.geometry ∙ p.geometry;
  metadata_kept = q.metadata_kept ∙ p.metadata_kept;
  data_kept = q.data_kept ∙ p.data_kept;
  held_root = q.held_root ∙ p.held_root;
  metadata = λ b. omega (arith, p.metadata b, q.metadata b);
  others = λ b. omega (arith, p.others b, q.others b);
}

-- ---- the names of a node of the layout

pub rank_positive : (kind : TreeKind) (level : ℕ) → 0 < rank_of kind level
rank_positive Mapping level = omega arith
rank_positive Device level = omega arith

named_all : (rank : ℕ) (es : List Entry) → 0 < rank → named_by rank es ≡ values es
named_all zero es h = absurd (omega arith)
named_all (suc rank) es h = refl

named_none : (rank : ℕ) (es : List Entry) → rank ≤ 0 → named_by rank es ≡ []
named_none zero es h = refl
named_none (suc rank) es h = absurd (omega arith)

length-moved : (first : ℕ) (es : List Entry) → length (values (map (moved_by first) es)) ≡ length es
length-moved first [] = refl
length-moved first (e ∷ es) = ap suc (length-moved first es)

moved_at : (first : ℕ) (es : List Entry) (i : ℕ) → i < length es → get_or (values (map (moved_by first) es)) i 0 ≡ first + (get_or es i no_entry).value
moved_at first [] i h = absurd (omega arith)
moved_at first (e ∷ es) zero h = refl
moved_at first (e ∷ es) (suc i) h = moved_at first es i (omega arith)

pub children_are : (m : ℕ) (n : NodeValue) → children (node_from m n) ≡ values (map (moved_by (first_named m n.kind n.level)) n.entries)
children_are m n = named_all (rank_of n.kind n.level) (map (moved_by (first_named m n.kind n.level)) n.entries) (rank_positive n.kind n.level)

pub length-children : (m : ℕ) (n : NodeValue) → length (children (node_from m n)) ≡ length n.entries
length-children m n = ap length (children_are m n) ∙ length-moved (first_named m n.kind n.level) n.entries

entry_is : (es : List Entry) (i : ℕ) (e : Entry) → slice_get es i ≡ Some e → get_or es i no_entry ≡ e
entry_is es i e h = grind (arith, gets)

pub child_at : (m : ℕ) (n : NodeValue) (i : ℕ) (e : Entry) → i < length n.entries → slice_get n.entries i ≡ Some e → get_or (children (node_from m n)) i 0 ≡ first_named m n.kind n.level + e.value
child_at m n i e within at =
    ap (λ l. get_or l i 0) (children_are m n) ∙ moved_at (first_named m n.kind n.level) n.entries i within
    ∙ ap (λ (x : Entry). first_named m n.kind n.level + x.value) (entry_is n.entries i e at)

-- ---- ranks

pub kind_by_rank : (other kind : TreeKind) (level : ℕ) → level ≤ most_level other → IsRankOf kind (rank_of other level) → other ≡ kind
kind_by_rank Mapping Mapping level low ranked = refl
kind_by_rank Device Device level low ranked = refl
kind_by_rank Mapping Device level low ranked = absurd (omega (arith, low, ranked.0))
kind_by_rank Device Mapping level low ranked = absurd (omega (arith, ranked.1))

pub rank_above : (kind : TreeKind) (rank : ℕ) → IsRankOf kind rank → 0 < rank
rank_above Mapping rank ranked = ranked.0
rank_above Device rank ranked = omega (arith, ranked.0)

rank_below : (kind : TreeKind) (rank : ℕ) → IsRankOf kind rank → rank < 8
rank_below Mapping rank ranked = omega (arith, ranked.1)
rank_below Device rank ranked = ranked.1

pub under_child : (kind : TreeKind) (rank child : ℕ) → IsRankOf kind rank → MayName rank child → IsUnder (kind_below rank) (rank - 1) child
under_child kind rank child ranked names = (omega (arith, names.below), λ more. ranks more)
  where
    ranks : 0 < rank - 1 → IsRankOf (kind_below rank) child
    ranks more =
        let most : rank < 8 = rank_below kind rank ranked in
        elim (cases_lt 5 rank) [
          | inl high ↦
              let is : rank ≡ child + 1 = names.next (λ e. absurd (omega (arith, e, high))) in
              subst (λ t. IsRankOf (if t then Device else Mapping) child) (sym (lt-ltb 5 rank high)) (omega arith, omega arith)
          | inr low ↦
              let above : 0 < child = elim (cases_eq rank 5) [
                | inl e ↦ names.root e
                | inr d ↦ let is : rank ≡ child + 1 = names.next d in omega arith
              ] in
              subst (λ t. IsRankOf (if t then Device else Mapping) child) (sym (le-ltb 5 rank low)) (above, omega (arith, names.below))
        ]

-- ---- the first step

-- one of several references goes
pub several_holds : (t u : Tm) (disk : DiskState) (opens held : List ℕ) (s : Store) (x : ℕ) → Holds t disk opens (x ∷ held) s → IsRecounted t u x (get_or (counts_now t) x 0 - 1) → 1 < get_or (counts_now t) x 0
    → Holds u disk opens held (with_count s x (get_or (counts_now t) x 0 - 1))
several_holds t u disk opens held s x h r more =
    let n = get_or (counts_now t) x 0 - 1 in
    let is : count_of s x ≡ get_or (counts_now t) x 0 = ap (λ l. get_or l x 0) h.stands.counts in
    let live : 0 < count_of s x = omega arith in
    record {
      stands = recounted t u (seen disk.cells) opens opens s x n h.stands r.geometry r.now r.kept (λ b now closed. (live_before s x n live b now, closed));
      balanced = let_go s opens held x n h.balanced (omega arith) (omega arith);
    }

pub several : (t u : Tm) (disk : DiskState) (opens held : List ℕ) (s : Store) (x : ℕ) → Holds t disk opens (x ∷ held) s → IsRecounted t u x (get_or (counts_now t) x 0 - 1) → 1 < get_or (counts_now t) x 0
    → Released s u disk opens held
several t u disk opens held s x h r more = record { after = with_count s x (get_or (counts_now t) x 0 - 1); holds = several_holds t u disk opens held s x h r more; same = record { nodes = refl; kept = refl } }

-- the last one goes
pub last_holds : (t u : Tm) (disk : DiskState) (opens held : List ℕ) (s : Store) (x : ℕ) → Holds t disk opens (x ∷ held) s → IsRecounted t u x (get_or (counts_now t) x 0 - 1) → get_or (counts_now t) x 0 ≡ 1
    → Holds u disk opens (children (node_at s x) ++ held) (with_count s x 0)
last_holds t u disk opens held s x h r one =
    let is : count_of s x ≡ 1 = ap (λ l. get_or l x 0) h.stands.counts ∙ one in
    let live : 0 < count_of s x = omega arith in
    record {
      stands = recounted t u (seen disk.cells) opens opens s x 0 h.stands r.geometry (r.now ∙ ap (λ c. set (counts_now t) x (c - 1)) one) r.kept (λ b now closed. (live_before s x 0 live b now, closed));
      balanced = last_gone s opens held x h.balanced is;
    }

pub last : (t u : Tm) (disk : DiskState) (opens held : List ℕ) (s : Store) (x : ℕ) → Holds t disk opens (x ∷ held) s → IsRecounted t u x (get_or (counts_now t) x 0 - 1) → get_or (counts_now t) x 0 ≡ 1
    → Released s u disk opens (children (node_at s x) ++ held)
last t u disk opens held s x h r one = record { after = with_count s x 0; holds = last_holds t u disk opens held s x h r one; same = record { nodes = refl; kept = refl } }

-- an open block counts one
pub open_counts : (t : Tm) (disk : DiskState) (opens held : List ℕ) (s : Store) (x : ℕ) → Holds t disk (x ∷ opens) held s → get_or (counts_now t) x 0 ≡ 1
open_counts t disk opens held s x h =
    let one : count_of s x ≡ 1 = h.balanced.private x (omega (arith, one_same x x refl)) in
    ap (λ l. get_or l x 0) (sym h.stands.counts) ∙ one

-- it is given up
pub abandoned_holds : (t u : Tm) (disk : DiskState) (opens held : List ℕ) (s : Store) (x : ℕ) → Holds t disk (x ∷ opens) held s → IsRecounted t u x (get_or (counts_now t) x 0 - 1) → Holds u disk opens held (with_count s x 0)
abandoned_holds t u disk opens held s x h r =
    let one = open_counts t disk opens held s x h in
    let is : count_of s x ≡ 1 = ap (λ l. get_or l x 0) h.stands.counts ∙ one in
    let none : count_of (with_count s x 0) x ≡ 0 = count_same s x 0 (live_below s x (omega arith)) in
    record {
      stands = recounted t u (seen disk.cells) (x ∷ opens) opens s x 0 h.stands r.geometry (r.now ∙ ap (λ c. set (counts_now t) x (c - 1)) one) r.kept
          (λ b now closed.
          let d : b ≢ x = λ e. let z : count_of (with_count s x 0) b ≡ 0 = ap (count_of (with_count s x 0)) e ∙ none in omega arith in
          (subst (λ n. 0 < n) (count_other s x 0 b d) now, omega (arith, one_other x b (λ e. d (sym e)))));
      balanced = abandoned s opens held x h.balanced;
    }

-- a data block has no children
pub childless : (s : Store) (new : Tm) (disk : DiskState) (opens held : List ℕ) (x : ℕ) → (node_at s x).rank ≤ 0 → Released s new disk opens (children (node_at s x) ++ held) → Released s new disk opens held
childless s new disk opens held x low r = subst (λ l. Released s new disk opens (l ++ held)) (named_none (node_at s x).rank (node_at s x).entries low) r

pub held_positive : (t : Tm) (disk : DiskState) (opens held : List ℕ) (s : Store) (x : ℕ) → Holds t disk opens (x ∷ held) s → 0 < get_or (counts_now t) x 0
held_positive t disk opens held s x h =
    let live : 0 < count_of s x = held_live s opens (x ∷ held) x h.balanced (omega (arith, one_same x x refl)) in
    let is : count_of s x ≡ get_or (counts_now t) x 0 = ap (λ l. get_or l x 0) h.stands.counts in
    omega arith

-- ---- the node in the block of a reference that goes

module _ (t : Tm) (disk : DiskState) (opens held : List ℕ) (s : Store) (x top : ℕ) (kind : TreeKind) (h : Holds t disk opens (x ∷ held) s) (under : IsUnder kind top (node_at s x).rank) (more : 0 < top) where
  here : 0 < occurrences x (x ∷ held)
  here = omega (arith, one_same x x refl)

  pub spelled : IsSpelled t.geometry.metadata_blocks (seen disk.cells) x (node_at s x)
  spelled = h.stands.nodes x (held_live s opens (x ∷ held) x h.balanced here) (held_closed s opens (x ∷ held) x h.balanced here) (rank_above kind (node_at s x).rank (under.1 more))

  rank_is : (node_at s x).rank ≡ rank_of spelled.0.kind spelled.0.level
  rank_is = ap (λ (n : Node). n.rank) spelled.1.1

  pub kind_is : spelled.0.kind ≡ kind
  kind_is = kind_by_rank spelled.0.kind kind spelled.0.level spelled.1.0.good.form.level (subst (IsRankOf kind) rank_is (under.1 more))

  pub rank_low : rank_of kind spelled.0.level ≤ top
  rank_low = subst (λ k. rank_of k spelled.0.level ≤ top) kind_is (subst (λ r. r ≤ top) rank_is under.0)

-- ---- the loop over the children

-- what is left when the first i children are given up
abbrev pub Left : Tm → DiskState → ℕ → TreeKind → ℕ → NodeValue → Tm → ℕ → Type 0
Left old disk x kind top v now i = IsTrue disk.is_honest → (opens held : List ℕ) (s : Store) → Holds old disk opens (x ∷ held) s → IsUnder kind top (node_at s x).rank
    → (node_at s x ≡ node_from old.geometry.metadata_blocks v) × Released s now disk opens (drop i (children (node_at s x)) ++ held)

module _ (old : Tm) (disk : DiskState) (x top i : ℕ) (kind : TreeKind) (v : NodeValue) (now : Tm) (opens held : List ℕ) (s : Store) (h : Holds old disk opens (x ∷ held) s) (under : IsUnder kind top (node_at s x).rank) (more : 0 < top)
    (is : node_at s x ≡ node_from old.geometry.metadata_blocks v) (so_far : Released s now disk opens (drop i (children (node_at s x)) ++ held)) (within : i < length v.entries) (e : Entry) (at : slice_get v.entries i ≡ Some e) where
  abbrev ch : List ℕ
  ch = children (node_at s x)

  inside : i < length ch
  inside = omega (arith, ap (λ n. length (children n)) is, length-children old.geometry.metadata_blocks v)

  pub the_child : get_or ch i 0 ≡ first_named old.geometry.metadata_blocks v.kind v.level + e.value
  the_child = ap (λ n. get_or (children n) i 0) is ∙ child_at old.geometry.metadata_blocks v i e within at

  pub child_held : (child : ℕ) → child ≡ first_named old.geometry.metadata_blocks v.kind v.level + e.value → Holds now disk opens (child ∷ (drop (i + 1) ch ++ held)) so_far.after
  child_held child c = record {
    stands = so_far.holds.stands;
    balanced = subst (λ y. Balanced so_far.after opens (y ∷ (drop (i + 1) ch ++ held))) (the_child ∙ sym c) (releasing so_far.after opens held i ch so_far.holds.balanced inside);
  }

  pub child_under : (child rank : ℕ) → child ≡ first_named old.geometry.metadata_blocks v.kind v.level + e.value → rank ≡ rank_of v.kind v.level → IsUnder (kind_below rank) (rank - 1) (node_at so_far.after child).rank
  child_under child rank c r =
      let ranks : (node_at s x).rank ≡ rank = ap (λ (n : Node). n.rank) is ∙ sym r in
      let place : get_or ch i 0 ≡ child = the_child ∙ sym c in
      let names : MayName (node_at s x).rank (node_at s (get_or ch i 0)).rank = child_rank s opens held x i h.balanced inside in
      let names2 : MayName rank (node_at s child).rank = subst (λ k. MayName k (node_at s child).rank) ranks (subst (λ y. MayName (node_at s x).rank (node_at s y).rank) place names) in
      subst (λ (n : Node). IsUnder (kind_below rank) (rank - 1) n.rank) (sym (same_node s so_far.after so_far.same child))
      (under_child kind rank (node_at s child).rank (subst (IsRankOf kind) ranks (under.1 more)) names2)

  pub child_released : (new : Tm) → Released so_far.after new disk opens (drop (i + 1) ch ++ held) → Released s new disk opens (drop (i + 1) ch ++ held)
  child_released new r = record { after = r.after; holds = r.holds; same = same_trans s so_far.after r.after so_far.same r.same }

  pub child_below : (child : ℕ) → child ≡ first_named old.geometry.metadata_blocks v.kind v.level + e.value → child < length (counts_now now)
  child_below child c =
      let b : child < length so_far.after.counts = held_below so_far.after opens (drop (i + 1) ch ++ held) child (child_held child c).balanced in
      omega (arith, ap length so_far.holds.stands.counts)

-- when all children are given up
pub all_gone : (s : Store) (new : Tm) (disk : DiskState) (opens held : List ℕ) (x i m : ℕ) (v : NodeValue) → node_at s x ≡ node_from m v → length v.entries ≤ i → Released s new disk opens (drop i (children (node_at s x)) ++ held) → Released s new disk opens held
all_gone s new disk opens held x i m v is past r =
    subst (λ l. Released s new disk opens (l ++ held)) (drop_whole i (children (node_at s x)) (omega (arith, ap (λ n. length (children n)) is, length-children m v))) r

-- no rank is greater than 7
pub under_all : (kind : TreeKind) (rank : ℕ) → IsRankOf kind rank → IsUnder kind 7 rank
under_all kind rank ranked = (omega (arith, rank_below kind rank ranked), λ more. ranked)
