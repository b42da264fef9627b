-- A part below a node is written to its open block, joined with a sibling where it has too few entries, or refilled from it.
use Rattle.std.proofs.Common.{◌≡◌, ℕ, zero, suc, ◌+◌, ◌<◌, ◌≤◌, List, [], ◌∷◌, ◌++◌, length, get_or, take, drop, refl, sym, ap, subst, ◌∙◌, arith, inl, inr, length-append, append_assoc}
use Rattle.std.proofs.lemmas.Bool.{cases_lt}
use Rattle.std.proofs.lemmas.List.{append-nil, length-take, length-drop}
use Rattle.tp_layout.specs.declared.entry.Entry.{Entry}
use Rattle.tp_layout.specs.Entries.{first_key}
use Rattle.tp_refs.specs.Store.{MayName, Node, Store, children, node_at, values, with_node}
use Rattle.tp_refs.specs.Balance.{Balanced, Frame, SameBelow, SameNodes, occurrences, one_if_same}
use Rattle.tp_refs.specs.Lower.{LowerLast}
use Rattle.tp_refs.proofs.Steps.{frame_part, held_closed, held_live, occurrences-append, one_same}
use Rattle.tp_refs.proofs.Moves.{reordered}
use Rattle.tp_refs.proofs.Children.{same_node}
use Rattle.tp_refs.proofs.Lower.{last_opened, last_passed_on}
use Rattle.tp_trees.specs.Tree.{Parted, blank, joined, least_of, pairs}
use Rattle.tp_trees.specs.Growth.{Grown, Grows, One, Placed, StandsIn, Two, branch, branches, roots}
use Rattle.tp_trees.specs.Removal.{Mends, Refitted, Refitting, Shape, contents}
use Rattle.tp_trees.specs.Sizes.{gathered, nodes_of, nodes_under}
use Rattle.tp_trees.proofs.Trees.{children_values, joined-append, least_positive, parted_split, tree_rank}
use Rattle.tp_trees.proofs.Growth.{grown_inner, grown_leaf}
use Rattle.tp_trees.proofs.Frames.{Below, below_same, joined_same, occurrences_values}
use Rattle.tp_trees.proofs.Nodes.{branches_nodes, gathered-append, gathered_same, node_with, roots_few, stands_nodes, under-append}
use Rattle.tp_trees.proofs.Places.{occurrences_branches}
use Rattle.tp_trees.proofs.Insertion.{branches_joined, branches_parted}
use Rattle.tp_trees.proofs.Placing.{placed_after, placed_one}
use Rattle.tp_trees.proofs.Opened.{joined_spliced, spliced}
use Rattle.tp_trees.proofs.Shapes.{contents-append, shape-append, shape_less, tree_contents, tree_shape, under_same}

-- entries that were written to one block or two
pub grown_shape : (base k : ℕ) (u v : Store) (low up : ℕ) (g : Grown) (es : List Entry) → Shape base k u low up es → ((c j : ℕ) → 0 < occurrences c (values es) → SameBelow j u v c) → least_of (base + k) ≤ length es
    → StandsIn v g (base + k) es → Grows base k v low up g (least_of (base + k)) (contents k u es)
grown_shape base zero u v low up g es h f l stands =
    let e : base + 0 ≡ base = omega arith in
    grown_leaf base v low up g (least_of (base + 0)) es (subst (λ m. StandsIn v g m es) e stands) h l
grown_shape base (suc k) u v low up g es h f l stands =
    subst (λ ps. Grows base (suc k) v low up g (least_of (base + suc k)) ps) (joined_same base k u v low up es (λ c here. f c k here) h)
    (grown_inner base k v low up g (least_of (base + suc k)) es stands (below_same base k u v low up es (λ c here. f c k here) h) l)

length_branches : (low : ℕ) (g : Grown) → 1 ≤ length (branches low g)
length_branches low (One c) = omega arith
length_branches low (Two c m d) = omega arith

-- the entries then
module _ (base k : ℕ) (u v : Store) (low from to high at : ℕ) (front rest es : List Entry) (g : Grown) (opens held : List ℕ)
    (fp : Parted (Below base k u) low from front) (rp : Parted (Below base k u) to high rest) (shape : Shape base k u from to es) (many : least_of (base + k) ≤ length es)
    (p : Placed base u v at opens (values front ++ (values rest ++ held)) g (base + k) es) where
  parts : Grows base k v from to g (least_of (base + k)) (contents k u es)
  parts = grown_shape base k u v from to g es shape (λ c j here. p.frame c j (omega (arith, occurrences-append c (values es) (values front ++ (values rest ++ held))))) many p.stands

  front_kept : (c : ℕ) → 0 < occurrences c (values front) → SameBelow k u v c
  front_kept c here = p.frame c k (omega (arith, occurrences-append c (values es) (values front ++ (values rest ++ held)), occurrences-append c (values front) (values rest ++ held)))

  rest_kept : (c : ℕ) → 0 < occurrences c (values rest) → SameBelow k u v c
  rest_kept c here = p.frame c k (omega (arith, occurrences-append c (values es) (values front ++ (values rest ++ held)), occurrences-append c (values front) (values rest ++ held), occurrences-append c (values rest) held))

  pub mended_shape : Parted (Below base k v) low high (front ++ (branches from g ++ rest))
  mended_shape =
      spliced base k v low from to high front (branches from g) rest
      (below_same base k u v low from front front_kept fp)
      (branches_parted base k v from to (least_of (base + k)) g (contents k u es) (shape_less base k u from to es (omega (arith, many, least_positive (base + k))) shape) (omega arith) parts)
      (below_same base k u v to high rest rest_kept rp)

  pub mended_content : joined (pairs k v) (front ++ (branches from g ++ rest)) ≡ joined (pairs k u) front ++ (contents k u es ++ joined (pairs k u) rest)
  mended_content =
      joined_spliced (pairs k v) front (branches from g) rest (joined (pairs k u) front) (contents k u es) (joined (pairs k u) rest)
      (joined_same base k u v low from front front_kept fp)
      (branches_joined base k v from to (least_of (base + k)) g (contents k u es) parts)
      (joined_same base k u v to high rest rest_kept rp)

  pub mended_size : length (gathered (nodes_of k v) (front ++ (branches from g ++ rest))) ≡ length (gathered (nodes_of k u) front) + (length (roots g) + length (nodes_under k u es)) + length (gathered (nodes_of k u) rest)
  mended_size =
      let stays = λ (c j : ℕ) (here : 0 < occurrences c (values es)). p.frame c j (let o : occurrences c (values es ++ (values front ++ (values rest ++ held))) ≡ occurrences c (values es) + occurrences c (values front ++ (values rest ++ held)) = occurrences-append c (values es) (values front ++ (values rest ++ held)) in omega arith) in
      let under : length (nodes_under k v es) ≡ length (nodes_under k u es) = ap (λ (xs : List ℕ). length xs) (under_same base k u v from to es stays shape) in
      let fore : length (gathered (nodes_of k v) front) ≡ length (gathered (nodes_of k u) front) = ap (λ (xs : List ℕ). length xs) (gathered_same base k u v low from front front_kept fp) in
      let aft : length (gathered (nodes_of k v) rest) ≡ length (gathered (nodes_of k u) rest) = ap (λ (xs : List ℕ). length xs) (gathered_same base k u v to high rest rest_kept rp) in
      omega (
        arith,
        gathered-append (nodes_of k v) front (branches from g ++ rest),
        gathered-append (nodes_of k v) (branches from g) rest,
        branches_nodes k v from g,
        stands_nodes k v g (base + k) es p.stands,
        under,
        fore,
        aft,
      )

  pub mended_length : length front + length rest + 1 ≤ length (front ++ (branches from g ++ rest))
  mended_length = omega (arith, length_branches from g, length-append front (branches from g ++ rest), length-append (branches from g) rest)

  pub mended_balance : Balanced v opens (values (front ++ (branches from g ++ rest)) ++ held)
  mended_balance =
      reordered v opens (roots g ++ (values front ++ (values rest ++ held))) (values (front ++ (branches from g ++ rest)) ++ held)
      (λ x. omega (
        arith,
        occurrences-append x (values (front ++ (branches from g ++ rest))) held,
        occurrences_values x front (branches from g ++ rest),
        occurrences_values x (branches from g) rest,
        occurrences_branches x from g,
        occurrences-append x (roots g) (values front ++ (values rest ++ held)),
        occurrences-append x (values front) (values rest ++ held),
        occurrences-append x (values rest) held,
      )) p.balance

  pub mended_frame : Frame u v held
  mended_frame = frame_part u v (values es ++ (values front ++ (values rest ++ held))) held p.frame
      (λ x h. omega (arith, occurrences-append x (values es) (values front ++ (values rest ++ held)), occurrences-append x (values front) (values rest ++ held), occurrences-append x (values rest) held))

-- ---- the part has enough entries
pub whole_refitted : (base k : ℕ) (u : Store) (low high : ℕ) (es : List Entry) (i at : ℕ) (part : Node) (opens held : List ℕ) → Refitting base k u low high es i at part opens held → least_of (base + k) ≤ length part.entries
    → (v : Store) → Placed base u v at opens (values (take i es) ++ (values (drop (suc i) es) ++ held)) (One at) part.rank part.entries
    → Refitted base k u v low high es i at part (take i es ++ (branch (get_or es i blank).key at ∷ drop (suc i) es)) opens held
whole_refitted base k u low high es i at part opens held a many v p =
    let from = (get_or es i blank).key in
    let to = first_key (drop (suc i) es) high in
    let q : Placed base u v at opens (values (take i es) ++ (values (drop (suc i) es) ++ held)) (One at) (base + k) part.entries = subst (λ r. Placed base u v at opens (values (take i es) ++ (values (drop (suc i) es) ++ held)) (One at) r part.entries) a.rank p in
    record {
      shape = mended_shape base k u v low from to high at (take i es) (drop (suc i) es) part.entries (One at) opens held a.front a.rest a.shape many q;
      content = mended_content base k u v low from to high at (take i es) (drop (suc i) es) part.entries (One at) opens held a.front a.rest a.shape many q;
      size = omega (arith, mended_size base k u v low from to high at (take i es) (drop (suc i) es) part.entries (One at) opens held a.front a.rest a.shape many q);
      full = omega (
        arith,
        mended_length base k u v low from to high at (take i es) (drop (suc i) es) part.entries (One at) opens held a.front a.rest a.shape many q,
        length-take i es,
        length-drop (suc i) es,
        a.within,
      );
      balance = mended_balance base k u v low from to high at (take i es) (drop (suc i) es) part.entries (One at) opens held a.front a.rest a.shape many q;
      frame = mended_frame base k u v low from to high at (take i es) (drop (suc i) es) part.entries (One at) opens held a.front a.rest a.shape many q;
      last = p.last;
    }

-- ---- the part has one entry too few

-- what a part and a sibling of its rank may name
both_names : (u : Store) (opens held : List ℕ) (sibling rank : ℕ) (part : Node) → 0 < rank → (node_at u sibling).rank ≡ rank → part.rank ≡ rank → Balanced u opens (sibling ∷ held)
    → ((c : ℕ) → 0 < occurrences c (values part.entries) → MayName part.rank (node_at u c).rank)
    → (c : ℕ) → 0 < occurrences c (values (node_at u sibling).entries) + occurrences c (values part.entries) → MayName rank (node_at u c).rank
both_names u opens held sibling rank part pos l m bal may c here =
    elim (cases_lt 0 (occurrences c (values part.entries))) [
      | inl p ↦ subst (λ r. MayName r (node_at u c).rank) m (may c p)
      | inr z ↦
          let me : one_if_same sibling sibling ≡ 1 = one_same sibling sibling refl in
          let n : children (node_at u sibling) ≡ values (node_at u sibling).entries = children_values (node_at u sibling) (omega arith) in
          subst (λ r. MayName r (node_at u c).rank) l
          (bal.ranks sibling c (held_live u opens (sibling ∷ held) sibling bal (omega arith)) (held_closed u opens (sibling ∷ held) sibling bal (omega arith)) (subst (λ xs. 0 < occurrences c xs) (sym n) (omega arith)))
    ]

take_suc : (es : List Entry) (j : ℕ) → j < length es → take (suc j) es ≡ take j es ++ get_or es j blank ∷ []
take_suc [] j h = absurd (omega arith)
take_suc (e ∷ es) zero h = refl
take_suc (e ∷ es) (suc j) h = ap (λ (xs : List Entry). e ∷ xs) (take_suc es j (omega arith))

-- the sibling stands before the part
module _ (base k : ℕ) (u : Store) (low high : ℕ) (es : List Entry) (j at : ℕ) (part : Node) (opens held : List ℕ) (a : Refitting base k u low high es (suc j) at part opens held) (pos : 0 < base + k) where
  abbrev e : Entry
  e = get_or es j blank

  abbrev middle : ℕ
  middle = (get_or es (suc j) blank).key

  abbrev to : ℕ
  to = first_key (drop (suc (suc j)) es) high

  j_within : j < length es
  j_within = omega (arith, a.within)

  split : Parted (Below base k u) low e.key (take j es) × Parted (Below base k u) e.key middle (e ∷ [])
  split = parted_split (Below base k u) low middle (take j es) (e ∷ []) (subst (Parted (Below base k u) low middle) (take_suc es j j_within) a.front)

  pub left_tree : Below base k u (get_or es j blank).key (get_or es (suc j) blank).key (get_or es j blank).value
  left_tree = split.1.2

  pub left_rank : (node_at u (get_or es j blank).value).rank ≡ base + k
  left_rank = tree_rank base k u e.key middle e.value left_tree.0

  abbrev pub left_beside : List ℕ
  left_beside = values part.entries ++ (values (take j es) ++ (values (drop (suc (suc j)) es) ++ held))

  abbrev pub left_kept : List ℕ
  left_kept = values (take j es) ++ (values (drop (suc (suc j)) es) ++ held)

  pub left_mends : Mends u at (get_or es j blank).value (base + k) ((node_at u (get_or es j blank).value).entries ++ part.entries) opens left_beside left_kept
  left_mends =
      let bal : Balanced u (at ∷ opens) (e.value ∷ left_beside) =
      reordered u (at ∷ opens) (values part.entries ++ (values (take (suc j) es) ++ (values (drop (suc (suc j)) es) ++ held))) (e.value ∷ left_beside)
      (λ x.
      let t : occurrences x (values (take (suc j) es)) ≡ occurrences x (values (take j es ++ e ∷ [])) = ap (λ fs. occurrences x (values fs)) (take_suc es j j_within) in
      omega (
        arith,
        occurrences_values x (take j es) (e ∷ []),
        occurrences-append x (values part.entries) (values (take (suc j) es) ++ (values (drop (suc (suc j)) es) ++ held)),
        occurrences-append x (values (take (suc j) es)) (values (drop (suc (suc j)) es) ++ held),
        occurrences-append x (values part.entries) (values (take j es) ++ (values (drop (suc (suc j)) es) ++ held)),
        occurrences-append x (values (take j es)) (values (drop (suc (suc j)) es) ++ held),
      )) a.balance in
      record {
        balance = bal;
        parts = λ x.
            let n : occurrences x (children (node_at u e.value)) ≡ occurrences x (values (node_at u e.value).entries) = ap (occurrences x) (children_values (node_at u e.value) (omega (arith, left_rank))) in
            omega (arith, occurrences_values x (node_at u e.value).entries part.entries, occurrences-append x (values part.entries) (values (take j es) ++ (values (drop (suc (suc j)) es) ++ held)));
        names = λ x here. both_names u (at ∷ opens) left_beside e.value (base + k) part pos left_rank a.rank bal a.names x (omega (arith, occurrences_values x (node_at u e.value).entries part.entries));
        rank_there = left_rank;
      }

  pub left_refitted : (v : Store) (g : Grown) → Placed base u v at opens left_kept g (base + k) ((node_at u (get_or es j blank).value).entries ++ part.entries)
      → Refitted base k u v low high es (suc j) at part (take j es ++ (branches (get_or es j blank).key g ++ drop (suc (suc j)) es)) opens held
  left_refitted v g p =
      let L = (node_at u e.value).entries in
      let shape : Shape base k u e.key to (L ++ part.entries) = shape-append base k u e.key middle to L part.entries (tree_shape base k u e.key middle e.value left_tree.0) a.shape in
      let many : least_of (base + k) ≤ length (L ++ part.entries) = omega (arith, left_tree.1, length-append L part.entries) in
      record {
        shape = mended_shape base k u v low e.key to high at (take j es) (drop (suc (suc j)) es) (L ++ part.entries) g opens held split.0 a.rest shape many p;
        content =
            mended_content base k u v low e.key to high at (take j es) (drop (suc (suc j)) es) (L ++ part.entries) g opens held split.0 a.rest shape many p
            ∙ sym (regrouped (pairs k u) (take (suc j) es) (take j es) e (contents k u part.entries) (joined (pairs k u) (drop (suc (suc j)) es)) (contents k u (L ++ part.entries)) (take_suc es j j_within)
            (contents-append k u L part.entries ∙ ap (λ xs. xs ++ contents k u part.entries) (sym (tree_contents k u e.value))));
        size =
            let front : length (gathered (nodes_of k u) (take (suc j) es)) ≡ length (gathered (nodes_of k u) (take j es ++ e ∷ [])) = ap (λ xs. length (gathered (nodes_of k u) xs)) (take_suc es j j_within) in
            omega (
              arith,
              mended_size base k u v low e.key to high at (take j es) (drop (suc (suc j)) es) (L ++ part.entries) g opens held split.0 a.rest shape many p,
              front,
              gathered-append (nodes_of k u) (take j es) (e ∷ []),
              length-append (nodes_of k u e.value) [],
              node_with k u e.value (node_at u e.value) refl,
              under-append k u L part.entries,
              roots_few g,
            );
        full =
            omega (arith, mended_length base k u v low e.key to high at (take j es) (drop (suc (suc j)) es) (L ++ part.entries) g opens held split.0 a.rest shape many p, length-take j es, length-drop (suc (suc j)) es, a.within);
        balance = mended_balance base k u v low e.key to high at (take j es) (drop (suc (suc j)) es) (L ++ part.entries) g opens held split.0 a.rest shape many p;
        frame = mended_frame base k u v low e.key to high at (take j es) (drop (suc (suc j)) es) (L ++ part.entries) g opens held split.0 a.rest shape many p;
        last = p.last;
      }
    where
      regrouped : (f : ℕ → List Entry) (all front : List Entry) (x : Entry) (p z both : List Entry) → all ≡ front ++ x ∷ [] → both ≡ f x.value ++ p → joined f all ++ (p ++ z) ≡ joined f front ++ (both ++ z)
      regrouped f all front x p z both ea eb =
          ap (λ xs. joined f xs ++ (p ++ z)) ea
          ∙ (ap (λ xs. xs ++ (p ++ z)) (joined-append f front (x ∷ []) ∙ ap (λ xs. joined f front ++ xs) (append-nil (f x.value)))
          ∙ (append_assoc (joined f front) (f x.value) (p ++ z)
          ∙ ap (λ xs. joined f front ++ xs) (sym (append_assoc (f x.value) p z) ∙ ap (λ xs. xs ++ z) (sym eb))))

-- the sibling stands behind the part, which is the first
module _ (base k : ℕ) (u : Store) (low high : ℕ) (d e : Entry) (tl : List Entry) (at : ℕ) (part : Node) (opens held : List ℕ) (a : Refitting base k u low high (d ∷ e ∷ tl) zero at part opens held) (pos : 0 < base + k) where
  next_rank : (node_at u e.value).rank ≡ base + k
  next_rank = tree_rank base k u e.key (first_key tl high) e.value a.rest.2.0

  abbrev next_beside : List ℕ
  next_beside = values part.entries ++ (values tl ++ held)

  next_mends : Mends u at e.value (base + k) (part.entries ++ (node_at u e.value).entries) opens next_beside (values tl ++ held)
  next_mends =
      let bal : Balanced u (at ∷ opens) (e.value ∷ next_beside) =
      reordered u (at ∷ opens) (values part.entries ++ (e.value ∷ (values tl ++ held))) (e.value ∷ next_beside)
      (λ x. omega (arith, occurrences-append x (values part.entries) (e.value ∷ (values tl ++ held)), occurrences-append x (values part.entries) (values tl ++ held))) a.balance in
      record {
        balance = bal;
        parts = λ x.
            let n : occurrences x (children (node_at u e.value)) ≡ occurrences x (values (node_at u e.value).entries) = ap (occurrences x) (children_values (node_at u e.value) (omega (arith, next_rank))) in
            omega (arith, occurrences_values x part.entries (node_at u e.value).entries, occurrences-append x (values part.entries) (values tl ++ held));
        names = λ x here. both_names u (at ∷ opens) next_beside e.value (base + k) part pos next_rank a.rank bal a.names x (omega (arith, occurrences_values x part.entries (node_at u e.value).entries));
        rank_there = next_rank;
      }

  next_refitted : (v : Store) (g : Grown) → Placed base u v at opens (values tl ++ held) g (base + k) (part.entries ++ (node_at u e.value).entries)
      → Refitted base k u v low high (d ∷ e ∷ tl) zero at part (branches d.key g ++ tl) opens held
  next_refitted v g p =
      let R = (node_at u e.value).entries in
      let to = first_key tl high in
      let none : List Entry = [] in
      let shape : Shape base k u d.key to (part.entries ++ R) = shape-append base k u d.key e.key to part.entries R a.shape (tree_shape base k u e.key to e.value a.rest.2.0) in
      let many : least_of (base + k) ≤ length (part.entries ++ R) = omega (arith, a.rest.2.1, length-append part.entries R) in
      record {
        shape = mended_shape base k u v low d.key to high at none tl (part.entries ++ R) g opens held a.front a.rest.3 shape many p;
        content =
            mended_content base k u v low d.key to high at none tl (part.entries ++ R) g opens held a.front a.rest.3 shape many p
            ∙ (ap (λ xs. xs ++ joined (pairs k u) tl) (contents-append k u part.entries R)
            ∙ (append_assoc (contents k u part.entries) (contents k u R) (joined (pairs k u) tl)
            ∙ ap (λ xs. contents k u part.entries ++ (xs ++ joined (pairs k u) tl)) (sym (tree_contents k u e.value))));
        size = omega (
          arith,
          mended_size base k u v low d.key to high at none tl (part.entries ++ R) g opens held a.front a.rest.3 shape many p,
          length-append (nodes_of k u e.value) (gathered (nodes_of k u) tl),
          node_with k u e.value (node_at u e.value) refl,
          under-append k u part.entries R,
          roots_few g,
        );
        full = omega (arith, mended_length base k u v low d.key to high at none tl (part.entries ++ R) g opens held a.front a.rest.3 shape many p);
        balance = mended_balance base k u v low d.key to high at none tl (part.entries ++ R) g opens held a.front a.rest.3 shape many p;
        frame = mended_frame base k u v low d.key to high at none tl (part.entries ++ R) g opens held a.front a.rest.3 shape many p;
        last = p.last;
      }

pub right_rank : (base k : ℕ) (u : Store) (low high : ℕ) (es : List Entry) (at : ℕ) (part : Node) (opens held : List ℕ) → Refitting base k u low high es zero at part opens held → 0 < base + k → (node_at u (get_or es 1 blank).value).rank ≡ base + k
right_rank base k u low high [] at part opens held a pos = absurd (omega (arith, a.several))
right_rank base k u low high (d ∷ []) at part opens held a pos = absurd (omega (arith, a.several))
right_rank base k u low high (d ∷ e ∷ tl) at part opens held a pos = next_rank base k u low high d e tl at part opens held a pos

pub right_tree : (base k : ℕ) (u : Store) (low high : ℕ) (es : List Entry) (at : ℕ) (part : Node) (opens held : List ℕ) → Refitting base k u low high es zero at part opens held
    → Below base k u (get_or es 1 blank).key (first_key (drop 2 es) high) (get_or es 1 blank).value
right_tree base k u low high [] at part opens held a = absurd (omega (arith, a.several))
right_tree base k u low high (d ∷ []) at part opens held a = absurd (omega (arith, a.several))
right_tree base k u low high (d ∷ e ∷ tl) at part opens held a = a.rest.2

pub right_mends : (base k : ℕ) (u : Store) (low high : ℕ) (es : List Entry) (at : ℕ) (part : Node) (opens held : List ℕ) → Refitting base k u low high es zero at part opens held → 0 < base + k
    → Mends u at (get_or es 1 blank).value (base + k) (part.entries ++ (node_at u (get_or es 1 blank).value).entries) opens (values part.entries ++ (values (drop 2 es) ++ held)) (values (drop 2 es) ++ held)
right_mends base k u low high [] at part opens held a pos = absurd (omega (arith, a.several))
right_mends base k u low high (d ∷ []) at part opens held a pos = absurd (omega (arith, a.several))
right_mends base k u low high (d ∷ e ∷ tl) at part opens held a pos = next_mends base k u low high d e tl at part opens held a pos

pub right_refitted : (base k : ℕ) (u : Store) (low high : ℕ) (es : List Entry) (at : ℕ) (part : Node) (opens held : List ℕ) → Refitting base k u low high es zero at part opens held → 0 < base + k
    → (v : Store) (g : Grown) → Placed base u v at opens (values (drop 2 es) ++ held) g (base + k) (part.entries ++ (node_at u (get_or es 1 blank).value).entries)
    → Refitted base k u v low high es zero at part (branches (get_or es 0 blank).key g ++ drop 2 es) opens held
right_refitted base k u low high [] at part opens held a pos v g p = absurd (omega (arith, a.several))
right_refitted base k u low high (d ∷ []) at part opens held a pos v g p = absurd (omega (arith, a.several))
right_refitted base k u low high (d ∷ e ∷ tl) at part opens held a pos v g p = next_refitted base k u low high d e tl at part opens held a pos v g p

-- ---- the entries of both are written

-- to the open block alone: the reference to the sibling became references to what it names
module _ (base : ℕ) (s t : Store) (at sibling rank : ℕ) (es : List Entry) (opens held kept : List ℕ) (m : Mends s at sibling rank es opens held kept)
    (pos : 0 < rank) (above : base ≤ rank)
    (same : SameNodes s t) (now : Balanced t (at ∷ opens) (children (node_at s sibling) ++ held)) where
  pub joined_balance : Balanced t (at ∷ opens) (values es ++ kept)
  joined_balance = reordered t (at ∷ opens) (children (node_at s sibling) ++ held) (values es ++ kept)
      (λ x. omega (arith, m.parts x, occurrences-append x (values es) kept, occurrences-append x (children (node_at s sibling)) held)) now

  pub joined_names : (c : ℕ) → 0 < occurrences c (values es) → MayName rank (node_at t c).rank
  joined_names c here = subst (λ (n : Node). MayName rank n.rank) (sym (same_node s t same c)) (m.names c here)

  pub joined_placed : (n : Node) → n.rank ≡ rank → n.entries ≡ es → at < length t.nodes → length es ≤ 252 → Placed base s (with_node t at n) at opens kept (One at) rank es
  joined_placed n r e inside fits =
      let last : LowerLast base (at ∷ opens) (at ∷ opens) s t = last_passed_on base s t (at ∷ opens) held sibling m.balance now same (omega (arith, m.rank_there)) in
      let bal : Balanced t (at ∷ opens) (values n.entries ++ kept) = subst (λ (xs : List Entry). Balanced t (at ∷ opens) (values xs ++ kept)) (sym e) joined_balance in
      let p : Placed base t (with_node t at n) at opens kept (One at) n.rank n.entries = placed_one base t opens kept at n bal inside (omega (arith, r)) (omega (arith, ap length e))
      (λ c here. subst (λ q. MayName q (node_at t c).rank) (sym r) (joined_names c (subst (λ (xs : List Entry). 0 < occurrences c (values xs)) e here))) in
      placed_after base s t (with_node t at n) at opens kept (One at) rank es same last
      (subst (λ q. Placed base t (with_node t at n) at opens kept (One at) q es) r
      (subst (λ (xs : List Entry). Placed base t (with_node t at n) at opens kept (One at) n.rank xs) e p))

-- to the open block and that of the sibling, which was opened too
module _ (base : ℕ) (s t : Store) (at sibling other rank : ℕ) (es : List Entry) (opens held kept : List ℕ) (m : Mends s at sibling rank es opens held kept)
    (above : base ≤ rank)
    (same : SameNodes s t) (now : Balanced t (other ∷ at ∷ opens) (children (node_at s sibling) ++ held)) where
  pub evened_balance : Balanced t (other ∷ at ∷ opens) (values es ++ kept)
  evened_balance = reordered t (other ∷ at ∷ opens) (children (node_at s sibling) ++ held) (values es ++ kept)
      (λ x. omega (arith, m.parts x, occurrences-append x (values es) kept, occurrences-append x (children (node_at s sibling)) held)) now

  pub evened_last : LowerLast base (at ∷ opens) (other ∷ at ∷ opens) s t
  evened_last = last_opened base s t (at ∷ opens) held sibling other m.balance now same (omega (arith, m.rank_there))
