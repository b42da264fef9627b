-- Entries are written to one open block, or to two.
use Rattle.std.proofs.Common.{◌≡◌, ◌≢◌, ℕ, zero, suc, ◌+◌, ◌<◌, ◌≤◌, List, [], ◌∷◌, ◌++◌, length, get_or, refl, sym, ap, subst, ◌∙◌, arith, inl, inr, get_or-set_other, get_or-set_same}
use Rattle.std.proofs.Math.ListN.{length-set}
use Rattle.std.proofs.lemmas.Bool.{cases_lt, cases_eq}
use Rattle.tp_layout.specs.declared.entry.Entry.{Entry}
use Rattle.tp_layout.specs.Entries.{Ascend, first_key, with_entry}
use Rattle.tp_layout.proofs.Ordered.{ascend_left, ascend_right, with_entry_here, with_entry_later, with_entry_left, with_entry_right}
use Rattle.tp_refs.specs.Store.{MayName, Node, Store, children, count_of, no_node, node_at, values, with_node}
use Rattle.tp_refs.specs.Balance.{Balanced, Frame, SameBelow, SameNodes, occurrences}
use Rattle.tp_refs.specs.Lower.{LowerLast}
use Rattle.tp_refs.proofs.Steps.{below_trans, frame_same, frame_trans, occurrences-append, one_same}
use Rattle.tp_refs.proofs.Moves.{reordered, written, written_frame}
use Rattle.tp_refs.proofs.Children.{same_node}
use Rattle.tp_refs.proofs.Lower.{last_trans, last_written}
use Rattle.tp_trees.specs.Tree.{least_of}
use Rattle.tp_trees.specs.Growth.{Grown, One, Placed, Two}
use Rattle.tp_trees.proofs.Trees.{children_values}
use Rattle.tp_trees.proofs.Frames.{occurrences_values}

-- ---- one block

-- what the write of a node with these entries needs
pub ready_one : (t : Store) (opens held : List ℕ) (at : ℕ) (n : Node) → Balanced t (at ∷ opens) (values n.entries ++ held) → 0 < n.rank → Balanced t (at ∷ opens) (children n ++ held)
ready_one t opens held at n h pos = subst (λ xs. Balanced t (at ∷ opens) (xs ++ held)) (sym (children_values n pos)) h

pub ready_names : (t : Store) (n : Node) → 0 < n.rank → ((c : ℕ) → 0 < occurrences c (values n.entries) → MayName n.rank (node_at t c).rank)
    → (c : ℕ) → 0 < occurrences c (children n) → MayName n.rank (node_at t c).rank
ready_names t n pos h c here = h c (subst (λ xs. 0 < occurrences c xs) (children_values n pos) here)

pub placed_one : (base : ℕ) (t : Store) (opens held : List ℕ) (at : ℕ) (n : Node) → Balanced t (at ∷ opens) (values n.entries ++ held) → at < length t.nodes → 0 < n.rank → length n.entries ≤ 252
    → ((c : ℕ) → 0 < occurrences c (values n.entries) → MayName n.rank (node_at t c).rank) → Placed base t (with_node t at n) at opens held (One at) n.rank n.entries
placed_one base t opens held at n h inside pos fits may =
    let ready = ready_one t opens held at n h pos in
    record {
      stands = get_or-set_same t.nodes at n no_node inside;
      balance = written t opens held at n ready inside fits (ready_names t n pos may);
      frame = written_frame t opens (values n.entries ++ held) at n h;
      last = last_written base opens t at n;
    }

-- ---- two blocks, written one after the other

-- what stands then
pub record Both (base : ℕ) (t : Store) (opens held vs : List ℕ) (p q : ℕ) (m n : Node) : Type 0 where
  pub first : Balanced t (p ∷ q ∷ opens) (children m ++ (children n ++ held))
  pub first_names : (c : ℕ) → 0 < occurrences c (children m) → MayName m.rank (node_at t c).rank
  pub second : Balanced (with_node t p m) (q ∷ opens) (children n ++ (p ∷ held))
  pub second_names : (c : ℕ) → 0 < occurrences c (children n) → MayName n.rank (node_at (with_node t p m) c).rank
  pub balance : Balanced (with_node (with_node t p m) q n) opens (q ∷ p ∷ held)
  pub at_first : node_at (with_node (with_node t p m) q n) p ≡ m
  pub at_second : node_at (with_node (with_node t p m) q n) q ≡ n
  pub frame : Frame t (with_node (with_node t p m) q n) (vs ++ held)
  pub last : LowerLast base (p ∷ q ∷ opens) opens t (with_node (with_node t p m) q n)

module _ (base : ℕ) (t : Store) (opens held vs : List ℕ) (p q : ℕ) (m n : Node)
    (h : Balanced t (p ∷ q ∷ opens) (vs ++ held))
    (parts : (c : ℕ) → occurrences c vs ≡ occurrences c (values m.entries) + occurrences c (values n.entries))
    (inside : p < length t.nodes) (inside_too : q < length t.nodes)
    (pos : 0 < m.rank) (pos_too : 0 < n.rank)
    (fits : length m.entries ≤ 252) (fits_too : length n.entries ≤ 252)
    (may : (c : ℕ) → 0 < occurrences c (values m.entries) → MayName m.rank (node_at t c).rank)
    (may_too : (c : ℕ) → 0 < occurrences c (values n.entries) → MayName n.rank (node_at t c).rank) where
  differ : q ≢ p
  differ e =
      let a : count_of t p ≡ 1 = h.private p (omega (arith, one_same p p refl)) in
      omega (arith, h.true p, one_same p p refl, one_same q p e)

  cm : (c : ℕ) → occurrences c (children m) ≡ occurrences c (values m.entries)
  cm c = ap (occurrences c) (children_values m pos)

  cn : (c : ℕ) → occurrences c (children n) ≡ occurrences c (values n.entries)
  cn c = ap (occurrences c) (children_values n pos_too)

  first_ready : Balanced t (p ∷ q ∷ opens) (children m ++ (children n ++ held))
  first_ready = reordered t (p ∷ q ∷ opens) (vs ++ held) (children m ++ (children n ++ held))
      (λ c. omega (arith, parts c, cm c, cn c, occurrences-append c vs held, occurrences-append c (children m) (children n ++ held), occurrences-append c (children n) held)) h

  may_first : (c : ℕ) → 0 < occurrences c (children m) → MayName m.rank (node_at t c).rank
  may_first c here = may c (omega (arith, cm c))

  between : Balanced (with_node t p m) (q ∷ opens) (p ∷ (children n ++ held))
  between = written t (q ∷ opens) (children n ++ held) p m first_ready inside fits may_first

  second_ready : Balanced (with_node t p m) (q ∷ opens) (children n ++ (p ∷ held))
  second_ready = reordered (with_node t p m) (q ∷ opens) (p ∷ (children n ++ held)) (children n ++ (p ∷ held))
      (λ c. omega (arith, occurrences-append c (children n) held, occurrences-append c (children n) (p ∷ held))) between

  first_frame : Frame t (with_node t p m) (children m ++ (children n ++ held))
  first_frame = written_frame t (q ∷ opens) (children m ++ (children n ++ held)) p m first_ready

  second_frame : Frame (with_node t p m) (with_node (with_node t p m) q n) (children n ++ (p ∷ held))
  second_frame = written_frame (with_node t p m) opens (children n ++ (p ∷ held)) q n second_ready

  may_second : (c : ℕ) → 0 < occurrences c (children n) → MayName n.rank (node_at (with_node t p m) c).rank
  may_second c here =
      subst (λ (x : Node). MayName n.rank x.rank) (sym (first_frame c zero (omega (arith, occurrences-append c (children m) (children n ++ held), occurrences-append c (children n) held))))
      (may_too c (omega (arith, cn c)))

  long : length (with_node t p m).nodes ≡ length t.nodes
  long = length-set t.nodes p m

  stood : node_at (with_node t p m) p ≡ m
  stood = get_or-set_same t.nodes p m no_node inside

  both_frame : Frame t (with_node (with_node t p m) q n) (vs ++ held)
  both_frame r k here =
      let in_all : 0 < occurrences r (children m ++ (children n ++ held)) = omega (arith, parts r, cm r, cn r, occurrences-append r vs held, occurrences-append r (children m) (children n ++ held), occurrences-append r (children n) held) in
      let later : SameBelow k (with_node t p m) (with_node (with_node t p m) q n) r =
      elim (cases_lt 0 (occurrences r (children n ++ (p ∷ held)))) [
        | inl l ↦ second_frame r k l
        | inr z ↦
            (second_frame p (suc k) (omega (arith, occurrences-append p (children n) (p ∷ held), one_same p p refl))).1 r
            (subst (λ (x : Node). 0 < occurrences r (children x)) (sym stood)
            (omega (
              arith,
              occurrences-append r (children m) (children n ++ held),
              occurrences-append r (children n) (p ∷ held),
              occurrences-append r (children n) held,
            )))
      ] in
      below_trans k t (with_node t p m) (with_node (with_node t p m) q n) r (first_frame r k in_all) later

  pub both : Both base t opens held vs p q m n
  both = record {
    first = first_ready;
    first_names = may_first;
    second = second_ready;
    second_names = may_second;
    balance = written (with_node t p m) opens (p ∷ held) q n second_ready (omega (arith, long)) fits_too may_second;
    at_first = get_or-set_other (with_node t p m).nodes q p n no_node (λ e. differ (sym e)) ∙ stood;
    at_second = get_or-set_same (with_node t p m).nodes q n no_node (omega (arith, long));
    frame = both_frame;
    last = last_trans base (p ∷ q ∷ opens) (q ∷ opens) opens t (with_node t p m) (with_node (with_node t p m) q n) (last_written base (q ∷ opens) t p m) (last_written base opens (with_node t p m) q n);
  }

-- ---- the halves of a node that is too full

-- the first key of entries, by place
pub first_key_head : (es : List Entry) (high : ℕ) (d : Entry) → 0 < length es → first_key es high ≡ (get_or es 0 d).key
first_key_head [] high d h = absurd (omega arith)
first_key_head (e ∷ es) high d h = refl

-- an entry that is put in behind the first leaves the first key
pub first_key_with_entry : (x : Entry) (es : List Entry) (high : ℕ) → 0 < length es → first_key es high ≤ x.key → first_key (with_entry x es) high ≡ first_key es high
first_key_with_entry x [] high h l = absurd (omega arith)
first_key_with_entry x (e ∷ es) high h l =
    elim (cases_eq e.key x.key) [
      | inl p ↦ ap (λ (xs : List Entry). first_key xs high) (with_entry_here x e es p) ∙ sym p
      | inr d ↦ ap (λ (xs : List Entry). first_key xs high) (with_entry_later x e es (omega (arith, d)))
    ]

-- an entry that is put into one of two halves is put into the whole
pub put_left_half : (low high : ℕ) (x : Entry) (left right : List Entry) → Ascend low high (left ++ right) → x.key < first_key right high → with_entry x left ++ right ≡ with_entry x (left ++ right)
put_left_half low high x left right up l = sym (with_entry_left (first_key right high) high x left right (ascend_right low high left right up) l)

pub put_right_half : (low high : ℕ) (x : Entry) (left right : List Entry) → Ascend low high (left ++ right) → first_key right high ≤ x.key → left ++ with_entry x right ≡ with_entry x (left ++ right)
put_right_half low high x left right up l = sym (with_entry_right low (first_key right high) high x left right (ascend_left low high left right up) l)

-- A second block was opened, or was free and is taken. The upper part is written to it, then the lower one to the first.
module _ (base : ℕ) (s t : Store) (opens held : List ℕ) (at other middle rank : ℕ) (left right : Node) (es : List Entry)
    (same : SameNodes s t) (opened : LowerLast base (at ∷ opens) (other ∷ at ∷ opens) s t)
    (h : Balanced t (other ∷ at ∷ opens) (values es ++ held))
    (inside : at < length t.nodes) (inside_too : other < length t.nodes)
    (whole : es ≡ left.entries ++ right.entries)
    (rank_left : left.rank ≡ rank) (rank_right : right.rank ≡ rank) (pos : 0 < rank)
    (full : least_of rank ≤ length left.entries) (full_too : least_of rank ≤ length right.entries)
    (fits : length left.entries ≤ 252) (fits_too : length right.entries ≤ 252)
    (between : (high : ℕ) → first_key right.entries high ≡ middle)
    (may : (c : ℕ) → 0 < occurrences c (values es) → MayName rank (node_at s c).rank) where
  es_parts : (c : ℕ) → occurrences c (values es) ≡ occurrences c (values right.entries) + occurrences c (values left.entries)
  es_parts c =
      let e : occurrences c (values es) ≡ occurrences c (values (left.entries ++ right.entries)) = ap (λ xs. occurrences c (values xs)) whole in
      omega (arith, occurrences_values c left.entries right.entries)

  may_now : (c : ℕ) → 0 < occurrences c (values es) → MayName rank (node_at t c).rank
  may_now c here = subst (λ (n : Node). MayName rank n.rank) (sym (same_node s t same c)) (may c here)

  -- what each of the two writes needs
  pub both_halves : Both base t opens held (values es) other at right left
  both_halves = both base t opens held (values es) other at right left h es_parts inside_too inside (omega (arith, rank_right)) (omega (arith, rank_left)) fits_too fits
      (λ c here. subst (λ r. MayName r (node_at t c).rank) (sym rank_right) (may_now c (omega (arith, es_parts c))))
      (λ c here. subst (λ r. MayName r (node_at t c).rank) (sym rank_left) (may_now c (omega (arith, es_parts c))))

  pub placed_two : Placed base s (with_node (with_node t other right) at left) at opens held (Two at middle other) rank es
  placed_two =
      let b = both_halves in
      record {
        stands = record {
          left = left.entries;
          right = right.entries;
          whole = whole;
          at_left = b.at_second ∙ ap (λ r. record { rank = r; entries = left.entries }) rank_left;
          at_right = b.at_first ∙ ap (λ r. record { rank = r; entries = right.entries }) rank_right;
          between = between;
          left_full = full;
          right_full = full_too;
        };
        balance = b.balance;
        frame = frame_trans s t (with_node (with_node t other right) at left) (values es ++ held) (frame_same s t (values es ++ held) same.nodes) b.frame;
        last = last_trans base (at ∷ opens) (other ∷ at ∷ opens) opens s t (with_node (with_node t other right) at left) opened b.last;
      }

-- A step that writes nothing lies before.
pub placed_after : (base : ℕ) (s t v : Store) (at : ℕ) (opens held : List ℕ) (g : Grown) (rank : ℕ) (es : List Entry) → SameNodes s t → LowerLast base (at ∷ opens) (at ∷ opens) s t
    → Placed base t v at opens held g rank es → Placed base s v at opens held g rank es
placed_after base s t v at opens held g rank es same last p = record {
  stands = p.stands;
  balance = p.balance;
  frame = frame_trans s t v (values es ++ held) (frame_same s t (values es ++ held) same.nodes) p.frame;
  last = last_trans base (at ∷ opens) (at ∷ opens) opens s t v last p.last;
}
