-- What keeps a node good.
use Rattle.std.proofs.Common.{◌≡◌, ℕ, zero, suc, ◌+◌, ◌-◌, ◌/◌, ◌^◌, ◌<◌, ◌≤◌, Bool, List, [], ◌∷◌, ◌++◌, length, get_or, take, drop, set, All, refl, sym, ap, subst, ◌∙◌, arith, Option, Some, None}
use Rattle.std.specs.Prelude.{insert, slice_get, IsSome}
use Rattle.std.proofs.lemmas.Option.{slice_get-get_or}
use Rattle.std.specs.List.{remove}
use Rattle.std.specs.List.Sorted.{IsStrictlyIncreasing}
use Rattle.std.proofs.lemmas.List.{length-append, length-take, length-drop, take-append-drop, append-nil}
use Rattle.std.proofs.lemmas.List.Elements.{All-append, All-cons, All-take, All-drop, All-set}
use Rattle.tp_layout.specs.declared.entry.Entry.{Entry}
use Rattle.tp_layout.specs.Node.{NodeValue, FitsEntry, IsNode, is_long, keys, most_entries}
use Rattle.tp_layout.specs.Entries.{rank_of, found, with_entry, without_key, Ascend}
use Rattle.tp_layout.proofs.Ordered.{ascend_from_increasing, increasing_from_ascend, ascend-append, ascend_left, ascend_right, keys_in_order, get_or-keys, ascend_remove, ascend_with_entry, insert_at_rank, length-with_new, length-with_known, placed}

abbrev pub with_entries : NodeValue → List Entry → NodeValue
with_entries n es = record n { entries = es }

pub good_with : (n : NodeValue) (es : List Entry) → IsNode n → length es ≤ most_entries (is_long n.kind n.level) → All (FitsEntry (is_long n.kind n.level)) es
    → IsStrictlyIncreasing (keys es) → IsNode (record n { entries = es })
good_with n es good room fits up = record {
  form = record { level = good.form.level; own = good.form.own; room = room; entries = fits };
  ascending = up;
}

-- the keys of entries that fit lie in one interval
pub ascend_fits : (long : Bool) (es : List Entry) → All (FitsEntry long) es → IsStrictlyIncreasing (keys es) → Ascend 0 (2 ^ 64) es
ascend_fits long es fits up = ascend_from_increasing 0 (2 ^ 64) es (omega arith) up (λ k d lt. (omega arith, (fits k d lt).key))

pub ascend_node : (n : NodeValue) → IsNode n → Ascend 0 (2 ^ 64) n.entries
ascend_node n good = ascend_fits (is_long n.kind n.level) n.entries good.form.entries good.ascending

pub increasing_take : (long : Bool) (k : ℕ) (es : List Entry) → All (FitsEntry long) es → IsStrictlyIncreasing (keys es) → IsStrictlyIncreasing (keys (take k es))
increasing_take long k es fits up =
    increasing_from_ascend 0 _ (take k es) (ascend_left 0 (2 ^ 64) (take k es) (drop k es) (subst (Ascend 0 (2 ^ 64)) (sym (take-append-drop k es)) (ascend_fits long es fits up)))

pub increasing_drop : (long : Bool) (k : ℕ) (es : List Entry) → All (FitsEntry long) es → IsStrictlyIncreasing (keys es) → IsStrictlyIncreasing (keys (drop k es))
increasing_drop long k es fits up =
    increasing_from_ascend _ (2 ^ 64) (drop k es) (ascend_right 0 (2 ^ 64) (take k es) (drop k es) (subst (Ascend 0 (2 ^ 64)) (sym (take-append-drop k es)) (ascend_fits long es fits up)))

-- two lists whose keys ascend, the first below the second
pub increasing_across : (long : Bool) (d : Entry) (es fs : List Entry) → All (FitsEntry long) fs → IsStrictlyIncreasing (keys es) → IsStrictlyIncreasing (keys fs)
    → (0 < length es → 0 < length fs → (get_or es (length es - 1) d).key < (get_or fs 0 d).key) → IsStrictlyIncreasing (keys (es ++ fs))
increasing_across long d es [] fits up up' below = subst (λ (xs : List Entry). IsStrictlyIncreasing (keys xs)) (sym (append-nil es)) up
increasing_across long d es (f ∷ fs) fits up up' below =
    increasing_from_ascend 0 (2 ^ 64) (es ++ (f ∷ fs))
    (ascend-append 0 f.key (2 ^ 64) es (f ∷ fs)
    (ascend_from_increasing 0 f.key es (omega arith) up (λ k d' lt. (omega arith, low k d' lt)))
    (ascend_from_increasing f.key (2 ^ 64) (f ∷ fs) (omega (arith, (fits 0 f (omega arith)).key)) up' (λ k d' lt. (high k d' lt, (fits k d' lt).key))))
  where
    low : (k : ℕ) (d' : Entry) → k < length es → (get_or es k d').key < f.key
    low k d' lt =
        let last = keys_in_order es k (length es - 1) up (omega arith) (omega arith) in
        omega (arith, last, below (omega arith) (omega arith), get_or-keys es k d' lt, get_or-keys es (length es - 1) d (omega arith))

    high : (k : ℕ) (d' : Entry) → k < length (f ∷ fs) → f.key ≤ (get_or (f ∷ fs) k d').key
    high k d' lt = omega (arith, keys_in_order (f ∷ fs) 0 k up' (omega arith) lt, get_or-keys (f ∷ fs) k d' lt)

All-insert : (P : Entry → Type 0) (es : List Entry) (i : ℕ) (x : Entry) → All P es → P x → All P (insert es i x)
All-insert P es i x all one = All-append P (take i es) (x ∷ drop i es) (All-take P i es all) (All-cons P x (drop i es) one (All-drop P i es all))

-- an entry with a new key
pub good_put : (n : NodeValue) (x : Entry) → IsNode n → FitsEntry (is_long n.kind n.level) x → length n.entries < most_entries (is_long n.kind n.level) → found x.key n.entries ≡ None
    → IsNode (record n { entries = with_entry x n.entries })
good_put n x good fits room none =
    let P = FitsEntry (is_long n.kind n.level) in
    good_with n (with_entry x n.entries) good
    (omega (arith, length-with_new x n.entries none))
    (subst (All P) (insert_at_rank x n.entries none) (All-insert P n.entries (rank_of x.key n.entries) x good.form.entries fits))
    (increasing_from_ascend 0 (2 ^ 64) (with_entry x n.entries) (ascend_with_entry 0 (2 ^ 64) x n.entries (ascend_node n good) (omega arith) fits.key))

-- an entry at a key that is there
pub good_replace : (n : NodeValue) (x v : Entry) → IsNode n → FitsEntry (is_long n.kind n.level) x → found x.key n.entries ≡ Some v
    → IsNode (record n { entries = with_entry x n.entries })
good_replace n x v good fits some =
    let P = FitsEntry (is_long n.kind n.level) in
    let p = placed 0 (2 ^ 64) x.key v n.entries (ascend_node n good) some in
    let size = length-with_known 0 (2 ^ 64) x v n.entries (ascend_node n good) some in
    good_with n (with_entry x n.entries) good
    (omega (arith, size, good.form.room))
    (subst (All P) (p.1.with x refl) (All-set P n.entries p.0 x fits good.form.entries))
    (increasing_from_ascend 0 (2 ^ 64) (with_entry x n.entries) (ascend_with_entry 0 (2 ^ 64) x n.entries (ascend_node n good) (omega arith) fits.key))

-- a change by its place that is one by its key keeps the order
pub increasing_as_with : (n : NodeValue) (x : Entry) (es : List Entry) → IsNode n → x.key < 2 ^ 64 → es ≡ with_entry x n.entries → IsStrictlyIncreasing (keys es)
increasing_as_with n x es good below is =
    subst (λ (xs : List Entry). IsStrictlyIncreasing (keys xs)) (sym is)
    (increasing_from_ascend 0 (2 ^ 64) (with_entry x n.entries) (ascend_with_entry 0 (2 ^ 64) x n.entries (ascend_node n good) (omega arith) below))

-- without an entry
pub good_remove : (n : NodeValue) (i : ℕ) → IsNode n → IsNode (record n { entries = remove n.entries i })
good_remove n i good =
    let P = FitsEntry (is_long n.kind n.level) in
    good_with n (remove n.entries i) good
    (omega (arith, length-append (take i n.entries) (drop (suc i) n.entries), length-take i n.entries, length-drop (suc i) n.entries, good.form.room))
    (All-append P (take i n.entries) (drop (suc i) n.entries) (All-take P i n.entries good.form.entries) (All-drop P (suc i) n.entries good.form.entries))
    (increasing_from_ascend 0 (2 ^ 64) (remove n.entries i) (ascend_remove 0 (2 ^ 64) i n.entries (ascend_node n good)))

-- the first and the last entries
pub good_take : (n : NodeValue) (k : ℕ) → IsNode n → IsNode (record n { entries = take k n.entries })
good_take n k good =
    let P = FitsEntry (is_long n.kind n.level) in
    good_with n (take k n.entries) good
    (omega (arith, length-take k n.entries, good.form.room))
    (All-take P k n.entries good.form.entries)
    (increasing_take (is_long n.kind n.level) k n.entries good.form.entries good.ascending)

pub good_drop : (n : NodeValue) (own k : ℕ) → own < 65536 → IsNode n → IsNode (record { kind = n.kind; level = n.level; own = own; entries = drop k n.entries })
good_drop n own k below good =
    let P = FitsEntry (is_long n.kind n.level) in
    record {
      form = record { level = good.form.level; own = below; room = omega (arith, length-drop k n.entries, good.form.room); entries = All-drop P k n.entries good.form.entries };
      ascending = increasing_drop (is_long n.kind n.level) k n.entries good.form.entries good.ascending;
    }

-- two siblings, whose entries make one list
pub record Siblings (l r : NodeValue) : Type 0 where
  pub left_good : IsNode l
  pub right_good : IsNode r
  pub kind : r.kind ≡ l.kind
  pub level : r.level ≡ l.level
  pub ascending : IsStrictlyIncreasing (keys (l.entries ++ r.entries))

same_long : (l r : NodeValue) → Siblings l r → is_long r.kind r.level ≡ is_long l.kind l.level
same_long l r s = rw (s.kind, s.level) refl

all_fit : (l r : NodeValue) → Siblings l r → All (FitsEntry (is_long l.kind l.level)) (l.entries ++ r.entries)
all_fit l r s =
    All-append (FitsEntry (is_long l.kind l.level)) l.entries r.entries s.left_good.form.entries
    (subst (λ (b : Bool). All (FitsEntry b) r.entries) (same_long l r s) s.right_good.form.entries)

right_room : (l r : NodeValue) → Siblings l r → length r.entries ≤ most_entries (is_long l.kind l.level)
right_room l r s = subst (λ (b : Bool). length r.entries ≤ most_entries b) (same_long l r s) s.right_good.form.room

-- each gets half of the entries
pub good_left_half : (l r : NodeValue) → Siblings l r → IsNode (record l { entries = take ((length l.entries + length r.entries) / 2) (l.entries ++ r.entries) })
good_left_half l r s =
    let long = is_long l.kind l.level in
    let half = (length l.entries + length r.entries) / 2 in
    good_with l (take half (l.entries ++ r.entries)) s.left_good
    (omega (arith, length-take half (l.entries ++ r.entries), s.left_good.form.room, right_room l r s))
    (All-take (FitsEntry long) half (l.entries ++ r.entries) (all_fit l r s))
    (increasing_take long half (l.entries ++ r.entries) (all_fit l r s) s.ascending)

pub good_right_half : (l r : NodeValue) → Siblings l r → IsNode (record r { entries = drop ((length l.entries + length r.entries) / 2) (l.entries ++ r.entries) })
good_right_half l r s =
    let long = is_long l.kind l.level in
    let half = (length l.entries + length r.entries) / 2 in
    let other = same_long l r s in
    let size : length (drop half (l.entries ++ r.entries)) ≤ most_entries long =
    omega (arith, length-drop half (l.entries ++ r.entries), length-append l.entries r.entries, s.left_good.form.room, right_room l r s) in
    good_with r (drop half (l.entries ++ r.entries)) s.right_good
    (subst (λ (b : Bool). length (drop half (l.entries ++ r.entries)) ≤ most_entries b) (sym other) size)
    (subst (λ (b : Bool). All (FitsEntry b) (drop half (l.entries ++ r.entries))) (sym other) (All-drop (FitsEntry long) half (l.entries ++ r.entries) (all_fit l r s)))
    (increasing_drop long half (l.entries ++ r.entries) (all_fit l r s) s.ascending)

-- ---- two lists behind one another

pub take_past : (h k : ℕ) (es fs : List Entry) → h ≡ length es + k → take h (es ++ fs) ≡ es ++ take k fs
take_past h k [] fs e = ap (λ (n : ℕ). take n fs) (omega arith)
take_past zero k (x ∷ es) fs e = absurd (omega arith)
take_past (suc h) k (x ∷ es) fs e = ap (λ (xs : List Entry). x ∷ xs) (take_past h k es fs (omega arith))

pub drop_past : (h k : ℕ) (es fs : List Entry) → h ≡ length es + k → drop h (es ++ fs) ≡ drop k fs
drop_past h k [] fs e = ap (λ (n : ℕ). drop n fs) (omega arith)
drop_past zero k (x ∷ es) fs e = absurd (omega arith)
drop_past (suc h) k (x ∷ es) fs e = drop_past h k es fs (omega arith)

-- ---- the place of a key that is there

pub some_is : (o : Option Entry) → IsSome o → (v : Entry) × (o ≡ Some v)
some_is None h = absurd (cc)
some_is (Some v) h = (v, refl)

-- what is known of the place before the rank of a key that is there
pub record At (q i : ℕ) (es : List Entry) : Type 0 where
  pub rank : rank_of q es ≡ suc i
  pub within : i < length es
  pub there : slice_get es i ≡ found q es
  pub without : remove es i ≡ without_key q es
  pub with : (w : Entry) → w.key ≡ q → set es i w ≡ with_entry w es

pub at_index_of : (n : NodeValue) (q r : ℕ) → IsNode n → IsSome (found q n.entries) → r ≡ rank_of q n.entries → (1 ≤ r) × At q (r - 1) n.entries
at_index_of n q r good some is =
    let v = some_is (found q n.entries) some in
    let p = placed 0 (2 ^ 64) q v.0 n.entries (ascend_node n good) v.1 in
    let e : p.0 ≡ r - 1 = omega (arith, p.1.at, is) in (
      omega (arith, p.1.at, is),
      subst (λ (i : ℕ). At q i n.entries) e
          (record {
            rank = p.1.at;
            within = p.1.within;
            there = slice_get-get_or n.entries p.0 v.0 p.1.within ∙ ap (λ (x : Entry). Some x) (p.1.entry v.0) ∙ sym v.1;
            without = p.1.without;
            with = p.1.with;
          }),
    )
