-- What a view shows of its node.
use Rattle.std.proofs.Common.{◌≡◌, ◌≢◌, ℕ, zero, suc, ◌-◌, ◌*◌, ◌≤◌, ◌<◌, Bool, List, [], ◌∷◌, length, get_or, drop, All, Some, inl, inr, refl, sym, ap, subst, ◌∙◌, arith}
use Rattle.std.proofs.lemmas.Bool.{cases_lt}
use Rattle.std.proofs.lemmas.List.{get_or-map, length-map}
use Rattle.std.proofs.lemmas.List.Kept.{AllPairs-from_increasing}
use Rattle.std.specs.List.{slice_get, slice_index}
use Rattle.std.specs.List.Sorted.{IsStrictlyIncreasing}
use Rattle.tp_layout.specs.declared.entry.Entry.{Entry}
use Rattle.tp_layout.specs.declared.kind.TreeKind.{TreeKind}
use Rattle.tp_layout.specs.Numbers.{number64}
use Rattle.tp_layout.specs.Node.{NodeValue, entry_len, most_entries, keys}
use Rattle.tp_layout.specs.Reading.{entries_of, node_of, IsViewed, long_at, count_at}
use Rattle.tp_layout.proofs.EntryLaws.{length-entries_of}
use Rattle.tp_layout.proofs.NodeLaws.{fill}

pub view_level : (kind : TreeKind) (level : ℕ) (long : Bool) (len : ℕ) (bytes : List ℕ) (n : NodeValue) → IsViewed kind level long len bytes → node_of kind bytes ≡ n → level ≡ n.level
unfolding node_of
view_level kind level long len bytes n v e = v.level_is ∙ ap (λ (m : NodeValue). m.level) e

pub view_entries : (kind : TreeKind) (level : ℕ) (long : Bool) (len : ℕ) (bytes : List ℕ) (n : NodeValue) → IsViewed kind level long len bytes → node_of kind bytes ≡ n → entries_of long len (drop 64 bytes) ≡ n.entries
unfolding node_of
view_entries kind level long len bytes n v e = rw (v.long_is, v.len_is) (ap (λ (m : NodeValue). m.entries) e)

pub view_len : (kind : TreeKind) (level : ℕ) (long : Bool) (len : ℕ) (bytes : List ℕ) (n : NodeValue) → IsViewed kind level long len bytes → node_of kind bytes ≡ n → len ≡ length n.entries
view_len kind level long len bytes n v e = sym (length-entries_of long len (drop 64 bytes)) ∙ ap length (view_entries kind level long len bytes n v e)

pub view_ascending : (kind : TreeKind) (level : ℕ) (long : Bool) (len : ℕ) (bytes : List ℕ) → IsViewed kind level long len bytes → IsStrictlyIncreasing (keys (entries_of long len (drop 64 bytes)))
view_ascending kind level long len bytes v = subst (λ (es : List Entry). IsStrictlyIncreasing (keys es)) (sym (view_entries kind level long len bytes (node_of kind bytes) v refl)) v.good.ascending

pub view_room : (kind : TreeKind) (level : ℕ) (long : Bool) (len : ℕ) (bytes : List ℕ) → IsViewed kind level long len bytes → entry_len long * len ≤ 4032
unfolding node_of
view_room kind level long len bytes v =
    let room : len ≤ most_entries long = rw (v.long_is, v.len_is) (omega (arith, v.good.form.room, length-entries_of (long_at kind bytes) (count_at bytes) (drop 64 bytes))) in
    fill long len room

pub view_kind : (kind : TreeKind) (bytes : List ℕ) (n : NodeValue) → node_of kind bytes ≡ n → kind ≡ n.kind
unfolding node_of
view_kind kind bytes n e = ap (λ (m : NodeValue). m.kind) e

pub view_own : (kind : TreeKind) (bytes : List ℕ) (n : NodeValue) → node_of kind bytes ≡ n → number64 (drop 8 bytes) ≡ n.own
unfolding node_of
view_own kind bytes n e = ap (λ (m : NodeValue). m.own) e

pub view_own_below : (kind : TreeKind) (level : ℕ) (long : Bool) (len : ℕ) (bytes : List ℕ) → IsViewed kind level long len bytes → number64 (drop 8 bytes) < 65536
unfolding node_of
view_own_below kind level long len bytes v = v.good.form.own

-- an entry that a look-up by its place gave
pub got : (xs : List Entry) (i : ℕ) (e : Entry) → slice_get xs i ≡ Some e → get_or xs i e ≡ e
got [] i e h = refl
got (x ∷ xs) zero e h = cc
got (x ∷ xs) (suc i) e h = got xs i e h

got_key : (es : List Entry) (k : ℕ) (d : Entry) → k < length es → slice_index (keys es) k ≡ (get_or es k d).key
got_key es k d lt = get_or-map (λ e. e.key) es k d 0 lt

-- no entry has the key, where all keys are above it
pub none_above : (es : List Entry) (key : ℕ) → ((i : ℕ) → 0 ≤ i → i < length es → key < slice_index (keys es) i) → All (λ e. e.key ≢ key) es
none_above es key above k d lt = λ same. omega (arith, above k (omega arith) lt, got_key es k d lt, same)

-- no entry has the key, where it lies between the keys of two that follow one another
pub none_between : (es : List Entry) (key rank : ℕ) (e : Entry) → IsStrictlyIncreasing (keys es) → 0 < rank → rank ≤ length es
    → ((i : ℕ) → i < rank → slice_index (keys es) i ≤ key) → ((i : ℕ) → rank ≤ i → i < length es → key < slice_index (keys es) i)
    → slice_get es (rank - 1) ≡ Some e → e.key ≢ key → All (λ e. e.key ≢ key) es
none_between es key rank e up some within below above there other k d lt =
    let last : slice_index (keys es) (rank - 1) ≡ e.key = got_key es (rank - 1) e (omega arith) ∙ ap (λ (x : Entry). x.key) (got es (rank - 1) e there) in
    let here = got_key es k d lt in
    let size : length (keys es) ≡ length es = length-map es (λ e. e.key) in
    elim (cases_lt k rank) [
      | inr le ↦ λ same. omega (arith, above k le lt, here, same)
      | inl low ↦ elim (cases_lt k (rank - 1)) [
        | inl lower ↦ λ same. omega (arith, here, same, last, below (rank - 1) (omega arith), AllPairs-from_increasing (keys es) up k (rank - 1) 0 lower (omega (arith, size)))
        | inr at ↦ λ same. let place : k ≡ rank - 1 = omega arith in other (sym last ∙ ap (slice_index (keys es)) (sym place) ∙ here ∙ same)
      ]
    ]
