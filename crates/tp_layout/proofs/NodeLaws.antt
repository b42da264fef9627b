-- A block that passes the tests is the spelling of the node that it says, and the spelling of a good
-- node passes them.
use Rattle.std.proofs.Common.{◌≡◌, ℕ, ◌+◌, ◌-◌, ◌*◌, ◌^◌, ◌<◌, ◌≤◌, Bool, true, false, List, ◌++◌, length, take, drop, All, refl, sym, ap, subst, ◌∙◌, arith, append_assoc, length-drop, length-append}
use Rattle.std.proofs.lemmas.List.{take_at, drop_at, drop-drop, take-append-drop}
use Rattle.std.proofs.lemmas.List.Elements.{recursion_from_All}
use Rattle.std.specs.List.{flat_map}
use Rattle.std.specs.List.Sorted.{IsStrictlyIncreasing}
use Rattle.tp_layout.specs.declared.kind.TreeKind.{TreeKind}
use Rattle.tp_layout.specs.declared.kind.TreeKind.TheVariants.{Device, Mapping}
use Rattle.tp_layout.specs.Numbers.{le32, le64, number32, number64, zeros}
use Rattle.tp_layout.specs.Node.{NodeValue, kind_number, most_level, is_long, entry_len, most_entries, keys, entry_bytes, node_bytes, FitsEntry, IsFormed, IsNode}
use Rattle.tp_layout.specs.Reading.{entry_of, entries_of, node_of, long_at, count_at, HasForm, Passes, IsViewed}
use Rattle.tp_layout.proofs.NumberLaws.{IsBytes, IsBytes-drop, length-le32, length-le64, length-zeros, number32-le32, number64-le64, le32-number32, number64_below}
use Rattle.tp_layout.proofs.Pieces.{behind, take_two}
use Rattle.tp_layout.proofs.EntryLaws.{at_place, length-entries_of, get_or-entries_of, flat_map-entries_of, length-flat_map-entry_bytes, entries_of-flat_map}

pub fill : (long : Bool) (n : ℕ) → n ≤ most_entries long → entry_len long * n ≤ 4032
fill true n h = omega arith
fill false n h = omega arith

few : (long : Bool) (n : ℕ) → n ≤ most_entries long → n < 2 ^ 32
few true n h = omega arith
few false n h = omega arith

kind_below : (kind : TreeKind) → kind_number kind < 2 ^ 32
kind_below Device = omega arith
kind_below Mapping = omega arith

level_below : (kind : TreeKind) (n : ℕ) → n ≤ most_level kind → n < 2 ^ 32
level_below Device n h = omega arith
level_below Mapping n h = omega arith

pub at_place32 : (bytes : List ℕ) (n : ℕ) → IsBytes bytes → n + 4 ≤ length bytes → le32 (number32 (drop n bytes)) ≡ take 4 (drop n bytes)
at_place32 bytes n h room = le32-number32 (drop n bytes) (IsBytes-drop n bytes h) (omega (arith, length-drop n bytes))

-- what an entry says fits it
fits_entry_of : (long : Bool) (bytes : List ℕ) → IsBytes bytes → FitsEntry long (entry_of long bytes)
unfolding entry_of
fits_entry_of true bytes h = record {
  key = number64_below bytes h;
  value = number64_below (drop 8 bytes) (IsBytes-drop 8 bytes h);
  mapped = number64_below (drop 16 bytes) (IsBytes-drop 16 bytes h);
  size = number64_below (drop 24 bytes) (IsBytes-drop 24 bytes h);
  short = λ e. absurd cc;
  sizeless = λ e. absurd cc;
}
fits_entry_of false bytes h = record {
  key = number64_below bytes h;
  value = number64_below (drop 8 bytes) (IsBytes-drop 8 bytes h);
  mapped = omega arith;
  size = omega arith;
  short = λ e. refl;
  sizeless = λ e. refl;
}

fits_entries_of : (long : Bool) (n : ℕ) (bytes : List ℕ) → IsBytes bytes → All (FitsEntry long) (entries_of long n bytes)
fits_entries_of long n bytes h k d lt =
    let within : k < n = omega (arith, length-entries_of long n bytes) in
    subst (FitsEntry long) (sym (get_or-entries_of long n bytes k d within)) (fits_entry_of long (drop (entry_len long * k) bytes) (IsBytes-drop (entry_len long * k) bytes h))

pub formed_from_form : (kind : TreeKind) (own : ℕ) (bytes : List ℕ) → IsBytes bytes → HasForm kind own bytes → IsFormed (node_of kind bytes)
unfolding node_of
formed_from_form kind own bytes h p = record {
  level = p.level;
  own = omega (arith, p.own_is, p.own_below);
  room = omega (arith, p.room, length-entries_of (long_at kind bytes) (count_at bytes) (drop 64 bytes));
  entries = fits_entries_of (long_at kind bytes) (count_at bytes) (drop 64 bytes) (IsBytes-drop 64 bytes h);
}

pub node_from_passes : (kind : TreeKind) (own : ℕ) (bytes : List ℕ) → IsBytes bytes → Passes kind own bytes → IsNode (node_of kind bytes)
unfolding node_of
node_from_passes kind own bytes h p = record { form = formed_from_form kind own bytes h p.form; ascending = p.ascending }

pub spelled_from_form : (kind : TreeKind) (own : ℕ) (bytes : List ℕ) → IsBytes bytes → length bytes ≡ 4096 → HasForm kind own bytes → bytes ≡ node_bytes (node_of kind bytes)
unfolding node_of node_bytes
spelled_from_form kind own bytes h len p =
    let long = long_at kind bytes in
    let count = count_at bytes in
    let filled = fill long count p.room in
    let a : le32 (kind_number kind) ≡ take 4 bytes = ap le32 (sym p.kind_is) ∙ at_place32 bytes 0 h (omega arith) in
    let b = at_place32 bytes 4 h (omega arith) in
    let c = at_place bytes 8 h (omega arith) in
    let d : le32 (length (entries_of long count (drop 64 bytes))) ≡ take 4 (drop 16 bytes) = ap le32 (length-entries_of long count (drop 64 bytes)) ∙ at_place32 bytes 16 h (omega arith) in
    let e = flat_map-entries_of long count (drop 64 bytes) (IsBytes-drop 64 bytes h) (omega (arith, filled, length-drop 64 bytes)) in
    let front = take_two bytes _ _ 64 (entry_len long * count) (take_two bytes _ _ 20 44 (take_two bytes _ _ 16 4 (take_two bytes _ _ 8 8 (take_two bytes _ _ 4 4 a b) c) d) (sym p.head)) e in
    let same : 4032 - entry_len long * count ≡ 4032 - entry_len long * length (entries_of long count (drop 64 bytes)) = ap (λ (k : ℕ). 4032 - entry_len long * k) (sym (length-entries_of long count (drop 64 bytes))) in
    let back : drop (64 + entry_len long * count) bytes ≡ zeros (4032 - entry_len long * length (entries_of long count (drop 64 bytes))) = sym (drop-drop (entry_len long * count) 64 bytes) ∙ p.tail ∙ ap zeros same in
    sym (take-append-drop (64 + entry_len long * count) bytes)
    ∙ ap (λ (x : List ℕ). x ++ drop (64 + entry_len long * count) bytes) (sym front)
    ∙ ap (λ (x : List ℕ). (le32 (kind_number kind) ++ le32 (number32 (drop 4 bytes)) ++ le64 (number64 (drop 8 bytes)) ++ le32 (length (entries_of long count (drop 64 bytes))) ++ zeros 44 ++ flat_map (entry_bytes long) (entries_of long count (drop 64 bytes))) ++ x) back

pub spelled_from_passes : (kind : TreeKind) (own : ℕ) (bytes : List ℕ) → IsBytes bytes → length bytes ≡ 4096 → Passes kind own bytes → bytes ≡ node_bytes (node_of kind bytes)
spelled_from_passes kind own bytes h len p = spelled_from_form kind own bytes h len p.form

seven_lengths : (a b c d z es t : List ℕ) → length ((((((a ++ b) ++ c) ++ d) ++ z) ++ es) ++ t) ≡ length a + length b + length c + length d + length z + length es + length t
seven_lengths a b c d z es t = omega (
  arith,
  length-append a b,
  length-append (a ++ b) c,
  length-append ((a ++ b) ++ c) d,
  length-append (((a ++ b) ++ c) ++ d) z,
  length-append ((((a ++ b) ++ c) ++ d) ++ z) es,
  length-append (((((a ++ b) ++ c) ++ d) ++ z) ++ es) t,
)

-- the size of a node's block
pub length-node_bytes : (n : NodeValue) → length n.entries ≤ most_entries (is_long n.kind n.level) → length (node_bytes n) ≡ 4096
unfolding node_bytes
length-node_bytes n room = omega (
  arith,
  seven_lengths (le32 (kind_number n.kind)) (le32 n.level) (le64 n.own) (le32 (length n.entries)) (zeros 44) (flat_map (entry_bytes (is_long n.kind n.level)) n.entries)
      (zeros (4032 - entry_len (is_long n.kind n.level) * length n.entries)),
  length-le32 (kind_number n.kind),
  length-le32 n.level,
  length-le64 n.own,
  length-le32 (length n.entries),
  length-zeros 44,
  length-flat_map-entry_bytes (is_long n.kind n.level) n.entries,
  length-zeros (4032 - entry_len (is_long n.kind n.level) * length n.entries),
  fill (is_long n.kind n.level) (length n.entries) room,
)

-- what stands at the places of a spelling
pub record Laid (n : NodeValue) (bytes : List ℕ) : Type 0 where
  pub kind_is : number32 bytes ≡ kind_number n.kind
  pub level_is : number32 (drop 4 bytes) ≡ n.level
  pub own_is : number64 (drop 8 bytes) ≡ n.own
  pub count_is : number32 (drop 16 bytes) ≡ length n.entries
  pub head : take 44 (drop 20 bytes) ≡ zeros 44
  pub body : drop 64 bytes ≡ flat_map (entry_bytes (is_long n.kind n.level)) n.entries ++ zeros (4032 - entry_len (is_long n.kind n.level) * length n.entries)

laid : (n : NodeValue) → IsFormed n → Laid n (node_bytes n)
unfolding node_bytes
laid n good =
    let long = is_long n.kind n.level in
    let a = le32 (kind_number n.kind) in
    let b = le32 n.level in
    let c = le64 n.own in
    let d = le32 (length n.entries) in
    let z = zeros 44 in
    let es = flat_map (entry_bytes long) n.entries in
    let t = zeros (4032 - entry_len long * length n.entries) in
    let la = length-le32 (kind_number n.kind) in
    let lb = length-le32 n.level in
    let lc = length-le64 n.own in
    let ld = length-le32 (length n.entries) in
    let lz = length-zeros 44 in
    let flat : (((((a ++ b) ++ c) ++ d) ++ z) ++ es) ++ t ≡ a ++ (b ++ (c ++ (d ++ (z ++ (es ++ t))))) = simp append_assoc refl in
    let at_b : drop 4 (a ++ (b ++ (c ++ (d ++ (z ++ (es ++ t)))))) ≡ b ++ (c ++ (d ++ (z ++ (es ++ t)))) = drop_at a _ 4 la in
    let at_c : drop 8 (a ++ (b ++ (c ++ (d ++ (z ++ (es ++ t)))))) ≡ c ++ (d ++ (z ++ (es ++ t))) = behind a _ 4 4 la ∙ drop_at b _ 4 lb in
    let at_d : drop 16 (a ++ (b ++ (c ++ (d ++ (z ++ (es ++ t)))))) ≡ d ++ (z ++ (es ++ t)) = behind a _ 4 12 la ∙ behind b _ 4 8 lb ∙ drop_at c _ 8 lc in
    let at_z : drop 20 (a ++ (b ++ (c ++ (d ++ (z ++ (es ++ t)))))) ≡ z ++ (es ++ t) = behind a _ 4 16 la ∙ behind b _ 4 12 lb ∙ behind c _ 8 4 lc ∙ drop_at d _ 4 ld in
    let at_es : drop 64 (a ++ (b ++ (c ++ (d ++ (z ++ (es ++ t)))))) ≡ es ++ t = behind a _ 4 60 la ∙ behind b _ 4 56 lb ∙ behind c _ 8 48 lc ∙ behind d _ 4 44 ld ∙ drop_at z _ 44 lz in
    record {
      kind_is = ap number32 flat ∙ number32-le32 (kind_number n.kind) _ (kind_below n.kind);
      level_is = ap (λ (x : List ℕ). number32 (drop 4 x)) flat ∙ ap number32 at_b ∙ number32-le32 n.level _ (level_below n.kind n.level good.level);
      own_is = ap (λ (x : List ℕ). number64 (drop 8 x)) flat ∙ ap number64 at_c ∙ number64-le64 n.own _ (omega (arith, good.own));
      count_is = ap (λ (x : List ℕ). number32 (drop 16 x)) flat ∙ ap number32 at_d ∙ number32-le32 (length n.entries) _ (few long (length n.entries) good.room);
      head = ap (λ (x : List ℕ). take 44 (drop 20 x)) flat ∙ ap (take 44) at_z ∙ take_at z _ 44 lz;
      body = ap (drop 64) flat ∙ at_es;
    }

-- the entries of a spelling
entries_laid : (n : NodeValue) (bytes : List ℕ) → IsFormed n → Laid n bytes → entries_of (is_long n.kind n.level) (length n.entries) (drop 64 bytes) ≡ n.entries
entries_laid n bytes good l =
    let long = is_long n.kind n.level in
    ap (entries_of long (length n.entries)) l.body ∙ entries_of-flat_map long n.entries _ (recursion_from_All (FitsEntry long) n.entries good.entries)

pub node_of-node_bytes : (n : NodeValue) → IsFormed n → node_of n.kind (node_bytes n) ≡ n
unfolding node_of
node_of-node_bytes n good =
    let l = laid n good in
    let es = entries_laid n (node_bytes n) good l in
    rw (l.level_is, l.own_is, l.count_is, es) refl

pub form_node_bytes : (n : NodeValue) → IsFormed n → HasForm n.kind n.own (node_bytes n)
form_node_bytes n good =
    let l = laid n good in
    let long = is_long n.kind n.level in
    let es = entries_laid n (node_bytes n) good l in
    let same : long_at n.kind (node_bytes n) ≡ long = ap (is_long n.kind) l.level_is in
    let behind_all : drop (entry_len long * length n.entries) (drop 64 (node_bytes n)) ≡ zeros (4032 - entry_len long * length n.entries) = ap (drop (entry_len long * length n.entries)) l.body ∙ drop_at _ _ (entry_len long * length n.entries) (length-flat_map-entry_bytes long n.entries) in
    record {
      kind_is = l.kind_is;
      level = omega (arith, l.level_is, good.level);
      own_is = l.own_is;
      own_below = good.own;
      room = rw (same, l.count_is) good.room;
      head = l.head;
      tail = rw (same, l.count_is) behind_all;
    }

ascending_node_bytes : (n : NodeValue) → IsFormed n → IsStrictlyIncreasing (keys n.entries) → IsStrictlyIncreasing (keys (entries_of (long_at n.kind (node_bytes n)) (count_at (node_bytes n)) (drop 64 (node_bytes n))))
ascending_node_bytes n good up =
    let l = laid n good in
    let es = entries_laid n (node_bytes n) good l in
    let same : long_at n.kind (node_bytes n) ≡ is_long n.kind n.level = ap (is_long n.kind) l.level_is in
    rw (same, l.count_is, es) up

pub passes_node_bytes : (n : NodeValue) → IsNode n → Passes n.kind n.own (node_bytes n)
passes_node_bytes n good = record { form = form_node_bytes n good.form; ascending = ascending_node_bytes n good.form good.ascending }

-- what the code reads from a block before it goes over its entries
pub record Parts (kind : TreeKind) (bytes entries : List ℕ) (level count : ℕ) (long : Bool) : Type 0 where
  pub level_is : level ≡ number32 (drop 4 bytes)
  pub count_is : count ≡ count_at bytes
  pub long_is : long ≡ is_long kind level
  pub entries_is : entries ≡ drop 64 bytes

long_part : (kind : TreeKind) (bytes entries : List ℕ) (level count : ℕ) (long : Bool) → Parts kind bytes entries level count long → long ≡ long_at kind bytes
long_part kind bytes entries level count long p = p.long_is ∙ ap (is_long kind) p.level_is

pub to_parts : (P : Bool → ℕ → List ℕ → Type 0) (kind : TreeKind) (bytes entries : List ℕ) (level count : ℕ) (long : Bool) → Parts kind bytes entries level count long
    → P (long_at kind bytes) (count_at bytes) (drop 64 bytes) → P long count entries
to_parts P kind bytes entries level count long p h = rw (p.entries_is, p.count_is, long_part kind bytes entries level count long p) h

pub from_parts : (P : Bool → ℕ → List ℕ → Type 0) (kind : TreeKind) (bytes entries : List ℕ) (level count : ℕ) (long : Bool) → Parts kind bytes entries level count long
    → P long count entries → P (long_at kind bytes) (count_at bytes) (drop 64 bytes)
from_parts P kind bytes entries level count long p h = rw (← p.entries_is, ← p.count_is, ← long_part kind bytes entries level count long p) h

abbrev pub Increasing : Bool → ℕ → List ℕ → Type 0
Increasing long count entries = IsStrictlyIncreasing (keys (entries_of long count entries))

abbrev pub EndsInZeros : Bool → ℕ → List ℕ → Type 0
EndsInZeros long count entries = drop (entry_len long * count) entries ≡ zeros (4032 - entry_len long * count)

abbrev Roomy : Bool → ℕ → List ℕ → Type 0
Roomy long count entries = count ≤ most_entries long

pub form_from_tests : (kind : TreeKind) (own : ℕ) (bytes entries : List ℕ) (level count : ℕ) (long : Bool) → Parts kind bytes entries level count long
    → number32 bytes ≡ kind_number kind → level ≤ most_level kind → number64 (drop 8 bytes) ≡ own → own < 65536 → count ≤ most_entries long
    → take 44 (drop 20 bytes) ≡ zeros 44 → EndsInZeros long count entries
    → HasForm kind own bytes
form_from_tests kind own bytes entries level count long p k l o ob r h t = record {
  kind_is = k;
  level = omega (arith, p.level_is, l);
  own_is = o;
  own_below = ob;
  room = from_parts Roomy kind bytes entries level count long p r;
  head = h;
  tail = from_parts EndsInZeros kind bytes entries level count long p t;
}

-- the spelling of a good node passes, and says that node
pub spelled_passes : (kind : TreeKind) (own : ℕ) (bytes : List ℕ) (n : NodeValue) → IsNode n → n.kind ≡ kind → n.own ≡ own → bytes ≡ node_bytes n → Passes kind own bytes
spelled_passes kind own bytes n good k o e =
    let P : List ℕ → Type 0 = λ b. Passes n.kind n.own b in
    let Q : TreeKind → Type 0 = λ x. Passes x n.own bytes in
    let R : ℕ → Type 0 = λ x. Passes kind x bytes in
    subst R o (subst Q k (subst P (sym e) (passes_node_bytes n good)))

pub formed_says : (kind : TreeKind) (bytes : List ℕ) (n : NodeValue) → IsFormed n → n.kind ≡ kind → bytes ≡ node_bytes n → node_of kind bytes ≡ n
formed_says kind bytes n good k e = ap (node_of kind) e ∙ ap (λ (x : TreeKind). node_of x (node_bytes n)) (sym k) ∙ node_of-node_bytes n good

pub spelled_says : (kind : TreeKind) (bytes : List ℕ) (n : NodeValue) → IsNode n → n.kind ≡ kind → bytes ≡ node_bytes n → node_of kind bytes ≡ n
spelled_says kind bytes n good k e = formed_says kind bytes n good.form k e

-- the spelling of a formed node has the form
pub spelled_form : (kind : TreeKind) (own : ℕ) (bytes : List ℕ) (n : NodeValue) → IsFormed n → n.kind ≡ kind → n.own ≡ own → bytes ≡ node_bytes n → HasForm kind own bytes
spelled_form kind own bytes n good k o e =
    let P : List ℕ → Type 0 = λ b. HasForm n.kind n.own b in
    let Q : TreeKind → Type 0 = λ x. HasForm x n.own bytes in
    let R : ℕ → Type 0 = λ x. HasForm kind x bytes in
    subst R o (subst Q k (subst P (sym e) (form_node_bytes n good)))

pub kind-node_of : (kind : TreeKind) (bytes : List ℕ) → (node_of kind bytes).kind ≡ kind
unfolding node_of
kind-node_of kind bytes = refl

pub own-node_of : (kind : TreeKind) (bytes : List ℕ) → (node_of kind bytes).own ≡ number64 (drop 8 bytes)
unfolding node_of
own-node_of kind bytes = refl

-- a block that spells a good node is seen as that node
pub viewed_from_spelling : (kind : TreeKind) (level count : ℕ) (long : Bool) (bytes : List ℕ) (n : NodeValue) → length bytes ≡ 4096 → IsNode n → n.kind ≡ kind → bytes ≡ node_bytes n
    → level ≡ number32 (drop 4 bytes) → long ≡ is_long kind level → count ≡ number32 (drop 16 bytes) → IsViewed kind level long count bytes
viewed_from_spelling kind level count long bytes n len good k e l g c =
    let says = spelled_says kind bytes n good k e in
    record {
      size = len;
      level_is = l;
      long_is = g ∙ ap (is_long kind) l;
      len_is = c;
      good = subst IsNode (sym says) good;
      spelled = e ∙ ap node_bytes (sym says);
    }

pub passes_from_increasing : (kind : TreeKind) (own : ℕ) (bytes : List ℕ) → HasForm kind own bytes → IsStrictlyIncreasing (keys (node_of kind bytes).entries) → Passes kind own bytes
unfolding node_of
passes_from_increasing kind own bytes form up = record { form = form; ascending = up }
