-- The data of LIST_META_CONTEXT and SET_META_CONTEXT: what is read is in the form, and what is in the form is read.
use Rattle.std.proofs.Common.{◌≡◌, ℕ, zero, suc, ◌^◌, ◌<◌, ◌≤◌, Bool, true, false, ◌||◌, cond, List, [], ◌∷◌, ◌++◌, length, take, drop, eqb, leb, Option, Some, None, refl, sym, ap, subst, ◌∙◌, arith, ap₂}
use Rattle.std.specs.Prelude.{All, bytes_eq, if◌then◌else◌}
use Rattle.std.specs.List.{flat_map}
use Rattle.std.proofs.lemmas.Bool.{and_from, and_left, and_right, and_parts, eqb-true, le-leb, lt-leb, leb-true, false_from_ne_true, false≢true}
use Rattle.std.proofs.lemmas.List.{length-take, length-take-le, take_at, drop_at, take-append-drop, length-append, nil_from_length}
use Rattle.std.proofs.lemmas.List.Elements.{All-nil, All-cons, All-head, All-tail}
use Rattle.std.proofs.lemmas.Option.{cond_some, none-some}
use Rattle.std.proofs.lemmas.Slice.Eq.{bytes_eq-Decides}
use Rattle.nbd_wire.specs.Numbers.{bytes, number}
use Rattle.nbd_wire.specs.Replies.{server_data}
use Rattle.nbd_wire.specs.Contexts.{IsQuery, allocation, asks_for, base, has_query, lists, query_text, since, since_in, since_of, since_or}
use Rattle.nbd_wire.specs.Reading.{behind_string, has_string, string_at, told_by}
use Rattle.nbd_wire.proofs.Fields.{IsBytes, IsBytes-drop, width4, field_takes, field_drops}
use Rattle.nbd_wire.proofs.Told.{one_name_listed, same_field, server_data_is}

abbrev Fits : List ℕ → Type 0
Fits query = length query < 2 ^ 32

-- ---- one text behind its length

pub no_length : (t : List ℕ) → length t < 4 → has_string t ≡ false
unfolding has_string
no_length t h = and_left (leb 4 (length t)) (leb (number 4 t) (length (drop 4 t))) (lt-leb 4 (length t) h)

pub no_text : (t : List ℕ) → length (drop 4 t) < number 4 t → has_string t ≡ false
unfolding has_string
no_text t h = and_right (leb 4 (length t)) (leb (number 4 t) (length (drop 4 t))) (lt-leb (number 4 t) (length (drop 4 t)) h)

pub is_string : (t : List ℕ) → 4 ≤ length t → number 4 t ≤ length (drop 4 t) → has_string t ≡ true
unfolding has_string
is_string t h k = and_from (leb 4 (length t)) (leb (number 4 t) (length (drop 4 t))) (le-leb 4 (length t) h) (le-leb (number 4 t) (length (drop 4 t)) k)

pub string_takes : (t : List ℕ) → IsBytes t → has_string t ≡ true → (t ≡ server_data (string_at t) ++ behind_string t) × Fits (string_at t)
unfolding has_string string_at behind_string
string_takes t hb h =
    let n = number 4 t in let a = drop 4 t in
    let p = and_parts (leb 4 (length t)) (leb n (length a)) h in
    let len : length (take n a) ≡ n = length-take-le n a (leb-true n (length a) p.1) in
    let whole : t ≡ bytes 4 n ++ a = field_takes 4 width4 t hb (leb-true 4 (length t) p.0) in
    let parts : t ≡ bytes 4 n ++ (take n a ++ drop n a) = whole ∙ ap (λ (x : List ℕ). bytes 4 n ++ x) (sym (take-append-drop n a)) in
    let named : t ≡ bytes 4 (length (take n a)) ++ (take n a ++ drop n a) = parts ∙ ap (λ (m : ℕ). bytes 4 m ++ (take n a ++ drop n a)) (sym len) in
    (named ∙ sym (server_data_is (take n a) (drop n a)), let below = width4.below t hb in omega (arith, len, below))

behind_bytes : (t : List ℕ) → IsBytes t → IsBytes (behind_string t)
unfolding behind_string
behind_bytes t h = IsBytes-drop (number 4 t) (drop 4 t) (IsBytes-drop 4 t h)

pub string_again : (q x : List ℕ) → Fits q → (has_string (server_data q ++ x) ≡ true) × (string_at (server_data q ++ x) ≡ q) × (behind_string (server_data q ++ x) ≡ x)
unfolding has_string string_at behind_string
string_again q x fits =
    let t : List ℕ = server_data q ++ x in
    let is : t ≡ bytes 4 (length q) ++ (q ++ x) = server_data_is q x in
    let d : drop 4 t ≡ q ++ x = ap (drop 4) is ∙ field_drops 4 width4 (length q) (q ++ x) in
    let n : number 4 t ≡ length q = ap (number 4) is ∙ width4.again (length q) (q ++ x) fits in
    let long : 4 ≤ length t = omega (arith, ap length is, length-append (bytes 4 (length q)) (q ++ x), width4.len (length q)) in
    let within : number 4 t ≤ length (drop 4 t) = omega (arith, n, ap length d, length-append q x) in (
      and_from _ _ (le-leb 4 (length t) long) (le-leb (number 4 t) (length (drop 4 t)) within),
      ap (λ (m : ℕ). take m (drop 4 t)) n ∙ ap (take (length q)) d ∙ take_at q x (length q) refl,
      ap (λ (m : ℕ). drop m (drop 4 t)) n ∙ ap (drop (length q)) d ∙ drop_at q x (length q) refl,
    )

-- ---- the queries

or-false : (b : Bool) → b ≡ (b || false)
or-false true = refl
or-false false = refl

or-assoc : (a b c : Bool) → ((a || b) || c) ≡ (a || (b || c))
or-assoc true b c = refl
or-assoc false b c = refl

abbrev Gist : Type 0
Gist = Bool × Bool × List ℕ

abbrev Seen : List (List ℕ) → Bool → Bool → List ℕ → Option Gist
Seen qs a b v = Some (a || has_query allocation qs, b || has_query base qs, since_in qs v)

told_again : (qs : List (List ℕ)) (a b : Bool) (v : List ℕ) → All Fits qs → told_by (length qs) (flat_map server_data qs) a b v ≡ Seen qs a b v
told_again [] a b v h = ap₂ (λ (x y : Bool). Some (x, y, v)) (or-false a) (or-false b)
told_again (q ∷ qs) a b v h =
    let rest = flat_map server_data qs in
    let s = string_again q rest (All-head Fits q qs h) in
    let a' = a || bytes_eq q allocation in let b' = b || bytes_eq q base in let v' = since_or q v in
    let one : told_by (suc (length qs)) (server_data q ++ rest) a b v ≡ told_by (length qs) rest a' b' v' = rw (s.0, s.1, s.2) refl in
    one ∙ told_again qs a' b' v' (All-tail Fits q qs h)
    ∙ ap₂ (λ (x y : Bool). Some (x, y, since_in qs v')) (or-assoc a (bytes_eq q allocation) (has_query allocation qs)) (or-assoc b (bytes_eq q base) (has_query base qs))

record AreQueries (n : ℕ) (text : List ℕ) (a b : Bool) (v : List ℕ) (x y : Bool) (w : List ℕ) (qs : List (List ℕ)) : Type 0 where
  count : length qs ≡ n
  fit : All Fits qs
  text_is : flat_map server_data qs ≡ text
  first : x ≡ (a || has_query allocation qs)
  second : y ≡ (b || has_query base qs)
  third : w ≡ since_in qs v

passed : (b : Bool) (o : Option Gist) (y : Gist) → cond b o None ≡ Some y → (b ≡ true) × (o ≡ Some y)
passed true o y e = (refl, e)
passed false o y e = absurd cc

told_takes : (n : ℕ) (t : List ℕ) (a b : Bool) (v : List ℕ) (x y : Bool) (w : List ℕ) → IsBytes t → told_by n t a b v ≡ Some (x, y, w) → (qs : List (List ℕ)) × AreQueries n t a b v x y w qs
told_takes zero t a b v x y w hb e =
    let p = cond_some (eqb (length t) 0) (a, b, v) (x, y, w) e in (
      [],
      record {
        count = refl;
        fit = All-nil Fits;
        text_is = sym (nil_from_length t (eqb-true (length t) 0 p.0));
        first = sym (ap (λ (z : Gist). z.0) p.1) ∙ or-false a;
        second = sym (ap (λ (z : Gist). z.1) p.1) ∙ or-false b;
        third = sym (ap (λ (z : Gist). z.2) p.1);
      },
    )
told_takes (suc n) t a b v x y w hb e =
    let q = string_at t in let rest = behind_string t in
    let p = passed (has_string t) (told_by n rest (a || bytes_eq q allocation) (b || bytes_eq q base) (since_or q v)) (x, y, w) e in
    let s = string_takes t hb p.0 in
    let r = told_takes n rest (a || bytes_eq q allocation) (b || bytes_eq q base) (since_or q v) x y w (behind_bytes t hb) p.1 in (
      q ∷ r.0,
      record {
        count = ap suc r.1.count;
        fit = All-cons Fits q r.0 s.1 r.1.fit;
        text_is = ap (λ (z : List ℕ). server_data q ++ z) r.1.text_is ∙ sym s.0;
        first = r.1.first ∙ or-assoc a (bytes_eq q allocation) (has_query allocation r.0);
        second = r.1.second ∙ or-assoc b (bytes_eq q base) (has_query base r.0);
        third = r.1.third;
      },
    )

-- a step of the loop
pub told_more : (n m : ℕ) (t : List ℕ) (a b : Bool) (v : List ℕ) → n ≡ suc m → has_string t ≡ true
    → told_by n t a b v ≡ told_by m (behind_string t) (a || bytes_eq (string_at t) allocation) (b || bytes_eq (string_at t) base) (since_or (string_at t) v)
told_more n m t a b v e h = ap (λ (k : ℕ). told_by k t a b v) e ∙ rw h refl

-- a query that is shorter does not begin so
abbrev since_by : Bool → List ℕ → List ℕ → List ℕ
since_by b query before = if b then drop 15 query else before

short_front : (query : List ℕ) → length query < 15 → bytes_eq (take 15 query) since ≡ false
short_front query lt =
    false_from_ne_true (bytes_eq (take 15 query) since) (λ e.
    let same : take 15 query ≡ since = (bytes_eq-Decides (take 15 query) since).0 e in
    omega (arith, lt, ap length same, length-take 15 query))

pub since_short : (query before : List ℕ) → length query < 15 → before ≡ since_or query before
since_short query before lt = ap (λ (b : Bool). since_by b query before) (sym (short_front query lt))

-- ---- the whole data

query_again : (t name : List ℕ) (qs : List (List ℕ)) → IsQuery t name qs
    → (has_string t ≡ true) × (string_at t ≡ name) × (behind_string t ≡ bytes 4 (length qs) ++ flat_map server_data qs)
unfolding query_text
query_again t name qs i =
    let s = string_again name (bytes 4 (length qs) ++ flat_map server_data qs) i.name_fits in
    (ap has_string i.text_is ∙ s.0, ap string_at i.text_is ∙ s.1, ap behind_string i.text_is ∙ s.2)

pub no_name : (t : List ℕ) → has_string t ≡ false → (name : List ℕ) (qs : List (List ℕ)) → IsQuery t name qs → ⊥
no_name t h name qs i = false≢true (sym h ∙ (query_again t name qs i).0)

pub no_count : (t : List ℕ) → length (behind_string t) < 4 → (name : List ℕ) (qs : List (List ℕ)) → IsQuery t name qs → ⊥
no_count t h name qs i =
    let e = ap length (query_again t name qs i).2 in
    omega (arith, h, e, length-append (bytes 4 (length qs)) (flat_map server_data qs), width4.len (length qs))

count_again : (t name : List ℕ) (qs : List (List ℕ)) → IsQuery t name qs
    → (number 4 (behind_string t) ≡ length qs) × (drop 4 (behind_string t) ≡ flat_map server_data qs)
count_again t name qs i =
    let e = (query_again t name qs i).2 in
    let rest = flat_map server_data qs in
    (ap (number 4) e ∙ width4.again (length qs) rest i.count_fits, ap (drop 4) e ∙ field_drops 4 width4 (length qs) rest)

pub no_queries : (t rest text : List ℕ) (count : ℕ) → rest ≡ behind_string t → count ≡ number 4 rest → text ≡ drop 4 rest
    → told_by count text false false [] ≡ None → (name : List ℕ) (qs : List (List ℕ)) → IsQuery t name qs → ⊥
no_queries t rest text count rest_is count_is text_is h name qs i =
    let c = count_again t name qs i in
    let same : told_by count text false false [] ≡ told_by (length qs) (flat_map server_data qs) false false [] =
    ap₂ (λ (n : ℕ) (x : List ℕ). told_by n x false false []) (count_is ∙ ap (number 4) rest_is ∙ c.0) (text_is ∙ ap (drop 4) rest_is ∙ c.1) in
    none-some (has_query allocation qs, has_query base qs, since_of qs) (sym h ∙ same ∙ told_again qs false false [] i.each_fits)

query_takes : (t : List ℕ) (x y : Bool) (w : List ℕ) → IsBytes t → has_string t ≡ true → 4 ≤ length (behind_string t)
    → told_by (number 4 (behind_string t)) (drop 4 (behind_string t)) false false [] ≡ Some (x, y, w)
    → (qs : List (List ℕ)) × IsQuery t (string_at t) qs × (length qs ≡ number 4 (behind_string t)) × (x ≡ asks_for qs) × (y ≡ has_query base qs) × (w ≡ since_of qs)
unfolding query_text
query_takes t x y w hb h long e =
    let rest = behind_string t in
    let rest_bytes = behind_bytes t hb in
    let s = string_takes t hb h in
    let r = told_takes (number 4 rest) (drop 4 rest) false false [] x y w (IsBytes-drop 4 rest rest_bytes) e in
    let below = width4.below rest rest_bytes in
    let tail : rest ≡ bytes 4 (length r.0) ++ flat_map server_data r.0 =
    field_takes 4 width4 rest rest_bytes long ∙ ap₂ (λ (n : ℕ) (z : List ℕ). bytes 4 n ++ z) (sym r.1.count) (sym r.1.text_is) in (
      r.0,
      record {
        name_fits = s.1;
        count_fits = omega (arith, r.1.count, below);
        each_fits = r.1.fit;
        text_is = s.0 ∙ ap (λ (z : List ℕ). server_data (string_at t) ++ z) tail;
      },
      r.1.count,
      r.1.first,
      r.1.second,
      r.1.third,
    )

pub query_found : (t name rest text : List ℕ) (count : ℕ) (x y : Bool) (w : List ℕ) → IsBytes t → has_string t ≡ true → name ≡ string_at t → rest ≡ behind_string t
    → 4 ≤ length rest → count ≡ number 4 rest → text ≡ drop 4 rest → told_by count text false false [] ≡ Some (x, y, w)
    → (qs : List (List ℕ)) × IsQuery t name qs × (x ≡ asks_for qs) × ((eqb count 0 || x || y) ≡ lists qs) × (w ≡ since_of qs)
query_found t name rest text count x y w hb h name_is rest_is long count_is text_is e =
    let count_also : count ≡ number 4 (behind_string t) = count_is ∙ ap (number 4) rest_is in
    let same : told_by count text false false [] ≡ told_by (number 4 (behind_string t)) (drop 4 (behind_string t)) false false [] =
    ap₂ (λ (n : ℕ) (z : List ℕ). told_by n z false false []) count_also (text_is ∙ ap (drop 4) rest_is) in
    let q = query_takes t x y w hb h (omega (arith, long, ap length rest_is)) (sym same ∙ e) in
    let empty : eqb count 0 ≡ eqb (length q.0) 0 = ap (λ (n : ℕ). eqb n 0) (count_also ∙ sym q.2) in
    let two : (eqb count 0 || x) ≡ (eqb (length q.0) 0 || asks_for q.0) = ap₂ (λ (a b : Bool). a || b) empty q.3 in
    (q.0, subst (λ (n : List ℕ). IsQuery t n q.0) (sym name_is) q.1, q.3, ap₂ (λ (a b : Bool). a || b) two q.4, q.5)

-- and it says one thing
one_list : (qs also : List (List ℕ)) → All Fits qs → All Fits also → length qs ≡ length also → flat_map server_data qs ≡ flat_map server_data also → qs ≡ also
one_list [] [] h k len e = refl
one_list [] (r ∷ rs) h k len e = absurd (omega (arith, len))
one_list (q ∷ qs) [] h k len e = absurd (omega (arith, len))
one_list (q ∷ qs) (r ∷ rs) h k len e =
    let s = one_name_listed q r (flat_map server_data qs) (flat_map server_data rs) (All-head Fits q qs h) (All-head Fits r rs k) e in
    ap₂ (λ (x : List ℕ) (xs : List (List ℕ)). x ∷ xs) s.0 (one_list qs rs (All-tail Fits q qs h) (All-tail Fits r rs k) (omega (arith, len)) s.1)

pub one_query : (t name other : List ℕ) (qs also : List (List ℕ)) → IsQuery t name qs → IsQuery t other also → (name ≡ other) × (qs ≡ also)
unfolding query_text
one_query t name other qs also i j =
    let xs = flat_map server_data qs in let ys = flat_map server_data also in
    let s = one_name_listed name other (bytes 4 (length qs) ++ xs) (bytes 4 (length also) ++ ys) i.name_fits j.name_fits (sym i.text_is ∙ j.text_is) in
    let c = same_field 4 width4 (length qs) (length also) xs ys i.count_fits j.count_fits s.1 in
    (s.0, one_list qs also i.each_fits j.each_fits c.0 c.1)
