-- The names of volumes: what is read is the number that the name writes, and no other text is a name.
use Rattle.std.proofs.Common.{◌≡◌, ℕ, ◌^◌, ◌<◌, ◌≤◌, Bool, true, false, List, length, take, drop, get_or, refl, sym, ap, subst, ◌∙◌, arith, inl, inr, true≢false}
use Rattle.std.specs.Prelude.{◌==◌, bytes_eq, Option, Some, None, MatchOption, IfSome, IfNone}
use Rattle.std.specs.Fmt.{decimal}
use Rattle.std.specs.Str.{all_ascii_digits}
use Rattle.std.proofs.lemmas.Bool.{cases_eq, cases_lt, eq-eqb, ne_eqb}
use Rattle.std.proofs.lemmas.List.{length-take}
use Rattle.std.proofs.lemmas.Slice.Eq.{bytes_eq-Decides}
use Rattle.std.proofs.lemmas.Fmt.{decimal_nonempty, decimal_digit, length-decimal-le, first_decimal, digits_decimal, digits_value-decimal, decimal-digits_value}
use Rattle.tp_model.specs.Digits.{number_after}
use Rattle.tp_model.proofs.Digits.{digits_are}
use Rattle.nbd_session.specs.Session.{IsNameOf, Means, MeansClone, clone_prefix}

fits : (id : ℕ) → id < 16777216 → id < 2 ^ 64
fits id h = omega arith

pub empty_no_name : (name : List ℕ) → length name ≡ 0 → (id : ℕ) → IsNameOf name id → ⊥
empty_no_name name e id h = let p = decimal_nonempty id (fits id h.0) in let l = ap length h.1 in absurd (omega arith)

pub long_no_name : (name : List ℕ) → 8 < length name → (id : ℕ) → IsNameOf name id → ⊥
long_no_name name lt id h = let p = length-decimal-le 8 id (omega arith) (omega arith) (fits id h.0) in let l = ap length h.1 in absurd (omega arith)

pub zero_no_name : (name : List ℕ) → 1 < length name → get_or name 0 0 ≡ 48 → (id : ℕ) → IsNameOf name id → ⊥
zero_no_name name lt e id h =
    elim (cases_lt 0 id) [
      | inl pos ↦ let p = first_decimal id pos (fits id h.0) in let f = ap (λ (t : List ℕ). get_or t 0 0) h.1 in absurd (omega arith)
      | inr le ↦
          let z : id ≡ 0 = omega arith in
          let l = ap length (h.1 ∙ ap decimal z ∙ decimal_digit 0 (omega arith)) in
          absurd (omega arith)
    ]

pub other_no_name : (name : List ℕ) → all_ascii_digits name ≡ false → (id : ℕ) → IsNameOf name id → ⊥
other_no_name name e id h = let d : all_ascii_digits name ≡ true = ap all_ascii_digits h.1 ∙ digits_decimal digits_are id (fits id h.0) in absurd cc

pub large_no_name : (name : List ℕ) → 16777216 ≤ number_after 0 name → (id : ℕ) → IsNameOf name id → ⊥
large_no_name name le id h =
    let v : number_after 0 name ≡ id = ap (number_after 0) h.1 ∙ digits_value-decimal digits_are id (fits id h.0) in
    let lt = h.0 in
    absurd (omega arith)

pub is_name : (name : List ℕ) → all_ascii_digits name ≡ true → 0 < length name → (get_or name 0 0 ≡ 48 → length name ≡ 1) → number_after 0 name < 16777216 → IsNameOf name (number_after 0 name)
is_name name digits some first small = (small, sym (decimal-digits_value digits_are name digits some first (omega arith)))

pub found_name : (name : List ℕ) (n : ℕ) (r : Option ℕ) → all_ascii_digits name ≡ true → n ≡ number_after 0 name → 0 < length name → (get_or name 0 0 ≡ 48 → length name ≡ 1)
    → MatchOption r (16777216 ≤ n) (λ id. (n < 16777216) × (id ≡ n)) → IfSome r (λ id. IsNameOf name id)
found_name name n None digits is some first h = tt
found_name name n (Some id) digits is some first h =
    let P : ℕ → Type 0 = λ i. IsNameOf name i in
    subst P (sym (h.1 ∙ is)) (is_name name digits some first (let a = h.0 in omega arith))

pub no_name : (name : List ℕ) (n : ℕ) (r : Option ℕ) → n ≡ number_after 0 name → MatchOption r (16777216 ≤ n) (λ id. (n < 16777216) × (id ≡ n)) → IfNone r ((id : ℕ) → IsNameOf name id → ⊥)
no_name name n None is h = large_no_name name (omega arith)
no_name name n (Some id) is h = tt

pub blank : (name : List ℕ) → (length name == 0) ≡ true → length name ≡ 0
blank name e = elim (cases_eq (length name) 0) [
  | inl none ↦ none
  | inr some ↦ let is : (length name == 0) ≡ false = ne_eqb (length name) 0 some in absurd cc
]

-- a name has one number
same_id : (name : List ℕ) (i j : ℕ) → IsNameOf name i → IsNameOf name j → i ≡ j
same_id name i j a b =
    let one : number_after 0 name ≡ i = ap (number_after 0) a.1 ∙ digits_value-decimal digits_are i (fits i a.0) in
    let two : number_after 0 name ≡ j = ap (number_after 0) b.1 ∙ digits_value-decimal digits_are j (fits j b.0) in
    sym one ∙ two

-- the name of an id, and whether that is below a limit
pub found_below : (name : List ℕ) (i limit : ℕ) (r : Option ℕ) → IsNameOf name i → MatchOption r (limit ≤ i) (λ id. (id ≡ i) × (id < limit)) → IfSome r (λ id. IsNameOf name id × (id < limit))
found_below name i limit None is h = tt
found_below name i limit (Some id) is h = (let P : ℕ → Type 0 = λ j. IsNameOf name j in subst P (sym h.0) is, h.1)

pub none_below : (name : List ℕ) (i limit : ℕ) (r : Option ℕ) → IsNameOf name i → MatchOption r (limit ≤ i) (λ id. (id ≡ i) × (id < limit)) → IfNone r ((id : ℕ) → IsNameOf name id → id < limit → ⊥)
none_below name i limit None is h = λ id named small. let e = same_id name i id is named in absurd (omega (arith, e, h, small))
none_below name i limit (Some id) is h = tt

-- a name that is shorter than what stands before the id means no clone, and so one that does not begin so
pub short_no_clone : (name : List ℕ) → length name < 6 → (origin : ℕ) → MeansClone true name origin → ⊥
short_no_clone name lt origin h =
    let same : take 6 name ≡ clone_prefix = (bytes_eq-Decides (take 6 name) clone_prefix).0 h.1 in
    absurd (omega (arith, lt, ap length same, length-take 6 name))

pub other_no_clone : (name : List ℕ) → bytes_eq (take 6 name) clone_prefix ≡ false → (origin : ℕ) → MeansClone true name origin → ⊥
other_no_clone name e origin h = absurd (true≢false (sym h.1 ∙ e))

-- what stands behind that is the id of a volume, or is none
pub clone_found : (name id : List ℕ) (r : Option ℕ) → id ≡ drop 6 name → bytes_eq (take 6 name) clone_prefix ≡ true → IfSome r (λ origin. IsNameOf id origin × (origin < 8388608))
    → IfSome r (λ origin. MeansClone true name origin)
clone_found name id None is front h = tt
clone_found name id (Some origin) is front h = let P : List ℕ → Type 0 = λ text. IsNameOf text origin in (refl, front, subst P is h.0, h.1)

pub clone_none : (name id : List ℕ) (r : Option ℕ) → id ≡ drop 6 name → IfNone r ((origin : ℕ) → IsNameOf id origin → origin < 8388608 → ⊥) → IfNone r ((origin : ℕ) → MeansClone true name origin → ⊥)
clone_none name id None is h = λ origin m. let P : List ℕ → Type 0 = λ text. IsNameOf text origin in h origin (subst P (sym is) m.2) m.3
clone_none name id (Some origin) is h = tt

-- the same where there are clones
pub clone_in : (clones : Bool) (name : List ℕ) (r : Option ℕ) → clones ≡ true → IfSome r (λ origin. MeansClone true name origin) → IfSome r (λ origin. MeansClone clones name origin)
clone_in clones name r e h = let P : Bool → Type 0 = λ b. IfSome r (λ origin. MeansClone b name origin) in subst P (sym e) h

pub no_clone_in : (clones : Bool) (name : List ℕ) (r : Option ℕ) → clones ≡ true → IfNone r ((origin : ℕ) → MeansClone true name origin → ⊥)
    → IfNone r ((origin : ℕ) → MeansClone clones name origin → ⊥)
no_clone_in clones name r e h = let P : Bool → Type 0 = λ b. IfNone r ((origin : ℕ) → MeansClone b name origin → ⊥) in subst P (sym e) h

pub no_clones : (clones : Bool) (name : List ℕ) → clones ≡ false → (origin : ℕ) → MeansClone clones name origin → ⊥
no_clones clones name e origin h = absurd (true≢false (sym h.0 ∙ e))

-- a name that is not empty means what it says, below the limit
pub not_empty : (o : Option ℕ) (limit : ℕ) (name : List ℕ) → (length name ≡ 0 → ⊥) → ((id : ℕ) → IsNameOf name id → id < limit → ⊥) → (id : ℕ) → Means o limit name id → ⊥
not_empty o limit name some none id h = elim h [ inl n ↦ none id n.0 n.1 | inr m ↦ some (ap length m.0) ]

-- what was found below the limit that was told
pub found_under : (told limit : ℕ) (name : List ℕ) (r : Option ℕ) → told ≡ limit → IfSome r (λ id. IsNameOf name id × (id < told)) → IfSome r (λ id. IsNameOf name id × (id < limit))
found_under told limit name r e h = let P : ℕ → Type 0 = λ n. IfSome r (λ id. IsNameOf name id × (id < n)) in subst P e h

pub none_under : (told limit : ℕ) (name : List ℕ) (r : Option ℕ) → told ≡ limit → IfNone r ((id : ℕ) → IsNameOf name id → id < told → ⊥) → IfNone r ((id : ℕ) → IsNameOf name id → id < limit → ⊥)
none_under told limit name r e h = let P : ℕ → Type 0 = λ n. IfNone r ((id : ℕ) → IsNameOf name id → id < n → ⊥) in subst P e h

-- what was found is what a name means that is not empty
pub found_in : (o : Option ℕ) (limit : ℕ) (name : List ℕ) (r : Option ℕ) → IfSome r (λ id. IsNameOf name id × (id < limit)) → IfSome r (λ id. Means o limit name id)
found_in o limit name None h = tt
found_in o limit name (Some id) h = inl h

pub none_in : (o : Option ℕ) (limit : ℕ) (name : List ℕ) (r : Option ℕ) → (length name ≡ 0 → ⊥) → IfNone r ((id : ℕ) → IsNameOf name id → id < limit → ⊥) → IfNone r ((id : ℕ) → Means o limit name id → ⊥)
none_in o limit name None some h = not_empty o limit name some h
none_in o limit name (Some id) some h = tt

-- a text of some bytes is not empty
pub some_bytes : (name : List ℕ) → (length name == 0) ≡ false → length name ≡ 0 → ⊥
some_bytes name e none = let is : (length name == 0) ≡ true = eq-eqb (length name) 0 none in absurd cc

-- where there is no default the empty name means none
pub no_default : (r o : Option ℕ) (limit : ℕ) (name : List ℕ) → r ≡ o → length name ≡ 0 → IfNone r ((id : ℕ) → Means o limit name id → ⊥)
no_default (Some d) o limit name is e = tt
no_default None o limit name is e = λ id h. elim h [
  | inl n ↦ empty_no_name name e id n.0
  | inr m ↦ let some : None ≡ Some id = is ∙ m.1 in absurd cc
]
