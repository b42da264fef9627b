-- What the getters of `clap` read among the arguments, in words of the command line.
use Rattle.std.proofs.Common.{◌≡◌, ◌≤◌, ℕ, List, Option, Some, None, sym, subst, ap, ◌∙◌}
use Rattle.std.specs.Prelude.{MatchOption, codes, is_some, option_map}
use Rattle.std.specs.Borrow.{Bor}
use Rattle.std.specs.Str.Parse.{digits_value, without_leading_plus}
use Rattle.clap.specs.Words.{Row, Text, all_of, first_of}
use Rattle.tp_tasks.specs.declared.task.Texts.{Texts}
use Rattle.tp_tasks.specs.CommandLine.{HasClients, HasNoNumber, HasNoneUpTo, HasNumber, HasText, HasTexts, IsAbove, IsMode, IsNumber, IsSize, IsUpTo, LacksClients, LacksMode, LacksNumber, LacksSize, LacksText, LacksTexts, MayHaveNumber, MayHaveUpTo, texts_in}

-- a text is read exactly where there is one
pub text_read : (id : Text) (rows : List Row) (r : Option (Bor Text)) → option_map (λ s. s.now) r ≡ first_of id rows
    → MatchOption r (LacksText id rows) (λ text. HasText id rows text)
text_read id rows None e = sym e
text_read id rows (Some text) e = sym e

-- where there is none, there is no number
pub no_text : (id : Text) (rows : List Row) → first_of id rows ≡ None → LacksNumber id rows
no_text id rows none text e n is =
    let bad : Some text ≡ None = sym e ∙ none in
    cc

-- and where the one that there is reads as none
pub none_read : (Reads : Text → ℕ → Type 0) (id : Text) (rows : List Row) (text : Text) → first_of id rows ≡ Some text → ((n : ℕ) → Reads text n → ⊥)
    → (other : Text) → first_of id rows ≡ Some other → (n : ℕ) → Reads other n → ⊥
none_read Reads id rows text is_there bad other e n is = bad n (subst (λ (t : Text). Reads t n) (same (sym e ∙ is_there)) is)
  where
    same : {x y : Text} → Some x ≡ Some y → x ≡ y
    same e = cc

pub no_number : (id : Text) (rows : List Row) (text : Text) → first_of id rows ≡ Some text → ((n : ℕ) → IsNumber text n → ⊥) → LacksNumber id rows
no_number id rows text is_there bad = none_read IsNumber id rows text is_there bad

pub no_size : (id : Text) (rows : List Row) (text : Text) → first_of id rows ≡ Some text → ((n : ℕ) → IsSize text n → ⊥) → LacksSize id rows
no_size id rows text is_there bad = none_read IsSize id rows text is_there bad

pub no_mode : (id : Text) (rows : List Row) (text : Text) → first_of id rows ≡ Some text → ((n : ℕ) → IsMode text n → ⊥) → LacksMode id rows
no_mode id rows text is_there bad = none_read IsMode id rows text is_there bad

-- an argument is one number alone
pub one_number : (id : Text) (rows : List Row) (n m : ℕ) → HasNumber id rows n → HasNumber id rows m → n ≡ m
one_number id rows n m (text, e, is) (other, e', is') = is.1 ∙ (ap value (same (sym e ∙ e')) ∙ sym is'.1)
  where
    value : Text → ℕ
    value text = digits_value 10 (without_leading_plus text)

    same : {x y : Text} → Some x ≡ Some y → x ≡ y
    same e = cc

-- no number, so no number of clients
pub no_clients : (rows : List Row) → LacksNumber (codes "COUNT") rows → LacksClients rows
no_clients rows lacks n has low high = lacks has.0 has.1 n has.2

-- a number that is one of clients, or is not
pub clients_among : (rows : List Row) (m : ℕ) (r : Option ℕ) → HasNumber (codes "COUNT") rows m → MatchOption r (1 ≤ m → m ≤ 64 → ⊥) (λ n. (n ≡ m) × (1 ≤ n) × (n ≤ 64))
    → MatchOption r (LacksClients rows) (λ n. HasClients rows n)
clients_among rows m None found not = λ n has low high.
    let e = one_number (codes "COUNT") rows n m has found in
    not (subst (λ (k : ℕ). 1 ≤ k) e low) (subst (λ (k : ℕ). k ≤ 64) e high)
clients_among rows m (Some n) found (e, low, high) = (subst (λ (k : ℕ). HasNumber (codes "COUNT") rows k) (sym e) found, low, high)

-- a pair that is there, by its parts
pub both_parts : {A B X : Type 0} (o : Option X) (f : X → A) (h : X → B) (a : A) (b : B) → Some a ≡ option_map f o
    → Some b ≡ option_map (λ (p : A × B). p.1) (option_map {U = A × B} (λ x. (f x, h x)) o) → option_map {U = A × B} (λ x. (f x, h x)) o ≡ Some (a, b)
both_parts None f h a b p q = cc
both_parts (Some x) f h a b p q = cc

-- an argument that is not there has no texts
pub no_texts : (id : Text) (rows : List Row) → all_of id rows ≡ None → LacksTexts id rows
no_texts id rows none texts has =
    let bad : Some (texts_in texts) ≡ None = sym has ∙ none in
    cc

-- and where it is there, it has those that are one to four, or none
pub texts_among : (id : Text) (rows : List Row) (xs : List Text) (r : Option Texts) → all_of id rows ≡ Some xs → MatchOption r ((four : Texts) → xs ≡ texts_in four → ⊥) (λ four. xs ≡ texts_in four)
    → MatchOption r (LacksTexts id rows) (λ texts. HasTexts id rows texts)
texts_among id rows xs None e not = λ four has. not four (same (sym e ∙ has))
  where
    same : {x y : List Text} → Some x ≡ Some y → x ≡ y
    same e = cc
texts_among id rows xs (Some four) e is = e ∙ ap Some is

-- what is there is no number, so none up to a greatest one
pub no_number_up_to : (most : ℕ) (id : Text) (rows : List Row) → HasNoNumber id rows → HasNoneUpTo most id rows
no_number_up_to most id rows not = (not.0, λ n has few. not.1 has.0 has.1 n has.2)

-- a number that is one up to it, or is not
pub up_to_among : (most : ℕ) (id : Text) (rows : List Row) (o : Option ℕ) (r : Option (Option ℕ)) → MayHaveNumber id rows o → MatchOption r (IsAbove most o) (λ few. IsUpTo most o few)
    → MatchOption r (HasNoneUpTo most id rows) (λ few. MayHaveUpTo most id rows few)
up_to_among most id rows None None has not = absurd not
up_to_among most id rows (Some m) None has not = (ap is_some has.1, λ n found few. not (subst (λ (k : ℕ). k ≤ most) (one_number id rows n m found has) few))
up_to_among most id rows o (Some None) has is = subst (λ (x : Option ℕ). MayHaveNumber id rows x) (sym is.0) has
up_to_among most id rows o (Some (Some n)) has is = (subst (λ (x : Option ℕ). MayHaveNumber id rows x) (sym is.0) has, is.1)
