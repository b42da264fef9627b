-- The first word of a text, and what stands behind it.
use Rattle.std.proofs.Common.{◌≡◌, ℕ, ◌<◌, Bool, true, false, List, [], ◌∷◌, ◌++◌, length, refl, ap, ◌∙◌, arith}
use Rattle.std.specs.Prelude.{◌==◌, if◌then◌else◌}
use Rattle.std.specs.Char.{is_ascii_digit}
use Rattle.std.specs.Str.{all_ascii_digits}
use Rattle.std.proofs.lemmas.Bool.{and_parts, eqb-true, ne_eqb, leb-true}
use Rattle.tp_msg.specs.Messages.{first_word, behind}

parts_from : (c : ℕ) (cs : List ℕ) (b : Bool) → (c == 32) ≡ b → (0 < length (behind cs) → cs ≡ first_word cs ++ (32 ∷ behind cs)) → 0 < length (if b then cs else behind cs)
    → c ∷ cs ≡ (if b then [] else c ∷ first_word cs) ++ (32 ∷ (if b then cs else behind cs))
parts_from c cs true e rest some = ap (λ (d : ℕ). d ∷ cs) (eqb-true c 32 e)
parts_from c cs false e rest some = ap (λ (ds : List ℕ). c ∷ ds) (rest some)

-- a text with something behind a space is its first word, the space, and that
pub parts : (line : List ℕ) → 0 < length (behind line) → line ≡ first_word line ++ (32 ∷ behind line)
parts [] some = absurd (omega arith)
parts (c ∷ cs) some = parts_from c cs (c == 32) refl (parts cs) some

pub behind_some : (line : List ℕ) → 0 < length (behind line) → 0 < length line
behind_some [] some = some
behind_some (c ∷ cs) some = omega arith

digit_no_space : (c : ℕ) → is_ascii_digit c ≡ true → (c == 32) ≡ false
digit_no_space c h = let low = leb-true 48 c (and_parts _ _ h).0 in ne_eqb c 32 (λ e. absurd (omega arith))

pub first_word-append : (w rest : List ℕ) → all_ascii_digits w ≡ true → first_word (w ++ (32 ∷ rest)) ≡ w
first_word-append [] rest h = refl
first_word-append (c ∷ cs) rest h =
    let p = and_parts (is_ascii_digit c) (all_ascii_digits cs) h in
    ap (λ (b : Bool). if b then [] else c ∷ first_word (cs ++ (32 ∷ rest))) (digit_no_space c p.0) ∙ ap (λ (ds : List ℕ). c ∷ ds) (first_word-append cs rest p.1)

pub behind-append : (w rest : List ℕ) → all_ascii_digits w ≡ true → behind (w ++ (32 ∷ rest)) ≡ rest
behind-append [] rest h = refl
behind-append (c ∷ cs) rest h =
    let p = and_parts (is_ascii_digit c) (all_ascii_digits cs) h in
    ap (λ (b : Bool). if b then cs ++ (32 ∷ rest) else behind (cs ++ (32 ∷ rest))) (digit_no_space c p.0) ∙ behind-append cs rest p.1
