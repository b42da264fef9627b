-- Control lines that ask for a page, by their words.
use Rattle.std.proofs.Common.{◌≡◌, ℕ, ◌<◌, List, ◌∷◌, ◌++◌, true, get_or, refl, sym, ap, ◌∙◌, arith}
use Rattle.std.specs.Prelude.{codes}
use Rattle.std.specs.Fmt.{decimal}
use Rattle.std.specs.Str.{all_ascii_digits}
use Rattle.std.proofs.lemmas.Fmt.{digits_decimal}
use Rattle.tp_model.proofs.Digits.{digits_are}
use Rattle.tp_msg.specs.Messages.{behind, first_word}
use Rattle.tp_lines.specs.declared.pages.PageOf.{PageOf}
use Rattle.tp_lines.specs.declared.pages.PageOf.TheVariants.{Size, Map, Delta}
use Rattle.tp_lines.specs.Pages.{IsNoPage, IsPageSplit, IsPageUnsplit, page_spelling}
use Rattle.tp_lines.specs.Split.{HasNoSpace, IsCut}
use Rattle.tp_lines.proofs.Splitting.{behind-append, first_word-append, together}

-- ---- numbers

volume_digits : (n : ℕ) → n < 16777216 → all_ascii_digits (decimal n) ≡ true
volume_digits n lt = digits_decimal digits_are n (omega (arith, lt))

pub cut_number : (text word rest : List ℕ) (n : ℕ) (more : List ℕ) → n < 16777216 → IsCut text word rest → text ≡ decimal n ++ 32 ∷ more → word ≡ decimal n
cut_number text word rest n more lt c e = c.first ∙ (ap first_word e ∙ first_word-append (decimal n) more (volume_digits n lt))

pub cut_behind : (text word rest : List ℕ) (n : ℕ) (more : List ℕ) → n < 16777216 → IsCut text word rest → text ≡ decimal n ++ 32 ∷ more → rest ≡ more
cut_behind text word rest n more lt c e = c.last ∙ (ap behind e ∙ behind-append (decimal n) more (volume_digits n lt))

pub number_space : (text : List ℕ) (n : ℕ) (more : List ℕ) → HasNoSpace text → text ≡ decimal n ++ 32 ∷ more → ⊥
number_space text n more none e = none (decimal n) more e

pub joined : (text word rest front back : List ℕ) → IsCut text word rest → word ≡ front → rest ≡ back → text ≡ front ++ 32 ∷ back
joined text word rest front back c w r = together text word rest front back c.whole w r

-- ---- lines

page_split : (text word rest : List ℕ) (p : PageOf) → IsCut text word rest → text ≡ page_spelling p → IsPageSplit word rest p
page_split text word rest (Size id) c e = (c.first ∙ ap first_word e, c.last ∙ ap behind e)
page_split text word rest (Map id first) c e = (c.first ∙ ap first_word e, c.last ∙ ap behind e)
page_split text word rest (Delta old new first) c e = (c.first ∙ ap first_word e, c.last ∙ ap behind e)

pub no_page : (text word rest : List ℕ) → IsCut text word rest → IsPageUnsplit word rest → IsNoPage text
no_page text word rest c none p good e = none p good (page_split text word rest p c e)

pub page_spelled : (text word rest : List ℕ) (p : PageOf) → IsCut text word rest → IsPageSplit word rest p → text ≡ page_spelling p
page_spelled text word rest (Size id) c s = together text word rest (codes "size") _ c.whole s.0 s.1
page_spelled text word rest (Map id first) c s = together text word rest (codes "map") _ c.whole s.0 s.1
page_spelled text word rest (Delta old new first) c s = together text word rest (codes "delta") _ c.whole s.0 s.1

pub one_word_page : (text : List ℕ) → HasNoSpace text → IsNoPage text
one_word_page text none (Size id) good e = none (codes "size") (decimal id) e
one_word_page text none (Map id first) good e = none (codes "map") (decimal id ++ (codes " " ++ decimal first)) e
one_word_page text none (Delta old new first) good e = none (codes "delta") (decimal old ++ (codes " " ++ (decimal new ++ (codes " " ++ decimal first)))) e

-- ---- no page has these parts

other_word : (word one other : List ℕ) (m n : ℕ) → word ≡ one → word ≡ other → get_or one 0 0 ≡ m → get_or other 0 0 ≡ n → (m ≡ n → ⊥) → ⊥
other_word word one other m n a b is_m is_n apart = apart (sym is_m ∙ (ap (λ (l : List ℕ). get_or l 0 0) (sym a ∙ b) ∙ is_n))

pub no_size : (word rest : List ℕ) → word ≡ codes "size" → ((n : ℕ) → n < 16777216 → rest ≡ decimal n → ⊥) → IsPageUnsplit word rest
no_size word rest w none (Size id) good s = none id good s.1
no_size word rest w none (Map id first) good s = other_word word (codes "size") (codes "map") 115 109 w s.0 refl refl (λ e. absurd (omega (arith, e)))
no_size word rest w none (Delta old new first) good s = other_word word (codes "size") (codes "delta") 115 100 w s.0 refl refl (λ e. absurd (omega (arith, e)))

pub no_map : (word rest : List ℕ) → word ≡ codes "map" → ((a b : ℕ) → a < 16777216 → b < 16777216 → rest ≡ decimal a ++ 32 ∷ decimal b → ⊥) → IsPageUnsplit word rest
no_map word rest w none (Size id) good s = other_word word (codes "map") (codes "size") 109 115 w s.0 refl refl (λ e. absurd (omega (arith, e)))
no_map word rest w none (Map id first) good s = none id first good.0 good.1 s.1
no_map word rest w none (Delta old new first) good s = other_word word (codes "map") (codes "delta") 109 100 w s.0 refl refl (λ e. absurd (omega (arith, e)))

pub no_delta : (word rest : List ℕ) → word ≡ codes "delta" → ((a b d : ℕ) → a < 16777216 → b < 16777216 → d < 16777216 → rest ≡ decimal a ++ 32 ∷ (decimal b ++ 32 ∷ decimal d) → ⊥) → IsPageUnsplit word rest
no_delta word rest w none (Size id) good s = other_word word (codes "delta") (codes "size") 100 115 w s.0 refl refl (λ e. absurd (omega (arith, e)))
no_delta word rest w none (Map id first) good s = other_word word (codes "delta") (codes "map") 100 109 w s.0 refl refl (λ e. absurd (omega (arith, e)))
no_delta word rest w none (Delta old new first) good s = none old new first good.0 good.1 good.2 s.1

pub no_page_word : (word rest : List ℕ) → (word ≡ codes "size" → ⊥) → (word ≡ codes "map" → ⊥) → (word ≡ codes "delta" → ⊥) → IsPageUnsplit word rest
no_page_word word rest z m d (Size id) good s = z s.0
no_page_word word rest z m d (Map id first) good s = m s.0
no_page_word word rest z m d (Delta old new first) good s = d s.0
