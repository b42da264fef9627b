-- The lines of a script by their first word and the rest.
use Rattle.std.proofs.Common.{◌≡◌, ℕ, ◌<◌, ◌≤◌, Bool, true, false, List, [], ◌∷◌, ◌++◌, length, get_or, refl, sym, ap, subst, ◌∙◌, arith}
use Rattle.std.specs.Prelude.{◌==◌, if◌then◌else◌, bytes_eq, codes}
use Rattle.std.specs.Char.{is_ascii_digit}
use Rattle.std.specs.Fmt.{decimal}
use Rattle.std.specs.Str.{all_ascii_digits}
use Rattle.std.proofs.lemmas.Bool.{and_parts, eqb-true, ne_eqb, leb-true}
use Rattle.std.proofs.lemmas.Slice.Eq.{bytes_eq-Decides}
use Rattle.std.proofs.lemmas.Fmt.{digits_decimal, digits_value-decimal}
use Rattle.tp_model.specs.Digits.{number_after}
use Rattle.tp_model.proofs.Digits.{digits_are}
use Rattle.tp_msg.specs.Messages.{behind, first_word}
use Rattle.tp_lines.specs.declared.line.ScriptLine.{ScriptLine}
use Rattle.tp_lines.specs.declared.line.ScriptLine.TheVariants.{Nothing, Open, Bytes, Hangup, Message, Status, Thin}
use Rattle.tp_lines.specs.Lines.{IsHex, IsLine, IsNoLine, spelling}
use Rattle.tp_lines.specs.Split.{HasNoSpace, IsCut, IsSplit, IsUnsplit}

-- ---- the first space

first_shorter_from : (c : ℕ) (w r : List ℕ) (b : Bool) → length (first_word (w ++ 32 ∷ r)) < length (w ++ 32 ∷ r) → length (if b then [] else c ∷ first_word (w ++ 32 ∷ r)) < length (c ∷ (w ++ 32 ∷ r))
first_shorter_from c w r true h = omega arith
first_shorter_from c w r false h = omega (arith, h)

-- a text with a space is longer than its first word
first_shorter : (w r : List ℕ) → length (first_word (w ++ 32 ∷ r)) < length (w ++ 32 ∷ r)
first_shorter [] r = omega arith
first_shorter (c ∷ w) r = first_shorter_from c w r (c == 32) (first_shorter w r)

pub no_space : (text : List ℕ) → first_word text ≡ text → HasNoSpace text
no_space text same w r e =
    let l : length (first_word text) ≡ length text = ap length same in
    let s : length (first_word text) < length text = subst (λ (t : List ℕ). length (first_word t) < length t) (sym e) (first_shorter w r) in
    absurd (omega (arith, l, s))

whole_from : (c : ℕ) (cs : List ℕ) (b : Bool) → (c == 32) ≡ b → (c ≡ 32 → ⊥) → first_word cs ≡ cs → (if b then [] else c ∷ first_word cs) ≡ c ∷ cs
whole_from c cs true is other same = absurd (other (eqb-true c 32 is))
whole_from c cs false is other same = ap (λ (l : List ℕ). c ∷ l) same

-- and without a space it is its first word
pub whole_word : (text : List ℕ) → HasNoSpace text → first_word text ≡ text
whole_word [] none = refl
whole_word (c ∷ cs) none =
    whole_from c cs (c == 32) refl (λ e. none [] cs (ap (λ (n : ℕ). n ∷ cs) e)) (whole_word cs (λ word rest e. none (c ∷ word) rest (ap (λ (l : List ℕ). c ∷ l) e)))

digit_no_space : (c : ℕ) → is_ascii_digit c ≡ true → (c == 32) ≡ false
digit_no_space c h = let low = leb-true 48 c (and_parts _ _ h).0 in ne_eqb c 32 (λ e. absurd (omega arith))

pub first_word-append : (w rest : List ℕ) → all_ascii_digits w ≡ true → first_word (w ++ (32 ∷ rest)) ≡ w
first_word-append [] rest h = refl
first_word-append (c ∷ cs) rest h =
    let p = and_parts (is_ascii_digit c) (all_ascii_digits cs) h in
    ap (λ (b : Bool). if b then [] else c ∷ first_word (cs ++ (32 ∷ rest))) (digit_no_space c p.0) ∙ ap (λ (ds : List ℕ). c ∷ ds) (first_word-append cs rest p.1)

pub behind-append : (w rest : List ℕ) → all_ascii_digits w ≡ true → behind (w ++ (32 ∷ rest)) ≡ rest
behind-append [] rest h = refl
behind-append (c ∷ cs) rest h =
    let p = and_parts (is_ascii_digit c) (all_ascii_digits cs) h in
    ap (λ (b : Bool). if b then cs ++ (32 ∷ rest) else behind (cs ++ (32 ∷ rest))) (digit_no_space c p.0) ∙ behind-append cs rest p.1

-- ---- a session and its piece

session_digits : (n : ℕ) → n < 64 → all_ascii_digits (decimal n) ≡ true
session_digits n lt = digits_decimal digits_are n (omega (arith, lt))

pub cut_session : (rest word digits : List ℕ) (n : ℕ) (more : List ℕ) → n < 64 → IsCut rest word digits → rest ≡ decimal n ++ 32 ∷ more → word ≡ decimal n
cut_session rest word digits n more lt c e = c.first ∙ ap first_word e ∙ first_word-append (decimal n) more (session_digits n lt)

pub cut_piece : (rest word digits : List ℕ) (n : ℕ) (more : List ℕ) → n < 64 → IsCut rest word digits → rest ≡ decimal n ++ 32 ∷ more → digits ≡ more
cut_piece rest word digits n more lt c e = c.last ∙ ap behind e ∙ behind-append (decimal n) more (session_digits n lt)

-- the number of a volume is that of no session
pub other_session : (text : List ℕ) (id : ℕ) → id < 16777216 → text ≡ decimal id → 64 ≤ id → (n : ℕ) → n < 64 → text ≡ decimal n → ⊥
other_session text id small is large n lt e =
    let one : number_after 0 (decimal id) ≡ id = digits_value-decimal digits_are id (omega (arith, small)) in
    let two : number_after 0 (decimal n) ≡ n = digits_value-decimal digits_are n (omega (arith, lt)) in
    let same : id ≡ n = sym one ∙ (ap (number_after 0) (sym is ∙ e) ∙ two) in
    absurd (omega (arith, same, lt, large))

-- ---- lines

pub not_empty : (text : List ℕ) → false ≡ (length text == 0) → text ≡ [] → ⊥
not_empty text some e = let l : (length text == 0) ≡ true = ap (λ (t : List ℕ). length t == 0) e in let wrong : false ≡ true = some ∙ l in absurd cc

-- a line with a space, by its parts
split_line : (text word rest : List ℕ) (l : ScriptLine) → IsLine l → word ≡ first_word text → rest ≡ behind text → (text ≡ [] → ⊥) → (text ≡ codes "status" → ⊥) → text ≡ spelling l → IsSplit word rest l
split_line text word rest Nothing good first last some other e = some e
split_line text word rest (Open n) good first last some other e = (first ∙ ap first_word e, last ∙ ap behind e)
split_line text word rest (Bytes n digits) good first last some other e = (first ∙ ap first_word e, last ∙ ap behind e)
split_line text word rest (Hangup n) good first last some other e = (first ∙ ap first_word e, last ∙ ap behind e)
split_line text word rest (Message said) good first last some other e = (first ∙ ap first_word e, last ∙ ap behind e)
split_line text word rest Status good first last some other e = other e
split_line text word rest (Thin id) good first last some other e = (first ∙ ap first_word e, last ∙ ap behind e)

pub not_text : (text word said : List ℕ) → false ≡ bytes_eq text word → word ≡ said → text ≡ said → ⊥
not_text text word said differs is e = let same : bytes_eq text word ≡ true = (bytes_eq-Decides text word).1 (e ∙ sym is) in let wrong : false ≡ true = differs ∙ same in absurd cc

pub no_line : (text word rest : List ℕ) → IsCut text word rest → (text ≡ [] → ⊥) → (text ≡ codes "status" → ⊥) → IsUnsplit word rest → IsNoLine text
no_line text word rest c some other none l good e = none l good (split_line text word rest l good c.first c.last some other e)

spaced_line : (text : List ℕ) (l : ScriptLine) → (text ≡ [] → ⊥) → (text ≡ codes "status" → ⊥) → HasNoSpace text → text ≡ spelling l → ⊥
spaced_line text Nothing some other none e = some e
spaced_line text (Open n) some other none e = none (codes "open") (decimal n) e
spaced_line text (Bytes n digits) some other none e = none (codes "bytes") (decimal n ++ (codes " " ++ digits.now)) e
spaced_line text (Hangup n) some other none e = none (codes "hangup") (decimal n) e
spaced_line text (Message said) some other none e = none (codes "message") said.now e
spaced_line text Status some other none e = other e
spaced_line text (Thin id) some other none e = none (codes "thin") (decimal id) e

pub one_word : (text : List ℕ) → (text ≡ [] → ⊥) → (text ≡ codes "status" → ⊥) → HasNoSpace text → IsNoLine text
one_word text some other none l good e = spaced_line text l some other none e

pub together : (text word rest front behind_it : List ℕ) → text ≡ word ++ 32 ∷ rest → word ≡ front → rest ≡ behind_it → text ≡ front ++ 32 ∷ behind_it
together text word rest front behind_it whole w r = whole ∙ (ap (λ (x : List ℕ). x ++ 32 ∷ rest) w ∙ ap (λ (x : List ℕ). front ++ 32 ∷ x) r)

pub spelled : (text word rest : List ℕ) (l : ScriptLine) → IsCut text word rest → IsSplit word rest l → text ≡ spelling l
spelled text word rest Nothing c s = absurd s
spelled text word rest (Open n) c s = together text word rest (codes "open") _ c.whole s.0 s.1
spelled text word rest (Bytes n digits) c s = together text word rest (codes "bytes") _ c.whole s.0 s.1
spelled text word rest (Hangup n) c s = together text word rest (codes "hangup") _ c.whole s.0 s.1
spelled text word rest (Message said) c s = together text word rest (codes "message") _ c.whole s.0 s.1
spelled text word rest Status c s = absurd s
spelled text word rest (Thin id) c s = together text word rest (codes "thin") _ c.whole s.0 s.1

-- ---- no line has these parts

abbrev pub IsNoSession : List ℕ → Type 0
IsNoSession rest = (n : ℕ) → n < 64 → rest ≡ decimal n → ⊥

pub no_open : (word rest : List ℕ) → word ≡ codes "open" → IsNoSession rest → IsUnsplit word rest
no_open word rest w none Nothing good s = s
no_open word rest w none (Open n) good s = none n good s.1
no_open word rest w none (Bytes n digits) good s = let e = sym w ∙ s.0 in absurd cc
no_open word rest w none (Hangup n) good s = let e = sym w ∙ s.0 in absurd cc
no_open word rest w none (Message said) good s = let e = sym w ∙ s.0 in absurd cc
no_open word rest w none Status good s = s
no_open word rest w none (Thin id) good s = let first = ap (λ (l : List ℕ). get_or l 0 0) (sym w ∙ s.0) in absurd (omega (arith, first))

pub no_hangup : (word rest : List ℕ) → word ≡ codes "hangup" → IsNoSession rest → IsUnsplit word rest
no_hangup word rest w none Nothing good s = s
no_hangup word rest w none (Open n) good s = let e = sym w ∙ s.0 in absurd cc
no_hangup word rest w none (Bytes n digits) good s = let e = sym w ∙ s.0 in absurd cc
no_hangup word rest w none (Hangup n) good s = none n good s.1
no_hangup word rest w none (Message said) good s = let e = sym w ∙ s.0 in absurd cc
no_hangup word rest w none Status good s = s
no_hangup word rest w none (Thin id) good s = let e = sym w ∙ s.0 in absurd cc

pub no_bytes : (word rest : List ℕ) → word ≡ codes "bytes" → ((n : ℕ) (digits : List ℕ) → n < 64 → IsHex digits → rest ≡ decimal n ++ 32 ∷ digits → ⊥) → IsUnsplit word rest
no_bytes word rest w none Nothing good s = s
no_bytes word rest w none (Open n) good s = let e = sym w ∙ s.0 in absurd cc
no_bytes word rest w none (Bytes n digits) good s = none n digits.now good.0 good.1 s.1
no_bytes word rest w none (Hangup n) good s = let e = sym w ∙ s.0 in absurd cc
no_bytes word rest w none (Message said) good s = let e = sym w ∙ s.0 in absurd cc
no_bytes word rest w none Status good s = s
no_bytes word rest w none (Thin id) good s = let e = sym w ∙ s.0 in absurd cc

pub no_thin : (word rest : List ℕ) → word ≡ codes "thin" → ((n : ℕ) → n < 16777216 → rest ≡ decimal n → ⊥) → IsUnsplit word rest
no_thin word rest w none Nothing good s = s
no_thin word rest w none (Open n) good s = let first = ap (λ (l : List ℕ). get_or l 0 0) (sym w ∙ s.0) in absurd (omega (arith, first))
no_thin word rest w none (Bytes n digits) good s = let e = sym w ∙ s.0 in absurd cc
no_thin word rest w none (Hangup n) good s = let e = sym w ∙ s.0 in absurd cc
no_thin word rest w none (Message said) good s = let e = sym w ∙ s.0 in absurd cc
no_thin word rest w none Status good s = s
no_thin word rest w none (Thin id) good s = none id good s.1

pub no_word : (word rest : List ℕ) → (word ≡ codes "open" → ⊥) → (word ≡ codes "bytes" → ⊥) → (word ≡ codes "hangup" → ⊥) → (word ≡ codes "message" → ⊥) → (word ≡ codes "thin" → ⊥) → IsUnsplit word rest
no_word word rest o b h m t Nothing good s = s
no_word word rest o b h m t (Open n) good s = o s.0
no_word word rest o b h m t (Bytes n digits) good s = b s.0
no_word word rest o b h m t (Hangup n) good s = h s.0
no_word word rest o b h m t (Message said) good s = m s.0
no_word word rest o b h m t Status good s = s
no_word word rest o b h m t (Thin id) good s = t s.0
