-- Messages and their lines: what is read is spelled by its line, and each message's line is read as it.
use Rattle.std.proofs.Common.{◌≡◌, ℕ, ◌^◌, ◌<◌, ◌≤◌, Bool, true, false, List, ◌∷◌, ◌++◌, length, length-append, Option, None, Some, refl, sym, ap, subst, ◌∙◌, arith, inl, inr}
use Rattle.std.specs.Prelude.{if◌then◌else◌, Result, Ok, Err, IfOk, IfErr, nat_lt, codes, bytes_eq, ◌⊎◌}
use Rattle.std.specs.Option.{option_map_or}
use Rattle.std.specs.Fmt.{decimal}
use Rattle.std.proofs.lemmas.Bool.{and_from, and_parts, ltb-true, lt-ltb, le-ltb}
use Rattle.std.proofs.lemmas.Slice.Eq.{bytes_eq-Decides}
use Rattle.std.proofs.lemmas.Option.{none-some, same_Some}
use Rattle.std.proofs.lemmas.Fmt.{length-decimal-le}
use Rattle.tp_model.specs.declared.refusal.Refusal.{Refusal}
use Rattle.tp_model.specs.declared.refusal.Refusal.TheVariants.{BadSyntax, BadDeviceId}
use Rattle.tp_msg.specs.declared.message.Message.{Message}
use Rattle.tp_msg.specs.declared.message.Message.TheVariants.{CreateThin, CreateSnap, Delete, SetTransactionId, Grow, ReserveMetadataSnap, ReleaseMetadataSnap}
use Rattle.tp_msg.specs.Messages.{IsMessage, IsNoMessage, spelling, first_word, behind, is_number, number, device_id, transaction_id, one_id, message_of, message_of_two, create_thin, delete, are_numbers, create_snap, set_transaction_id, grow, one_word, by_word, reading}
use Rattle.tp_msg.proofs.Numbers.{decimal-number, decimal_digits, decimal_is_number, number-decimal, number_some}
use Rattle.tp_msg.proofs.Words.{parts, behind_some, first_word-append, behind-append}

abbrev value_or : {A : Type 0} → A → Result A Refusal → A
value_or d (Ok x) = x
value_or d (Err e) = d

ok_same : {A : Type 0} (x y : A) → ◌≡◌ {A = Result A Refusal} (Ok x) (Ok y) → x ≡ y
ok_same x y h = ap (value_or x) h

ok_then : {A : Type 0} (b : Bool) (r : Result A Refusal) (e : Refusal) (x : A) → (if b then r else Err e) ≡ Ok x → (b ≡ true) × (r ≡ Ok x)
ok_then true r e x h = (refl, h)
ok_then false r e x h = absurd cc

ok_else : {A : Type 0} (b : Bool) (r : Result A Refusal) (e : Refusal) (x : A) → (if b then Err e else r) ≡ Ok x → r ≡ Ok x
ok_else true r e x h = absurd cc
ok_else false r e x h = h

ok_either : (b : Bool) (r s : Result Message Refusal) (m : Message) → (if b then r else s) ≡ Ok m → ((b ≡ true) × (r ≡ Ok m)) ⊎ (s ≡ Ok m)
ok_either true r s m h = inl (refl, h)
ok_either false r s m h = inr h

-- ---- what is read is spelled so

-- a word that writes n, which is below a limit
pub record Writes (w : List ℕ) (limit n : ℕ) : Type 0 where
  pub small : n < limit
  pub text : w ≡ decimal n

writes : (w : List ℕ) (limit n : ℕ) (e : Refusal) → limit ≤ 2 ^ 64 → is_number w ≡ true → (if nat_lt (number w) limit then Ok (number w) else Err e) ≡ Ok n → Writes w limit n
writes w limit n e le is h =
    let p = ok_then (nat_lt (number w) limit) (Ok (number w)) e n h in
    let lt : number w < limit = ltb-true _ _ p.0 in
    let same : number w ≡ n = ok_same (number w) n p.1 in
    record { small = omega arith; text = sym (decimal-number w is (omega arith)) ∙ ap decimal same }

one_writes : (w : List ℕ) (n : ℕ) → one_id w ≡ Ok n → Writes w 16777216 n
one_writes w n h =
    let p = ok_then (is_number w) (device_id w) BadSyntax n h in
    writes w 16777216 n BadDeviceId (omega arith) p.0 p.1

from_one : (f : ℕ → Message) (r : Result ℕ Refusal) (m : Message) → message_of f r ≡ Ok m → (n : ℕ) × ((r ≡ Ok n) × (m ≡ f n))
from_one f (Ok n) m h = (n, (refl, sym (ok_same (f n) m h)))
from_one f (Err e) m h = absurd cc

pub record OfTwo (f : ℕ → ℕ → Message) (r s : Result ℕ Refusal) (m : Message) : Type 0 where
  pub first : ℕ
  pub second : ℕ
  pub reads_first : r ≡ Ok first
  pub reads_second : s ≡ Ok second
  pub message : m ≡ f first second

from_two : (f : ℕ → ℕ → Message) (r s : Result ℕ Refusal) (m : Message) → message_of_two f r s ≡ Ok m → OfTwo f r s m
from_two f (Ok a) (Ok b) m h = record { first = a; second = b; reads_first = refl; reads_second = refl; message = sym (ok_same (f a b) m h) }
from_two f (Ok a) (Err e) m h = absurd cc
from_two f (Err e) s m h = absurd cc

-- a message with its words, which stand behind its first one
abbrev Spells : List ℕ → List ℕ → Message → Type 0
Spells word arguments m = (0 < length arguments) × (IsMessage m × (word ++ (32 ∷ arguments) ≡ spelling m))

thin_spelled : (arguments : List ℕ) (m : Message) → create_thin arguments ≡ Ok m → Spells (codes "create_thin") arguments m
thin_spelled arguments m h =
    let one = from_one CreateThin (one_id arguments) m h in
    let is = one_writes arguments one.0 one.1.0 in
    let some = number_some arguments (ok_then (is_number arguments) (device_id arguments) BadSyntax one.0 one.1.0).0 in
    subst (Spells (codes "create_thin") arguments) (sym one.1.1) (some, (is.small, ap (λ (ds : List ℕ). codes "create_thin " ++ ds) is.text))

delete_spelled : (arguments : List ℕ) (m : Message) → delete arguments ≡ Ok m → Spells (codes "delete") arguments m
delete_spelled arguments m h =
    let one = from_one Delete (one_id arguments) m h in
    let is = one_writes arguments one.0 one.1.0 in
    let some = number_some arguments (ok_then (is_number arguments) (device_id arguments) BadSyntax one.0 one.1.0).0 in
    subst (Spells (codes "delete") arguments) (sym one.1.1) (some, (is.small, ap (λ (ds : List ℕ). codes "delete " ++ ds) is.text))

two_texts : (arguments : List ℕ) (limit other a b : ℕ) → 0 < length (behind arguments) → Writes (first_word arguments) limit a → Writes (behind arguments) other b
    → arguments ≡ decimal a ++ (codes " " ++ decimal b)
two_texts arguments limit other a b some first second =
    parts arguments some ∙ ap (λ (ds : List ℕ). ds ++ (32 ∷ behind arguments)) first.text ∙ ap (λ (ds : List ℕ). decimal a ++ (32 ∷ ds)) second.text

snap_spelled : (arguments : List ℕ) (m : Message) → create_snap arguments ≡ Ok m → Spells (codes "create_snap") arguments m
snap_spelled arguments m h =
    let p = ok_then (are_numbers (first_word arguments) (behind arguments)) (message_of_two CreateSnap (device_id (first_word arguments)) (device_id (behind arguments))) BadSyntax m h in
    let are = and_parts (is_number (first_word arguments)) (is_number (behind arguments)) p.0 in
    let two = from_two CreateSnap (device_id (first_word arguments)) (device_id (behind arguments)) m p.1 in
    let first = writes (first_word arguments) 16777216 two.first BadDeviceId (omega arith) are.0 two.reads_first in
    let second = writes (behind arguments) 16777216 two.second BadDeviceId (omega arith) are.1 two.reads_second in
    let some = number_some (behind arguments) are.1 in
    subst (Spells (codes "create_snap") arguments) (sym two.message)
    (behind_some arguments some, ((first.small, second.small), ap (λ (ds : List ℕ). codes "create_snap " ++ ds) (two_texts arguments 16777216 16777216 two.first two.second some first second)))

exchange_spelled : (arguments : List ℕ) (m : Message) → set_transaction_id arguments ≡ Ok m → Spells (codes "set_transaction_id") arguments m
exchange_spelled arguments m h =
    let p = ok_then (are_numbers (first_word arguments) (behind arguments)) (message_of_two SetTransactionId (transaction_id (first_word arguments)) (transaction_id (behind arguments))) BadSyntax m h in
    let are = and_parts (is_number (first_word arguments)) (is_number (behind arguments)) p.0 in
    let two = from_two SetTransactionId (transaction_id (first_word arguments)) (transaction_id (behind arguments)) m p.1 in
    let first = writes (first_word arguments) (2 ^ 64) two.first BadSyntax (omega arith) are.0 two.reads_first in
    let second = writes (behind arguments) (2 ^ 64) two.second BadSyntax (omega arith) are.1 two.reads_second in
    let some = number_some (behind arguments) are.1 in
    subst (Spells (codes "set_transaction_id") arguments) (sym two.message)
    (behind_some arguments some, ((first.small, second.small), ap (λ (ds : List ℕ). codes "set_transaction_id " ++ ds) (two_texts arguments (2 ^ 64) (2 ^ 64) two.first two.second some first second)))

growth_spelled : (arguments : List ℕ) (m : Message) → grow arguments ≡ Ok m → Spells (codes "grow") arguments m
growth_spelled arguments m h =
    let p = ok_then (are_numbers (first_word arguments) (behind arguments)) (message_of_two (λ blocks id. Grow id blocks) (transaction_id (behind arguments)) (device_id (first_word arguments))) BadSyntax m h in
    let are = and_parts (is_number (first_word arguments)) (is_number (behind arguments)) p.0 in
    let two = from_two (λ blocks id. Grow id blocks) (transaction_id (behind arguments)) (device_id (first_word arguments)) m p.1 in
    let id = writes (first_word arguments) 16777216 two.second BadDeviceId (omega arith) are.0 two.reads_second in
    let blocks = writes (behind arguments) (2 ^ 64) two.first BadSyntax (omega arith) are.1 two.reads_first in
    let some = number_some (behind arguments) are.1 in
    subst (Spells (codes "grow") arguments) (sym two.message)
    (behind_some arguments some, ((id.small, blocks.small), ap (λ (ds : List ℕ). codes "grow " ++ ds) (two_texts arguments 16777216 (2 ^ 64) two.second two.first some id blocks)))

spells_at : (word arguments known : List ℕ) (m : Message) → bytes_eq word known ≡ true → Spells known arguments m → Spells word arguments m
spells_at word arguments known m same h = subst (λ w. Spells w arguments m) (sym ((bytes_eq-Decides word known).0 same)) h

by_word_spelled : (word arguments : List ℕ) (m : Message) → by_word word arguments ≡ Ok m → Spells word arguments m
by_word_spelled word arguments m h =
    elim (ok_either (bytes_eq word (codes "create_thin")) (create_thin arguments) _ m h) [
      | inl thin ↦ spells_at word arguments (codes "create_thin") m thin.0 (thin_spelled arguments m thin.1)
      | inr no_thin ↦ elim (ok_either (bytes_eq word (codes "create_snap")) (create_snap arguments) _ m no_thin) [
        | inl snap ↦ spells_at word arguments (codes "create_snap") m snap.0 (snap_spelled arguments m snap.1)
        | inr no_snap ↦ elim (ok_either (bytes_eq word (codes "delete")) (delete arguments) _ m no_snap) [
          | inl gone ↦ spells_at word arguments (codes "delete") m gone.0 (delete_spelled arguments m gone.1)
          | inr no_delete ↦ elim (ok_either (bytes_eq word (codes "set_transaction_id")) (set_transaction_id arguments) _ m no_delete) [
            | inl exchange ↦ spells_at word arguments (codes "set_transaction_id") m exchange.0 (exchange_spelled arguments m exchange.1)
            | inr other ↦
                let p = ok_then (bytes_eq word (codes "grow")) (grow arguments) _ m other in
                spells_at word arguments (codes "grow") m p.0 (growth_spelled arguments m p.1)
          ]
        ]
      ]
    ]

-- a message of one word is its line
bare_spelled : (line : List ℕ) (m : Message) → one_word line ≡ Some m → IsMessage m × (line ≡ spelling m)
bare_spelled line m h = by (bytes_eq line (codes "reserve_metadata_snap")) (bytes_eq line (codes "release_metadata_snap")) refl refl h
  where
    by : (a b : Bool) → bytes_eq line (codes "reserve_metadata_snap") ≡ a → bytes_eq line (codes "release_metadata_snap") ≡ b
        → (if a then Some ReserveMetadataSnap else (if b then Some ReleaseMetadataSnap else None)) ≡ Some m → IsMessage m × (line ≡ spelling m)
    by true b is _ h =
        subst (λ k. IsMessage k × (line ≡ spelling k)) (same_Some ReserveMetadataSnap m h) (tt, (bytes_eq-Decides line (codes "reserve_metadata_snap")).0 is)
    by false true _ is h =
        subst (λ k. IsMessage k × (line ≡ spelling k)) (same_Some ReleaseMetadataSnap m h) (tt, (bytes_eq-Decides line (codes "release_metadata_snap")).0 is)
    by false false _ _ h = absurd (none-some m h)

spelled_by : (line : List ℕ) (m : Message) (o : Option Message) → one_word line ≡ o → option_map_or Ok o (by_word (first_word line) (behind line)) ≡ Ok m
    → IsMessage m × (line ≡ spelling m)
spelled_by line m (Some k) is h = bare_spelled line m (is ∙ ap Some (ok_same k m h))
spelled_by line m None is h = let s = by_word_spelled (first_word line) (behind line) m h in (s.1.0, parts line s.0 ∙ s.1.1)

abbrev short_read : List ℕ → Result Message Refusal
short_read line = option_map_or Ok (one_word line) (by_word (first_word line) (behind line))

pub reading_spelled : (line : List ℕ) (m : Message) → reading line ≡ Ok m → IsMessage m × (line ≡ spelling m)
reading_spelled line m h = spelled_by line m (one_word line) refl (ok_else (nat_lt 256 (length line)) (short_read line) BadSyntax m h)

-- ---- each message's line is read as it

pub reading_long : (line : List ℕ) → 256 < length line → Err BadSyntax ≡ reading line
reading_long line lt = sym (ap (λ (b : Bool). if b then Err BadSyntax else short_read line) (lt-ltb 256 (length line) lt))

reading_short : (line : List ℕ) → length line ≤ 256 → reading line ≡ short_read line
reading_short line le = ap (λ (b : Bool). if b then Err BadSyntax else short_read line) (le-ltb 256 (length line) le)

pub reading_words : (line word arguments : List ℕ) (r : Result Message Refusal) → length line ≤ 256 → None ≡ one_word line → word ≡ first_word line → arguments ≡ behind line
    → r ≡ by_word word arguments → r ≡ reading line
reading_words line word arguments r le none first rest is =
    is ∙ ap (λ (w : List ℕ). by_word w arguments) first ∙ ap (by_word (first_word line)) rest
    ∙ (ap (λ o. option_map_or Ok o (by_word (first_word line) (behind line))) none ∙ sym (reading_short line le))

limited : (limit n : ℕ) (e : Refusal) → n < limit → limit ≤ 2 ^ 64 → ◌≡◌ {A = Result ℕ Refusal} (if nat_lt (number (decimal n)) limit then Ok (number (decimal n)) else Err e) (Ok n)
limited limit n e lt le =
    ap (λ (k : ℕ). if nat_lt k limit then Ok k else Err e) (number-decimal n (omega arith)) ∙ ap (λ (b : Bool). if b then Ok n else Err e) (lt-ltb n limit lt)

one_read : (n : ℕ) → n < 16777216 → one_id (decimal n) ≡ Ok n
one_read n lt =
    ap (λ (b : Bool). if b then device_id (decimal n) else Err BadSyntax) (decimal_is_number n (omega arith)) ∙ limited 16777216 n BadDeviceId lt (omega arith)

word_read : (w : List ℕ) (limit n : ℕ) (e : Refusal) → w ≡ decimal n → n < limit → limit ≤ 2 ^ 64 → ◌≡◌ {A = Result ℕ Refusal} (if nat_lt (number w) limit then Ok (number w) else Err e) (Ok n)
word_read w limit n e is lt le = ap (λ (t : List ℕ). if nat_lt (number t) limit then Ok (number t) else Err e) is ∙ limited limit n e lt le

two_are_numbers : (w v : List ℕ) (a b : ℕ) → w ≡ decimal a → v ≡ decimal b → a < 2 ^ 64 → b < 2 ^ 64 → are_numbers w v ≡ true
two_are_numbers w v a b is_a is_b lt_a lt_b =
    and_from (is_number w) (is_number v) (ap is_number is_a ∙ decimal_is_number a lt_a) (ap is_number is_b ∙ decimal_is_number b lt_b)

-- two words that are numbers, and what they are read as in whichever order
two_read : (f : ℕ → ℕ → Message) (are : Bool) (r s : Result ℕ Refusal) (a b : ℕ) → are ≡ true → r ≡ Ok a → s ≡ Ok b
    → ◌≡◌ {A = Result Message Refusal} (if are then message_of_two f r s else Err BadSyntax) (Ok (f a b))
two_read f are r s a b yes_are is_a is_b = rw (yes_are, is_a, is_b) refl

short_number : (n : ℕ) → n < 2 ^ 64 → length (decimal n) ≤ 20
short_number n lt = length-decimal-le 20 n (omega arith) (omega arith) lt

short_two : (a b : ℕ) → a < 2 ^ 64 → b < 2 ^ 64 → length (decimal a ++ (codes " " ++ decimal b)) ≤ 41
short_two a b lt_a lt_b =
    let l = length-append (decimal a) (codes " " ++ decimal b) in
    let p = short_number a lt_a in
    let q = short_number b lt_b in
    omega arith

pub spelling_read : (m : Message) → IsMessage m → reading (spelling m) ≡ Ok m
spelling_read (CreateThin id) h =
    let p = short_number id (omega arith) in
    reading_short (spelling (CreateThin id)) (omega arith) ∙ ap (message_of CreateThin) (one_read id h)
spelling_read (CreateSnap id origin) h =
    let p = short_two id origin (omega arith) (omega arith) in
    let digits = decimal_digits id (omega arith) in
    let first = first_word-append (decimal id) (decimal origin) digits in
    let rest = behind-append (decimal id) (decimal origin) digits in
    reading_short (spelling (CreateSnap id origin)) (omega arith)
    ∙ two_read CreateSnap _ _ _ id origin (two_are_numbers _ _ id origin first rest (omega arith) (omega arith))
    (word_read _ 16777216 id BadDeviceId first h.0 (omega arith)) (word_read _ 16777216 origin BadDeviceId rest h.1 (omega arith))
spelling_read (Delete id) h =
    let p = short_number id (omega arith) in
    reading_short (spelling (Delete id)) (omega arith) ∙ ap (message_of Delete) (one_read id h)
spelling_read (SetTransactionId current next) h =
    let p = short_two current next h.0 h.1 in
    let digits = decimal_digits current h.0 in
    let first = first_word-append (decimal current) (decimal next) digits in
    let rest = behind-append (decimal current) (decimal next) digits in
    reading_short (spelling (SetTransactionId current next)) (omega arith)
    ∙ two_read SetTransactionId _ _ _ current next (two_are_numbers _ _ current next first rest h.0 h.1)
    (word_read _ (2 ^ 64) current BadSyntax first h.0 (omega arith)) (word_read _ (2 ^ 64) next BadSyntax rest h.1 (omega arith))
spelling_read (Grow id blocks) h =
    let small : id < 2 ^ 64 = omega (arith, h.0) in
    let p = short_two id blocks small h.1 in
    let digits = decimal_digits id small in
    let first = first_word-append (decimal id) (decimal blocks) digits in
    let rest = behind-append (decimal id) (decimal blocks) digits in
    reading_short (spelling (Grow id blocks)) (omega arith)
    ∙ two_read (λ blocks id. Grow id blocks) _ _ _ blocks id (two_are_numbers _ _ id blocks first rest small h.1)
    (word_read _ (2 ^ 64) blocks BadSyntax rest h.1 (omega arith)) (word_read _ 16777216 id BadDeviceId first h.0 (omega arith))
spelling_read ReserveMetadataSnap h = refl
spelling_read ReleaseMetadataSnap h = refl

-- ---- what the reader answers

pub accepted : (line : List ℕ) (r : Result Message Refusal) → r ≡ reading line → IfOk r (λ m. IsMessage m × (line ≡ spelling m))
accepted line (Ok m) h = reading_spelled line m (sym h)
accepted line (Err e) h = tt

pub refused : (line : List ℕ) (r : Result Message Refusal) → r ≡ reading line → IfErr r (λ reason. IsNoMessage line)
refused line (Ok m) h = tt
refused line (Err e) h = λ m is spelled. let read : reading line ≡ Ok m = ap reading spelled ∙ spelling_read m is in absurd cc
