-- The two laws of a frame: what is read is in the grammar, and what is in the grammar is read.
use Rattle.std.proofs.Common.{◌≡◌, ◌≢◌, ℕ, ◌+◌, ◌-◌, ◌^◌, ◌<◌, ◌≤◌, ◌⊎◌, Bool, true, false, cond, List, [], ◌++◌, length, take, drop, eqb, leb, ltb, ◌&&◌, refl, sym, ap, subst, ◌∙◌, append_assoc, arith, inl, inr}
use Rattle.std.proofs.lemmas.Bool.{le-leb, lt-leb, lt-ltb, le-ltb, eq-eqb, ne_eqb, and_from, and_left, and_right, cond-true, cond-false}
use Rattle.std.proofs.lemmas.Bool.Decides.{eqb_tells, leb_tells}
use Rattle.std.proofs.lemmas.List.{length-take-le, take-append-le, drop-append-le, take_at, take-append-drop, length-append, length-drop, drop-drop}
use Rattle.nbd_wire.specs.declared.Kind.{Kind}
use Rattle.nbd_wire.specs.declared.Kind.TheVariants.{Flags, Options, Requests}
use Rattle.nbd_wire.specs.declared.Request.{Request}
use Rattle.nbd_wire.specs.declared.TheConstants.{OPTION_MAGIC, REQUEST_MAGIC, MAX_OPTION, MAX_REQUEST}
use Rattle.nbd_wire.specs.Numbers.{bytes, number}
use Rattle.nbd_wire.specs.Grammar.{Message, client_flags, client_option, command, malformed, option_text, request_text, payload_len, FitsRequest, IsFrame, IsPartial}
use Rattle.nbd_wire.specs.Reading.{fixed_len, Head, option_at, request_at, is_good_option, is_good_request, message_of_flags, whole_len, wanted, message_at}
use Rattle.nbd_wire.proofs.Fields.{IsBytes, IsBytes-drop, IsWidth, width2, width4, width8, field_takes, field_drops}

-- ---- the two tests on a fixed part

abbrev pub Good : ℕ → ℕ → ℕ → ℕ → Bool
Good x c l m = eqb x c && leb l m

good_true : (x c l m : ℕ) → x ≡ c → l ≤ m → Good x c l m ≡ true
good_true x c l m e h = and_from _ _ (eq-eqb x c e) (le-leb l m h)

good_false : (x c l m : ℕ) → (x ≢ c) ⊎ (m < l) → Good x c l m ≡ false
good_false x c l m (inl ne) = and_left _ _ (ne_eqb x c ne)
good_false x c l m (inr lt) = and_right _ _ (lt-leb l m lt)

pub good_tells : (x c l m : ℕ) → ((Good x c l m ≡ true) × (x ≡ c) × (l ≤ m)) ⊎ ((Good x c l m ≡ false) × ((x ≢ c) ⊎ (m < l)))
good_tells x c l m =
    elim (eqb_tells x c) [
      | inl e ↦ elim (leb_tells l m) [
        | inl h ↦ inl (and_from _ _ e.0 h.0, e.1, h.1)
        | inr h ↦ inr (and_right _ _ h.0, inr h.1)
      ]
      | inr e ↦ inr (and_left _ _ e.0, inl e.1)
    ]

-- ---- options

pub option_append : (m o l : ℕ) (x y : List ℕ) → option_text m o l x ++ y ≡ option_text m o l (x ++ y)
unfolding option_text
option_append m o l x y = simp append_assoc

option_length : (m o l : ℕ) (x : List ℕ) → length (option_text m o l x) ≡ 16 + length x
unfolding option_text
option_length m o l x =
    let a = width8.len m in let b = width4.len o in let c = width4.len l in
    simp length-append (omega arith)

option_drop : (m o l : ℕ) (x : List ℕ) → drop 16 (option_text m o l x) ≡ x
unfolding option_text
option_drop m o l x =
    let t : List ℕ = bytes 8 m ++ (bytes 4 o ++ (bytes 4 l ++ x)) in
    let e : drop 16 t ≡ drop 4 (drop 4 (drop 8 t)) = sym (drop-drop 4 12 t) ∙ ap (drop 4) (sym (drop-drop 4 8 t)) in
    e ∙ rw (field_drops 8 width8 m (bytes 4 o ++ (bytes 4 l ++ x)), field_drops 4 width4 o (bytes 4 l ++ x), field_drops 4 width4 l x) refl

option_again : (m o l : ℕ) (x : List ℕ) → m < 2 ^ 64 → o < 2 ^ 32 → l < 2 ^ 32 → option_at (option_text m o l x) ≡ record { magic = m; option = o; len = l }
unfolding option_text option_at
option_again m o l x hm ho hl =
    rw (field_drops 8 width8 m (bytes 4 o ++ (bytes 4 l ++ x)), field_drops 4 width4 o (bytes 4 l ++ x), width8.again m (bytes 4 o ++ (bytes 4 l ++ x)) hm, width4.again o (bytes 4 l ++ x) ho, width4.again l x hl) refl

option_takes : (t : List ℕ) → IsBytes t → 16 ≤ length t → t ≡ option_text (option_at t).magic (option_at t).option (option_at t).len (drop 16 t)
unfolding option_text option_at
option_takes t h le =
    let a = drop 8 t in
    let b = drop 4 a in
    let ha = IsBytes-drop 8 t h in
    let hb = IsBytes-drop 4 a ha in
    let e0 = field_takes 8 width8 t h (omega arith) in
    let e1 = field_takes 4 width4 a ha (omega (arith, length-drop 8 t)) in
    let e2 = field_takes 4 width4 b hb (omega (arith, length-drop 8 t, length-drop 4 a)) in
    let e3 : drop 4 b ≡ drop 16 t = ap (drop 4) (drop-drop 4 8 t) ∙ drop-drop 4 12 t in
    e0 ∙ ap (λ (x : List ℕ). bytes 8 (number 8 t) ++ x) (e1 ∙ ap (λ (x : List ℕ). bytes 4 (number 4 a) ++ x) (e2 ∙ ap (λ (x : List ℕ). bytes 4 (number 4 b) ++ x) e3))

option_fits : (t : List ℕ) → IsBytes t → ((option_at t).magic < 2 ^ 64) × ((option_at t).option < 2 ^ 32) × ((option_at t).len < 2 ^ 32)
unfolding option_at
option_fits t h =
    (width8.below t h, width4.below (drop 8 t) (IsBytes-drop 8 t h), width4.below (drop 4 (drop 8 t)) (IsBytes-drop 4 (drop 8 t) (IsBytes-drop 8 t h)))

-- ---- requests

pub request_append : (m : ℕ) (r : Request) (x y : List ℕ) → request_text m r x ++ y ≡ request_text m r (x ++ y)
unfolding request_text
request_append m r x y = simp append_assoc

request_length : (m : ℕ) (r : Request) (x : List ℕ) → length (request_text m r x) ≡ 28 + length x
unfolding request_text
request_length m r x =
    let a = width4.len m in let b = width2.len r.flags in let c = width2.len r.kind in let d = width8.len r.cookie in let e = width8.len r.offset in let f = width4.len r.len in
    simp length-append (omega arith)

request_drop : (m : ℕ) (r : Request) (x : List ℕ) → drop 28 (request_text m r x) ≡ x
unfolding request_text
request_drop m r x =
    let t5 : List ℕ = bytes 4 r.len ++ x in
    let t4 : List ℕ = bytes 8 r.offset ++ t5 in
    let t3 : List ℕ = bytes 8 r.cookie ++ t4 in
    let t2 : List ℕ = bytes 2 r.kind ++ t3 in
    let t1 : List ℕ = bytes 2 r.flags ++ t2 in
    let t : List ℕ = bytes 4 m ++ t1 in
    let d1 : drop 4 t ≡ t1 = field_drops 4 width4 m t1 in
    let d2 : drop 6 t ≡ t2 = sym (drop-drop 2 4 t) ∙ ap (drop 2) d1 ∙ field_drops 2 width2 r.flags t2 in
    let d3 : drop 8 t ≡ t3 = sym (drop-drop 2 6 t) ∙ ap (drop 2) d2 ∙ field_drops 2 width2 r.kind t3 in
    let d4 : drop 16 t ≡ t4 = sym (drop-drop 8 8 t) ∙ ap (drop 8) d3 ∙ field_drops 8 width8 r.cookie t4 in
    let d5 : drop 24 t ≡ t5 = sym (drop-drop 8 16 t) ∙ ap (drop 8) d4 ∙ field_drops 8 width8 r.offset t5 in
    sym (drop-drop 4 24 t) ∙ ap (drop 4) d5 ∙ field_drops 4 width4 r.len x

request_magic : (m : ℕ) (r : Request) (x : List ℕ) → m < 2 ^ 32 → number 4 (request_text m r x) ≡ m
unfolding request_text
request_magic m r x h = width4.again m _ h

request_again : (m : ℕ) (r : Request) (x : List ℕ) → FitsRequest r → request_at (request_text m r x) ≡ r
unfolding request_text request_at
request_again m r x fits =
    let t5 : List ℕ = bytes 4 r.len ++ x in
    let t4 : List ℕ = bytes 8 r.offset ++ t5 in
    let t3 : List ℕ = bytes 8 r.cookie ++ t4 in
    let t2 : List ℕ = bytes 2 r.kind ++ t3 in
    let t1 : List ℕ = bytes 2 r.flags ++ t2 in
    rw (
      field_drops 4 width4 m t1,
      field_drops 2 width2 r.flags t2,
      field_drops 2 width2 r.kind t3,
      field_drops 8 width8 r.cookie t4,
      field_drops 8 width8 r.offset t5,
      width2.again r.flags t2 fits.flags,
      width2.again r.kind t3 fits.kind,
      width8.again r.cookie t4 fits.cookie,
      width8.again r.offset t5 fits.offset,
      width4.again r.len x fits.len,
    ) refl

request_fits : (t : List ℕ) → IsBytes t → FitsRequest (request_at t)
unfolding request_at
request_fits t h =
    let a = drop 4 t in let b = drop 2 a in let c = drop 2 b in let d = drop 8 c in let e = drop 8 d in
    let ha = IsBytes-drop 4 t h in let hb = IsBytes-drop 2 a ha in let hc = IsBytes-drop 2 b hb in let hd = IsBytes-drop 8 c hc in let he = IsBytes-drop 8 d hd in
    record { flags = width2.below a ha; kind = width2.below b hb; cookie = width8.below c hc; offset = width8.below d hd; len = width4.below e he }

request_takes : (t : List ℕ) → IsBytes t → 28 ≤ length t → t ≡ request_text (number 4 t) (request_at t) (drop 28 t)
unfolding request_text request_at
request_takes t h le =
    let a = drop 4 t in let b = drop 2 a in let c = drop 2 b in let d = drop 8 c in let e = drop 8 d in
    let ha = IsBytes-drop 4 t h in let hb = IsBytes-drop 2 a ha in let hc = IsBytes-drop 2 b hb in let hd = IsBytes-drop 8 c hc in let he = IsBytes-drop 8 d hd in
    let la : length a ≡ length t - 4 = length-drop 4 t in
    let lb : length b ≡ length a - 2 = length-drop 2 a in
    let lc : length c ≡ length b - 2 = length-drop 2 b in
    let ld : length d ≡ length c - 8 = length-drop 8 c in
    let le' : length e ≡ length d - 8 = length-drop 8 d in
    let f0 = field_takes 4 width4 t h (omega arith) in
    let f1 = field_takes 2 width2 a ha (omega arith) in
    let f2 = field_takes 2 width2 b hb (omega arith) in
    let f3 = field_takes 8 width8 c hc (omega arith) in
    let f4 = field_takes 8 width8 d hd (omega arith) in
    let f5 = field_takes 4 width4 e he (omega arith) in
    let g : drop 4 e ≡ drop 28 t = drop-drop 4 8 d ∙ drop-drop 12 8 c ∙ drop-drop 20 2 b ∙ drop-drop 22 2 a ∙ drop-drop 24 4 t in
    f0 ∙ ap (λ (x : List ℕ). bytes 4 (number 4 t) ++ x) (
    f1 ∙ ap (λ (x : List ℕ). bytes 2 (number 2 a) ++ x) (
    f2 ∙ ap (λ (x : List ℕ). bytes 2 (number 2 b) ++ x) (
    f3 ∙ ap (λ (x : List ℕ). bytes 8 (number 8 c) ++ x) (
    f4 ∙ ap (λ (x : List ℕ). bytes 8 (number 8 d) ++ x) (
    f5 ∙ ap (λ (x : List ℕ). bytes 4 (number 4 e) ++ x) g)))))

-- ---- what follows the fixed part changes nothing of it

number_stays : (n : ℕ) (w : IsWidth n) (a b : List ℕ) → n ≤ length a → number n (a ++ b) ≡ number n a
number_stays n w a b le = sym (w.front (a ++ b)) ∙ ap (number n) (take-append-le n a b le) ∙ w.front a

option_stays : (a b : List ℕ) → 16 ≤ length a → option_at (a ++ b) ≡ option_at a
unfolding option_at
option_stays a b le =
    let c = drop 8 a in
    let d = drop 4 c in
    let lc : length c ≡ length a - 8 = length-drop 8 a in
    let ld : length d ≡ length c - 4 = length-drop 4 c in
    rw (drop-append-le 8 a b (omega arith), drop-append-le 4 c b (omega arith), number_stays 8 width8 a b (omega arith), number_stays 4 width4 c b (omega arith), number_stays 4 width4 d b (omega arith)) refl

magic_stays : (a b : List ℕ) → 28 ≤ length a → number 4 (a ++ b) ≡ number 4 a
magic_stays a b le = number_stays 4 width4 a b (omega arith)

request_stays : (t b : List ℕ) → 28 ≤ length t → request_at (t ++ b) ≡ request_at t
unfolding request_at
request_stays t y le =
    let a = drop 4 t in let b = drop 2 a in let c = drop 2 b in let d = drop 8 c in let e = drop 8 d in
    let la : length a ≡ length t - 4 = length-drop 4 t in
    let lb : length b ≡ length a - 2 = length-drop 2 a in
    let lc : length c ≡ length b - 2 = length-drop 2 b in
    let ld : length d ≡ length c - 8 = length-drop 8 c in
    let le' : length e ≡ length d - 8 = length-drop 8 d in
    rw (
      drop-append-le 4 t y (omega arith),
      drop-append-le 2 a y (omega arith),
      drop-append-le 2 b y (omega arith),
      drop-append-le 8 c y (omega arith),
      drop-append-le 8 d y (omega arith),
      number_stays 2 width2 a y (omega arith),
      number_stays 2 width2 b y (omega arith),
      number_stays 8 width8 c y (omega arith),
      number_stays 8 width8 d y (omega arith),
      number_stays 4 width4 e y (omega arith),
    ) refl

-- ---- frames: what is in the grammar is read, whatever follows it

pub record Again (kind : Kind) (m : Message) (a : List ℕ) (rest : List ℕ) : Type 0 where
  pub fixed : fixed_len kind ≤ length a
  pub whole : whole_len kind (a ++ rest) ≡ length a
  pub said : message_at kind (a ++ rest) ≡ m

flags_again : (f : ℕ) (m : Message) (rest : List ℕ) → f < 2 ^ 32 → message_of_flags f ≡ m → Again Flags m (bytes 4 f) rest
unfolding whole_len message_at
flags_again f m rest h e = record {
  fixed = let l = width4.len f in omega arith;
  whole = sym (width4.len f);
  said = ap message_of_flags (width4.again f rest h) ∙ e;
}

hello_bad : (f : ℕ) → f ≢ 1 → f ≢ 3 → message_of_flags f ≡ malformed
hello_bad f a b = rw (ne_eqb f 1 a, ne_eqb f 3 b) refl

good_option_again : (o : ℕ) (p rest : List ℕ) → o < 2 ^ 32 → length p ≤ MAX_OPTION → Again Options (client_option o p) (option_text OPTION_MAGIC o (length p) p) rest
unfolding whole_len message_at
good_option_again o p rest ho short =
    let t : List ℕ = option_text OPTION_MAGIC o (length p) (p ++ rest) in
    let e : option_text OPTION_MAGIC o (length p) p ++ rest ≡ t = option_append OPTION_MAGIC o (length p) p rest in
    let at : option_at t ≡ record { magic = OPTION_MAGIC; option = o; len = length p } = option_again OPTION_MAGIC o (length p) (p ++ rest) (omega arith) ho (omega arith) in
    let good : is_good_option (option_at t) ≡ true = ap is_good_option at ∙ good_true OPTION_MAGIC OPTION_MAGIC (length p) MAX_OPTION refl short in
    let len : (option_at t).len ≡ length p = ap (λ (h : Head). h.len) at in
    let opt : (option_at t).option ≡ o = ap (λ (h : Head). h.option) at in
    let d : drop 16 t ≡ p ++ rest = option_drop OPTION_MAGIC o (length p) (p ++ rest) in
    let whole : whole_len Options t ≡ 16 + length p = rw (good, len) refl in
    let said : message_at Options t ≡ client_option o p = rw (good, len, opt, d, take_at p rest (length p) refl) refl in
    record {
      fixed = omega (arith, option_length OPTION_MAGIC o (length p) p);
      whole = ap (whole_len Options) e ∙ whole ∙ sym (option_length OPTION_MAGIC o (length p) p);
      said = ap (message_at Options) e ∙ said;
    }

bad_option_again : (m o l : ℕ) (rest : List ℕ) → m < 2 ^ 64 → o < 2 ^ 32 → l < 2 ^ 32 → (m ≢ OPTION_MAGIC) ⊎ (MAX_OPTION < l) → Again Options malformed (option_text m o l []) rest
unfolding whole_len message_at
bad_option_again m o l rest hm ho hl wrong =
    let t : List ℕ = option_text m o l rest in
    let e : option_text m o l [] ++ rest ≡ t = option_append m o l [] rest in
    let at : option_at t ≡ record { magic = m; option = o; len = l } = option_again m o l rest hm ho hl in
    let bad : is_good_option (option_at t) ≡ false = ap is_good_option at ∙ good_false m OPTION_MAGIC l MAX_OPTION wrong in
    let whole : whole_len Options t ≡ 16 = rw bad refl in
    let said : message_at Options t ≡ malformed = rw bad refl in
    let len : length (option_text m o l []) ≡ 16 = option_length m o l [] in
    record {
      fixed = omega arith;
      whole = ap (whole_len Options) e ∙ whole ∙ sym len;
      said = ap (message_at Options) e ∙ said;
    }

good_request_again : (r : Request) (p rest : List ℕ) → FitsRequest r → length p ≡ payload_len r → payload_len r ≤ MAX_REQUEST → Again Requests (command r p) (request_text REQUEST_MAGIC r p) rest
unfolding whole_len message_at
good_request_again r p rest fits whole_p short =
    let t : List ℕ = request_text REQUEST_MAGIC r (p ++ rest) in
    let e : request_text REQUEST_MAGIC r p ++ rest ≡ t = request_append REQUEST_MAGIC r p rest in
    let at : request_at t ≡ r = request_again REQUEST_MAGIC r (p ++ rest) fits in
    let magic : number 4 t ≡ REQUEST_MAGIC = request_magic REQUEST_MAGIC r (p ++ rest) (omega arith) in
    let good : is_good_request (number 4 t) (request_at t) ≡ true = good_true (number 4 t) REQUEST_MAGIC (payload_len (request_at t)) MAX_REQUEST magic (rw at short) in
    let len : payload_len (request_at t) ≡ length p = ap payload_len at ∙ sym whole_p in
    let d : drop 28 t ≡ p ++ rest = request_drop REQUEST_MAGIC r (p ++ rest) in
    let whole : whole_len Requests t ≡ 28 + length p = cond-true _ _ _ good ∙ ap (λ (n : ℕ). 28 + n) len in
    let body : take (payload_len (request_at t)) (drop 28 t) ≡ p = ap (λ (n : ℕ). take n (drop 28 t)) len ∙ ap (take (length p)) d ∙ take_at p rest (length p) refl in
    let said : message_at Requests t ≡ command r p = cond-true _ _ _ good ∙ ap (λ (q : Request). command q (take (payload_len (request_at t)) (drop 28 t))) at ∙ ap (command r) body in
    record {
      fixed = omega (arith, request_length REQUEST_MAGIC r p);
      whole = ap (whole_len Requests) e ∙ whole ∙ sym (request_length REQUEST_MAGIC r p);
      said = ap (message_at Requests) e ∙ said;
    }

bad_request_again : (m : ℕ) (r : Request) (rest : List ℕ) → m < 2 ^ 32 → FitsRequest r → (m ≢ REQUEST_MAGIC) ⊎ (MAX_REQUEST < payload_len r) → Again Requests malformed (request_text m r []) rest
unfolding whole_len message_at
bad_request_again m r rest hm fits wrong =
    let t : List ℕ = request_text m r rest in
    let e : request_text m r [] ++ rest ≡ t = request_append m r [] rest in
    let at : request_at t ≡ r = request_again m r rest fits in
    let magic : number 4 t ≡ m = request_magic m r rest hm in
    let bad : is_good_request (number 4 t) (request_at t) ≡ false = ap (λ (x : ℕ). is_good_request x (request_at t)) magic ∙ ap (is_good_request m) at ∙ good_false m REQUEST_MAGIC (payload_len r) MAX_REQUEST wrong in
    let whole : whole_len Requests t ≡ 28 = cond-false _ _ _ bad in
    let said : message_at Requests t ≡ malformed = cond-false _ _ _ bad in
    let len : length (request_text m r []) ≡ 28 = request_length m r [] in
    record {
      fixed = omega arith;
      whole = ap (whole_len Requests) e ∙ whole ∙ sym len;
      said = ap (message_at Requests) e ∙ said;
    }

-- a frame is read again, whatever follows it
pub frame_again : (kind : Kind) (m : Message) (a rest : List ℕ) → IsFrame kind m a → Again kind m a rest
frame_again Flags (client_flags false) a rest h = let P : List ℕ → Type 0 = λ t. Again Flags (client_flags false) t rest in subst P (sym h) (flags_again 1 (client_flags false) rest (omega arith) refl)
frame_again Flags (client_flags true) a rest h = let P : List ℕ → Type 0 = λ t. Again Flags (client_flags true) t rest in subst P (sym h) (flags_again 3 (client_flags true) rest (omega arith) refl)
frame_again Flags malformed a rest h = let P : List ℕ → Type 0 = λ t. Again Flags malformed t rest in subst P (sym h.4) (flags_again h.0 malformed rest h.1 (hello_bad h.0 h.2 h.3))
frame_again Flags (client_option o p) a rest h = absurd h
frame_again Flags (command r p) a rest h = absurd h
frame_again Options (client_option o p) a rest h = let P : List ℕ → Type 0 = λ t. Again Options (client_option o p) t rest in subst P (sym h.text_is) (good_option_again o p rest h.option_fits h.short)
frame_again Options malformed a rest h = let P : List ℕ → Type 0 = λ t. Again Options malformed t rest in subst P (sym h.3.text_is) (bad_option_again h.0 h.1 h.2 rest h.3.magic_fits h.3.option_fits h.3.len_fits h.3.wrong)
frame_again Options (client_flags b) a rest h = absurd h
frame_again Options (command r p) a rest h = absurd h
frame_again Requests (command r p) a rest h = let P : List ℕ → Type 0 = λ t. Again Requests (command r p) t rest in subst P (sym h.text_is) (good_request_again r p rest h.request_fits h.whole h.short)
frame_again Requests malformed a rest h = let P : List ℕ → Type 0 = λ t. Again Requests malformed t rest in subst P (sym h.2.text_is) (bad_request_again h.0 h.1 rest h.2.magic_fits h.2.request_fits h.2.wrong)
frame_again Requests (client_flags b) a rest h = absurd h
frame_again Requests (client_option o p) a rest h = absurd h

abbrev done : Message → ℕ × Message
done m = (0, m)

-- no frame of a phase begins another
pub one_frame : (kind : Kind) (m n : Message) (a b x y : List ℕ) → IsFrame kind m a → IsFrame kind n b → a ++ x ≡ b ++ y → (a ≡ b) × (m ≡ n)
one_frame kind m n a b x y ha hb e =
    let p = frame_again kind m a x ha in
    let q = frame_again kind n b y hb in
    let len : length a ≡ length b = sym p.whole ∙ ap (whole_len kind) e ∙ q.whole in
    let same : m ≡ n = sym p.said ∙ ap (message_at kind) e ∙ q.said in
    (sym (take_at a x (length a) refl) ∙ ap (take (length a)) e ∙ take_at b y (length a) (sym len), same)

-- ---- and what is read is in the grammar

options_take : (t : List ℕ) → IsBytes t → 16 ≤ length t → whole_len Options t ≤ length t → IsFrame Options (message_at Options t) (take (whole_len Options t) t)
unfolding whole_len message_at
options_take t h fixed whole =
    let f = option_fits t h in
    let hd : Head = option_at t in
    let e : t ≡ option_text hd.magic hd.option hd.len (drop 16 t) = option_takes t h fixed in
    let Q : Bool → Type 0 = λ b. cond b (16 + hd.len) 16 ≤ length t → IsFrame Options (cond b (client_option hd.option (take hd.len (drop 16 t))) malformed) (take (cond b (16 + hd.len) 16) t) in
    elim (good_tells hd.magic OPTION_MAGIC hd.len MAX_OPTION) [
      | inl g ↦ subst Q (sym g.0) (λ le.
          let body : List ℕ = take hd.len (drop 16 t) in
          let len : length body ≡ hd.len = length-take-le hd.len (drop 16 t) (omega (arith, length-drop 16 t)) in
          let cut : t ≡ option_text OPTION_MAGIC hd.option (length body) body ++ drop hd.len (drop 16 t) =
          e ∙ ap (λ (k : ℕ). option_text k hd.option hd.len (drop 16 t)) g.1 ∙ ap (option_text OPTION_MAGIC hd.option hd.len) (sym (take-append-drop hd.len (drop 16 t)))
          ∙ sym (option_append OPTION_MAGIC hd.option hd.len body (drop hd.len (drop 16 t))) ∙ ap (λ (k : ℕ). option_text OPTION_MAGIC hd.option k body ++ drop hd.len (drop 16 t)) (sym len) in
          let text : take (16 + hd.len) t ≡ option_text OPTION_MAGIC hd.option (length body) body =
          ap (take (16 + hd.len)) cut ∙ take_at (option_text OPTION_MAGIC hd.option (length body) body) (drop hd.len (drop 16 t)) (16 + hd.len) (omega (arith, option_length OPTION_MAGIC hd.option (length body) body)) in
          record { option_fits = f.1; short = omega (arith, g.2); text_is = text }) whole
      | inr g ↦ subst Q (sym g.0) (λ le.
          let cut : t ≡ option_text hd.magic hd.option hd.len [] ++ drop 16 t = e ∙ sym (option_append hd.magic hd.option hd.len [] (drop 16 t)) in
          let text : take 16 t ≡ option_text hd.magic hd.option hd.len [] =
          ap (take 16) cut ∙ take_at (option_text hd.magic hd.option hd.len []) (drop 16 t) 16 (option_length hd.magic hd.option hd.len []) in
          (hd.magic, hd.option, hd.len, record { magic_fits = f.0; option_fits = f.1; len_fits = f.2; wrong = g.1; text_is = text })) whole
    ]

requests_take : (t : List ℕ) → IsBytes t → 28 ≤ length t → whole_len Requests t ≤ length t → IsFrame Requests (message_at Requests t) (take (whole_len Requests t) t)
unfolding whole_len message_at
requests_take t h fixed whole =
    let r : Request = request_at t in
    let magic : ℕ = number 4 t in
    let f = request_fits t h in
    let e : t ≡ request_text magic r (drop 28 t) = request_takes t h fixed in
    let n : ℕ = payload_len r in
    let Q : Bool → Type 0 = λ b. cond b (28 + n) 28 ≤ length t → IsFrame Requests (cond b (command r (take n (drop 28 t))) malformed) (take (cond b (28 + n) 28) t) in
    elim (good_tells magic REQUEST_MAGIC n MAX_REQUEST) [
      | inl g ↦ subst Q (sym g.0) (λ le.
          let body : List ℕ = take n (drop 28 t) in
          let len : length body ≡ n = length-take-le n (drop 28 t) (omega (arith, length-drop 28 t)) in
          let cut : t ≡ request_text REQUEST_MAGIC r body ++ drop n (drop 28 t) =
          e ∙ ap (λ (k : ℕ). request_text k r (drop 28 t)) g.1 ∙ ap (request_text REQUEST_MAGIC r) (sym (take-append-drop n (drop 28 t)))
          ∙ sym (request_append REQUEST_MAGIC r body (drop n (drop 28 t))) in
          let text : take (28 + n) t ≡ request_text REQUEST_MAGIC r body =
          ap (take (28 + n)) cut ∙ take_at (request_text REQUEST_MAGIC r body) (drop n (drop 28 t)) (28 + n) (omega (arith, request_length REQUEST_MAGIC r body)) in
          record { request_fits = f; whole = len; short = g.2; text_is = text }) whole
      | inr g ↦ subst Q (sym g.0) (λ le.
          let cut : t ≡ request_text magic r [] ++ drop 28 t = e ∙ sym (request_append magic r [] (drop 28 t)) in
          let text : take 28 t ≡ request_text magic r [] =
          ap (take 28) cut ∙ take_at (request_text magic r []) (drop 28 t) 28 (request_length magic r []) in
          (magic, r, record { magic_fits = width4.below t h; request_fits = f; wrong = g.1; text_is = text })) whole
    ]

flags_take : (t : List ℕ) → IsBytes t → 4 ≤ length t → IsFrame Flags (message_at Flags t) (take 4 t)
unfolding message_at
flags_take t h fixed =
    let f : ℕ = number 4 t in
    let text : take 4 t ≡ bytes 4 f = ap (take 4) (field_takes 4 width4 t h fixed) ∙ take_at (bytes 4 f) (drop 4 t) 4 (width4.len f) in
    elim (eqb_tells f 1) [
      | inl a ↦ rw a.0 (text ∙ ap (bytes 4) a.1)
      | inr a ↦ elim (eqb_tells f 3) [
        | inl b ↦ rw (a.0, b.0) (text ∙ ap (bytes 4) b.1)
        | inr b ↦ rw (a.0, b.0) (f, width4.below t h, a.1, b.1, text)
      ]
    ]

pub frame_takes : (kind : Kind) (t : List ℕ) → IsBytes t → fixed_len kind ≤ length t → whole_len kind t ≤ length t → IsFrame kind (message_at kind t) (take (whole_len kind t) t)
unfolding whole_len
frame_takes Flags t h fixed whole = flags_take t h fixed
frame_takes Options t h fixed whole = options_take t h fixed whole
frame_takes Requests t h fixed whole = requests_take t h fixed whole

-- ---- a text that is no whole frame

-- less than the first frame begins no frame
pub partial : (kind : Kind) (t : List ℕ) → (fixed_len kind ≤ length t → length t < whole_len kind t) → IsPartial kind t
partial kind t short m frame rest h e =
    let p = frame_again kind m frame rest h in
    let whole : whole_len kind t ≡ length frame = ap (whole_len kind) e ∙ p.whole in
    let len : length t ≡ length frame + length rest = ap length e ∙ length-append frame rest in
    let fixed : fixed_len kind ≤ length frame = p.fixed in
    let lt : length t < whole_len kind t = short (omega arith) in
    omega arith

-- the fixed part decides the length
pub whole_stays : (kind : Kind) (a b : List ℕ) → fixed_len kind ≤ length a → whole_len kind (a ++ b) ≡ whole_len kind a
unfolding whole_len
whole_stays Flags a b le = refl
whole_stays Options a b le = rw (option_stays a b le) refl
whole_stays Requests a b le = rw (magic_stays a b le, request_stays a b le) refl

pub wants_more : (kind : Kind) (t : List ℕ) → length t < wanted kind t → IsPartial kind t
unfolding wanted
wants_more kind t lt = partial kind t (λ le.
    let e : cond (ltb (length t) (fixed_len kind)) (fixed_len kind) (whole_len kind t) ≡ whole_len kind t = cond-false _ _ _ (le-ltb (length t) (fixed_len kind) le) in
    omega (arith, e, lt))

-- what is wanted once the fixed part is there
pub wanted_whole : (kind : Kind) (t : List ℕ) → fixed_len kind ≤ length t → wanted kind t ≡ whole_len kind t
unfolding wanted
wanted_whole kind t le = cond-false _ _ _ (le-ltb (length t) (fixed_len kind) le)

pub wanted_fixed : (kind : Kind) (t : List ℕ) → length t < fixed_len kind → wanted kind t ≡ fixed_len kind
unfolding wanted
wanted_fixed kind t lt = cond-true _ _ _ (lt-ltb (length t) (fixed_len kind) lt)
