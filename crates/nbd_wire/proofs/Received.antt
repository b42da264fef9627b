-- What the server sends: what is read is its spelling, and its spelling is read, whatever follows it.
use Rattle.std.proofs.Common.{◌≡◌, ℕ, ◌+◌, ◌-◌, ◌^◌, ◌<◌, ◌≤◌, Bool, true, false, cond, List, ◌++◌, length, take, drop, replicate, eqb, ltb, Option, Some, None, refl, sym, ap, ap₂, subst, ◌∙◌, append_assoc, arith, inl, inr}
use Rattle.std.specs.Prelude.{IfSome, IfNone, MatchOption, bytes_eq}
use Rattle.std.specs.Borrow.{Bor}
use Rattle.std.specs.Option.{option_map}
use Rattle.std.proofs.lemmas.Bool.{eqb-true, ltb-false, le-ltb, true≢false}
use Rattle.std.proofs.lemmas.Bool.Decides.{eqb_tells}
use Rattle.std.proofs.lemmas.List.{take_at, drop_at, take-append-drop, length-append, length-drop, length-replicate, length-take-le, drop-drop}
use Rattle.std.proofs.lemmas.Slice.Eq.{bytes_eq-Decides}
use Rattle.nbd_wire.specs.declared.replies.BlockSizes.{BlockSizes}
use Rattle.nbd_wire.specs.declared.replies.Export.{Export}
use Rattle.nbd_wire.specs.declared.replies.SimpleReply.{SimpleReply}
use Rattle.nbd_wire.specs.declared.writing.ReplyType.{ReplyType}
use Rattle.nbd_wire.specs.declared.writing.ReplyType.TheVariants.{Acknowledged, Server, Information, Context, Unsupported, Policy, Invalid, Unknown}
use Rattle.nbd_wire.specs.declared.TheConstants.{GREETING_MAGIC, OPTION_MAGIC, REPLY_MAGIC, SIMPLE_REPLY_MAGIC, HANDSHAKE_FLAGS, INFO_EXPORT, INFO_BLOCK_SIZE}
use Rattle.nbd_wire.specs.Numbers.{bytes, number}
use Rattle.nbd_wire.specs.Reading.{behind_string, has_string, string_at}
use Rattle.nbd_wire.specs.Replies.{block_size_info, export_info, export_reply, greeting, option_reply, padding, reply_code, server_data, simple_reply_head}
use Rattle.nbd_wire.specs.Received.{behind_padding, block_size_info_in, export_info_in, export_reply_in, greeting_in, is_padding, option_reply_in, reply_of, simple_reply_in}
use Rattle.nbd_wire.proofs.Fields.{IsBytes, IsBytes-drop, IsWidth, width2, width4, width8, field_takes, field_drops}
use Rattle.nbd_wire.proofs.Names.{guard, last_guard}
use Rattle.nbd_wire.proofs.Queries.{string_again, string_takes}
use Rattle.nbd_wire.proofs.Told.{block_size_info_is, code_fits, export_info_is, export_reply_is, option_reply_is, simple_head_is}

-- ---- what was read, or nothing

pub found_of : {R A : Type 0} (view : R → A) (r : Option R) (o : Option A) (P : A → Type 0) → option_map view r ≡ o → ((x : A) → o ≡ Some x → P x) → IfSome r (λ y. P (view y))
found_of view None o P e h = tt
found_of view (Some y) o P e h = h (view y) (sym e)

pub none_of : {R A : Type 0} (view : R → A) (r : Option R) (o : Option A) (Q : Type 0) → option_map view r ≡ o → (o ≡ None → Q) → IfNone r Q
none_of view None o Q e h = h (sym e)
none_of view (Some y) o Q e h = tt

pub again_of : {R A : Type 0} (view : R → A) (r : Option R) (o : Option A) (x : A) (P : R → Type 0) → option_map view r ≡ o → o ≡ Some x → ((y : R) → view y ≡ x → P y) → IfSome r P
again_of view None o x P e is h = tt
again_of view (Some y) o x P e is h = let s : Some (view y) ≡ Some x = e ∙ is in h y (last_guard true (view y) x s).1

-- of a pair with what follows
pub pair_again : {A : Type 0} (r : Option (A × Bor (List ℕ))) (o : Option (A × List ℕ)) (x : A) (rest : List ℕ) → option_map (λ y. (y.0, y.1.now)) r ≡ o → o ≡ Some (x, rest)
    → IfSome r (λ y. (y.0 ≡ x) × (y.1.now ≡ rest))
pair_again {A = A} r o x rest e is =
    again_of (λ y. (y.0, y.1.now)) r o (x, rest) (λ y. (y.0 ≡ x) × (y.1.now ≡ rest)) e is (λ y s. (ap (λ (q : A × List ℕ). q.0) s, ap (λ (q : A × List ℕ). q.1) s))

pub passes : {A : Type 0} (b : Bool) (o : Option A) (y : A) → cond b o None ≡ Some y → (b ≡ true) × (o ≡ Some y)
passes true o y e = (refl, e)
passes false o y e = absurd cc

pub mapped : {A B : Type 0} (f : A → B) (o : Option A) (y : B) → option_map f o ≡ Some y → (x : A) × (o ≡ Some x) × (f x ≡ y)
mapped f None y e = absurd cc
mapped f (Some x) y e = (x, refl, (last_guard true (f x) y e).1)

-- a number with this value and what follows it
pub part : (n : ℕ) (w : IsWidth n) (t : List ℕ) (v : ℕ) (rest : List ℕ) → IsBytes t → n ≤ length t → number n t ≡ v → drop n t ≡ rest → t ≡ bytes n v ++ rest
part n w t v rest h le is e = field_takes n w t h le ∙ ap (λ (k : ℕ). bytes n k ++ drop n t) is ∙ ap (λ (x : List ℕ). bytes n v ++ x) e

-- a number in front makes a text longer
pub longer : (n : ℕ) (w : IsWidth n) (v : ℕ) (rest : List ℕ) → length (bytes n v ++ rest) ≡ n + length rest
longer n w v rest = omega (arith, length-append (bytes n v) rest, w.len v)

-- ---- simple replies

pub simple_reply_takes : (t : List ℕ) (x : SimpleReply × List ℕ) → IsBytes t → simple_reply_in t ≡ Some x → t ≡ simple_reply_head x.0.error x.0.cookie ++ x.1
unfolding simple_reply_in
simple_reply_takes t x h e =
    let a = drop 4 t in let b = drop 4 a in
    let g1 = guard (ltb (length t) 16) _ x e in
    let g2 = last_guard (eqb (number 4 t) SIMPLE_REPLY_MAGIC) _ x g1.1 in
    let le : 16 ≤ length t = ltb-false _ _ g1.0 in
    let magic : number 4 t ≡ SIMPLE_REPLY_MAGIC = eqb-true _ _ g2.0 in
    let ha = IsBytes-drop 4 t h in let hb = IsBytes-drop 4 a ha in
    let la : length a ≡ length t - 4 = length-drop 4 t in
    let lb : length b ≡ length a - 4 = length-drop 4 a in
    let d : drop 8 b ≡ drop 16 t = drop-drop 8 4 a ∙ drop-drop 12 4 t in
    let whole : t ≡ simple_reply_head (number 4 a) (number 8 b) ++ drop 16 t =
    part 4 width4 t SIMPLE_REPLY_MAGIC _ h (omega arith) magic (part 4 width4 a (number 4 a) _ ha (omega arith) refl (part 8 width8 b (number 8 b) _ hb (omega arith) refl d))
    ∙ sym (simple_head_is (number 4 a) (number 8 b) (drop 16 t)) in
    subst (λ (p : SimpleReply × List ℕ). t ≡ simple_reply_head p.0.error p.0.cookie ++ p.1) g2.1 whole

pub simple_reply_again : (t : List ℕ) (x : SimpleReply) (rest : List ℕ) → x.error < 2 ^ 32 → x.cookie < 2 ^ 64 → t ≡ simple_reply_head x.error x.cookie ++ rest → simple_reply_in t ≡ Some (x, rest)
unfolding simple_reply_in
simple_reply_again t x rest he hc e =
    let b : List ℕ = bytes 8 x.cookie ++ rest in
    let a : List ℕ = bytes 4 x.error ++ b in
    let w : List ℕ = bytes 4 SIMPLE_REPLY_MAGIC ++ a in
    let d1 : drop 4 w ≡ a = field_drops 4 width4 SIMPLE_REPLY_MAGIC a in
    let d2 : drop 4 a ≡ b = field_drops 4 width4 x.error b in
    let d3 : drop 16 w ≡ rest = sym (drop-drop 12 4 w) ∙ ap (drop 12) d1 ∙ sym (drop-drop 8 4 a) ∙ ap (drop 8) d2 ∙ field_drops 8 width8 x.cookie rest in
    let n0 : number 4 w ≡ SIMPLE_REPLY_MAGIC = width4.again SIMPLE_REPLY_MAGIC a (omega arith) in
    let n1 : number 4 a ≡ x.error = width4.again x.error b he in
    let n2 : number 8 b ≡ x.cookie = width8.again x.cookie rest hc in
    let t1 : ltb (length w) 16 ≡ false = le-ltb _ _ (omega (arith, longer 4 width4 SIMPLE_REPLY_MAGIC a, longer 4 width4 x.error b, longer 8 width8 x.cookie rest)) in
    ap simple_reply_in (e ∙ simple_head_is x.error x.cookie rest) ∙ rw (t1, n0, d1, d2, n1, n2, d3) refl

-- ---- the greeting

greeting_is : (x : List ℕ) → greeting ++ x ≡ bytes 8 GREETING_MAGIC ++ (bytes 8 OPTION_MAGIC ++ (bytes 2 HANDSHAKE_FLAGS ++ x))
unfolding greeting
greeting_is x = simp append_assoc

pub greeting_takes : (t rest : List ℕ) → IsBytes t → greeting_in t ≡ Some rest → t ≡ greeting ++ rest
unfolding greeting_in
greeting_takes t rest h e =
    let a = drop 8 t in let b = drop 8 a in
    let g1 = guard (ltb (length t) 18) _ rest e in
    let g2 = passes (eqb (number 8 t) GREETING_MAGIC) _ rest g1.1 in
    let g3 = passes (eqb (number 8 a) OPTION_MAGIC) _ rest g2.1 in
    let g4 = last_guard (eqb (number 2 b) HANDSHAKE_FLAGS) _ rest g3.1 in
    let le : 18 ≤ length t = ltb-false _ _ g1.0 in
    let ha = IsBytes-drop 8 t h in let hb = IsBytes-drop 8 a ha in
    let la : length a ≡ length t - 8 = length-drop 8 t in
    let lb : length b ≡ length a - 8 = length-drop 8 a in
    let d : drop 2 b ≡ rest = drop-drop 2 8 a ∙ drop-drop 10 8 t ∙ g4.1 in
    part 8 width8 t GREETING_MAGIC _ h (omega arith) (eqb-true _ _ g2.0) (
    part 8 width8 a OPTION_MAGIC _ ha (omega arith) (eqb-true _ _ g3.0) (part 2 width2 b HANDSHAKE_FLAGS rest hb (omega arith) (eqb-true _ _ g4.0) d))
    ∙ sym (greeting_is rest)

pub greeting_again : (t rest : List ℕ) → t ≡ greeting ++ rest → greeting_in t ≡ Some rest
unfolding greeting_in
greeting_again t rest e =
    let b : List ℕ = bytes 2 HANDSHAKE_FLAGS ++ rest in
    let a : List ℕ = bytes 8 OPTION_MAGIC ++ b in
    let w : List ℕ = bytes 8 GREETING_MAGIC ++ a in
    let d1 : drop 8 w ≡ a = field_drops 8 width8 GREETING_MAGIC a in
    let d2 : drop 8 a ≡ b = field_drops 8 width8 OPTION_MAGIC b in
    let d3 : drop 18 w ≡ rest = sym (drop-drop 10 8 w) ∙ ap (drop 10) d1 ∙ sym (drop-drop 2 8 a) ∙ ap (drop 2) d2 ∙ field_drops 2 width2 HANDSHAKE_FLAGS rest in
    let n0 : number 8 w ≡ GREETING_MAGIC = width8.again GREETING_MAGIC a (omega arith) in
    let n1 : number 8 a ≡ OPTION_MAGIC = width8.again OPTION_MAGIC b (omega arith) in
    let n2 : number 2 b ≡ HANDSHAKE_FLAGS = width2.again HANDSHAKE_FLAGS rest (omega arith) in
    let t1 : ltb (length w) 18 ≡ false = le-ltb _ _ (omega (arith, longer 8 width8 GREETING_MAGIC a, longer 8 width8 OPTION_MAGIC b, longer 2 width2 HANDSHAKE_FLAGS rest)) in
    ap greeting_in (e ∙ greeting_is rest) ∙ rw (t1, n0, d1, n1, d2, n2, d3) refl

-- ---- option replies

-- a number that is one kind's, and otherwise another's
pub code_step : {K : Type 0} (code : K → ℕ) (c n : ℕ) (k : K) (o : Option K) (r : K) → code k ≡ n → (o ≡ Some r → code r ≡ c) → cond (eqb c n) (Some k) o ≡ Some r → code r ≡ c
code_step code c n k o r is h e =
    elim (eqb_tells c n) [
      | inl p ↦
          let s : Some k ≡ Some r = sym (ap (λ (b : Bool). cond b (Some k) o) p.0) ∙ e in
          ap code (sym (last_guard true k r s).1) ∙ is ∙ sym p.1
      | inr p ↦ h (sym (ap (λ (b : Bool). cond b (Some k) o) p.0) ∙ e)
    ]

pub reply_takes : (c : ℕ) (r : ReplyType) → reply_of c ≡ Some r → reply_code r ≡ c
unfolding reply_of
reply_takes c r =
    code_step reply_code c 1 Acknowledged _ r refl (code_step reply_code c 2 Server _ r refl (code_step reply_code c 3 Information _ r refl (code_step reply_code c 4 Context _ r refl (
    code_step reply_code c 0x80000001 Unsupported _ r refl (code_step reply_code c 0x80000002 Policy _ r refl (code_step reply_code c 0x80000003 Invalid _ r refl (code_step reply_code c 0x80000006 Unknown None r refl (λ e. absurd cc))))))))

pub reply_again : (r : ReplyType) → reply_of (reply_code r) ≡ Some r
unfolding reply_of
reply_again Acknowledged = refl
reply_again Server = refl
reply_again Information = refl
reply_again Context = refl
reply_again Unsupported = refl
reply_again Policy = refl
reply_again Invalid = refl
reply_again Unknown = refl

abbrev pub Told : Type 0
Told = ℕ × ReplyType × List ℕ × List ℕ

pub option_reply_takes : (t : List ℕ) (x : Told) → IsBytes t → option_reply_in t ≡ Some x → (length x.2 < 2 ^ 32) × (t ≡ option_reply x.0 x.1 x.2 ++ x.3)
unfolding option_reply_in
option_reply_takes t x h e =
    let a = drop 8 t in let b = drop 4 a in let c = drop 4 b in let behind = drop 20 t in
    let n = number 4 c in
    let g1 = guard (ltb (length t) 20) _ x e in
    let g2 = passes (eqb (number 8 t) REPLY_MAGIC) _ x g1.1 in
    let g3 = guard (ltb (length behind) n) _ x g2.1 in
    let g4 = mapped (λ (k : ReplyType). (number 4 a, k, take n behind, drop n behind)) (reply_of (number 4 b)) x g3.1 in
    let le : 20 ≤ length t = ltb-false _ _ g1.0 in
    let ha = IsBytes-drop 8 t h in let hb = IsBytes-drop 4 a ha in let hc = IsBytes-drop 4 b hb in
    let la : length a ≡ length t - 8 = length-drop 8 t in
    let lb : length b ≡ length a - 4 = length-drop 4 a in
    let lc : length c ≡ length b - 4 = length-drop 4 b in
    let body : List ℕ = take n behind in
    let len : length body ≡ n = length-take-le n behind (ltb-false _ _ g3.0) in
    let code : number 4 b ≡ reply_code g4.0 = sym (reply_takes (number 4 b) g4.0 g4.1) in
    let d : drop 4 c ≡ body ++ drop n behind = drop-drop 4 4 b ∙ drop-drop 8 4 a ∙ drop-drop 12 8 t ∙ sym (take-append-drop n behind) in
    let whole : t ≡ option_reply (number 4 a) g4.0 body ++ drop n behind =
    part 8 width8 t REPLY_MAGIC _ h (omega arith) (eqb-true _ _ g2.0) (
    part 4 width4 a (number 4 a) _ ha (omega arith) refl (part 4 width4 b (reply_code g4.0) _ hb (omega arith) code (part 4 width4 c (length body) _ hc (omega arith) (sym len) d)))
    ∙ sym (option_reply_is (number 4 a) g4.0 body (drop n behind)) in
    subst (λ (p : Told). (length p.2 < 2 ^ 32) × (t ≡ option_reply p.0 p.1 p.2 ++ p.3)) g4.2 (let below = width4.below c hc in omega (arith, len, below), whole)

pub option_reply_again : (t : List ℕ) (o : ℕ) (r : ReplyType) (p rest : List ℕ) → o < 2 ^ 32 → length p < 2 ^ 32 → t ≡ option_reply o r p ++ rest → option_reply_in t ≡ Some (o, r, p, rest)
unfolding option_reply_in
option_reply_again t o r p rest ho hp e =
    let d : List ℕ = p ++ rest in
    let c : List ℕ = bytes 4 (length p) ++ d in
    let b : List ℕ = bytes 4 (reply_code r) ++ c in
    let a : List ℕ = bytes 4 o ++ b in
    let w : List ℕ = bytes 8 REPLY_MAGIC ++ a in
    let d1 : drop 8 w ≡ a = field_drops 8 width8 REPLY_MAGIC a in
    let d2 : drop 4 a ≡ b = field_drops 4 width4 o b in
    let d3 : drop 4 b ≡ c = field_drops 4 width4 (reply_code r) c in
    let d4 : drop 20 w ≡ d =
    sym (drop-drop 12 8 w) ∙ ap (drop 12) d1 ∙ sym (drop-drop 8 4 a) ∙ ap (drop 8) d2 ∙ sym (drop-drop 4 4 b) ∙ ap (drop 4) d3 ∙ field_drops 4 width4 (length p) d in
    let n0 : number 8 w ≡ REPLY_MAGIC = width8.again REPLY_MAGIC a (omega arith) in
    let n1 : number 4 a ≡ o = width4.again o b ho in
    let n2 : number 4 b ≡ reply_code r = width4.again (reply_code r) c (code_fits r) in
    let n3 : number 4 c ≡ length p = width4.again (length p) d hp in
    let t1 : ltb (length w) 20 ≡ false =
    le-ltb _ _ (omega (arith, longer 8 width8 REPLY_MAGIC a, longer 4 width4 o b, longer 4 width4 (reply_code r) c, longer 4 width4 (length p) d)) in
    let t2 : ltb (length d) (length p) ≡ false = le-ltb _ _ (omega (arith, length-append p rest)) in
    ap option_reply_in (e ∙ option_reply_is o r p rest) ∙ rw (t1, n0, d4, d1, d2, d3, n3, t2, n1, n2, reply_again r, take_at p rest (length p) refl, drop_at p rest (length p) refl) refl

-- ---- a name behind its length

abbrev pub IsFirst : Option (Bor (List ℕ) × Bor (List ℕ)) → List ℕ → Type 0
IsFirst r t = MatchOption r (has_string t ≡ false) (λ y. (has_string t ≡ true) × (y.0.now ≡ string_at t) × (y.1.now ≡ behind_string t))

pub name_found : (r : Option (Bor (List ℕ) × Bor (List ℕ))) (t : List ℕ) → IsBytes t → IsFirst r t → IfSome r (λ y. (length y.0.now < 2 ^ 32) × (t ≡ server_data y.0.now ++ y.1.now))
name_found None t h e = tt
name_found (Some y) t h e = let s = string_takes t h e.0 in rw (e.1, e.2) (s.1, s.0)

pub name_none : (r : Option (Bor (List ℕ) × Bor (List ℕ))) (t : List ℕ) → IsFirst r t → IfNone r ((name rest : List ℕ) → length name < 2 ^ 32 → t ≡ server_data name ++ rest → ⊥)
name_none None t e = λ name rest fits is. let s = string_again name rest fits in absurd (true≢false (sym (ap has_string is ∙ s.0) ∙ e))
name_none (Some y) t e = tt

pub name_again : (r : Option (Bor (List ℕ) × Bor (List ℕ))) (t name rest : List ℕ) → IsFirst r t → length name < 2 ^ 32 → t ≡ server_data name ++ rest
    → IfSome r (λ y. (y.0.now ≡ name) × (y.1.now ≡ rest))
name_again None t name rest e fits is = tt
name_again (Some y) t name rest e fits is = let s = string_again name rest fits in (e.1 ∙ ap string_at is ∙ s.1, e.2 ∙ ap behind_string is ∙ s.2)

-- ---- the information on an export

pub export_info_takes : (t : List ℕ) (x : Export × List ℕ) → IsBytes t → export_info_in t ≡ Some x → t ≡ export_info x.0.size x.0.flags ++ x.1
unfolding export_info_in
export_info_takes t x h e =
    let a = drop 2 t in let b = drop 8 a in
    let g1 = guard (ltb (length t) 12) _ x e in
    let g2 = last_guard (eqb (number 2 t) INFO_EXPORT) _ x g1.1 in
    let le : 12 ≤ length t = ltb-false _ _ g1.0 in
    let ha = IsBytes-drop 2 t h in let hb = IsBytes-drop 8 a ha in
    let la : length a ≡ length t - 2 = length-drop 2 t in
    let lb : length b ≡ length a - 8 = length-drop 8 a in
    let d : drop 2 b ≡ drop 12 t = drop-drop 2 8 a ∙ drop-drop 10 2 t in
    let whole : t ≡ export_info (number 8 a) (number 2 b) ++ drop 12 t =
    part 2 width2 t INFO_EXPORT _ h (omega arith) (eqb-true _ _ g2.0) (part 8 width8 a (number 8 a) _ ha (omega arith) refl (part 2 width2 b (number 2 b) _ hb (omega arith) refl d))
    ∙ sym (export_info_is (number 8 a) (number 2 b) (drop 12 t)) in
    subst (λ (p : Export × List ℕ). t ≡ export_info p.0.size p.0.flags ++ p.1) g2.1 whole

pub export_info_again : (t : List ℕ) (x : Export) (rest : List ℕ) → x.size < 2 ^ 64 → x.flags < 2 ^ 16 → t ≡ export_info x.size x.flags ++ rest → export_info_in t ≡ Some (x, rest)
unfolding export_info_in
export_info_again t x rest hs hf e =
    let b : List ℕ = bytes 2 x.flags ++ rest in
    let a : List ℕ = bytes 8 x.size ++ b in
    let w : List ℕ = bytes 2 INFO_EXPORT ++ a in
    let d1 : drop 2 w ≡ a = field_drops 2 width2 INFO_EXPORT a in
    let d2 : drop 8 a ≡ b = field_drops 8 width8 x.size b in
    let d3 : drop 12 w ≡ rest = sym (drop-drop 10 2 w) ∙ ap (drop 10) d1 ∙ sym (drop-drop 2 8 a) ∙ ap (drop 2) d2 ∙ field_drops 2 width2 x.flags rest in
    let n0 : number 2 w ≡ INFO_EXPORT = width2.again INFO_EXPORT a (omega arith) in
    let n1 : number 8 a ≡ x.size = width8.again x.size b hs in
    let n2 : number 2 b ≡ x.flags = width2.again x.flags rest hf in
    let t1 : ltb (length w) 12 ≡ false = le-ltb _ _ (omega (arith, longer 2 width2 INFO_EXPORT a, longer 8 width8 x.size b, longer 2 width2 x.flags rest)) in
    ap export_info_in (e ∙ export_info_is x.size x.flags rest) ∙ rw (t1, n0, d1, d2, n1, n2, d3) refl

-- ---- the information on block sizes

pub block_size_info_takes : (t : List ℕ) (x : BlockSizes × List ℕ) → IsBytes t → block_size_info_in t ≡ Some x → t ≡ block_size_info x.0.least x.0.preferred x.0.most ++ x.1
unfolding block_size_info_in
block_size_info_takes t x h e =
    let a = drop 2 t in let b = drop 4 a in let c = drop 4 b in
    let g1 = guard (ltb (length t) 14) _ x e in
    let g2 = last_guard (eqb (number 2 t) INFO_BLOCK_SIZE) _ x g1.1 in
    let le : 14 ≤ length t = ltb-false _ _ g1.0 in
    let ha = IsBytes-drop 2 t h in let hb = IsBytes-drop 4 a ha in let hc = IsBytes-drop 4 b hb in
    let la : length a ≡ length t - 2 = length-drop 2 t in
    let lb : length b ≡ length a - 4 = length-drop 4 a in
    let lc : length c ≡ length b - 4 = length-drop 4 b in
    let d : drop 4 c ≡ drop 14 t = drop-drop 4 4 b ∙ drop-drop 8 4 a ∙ drop-drop 12 2 t in
    let whole : t ≡ block_size_info (number 4 a) (number 4 b) (number 4 c) ++ drop 14 t =
    part 2 width2 t INFO_BLOCK_SIZE _ h (omega arith) (eqb-true _ _ g2.0) (
    part 4 width4 a (number 4 a) _ ha (omega arith) refl (part 4 width4 b (number 4 b) _ hb (omega arith) refl (part 4 width4 c (number 4 c) _ hc (omega arith) refl d)))
    ∙ sym (block_size_info_is (number 4 a) (number 4 b) (number 4 c) (drop 14 t)) in
    subst (λ (p : BlockSizes × List ℕ). t ≡ block_size_info p.0.least p.0.preferred p.0.most ++ p.1) g2.1 whole

pub block_size_info_again : (t : List ℕ) (x : BlockSizes) (rest : List ℕ) → x.least < 2 ^ 32 → x.preferred < 2 ^ 32 → x.most < 2 ^ 32
    → t ≡ block_size_info x.least x.preferred x.most ++ rest → block_size_info_in t ≡ Some (x, rest)
unfolding block_size_info_in
block_size_info_again t x rest hl hp hm e =
    let c : List ℕ = bytes 4 x.most ++ rest in
    let b : List ℕ = bytes 4 x.preferred ++ c in
    let a : List ℕ = bytes 4 x.least ++ b in
    let w : List ℕ = bytes 2 INFO_BLOCK_SIZE ++ a in
    let d1 : drop 2 w ≡ a = field_drops 2 width2 INFO_BLOCK_SIZE a in
    let d2 : drop 4 a ≡ b = field_drops 4 width4 x.least b in
    let d3 : drop 4 b ≡ c = field_drops 4 width4 x.preferred c in
    let d4 : drop 14 w ≡ rest =
    sym (drop-drop 12 2 w) ∙ ap (drop 12) d1 ∙ sym (drop-drop 8 4 a) ∙ ap (drop 8) d2 ∙ sym (drop-drop 4 4 b) ∙ ap (drop 4) d3 ∙ field_drops 4 width4 x.most rest in
    let n0 : number 2 w ≡ INFO_BLOCK_SIZE = width2.again INFO_BLOCK_SIZE a (omega arith) in
    let n1 : number 4 a ≡ x.least = width4.again x.least b hl in
    let n2 : number 4 b ≡ x.preferred = width4.again x.preferred c hp in
    let n3 : number 4 c ≡ x.most = width4.again x.most rest hm in
    let t1 : ltb (length w) 14 ≡ false = le-ltb _ _ (omega (arith, longer 2 width2 INFO_BLOCK_SIZE a, longer 4 width4 x.least b, longer 4 width4 x.preferred c, longer 4 width4 x.most rest)) in
    ap block_size_info_in (e ∙ block_size_info_is x.least x.preferred x.most rest) ∙ rw (t1, n0, d4, d1, d2, d3, n1, n2, n3) refl

-- ---- the answer to EXPORT_NAME

behind_takes : (z : Bool) (t rest : List ℕ) → behind_padding z t ≡ Some rest → t ≡ padding z ++ rest
unfolding behind_padding is_padding padding
behind_takes true t rest e = (last_guard true t rest e).1
behind_takes false t rest e =
    let g1 = guard (ltb (length t) 124) _ rest e in
    let g2 = last_guard (bytes_eq (take 124 t) (replicate 124 0)) (drop 124 t) rest g1.1 in
    let zeroes : take 124 t ≡ replicate 124 0 = (bytes_eq-Decides (take 124 t) (replicate 124 0)).0 g2.0 in
    sym (take-append-drop 124 t) ∙ ap₂ (λ (x y : List ℕ). x ++ y) zeroes g2.1

behind_again : (z : Bool) (rest : List ℕ) → behind_padding z (padding z ++ rest) ≡ Some rest
unfolding behind_padding is_padding padding
behind_again true rest = refl
behind_again false rest =
    let zeroes : List ℕ = replicate 124 0 in
    let len : length zeroes ≡ 124 = length-replicate {A = ℕ} 124 0 in
    let t1 : ltb (length (zeroes ++ rest)) 124 ≡ false = le-ltb _ _ (omega (arith, length-append zeroes rest)) in
    rw t1 refl

pub export_reply_takes : (z : Bool) (t : List ℕ) (x : Export × List ℕ) → IsBytes t → export_reply_in z t ≡ Some x → t ≡ export_reply x.0.size x.0.flags z ++ x.1
unfolding export_reply_in
export_reply_takes z t x h e =
    let a = drop 8 t in
    let g1 = guard (ltb (length t) 10) _ x e in
    let g2 = mapped (λ (rest : List ℕ). (record { size = number 8 t; flags = number 2 a }, rest)) (behind_padding z (drop 10 t)) x g1.1 in
    let le : 10 ≤ length t = ltb-false _ _ g1.0 in
    let ha = IsBytes-drop 8 t h in
    let la : length a ≡ length t - 8 = length-drop 8 t in
    let d : drop 2 a ≡ padding z ++ g2.0 = drop-drop 2 8 t ∙ behind_takes z (drop 10 t) g2.0 g2.1 in
    let whole : t ≡ export_reply (number 8 t) (number 2 a) z ++ g2.0 =
    part 8 width8 t (number 8 t) _ h (omega arith) refl (part 2 width2 a (number 2 a) _ ha (omega arith) refl d) ∙ sym (export_reply_is (number 8 t) (number 2 a) z g2.0) in
    subst (λ (p : Export × List ℕ). t ≡ export_reply p.0.size p.0.flags z ++ p.1) g2.2 whole

pub export_reply_again : (z : Bool) (t : List ℕ) (x : Export) (rest : List ℕ) → x.size < 2 ^ 64 → x.flags < 2 ^ 16 → t ≡ export_reply x.size x.flags z ++ rest → export_reply_in z t ≡ Some (x, rest)
unfolding export_reply_in
export_reply_again z t x rest hs hf e =
    let b : List ℕ = padding z ++ rest in
    let a : List ℕ = bytes 2 x.flags ++ b in
    let w : List ℕ = bytes 8 x.size ++ a in
    let d1 : drop 8 w ≡ a = field_drops 8 width8 x.size a in
    let d2 : drop 10 w ≡ b = sym (drop-drop 2 8 w) ∙ ap (drop 2) d1 ∙ field_drops 2 width2 x.flags b in
    let n0 : number 8 w ≡ x.size = width8.again x.size a hs in
    let n1 : number 2 a ≡ x.flags = width2.again x.flags b hf in
    let t1 : ltb (length w) 10 ≡ false = le-ltb _ _ (omega (arith, longer 8 width8 x.size a, longer 2 width2 x.flags b)) in
    ap (export_reply_in z) (e ∙ export_reply_is x.size x.flags z rest) ∙ rw (t1, d2, d1, n0, n1, behind_again z rest) refl
