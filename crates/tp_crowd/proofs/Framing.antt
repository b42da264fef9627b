-- Bytes that fall into frames, many at once.
use Rattle.std.proofs.Common.{◌≡◌, ℕ, zero, suc, ◌+◌, ◌-◌, ◌<◌, ◌≤◌, Bool, true, false, List, [], ◌∷◌, ◌++◌, length, take, append_assoc, min, append-nil, length-append, length-take-le, drop, slice_index_or, refl, ap, sym, subst, ◌∙◌, arith, ◌||◌, if◌then◌else◌}
use Rattle.std.proofs.lemmas.Bool.{lt-ltb, ne_eqb}
use Rattle.std.proofs.lemmas.List.{take_all}
use Rattle.std.proofs.Math.Seq.{take-add}
use mir.Val.{bool_byte}
use Rattle.tp_hub.specs.declared.stream.Put.{Put}
use Rattle.tp_hub.specs.declared.stream.Put.TheVariants.{Wrote, Interrupted, Failed}
use Rattle.tp_hub.specs.declared.stream.Received.{Received}
use Rattle.tp_hub.specs.declared.stream.Received.TheVariants.{Got, NotNow, End, Broken}
use Rattle.tp_hub.specs.Streams.{Flushes, StreamCall, read_call, write_call}
use Rattle.nbd_wire.specs.Reading.{wanted}
use Rattle.nbd_wire.specs.declared.Kind.{Kind}
use Rattle.nbd_wire.specs.declared.Kind.TheVariants.{Flags, Options, Requests}
use Rattle.nbd_wire.specs.Reading.{fixed_len}
use Rattle.tp_lock.specs.Framing.{Framed, bytes_of, given, given_in, ends_in, set_in, first_kind, framed, head_come, is_between, kind_at, kind_behind, next, passed}

-- ---- one piece behind the other

pub passed_append : (f : Framed) (xs ys : List ℕ) → passed f (xs ++ ys) ≡ passed (passed f xs) ys
passed_append f [] ys = refl
passed_append f (x ∷ xs) ys = passed_append (next f x) xs ys

or_assoc : (a b c : Bool) → (a || (b || c)) ≡ ((a || b) || c)
or_assoc true b c = refl
or_assoc false b c = refl

pub ends_append : (f : Framed) (xs ys : List ℕ) → ends_in f (xs ++ ys) ≡ (ends_in f xs || ends_in (passed f xs) ys)
ends_append f [] ys = refl
ends_append f (x ∷ xs) ys =
    ap (λ b. is_between (next f x) || b) (ends_append (next f x) xs ys) ∙ or_assoc (is_between (next f x)) (ends_in (next f x) xs) (ends_in (passed (next f x) xs) ys)

or_none : (a : Bool) → (a || false) ≡ a
or_none true = refl
or_none false = refl

-- ---- data

data_passed : (kind : Kind) (head bytes : List ℕ) (m left : ℕ) → left ≡ length bytes + m → passed (framed kind head left) bytes ≡ framed kind head m
data_passed kind head [] m left is = let e : left ≡ m = omega (arith, is) in ap (framed kind head) e
data_passed kind head (b ∷ bytes) m zero is = absurd (omega (arith, is))
data_passed kind head (b ∷ bytes) m (suc n) is = data_passed kind head bytes m n (omega (arith, is))

data_ends : (kind : Kind) (head : List ℕ) (b : ℕ) (bytes : List ℕ) (m left : ℕ) → left ≡ length (b ∷ bytes) + m → ends_in (framed kind head left) (b ∷ bytes) ≡ is_between (framed kind head m)
data_ends kind head b bytes m zero is = absurd (omega (arith, is))
data_ends kind head b [] m (suc n) is = let e : n ≡ m = omega (arith, is) in or_none (is_between (framed kind head n)) ∙ ap (λ k. is_between (framed kind head k)) e
data_ends kind head b (c ∷ bytes) m (suc zero) is = absurd (omega (arith, is))
data_ends kind head b (c ∷ bytes) m (suc (suc n)) is =
    ap (λ x. x || ends_in (framed kind head (suc n)) (c ∷ bytes)) (ne_eqb (suc n) 0 (λ e. omega (arith, e))) ∙ data_ends kind head c bytes m (suc n) (omega (arith, is))

-- ---- fixed parts

module _ (kind : Kind) where
  -- it goes on where the fixed part is not whole
  pub goes_on : (head : List ℕ) → length head < fixed_len kind → head_come kind head ≡ framed kind head 0
  goes_on head less = ap (λ less. if less then framed kind head 0 else framed (kind_behind kind) [] (wanted kind head - fixed_len kind)) (lt-ltb (length head) (fixed_len kind) less)

  more : (t : List ℕ) (b : ℕ) → length (t ++ b ∷ []) ≡ length t + 1
  more t b = length-append t (b ∷ [])

  head_passed : (h : ℕ) (t bytes : List ℕ) → length (h ∷ t) < fixed_len kind → length (h ∷ t) + length bytes ≤ fixed_len kind → passed (framed kind (h ∷ t) 0) bytes ≡ head_come kind ((h ∷ t) ++ bytes)
  head_passed h t [] less within = sym (goes_on (h ∷ t) less) ∙ ap (head_come kind) (sym (append-nil (h ∷ t)))
  head_passed h t (b ∷ []) less within = refl
  head_passed h t (b ∷ c ∷ bytes) less within =
      let len = more t b in
      let less' : length (h ∷ (t ++ b ∷ [])) < fixed_len kind = omega (arith, within, len) in
      ap (λ f. passed f (c ∷ bytes)) (goes_on (h ∷ (t ++ b ∷ [])) less')
      ∙ (head_passed h (t ++ b ∷ []) (c ∷ bytes) less' (omega (arith, within, len)) ∙ ap (λ l. head_come kind (h ∷ l)) (append_assoc t (b ∷ []) (c ∷ bytes)))

  -- and then no frame has ended
  begun : (h : ℕ) (t : List ℕ) → length (h ∷ t) < fixed_len kind → is_between (framed kind (h ∷ t) 0) ≡ false
  begun h t less = ne_eqb (fixed_len kind - length (h ∷ t)) 0 (λ none. omega (arith, none, less))

  head_ends : (h : ℕ) (t : List ℕ) (b : ℕ) (bytes : List ℕ) → length (h ∷ t) + length (b ∷ bytes) ≤ fixed_len kind → ends_in (framed kind (h ∷ t) 0) (b ∷ bytes) ≡ is_between (head_come kind ((h ∷ t) ++ b ∷ bytes))
  head_ends h t b [] within = or_none (is_between (head_come kind ((h ∷ t) ++ b ∷ [])))
  head_ends h t b (c ∷ bytes) within =
      let len = more t b in
      let less' : length (h ∷ (t ++ b ∷ [])) < fixed_len kind = omega (arith, within, len) in
      ap (λ f. is_between f || ends_in f (c ∷ bytes)) (goes_on (h ∷ (t ++ b ∷ [])) less')
      ∙ (ap (λ x. x || ends_in (framed kind (h ∷ (t ++ b ∷ [])) 0) (c ∷ bytes)) (begun h (t ++ b ∷ []) less')
      ∙ (head_ends h (t ++ b ∷ []) c bytes (omega (arith, within, len)) ∙ ap (λ l. is_between (head_come kind (h ∷ l))) (append_assoc t (b ∷ []) (c ∷ bytes))))

-- Bytes of a fixed part, of which some may have come before.
pub first_passed : (kind : Kind) (head : List ℕ) (b : ℕ) (bytes : List ℕ) → length head < fixed_len (kind_at kind head b) → length head + length (b ∷ bytes) ≤ fixed_len (kind_at kind head b)
    → passed (framed kind head 0) (b ∷ bytes) ≡ head_come (kind_at kind head b) (head ++ b ∷ bytes)
first_passed kind (h ∷ t) b bytes less within = head_passed kind h t (b ∷ bytes) less within
first_passed kind [] b [] less within = refl
first_passed kind [] b (c ∷ bytes) less within =
    let less' : length (b ∷ []) < fixed_len (first_kind kind b) = omega (arith, within) in
    ap (λ f. passed f (c ∷ bytes)) (goes_on (first_kind kind b) (b ∷ []) less') ∙ head_passed (first_kind kind b) b [] (c ∷ bytes) less' (omega (arith, within))

pub first_ends : (kind : Kind) (head : List ℕ) (b : ℕ) (bytes : List ℕ) → length head < fixed_len (kind_at kind head b) → length head + length (b ∷ bytes) ≤ fixed_len (kind_at kind head b)
    → ends_in (framed kind head 0) (b ∷ bytes) ≡ is_between (head_come (kind_at kind head b) (head ++ b ∷ bytes))
first_ends kind (h ∷ t) b bytes less within = head_ends kind h t b bytes within
first_ends kind [] b [] less within = or_none (is_between (head_come (first_kind kind b) (b ∷ [])))
first_ends kind [] b (c ∷ bytes) less within =
    let less' : length (b ∷ []) < fixed_len (first_kind kind b) = omega (arith, within) in
    ap (λ f. is_between f || ends_in f (c ∷ bytes)) (goes_on (first_kind kind b) (b ∷ []) less')
    ∙ (ap (λ x. x || ends_in (framed (first_kind kind b) (b ∷ []) 0) (c ∷ bytes)) (begun (first_kind kind b) b [] less') ∙ head_ends (first_kind kind b) b [] c bytes (omega (arith, within)))

-- ---- the front of some bytes

took_first : (kind : Kind) (head bytes : List ℕ) (n : ℕ) (k : Kind) → 0 < n → n ≤ length bytes → k ≡ kind_at kind head (slice_index_or bytes 0 0) → length head < fixed_len k → length head + n ≤ fixed_len k
    → (head_come k (head ++ take n bytes) ≡ passed (framed kind head 0) (take n bytes)) × (ends_in (framed kind head 0) (take n bytes) ≡ is_between (head_come k (head ++ take n bytes)))
took_first kind head [] n k some within is less fits = absurd (omega (arith, some, within))
took_first kind head (b ∷ bytes) zero k some within is less fits = absurd (omega (arith, some))
took_first kind head (b ∷ bytes) (suc n) k some within is less fits =
    let len : length (take n bytes) ≡ n = length-take-le n bytes (omega (arith, within)) in
    let less' : length head < fixed_len (kind_at kind head b) = subst (λ j. length head < fixed_len j) is less in
    let fits' : length head + suc n ≤ fixed_len (kind_at kind head b) = subst (λ j. length head + suc n ≤ fixed_len j) is fits in
    let within' : length head + length (b ∷ take n bytes) ≤ fixed_len (kind_at kind head b) = omega (arith, fits', len) in
    subst (λ j. (head_come j (head ++ b ∷ take n bytes) ≡ passed (framed kind head 0) (b ∷ take n bytes)) × (ends_in (framed kind head 0) (b ∷ take n bytes) ≡ is_between (head_come j (head ++ b ∷ take n bytes))))
    (sym is) (sym (first_passed kind head b (take n bytes) less' within'), first_ends kind head b (take n bytes) less' within')

took_some : (kind : Kind) (head bytes : List ℕ) (n left : ℕ) → 0 < n → n ≤ length bytes → n ≤ left
    → (framed kind head (left - n) ≡ passed (framed kind head left) (take n bytes)) × (ends_in (framed kind head left) (take n bytes) ≡ is_between (framed kind head (left - n)))
took_some kind head [] n left some within fits = absurd (omega (arith, some, within))
took_some kind head (b ∷ bytes) zero left some within fits = absurd (omega (arith, some))
took_some kind head (b ∷ bytes) (suc n) left some within fits =
    let len : length (take n bytes) ≡ n = length-take-le n bytes (omega (arith, within)) in
    let is : left ≡ length (b ∷ take n bytes) + (left - suc n) = omega (arith, len, fits) in
    (sym (data_passed kind head (b ∷ take n bytes) (left - suc n) left is), data_ends kind head b (take n bytes) (left - suc n) left is)

fixed_most : (kind : Kind) → fixed_len kind ≤ 28
fixed_most Flags = omega arith
fixed_most Options = omega arith
fixed_most Requests = omega arith

-- some bytes of a fixed part behind those that stand in an array
pub took_head : (kind : Kind) (held left : ℕ) (array array' : List ℕ) (f g : Framed) (k : Kind) (bytes : List ℕ) (n fixed : ℕ) → framed kind (take held array) left ≡ f → f.left ≡ 0 → held < fixed_len kind → length array ≡ 28 → 0 < length bytes
    → fixed ≡ fixed_len k → n ≡ min (fixed - held) (length bytes) → k ≡ kind_at f.kind f.head (slice_index_or bytes 0 0) → length f.head < fixed_len k → take (held + length (take n bytes)) array' ≡ take held array ++ take n bytes
    → g ≡ head_come k (take (held + n) array') → (g ≡ passed f (take n bytes)) × (ends_in f (take n bytes) ≡ is_between g)
took_head kind held left array array' f g k bytes n fixed view none inv long any fixed_is count is room put made =
    let most = fixed_most kind in
    let same : length f.head ≡ held = ap (λ (x : Framed). length x.head) (sym view) ∙ length-take-le held array (omega (arith, inv, long, most)) in
    let some : 0 < n = omega (arith, count, any, fixed_is, same, room) in
    let within : n ≤ length bytes = omega (arith, count) in
    let len : length (take n bytes) ≡ n = length-take-le n bytes within in
    let fits : length f.head + n ≤ fixed_len k = omega (arith, count, fixed_is, same, room) in
    let old : framed f.kind f.head 0 ≡ f = ap (framed f.kind f.head) (sym none) in
    let heads : take (held + n) array' ≡ f.head ++ take n bytes = ap (λ m. take (held + m) array') (sym len) ∙ (put ∙ ap (λ (x : Framed). x.head ++ take n bytes) view) in
    let g_is : head_come k (f.head ++ take n bytes) ≡ g = sym (made ∙ ap (head_come k) heads) in
    let both = took_first f.kind f.head bytes n k some within is room fits in
    subst (λ x. (g ≡ passed x (take n bytes)) × (ends_in x (take n bytes) ≡ is_between g)) old
    (subst (λ x. (x ≡ passed (framed f.kind f.head 0) (take n bytes)) × (ends_in (framed f.kind f.head 0) (take n bytes) ≡ is_between x)) g_is both)

-- and of data
pub took_data : (kind : Kind) (head : List ℕ) (left : ℕ) (f : Framed) (bytes : List ℕ) (n : ℕ) → framed kind head left ≡ f → 0 < n → n ≤ length bytes → n ≤ left
    → (framed kind head (left - n) ≡ passed f (take n bytes)) × (ends_in f (take n bytes) ≡ is_between (framed kind head (left - n)))
took_data kind head left f bytes n view some within fits =
    subst (λ x. (framed kind head (left - n) ≡ passed x (take n bytes)) × (ends_in x (take n bytes) ≡ is_between (framed kind head (left - n)))) view (took_some kind head bytes n left some within fits)

-- ---- one part behind the other

module _ (f g h : Framed) (bytes rest : List ℕ) (at n : ℕ) (before : g ≡ passed f (take at bytes)) (rest_is : rest ≡ drop at bytes) where
  front : take at bytes ++ take n rest ≡ take (at + n) bytes
  front = ap (λ l. take at bytes ++ take n l) rest_is ∙ sym (take-add at n bytes)

  pub passed_more : h ≡ passed g (take n rest) → h ≡ passed f (take (at + n) bytes)
  passed_more part = part ∙ (ap (λ x. passed x (take n rest)) before ∙ (sym (passed_append f (take at bytes) (take n rest)) ∙ ap (passed f) front))

  pub ends_more : (ended last : Bool) → ended ≡ ends_in f (take at bytes) → last ≡ is_between h → ends_in g (take n rest) ≡ is_between h → (ended || last) ≡ ends_in f (take (at + n) bytes)
  ends_more ended last so is part =
      ap (λ b. ended || b) (is ∙ sym part)
      ∙ (ap (λ b. b || ends_in g (take n rest)) so ∙ (ap (λ x. ends_in f (take at bytes) || ends_in x (take n rest)) before ∙ (sym (ends_append f (take at bytes) (take n rest)) ∙ ap (ends_in f) front)))

pub passed_all : (f g : Framed) (bytes : List ℕ) (at : ℕ) → length bytes ≤ at → g ≡ passed f (take at bytes) → g ≡ passed f bytes
passed_all f g bytes at over is = is ∙ ap (passed f) (take_all at bytes over)

pub ends_all : (f : Framed) (ended : Bool) (bytes : List ℕ) (at : ℕ) → length bytes ≤ at → ended ≡ ends_in f (take at bytes) → ended ≡ ends_in f bytes
ends_all f ended bytes at over is = is ∙ ap (ends_in f) (take_all at bytes over)

-- a part that was read into a buffer, behind what was passed of it
pub read_more : (f g h : Framed) (buffer new : List ℕ) (at n m : ℕ) → take at new ≡ take at buffer → g ≡ passed f (take at buffer) → m ≡ n → h ≡ passed g (take m (drop at new)) → h ≡ passed f (take (at + n) new)
read_more f g h buffer new at n m same before is part =
    passed_more f g h new (drop at new) at n (before ∙ ap (passed f) (sym same)) refl (part ∙ ap (λ k. passed g (take k (drop at new))) is)

-- ---- calls of a stream

given_on : (calls : List StreamCall) (call : StreamCall) → given_in (calls ++ call ∷ []) ≡ given_in calls ++ bytes_of call
given_on [] call = append-nil (bytes_of call)
given_on (c ∷ calls) call = ap (λ l. bytes_of c ++ l) (given_on calls call) ∙ sym (append_assoc (bytes_of c) (given_in calls) (bytes_of call))

read_given : (received : Received) (buffer : List ℕ) → bytes_of (read_call received buffer) ≡ given received buffer
read_given (Got count) buffer = refl
read_given NotNow buffer = refl
read_given End buffer = refl
read_given Broken buffer = refl

written_none : (put : Put) (bytes : List ℕ) → bytes_of (write_call put bytes) ≡ []
written_none (Wrote count) bytes = refl
written_none Interrupted bytes = refl
written_none Failed bytes = refl

-- what one call more gave
pub given_more : (calls : List StreamCall) (received : Received) (buffer : List ℕ) → given_in (calls ++ read_call received buffer ∷ []) ≡ given_in calls ++ given received buffer
given_more calls received buffer = given_on calls (read_call received buffer) ∙ ap (λ l. given_in calls ++ l) (read_given received buffer)

pub given_written : (calls : List StreamCall) (put : Put) (bytes : List ℕ) → given_in (calls ++ write_call put bytes ∷ []) ≡ given_in calls
given_written calls put bytes = given_on calls (write_call put bytes) ∙ (ap (λ l. given_in calls ++ l) (written_none put bytes) ∙ append-nil (given_in calls))

pub given_flushed : (calls : List StreamCall) (done : Bool) → given_in (calls ++ Flushes done ∷ []) ≡ given_in calls
given_flushed calls done = given_on calls (Flushes done) ∙ append-nil (given_in calls)

-- frames that are followed over what reads gave
module _ (first frames : Framed) (calls : List StreamCall) (so : frames ≡ passed first (given_in calls)) where
  followed_so : (new : Framed) (received : Received) (buffer : List ℕ) → new ≡ passed frames (given received buffer) → new ≡ passed first (given_in (calls ++ read_call received buffer ∷ []))
  followed_so new received buffer is =
      is
      ∙ (ap (λ x. passed x (given received buffer)) so
      ∙ (sym (passed_append first (given_in calls) (given received buffer)) ∙ ap (passed first) (ap (λ l. given_in calls ++ l) (sym (read_given received buffer)) ∙ sym (given_on calls (read_call received buffer)))))

  pub followed : (new : Framed) (received : Received) (buffer bytes : List ℕ) → new ≡ passed frames (given received buffer) → bytes ≡ buffer → new ≡ passed first (given_in (calls ++ read_call received bytes ∷ []))
  followed new received buffer bytes is are = followed_so new received bytes (is ∙ ap (λ l. passed frames (given received l)) (sym are))

  stays : (call : StreamCall) → bytes_of call ≡ [] → frames ≡ passed first (given_in (calls ++ call ∷ []))
  stays call none = so ∙ ap (passed first) (sym (append-nil (given_in calls)) ∙ (ap (λ l. given_in calls ++ l) (sym none) ∙ sym (given_on calls call)))

  pub stays_written : (put : Put) (bytes : List ℕ) → frames ≡ passed first (given_in (calls ++ write_call put bytes ∷ []))
  stays_written put bytes = stays (write_call put bytes) (written_none put bytes)

  pub stays_flushed : (done : Bool) → frames ≡ passed first (given_in (calls ++ Flushes done ∷ []))
  stays_flushed done = stays (Flushes done) refl

-- ---- who was refused

set_step : (flags : List Bool) (n : ℕ) → n < length flags → set_in (take (suc n) flags) ≡ set_in (take n flags) + bool_byte (slice_index_or flags n false)
set_step [] n less = absurd (omega (arith, less))
set_step (true ∷ flags) zero less = refl
set_step (false ∷ flags) zero less = refl
set_step (flag ∷ flags) (suc n) less = let rest = set_step flags n (omega (arith, less)) in omega (arith, rest)

pub set_next : (flags : List Bool) (n count at : ℕ) → n < length flags → at ≡ n → count ≡ set_in (take n flags) → count + bool_byte (slice_index_or flags at false) ≡ set_in (take (n + 1) flags)
set_next flags n count at less is so =
    let one : suc n ≡ n + 1 = omega arith in
    ap (λ k. count + bool_byte (slice_index_or flags k false)) is ∙ (ap (λ k. k + bool_byte (slice_index_or flags n false)) so ∙ (sym (set_step flags n less) ∙ ap (λ k. set_in (take k flags)) one))

pub one_at_most : (flag : Bool) → bool_byte flag ≤ 1
one_at_most true = omega arith
one_at_most false = omega arith
