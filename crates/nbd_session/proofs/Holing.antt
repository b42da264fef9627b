-- Pieces of what was read, and the chunks of a READ as far as they were put.
use Rattle.std.proofs.Common.{◌≡◌, ℕ, zero, suc, ◌+◌, ◌-◌, ◌*◌, ◌<◌, ◌≤◌, Bool, true, false, ◌||◌, List, [], ◌∷◌, ◌++◌, length, drop, take, get_or, min, refl, sym, ap, subst, ◌∙◌, append_assoc, le-add_right, le_trans, arith}
use Rattle.std.specs.Prelude.{◌==◌, if◌then◌else◌, nat_lt}
use Rattle.std.proofs.lemmas.Bool.{le-leb, lt-leb, ltb-false, ltb-true, or_left}
use Rattle.std.proofs.lemmas.List.{append-nil, drop-drop, drop_all, drop_at, drop_more, length-drop, length-take-le}
use Rattle.std.proofs.lemmas.List.Edits.{drop-paste, length-paste, take-paste}
use lib.Seq.{paste}
use Rattle.tp_listings.specs.declared.extent.Extent.{Extent}
use Rattle.nbd_wire.specs.declared.Request.{Request}
use Rattle.nbd_wire.specs.declared.contexts.MetaContext.TheVariants.{Allocation}
use Rattle.nbd_wire.specs.Chunks.{data_chunk, data_head, hole_chunk}
use Rattle.nbd_wire.specs.Replies.{Puts}
use Rattle.nbd_wire.proofs.Puts.{puts_then}
use Rattle.nbd_session.specs.declared.spans.Span.{Span}
use Rattle.nbd_session.specs.Spans.{as_pairs}
use Rattle.nbd_session.specs.Status.{between, bytes_of, extents_in, gap_to}
use Rattle.nbd_session.specs.Holes.{any_blank, content_len, content_text, contents_len, contents_text, data_to, is_blank, shorter_text}

-- ---- pieces

-- a piece is all zero
pub blank_found : (m n part : ℕ) (bytes : List ℕ) → m ≡ suc n → is_blank (take (min part (length bytes)) bytes) ≡ true → any_blank m part bytes ≡ true
unfolding any_blank
blank_found m n part bytes e test =
    ap (λ (k : ℕ). any_blank k part bytes) e ∙ or_left (is_blank (take (min part (length bytes)) bytes)) (any_blank n 65536 (drop (min part (length bytes)) bytes)) test

-- one is not, and others are left
pub blank_more : (m n part : ℕ) (bytes : List ℕ) → m ≡ suc n → is_blank (take (min part (length bytes)) bytes) ≡ false
    → any_blank m part bytes ≡ any_blank n 65536 (drop (min part (length bytes)) bytes)
unfolding any_blank
blank_more m n part bytes e none =
    ap (λ (k : ℕ). any_blank k part bytes) e ∙ ap (λ (b : Bool). b || any_blank n 65536 (drop (min part (length bytes)) bytes)) none

-- none is left
pub blank_none : (m part : ℕ) (bytes : List ℕ) → m ≡ 0 → any_blank m part bytes ≡ false
unfolding any_blank
blank_none m part bytes e = ap (λ (k : ℕ). any_blank k part bytes) e

-- ---- how many bytes extents have

hole_sum_by : (at to : ℕ) (b : Bool) → nat_lt at to ≡ b → at ≤ to → at + bytes_of (if b then (to - at, 3) ∷ [] else []) ≡ to
hole_sum_by at to true e le = let lt : at < to = ltb-true at to e in omega (arith, lt)
hole_sum_by at to false e le = let over : to ≤ at = ltb-false at to e in omega (arith, le, over)

hole_sum : (at to : ℕ) → at ≤ to → at + bytes_of (gap_to Allocation at to) ≡ to
hole_sum at to le = hole_sum_by at to (nat_lt at to) refl le

data_sum_by : (at to : ℕ) (b : Bool) → nat_lt at to ≡ b → at ≤ to → at + bytes_of (if b then (to - at, 0) ∷ [] else []) ≡ to
data_sum_by at to true e le = let lt : at < to = ltb-true at to e in omega (arith, lt)
data_sum_by at to false e le = let over : to ≤ at = ltb-false at to e in omega (arith, le, over)

data_sum : (at to : ℕ) → at ≤ to → at + bytes_of (data_to at to) ≡ to
data_sum at to le = data_sum_by at to (nat_lt at to) refl le

pub bytes_both : (xs ys : List (ℕ × ℕ)) → bytes_of (xs ++ ys) ≡ bytes_of xs + bytes_of ys
bytes_both [] ys = omega arith
bytes_both (x ∷ xs) ys = let rest = bytes_both xs ys in omega (arith, rest)

between_least : (least most at : ℕ) → least ≤ between least most at
between_least least most at = omega arith

between_most : (least most at : ℕ) → least ≤ most → between least most at ≤ most
between_most least most at le = omega (arith, le)

run_sum : (at first last end gap rest : ℕ) → at + gap ≡ first → first ≤ last → last + rest ≡ end → at + (gap + ((last - first) + rest)) ≡ end
run_sum at first last end gap rest h le k = omega (arith, h, le, k)

-- the extents of a page go up to its end
extents_sum : (unit at end : ℕ) (runs : List Extent) → at ≤ end → at + bytes_of (extents_in Allocation unit at end runs) ≡ end
extents_sum unit at end [] le = hole_sum at end le
extents_sum unit at end (run ∷ runs) le =
    let first : ℕ = between at end (unit * run.first) in
    let last : ℕ = between first end (unit * (run.first + run.blocks)) in
    let at_first : at ≤ first = between_least at end (unit * run.first) in
    let first_end : first ≤ end = between_most at end (unit * run.first) le in
    let first_last : first ≤ last = between_least first end (unit * (run.first + run.blocks)) in
    let last_end : last ≤ end = between_most first end (unit * (run.first + run.blocks)) first_end in
    let both : bytes_of (gap_to Allocation at first ++ ((last - first, 0) ∷ extents_in Allocation unit last end runs)) ≡ bytes_of (gap_to Allocation at first) + ((last - first) + bytes_of (extents_in Allocation unit last end runs)) =
    bytes_both (gap_to Allocation at first) ((last - first, 0) ∷ extents_in Allocation unit last end runs) in
    ap (λ (n : ℕ). at + n) both
    ∙ run_sum at first last end (bytes_of (gap_to Allocation at first)) (bytes_of (extents_in Allocation unit last end runs)) (hole_sum at first at_first) first_last (extents_sum unit last end runs last_end)

two_sums : (offset len end was behind now : ℕ) → offset + was ≡ end → end + behind ≡ offset + len → now ≡ was + behind → now ≡ len
two_sums offset len end was behind now a b c = omega (arith, a, b, c)

-- and with what is behind that, up to the request's
pub spans_sum : (unit offset len blocks end : ℕ) (runs : List Extent) (was now : List (ℕ × ℕ)) → end ≡ between offset (offset + len) (unit * blocks)
    → was ≡ extents_in Allocation unit offset end runs → now ≡ was ++ data_to end (offset + len) → bytes_of now ≡ len
spans_sum unit offset len blocks end runs was now end_is was_is now_is =
    let least : offset ≤ end = subst (λ (n : ℕ). offset ≤ n) (sym end_is) (between_least offset (offset + len) (unit * blocks)) in
    let most : end ≤ offset + len = subst (λ (n : ℕ). n ≤ offset + len) (sym end_is) (between_most offset (offset + len) (unit * blocks) (omega arith)) in
    let front : offset + bytes_of was ≡ end = ap (λ (xs : List (ℕ × ℕ)). offset + bytes_of xs) was_is ∙ extents_sum unit offset end runs least in
    let back : end + bytes_of (data_to end (offset + len)) ≡ offset + len = data_sum end (offset + len) most in
    let both : bytes_of now ≡ bytes_of was + bytes_of (data_to end (offset + len)) = ap bytes_of now_is ∙ bytes_both was (data_to end (offset + len)) in
    two_sums offset len end (bytes_of was) (bytes_of (data_to end (offset + len))) (bytes_of now) front back both

-- ---- how many bytes chunks have

pub data_len : (x : ℕ × ℕ) → (x.1 == 0) ≡ true → content_len x ≡ 28 + x.0
data_len x test = ap (λ (b : Bool). if b then 28 + x.0 else 32) test

pub hole_len : (x : ℕ × ℕ) → (x.1 == 0) ≡ false → content_len x ≡ 32
hole_len x test = ap (λ (b : Bool). if b then 28 + x.0 else 32) test

least_by : (b : Bool) (n : ℕ) → 28 ≤ (if b then 28 + n else 32)
least_by true n = omega arith
least_by false n = omega arith

pub content_least : (x : ℕ × ℕ) → 28 ≤ content_len x
content_least x = least_by (x.1 == 0) x.0

pub pairs_len : (spans : List Span) → length (as_pairs spans) ≡ length spans
pairs_len [] = refl
pairs_len (x ∷ xs) = ap suc (pairs_len xs)

bytes_more : (i : ℕ) (d : Span) (spans : List Span) → i < length spans
    → bytes_of (as_pairs (drop i spans)) ≡ (get_or spans i d).len + bytes_of (as_pairs (drop (i + 1) spans))
bytes_more i d spans lt = ap (λ (l : List Span). bytes_of (as_pairs l)) (drop_more spans i d lt)

lens_more : (i : ℕ) (d : Span) (spans : List Span) → i < length spans
    → contents_len (as_pairs (drop i spans)) ≡ content_len ((get_or spans i d).len, (get_or spans i d).flags) + contents_len (as_pairs (drop (i + 1) spans))
lens_more i d spans lt = ap (λ (l : List Span). contents_len (as_pairs l)) (drop_more spans i d lt)

-- one more was counted, and all were
pub sum_more : (i : ℕ) (d : Span) (spans : List Span) (sum one whole : ℕ) → i < length spans → one ≡ content_len ((get_or spans i d).len, (get_or spans i d).flags)
    → sum + contents_len (as_pairs (drop i spans)) ≡ whole → sum + one + contents_len (as_pairs (drop (i + 1) spans)) ≡ whole
sum_more i d spans sum one whole lt is before =
    added sum one (content_len ((get_or spans i d).len, (get_or spans i d).flags)) (contents_len (as_pairs (drop i spans))) (contents_len (as_pairs (drop (i + 1) spans))) whole is (lens_more i d spans lt) before
  where
    added : (sum one here all rest whole : ℕ) → one ≡ here → all ≡ here + rest → sum + all ≡ whole → sum + one + rest ≡ whole
    added sum one here all rest whole a b c = omega (arith, a, b, c)

pub sum_all : (i : ℕ) (spans : List Span) (sum whole : ℕ) → length spans ≤ i → sum + contents_len (as_pairs (drop i spans)) ≡ whole → sum ≡ whole
sum_all i spans sum whole over before =
    let none : contents_len (as_pairs (drop i spans)) ≡ 0 = ap (λ (l : List Span). contents_len (as_pairs l)) (drop_all i spans over) in
    omega (arith, none, before)

contents_least : (i : ℕ) (spans : List Span) → i < length spans → 28 ≤ contents_len (as_pairs (drop i spans))
contents_least i [] lt = absurd (omega (arith, lt))
contents_least zero (x ∷ xs) lt = let least = content_least (x.len, x.flags) in le_trans least (le-add_right (content_len (x.len, x.flags)) (contents_len (as_pairs xs)))
contents_least (suc i) (x ∷ xs) lt = contents_least i xs (omega (arith, lt))

-- what is left stands behind what was put, with room for the head of a chunk
pub ahead_of : (i at place from : ℕ) (spans : List Span) → i < length spans → at + (contents_len (as_pairs (drop i spans)) + 4) ≤ place → place ≤ from → at + 32 ≤ from
ahead_of i at place from spans lt room behind =
    let least = contents_least i spans lt in
    far at (contents_len (as_pairs (drop i spans))) place from least room behind
  where
    far : (at n place from : ℕ) → 28 ≤ n → at + (n + 4) ≤ place → place ≤ from → at + 32 ≤ from
    far at n place from a b c = omega (arith, a, b, c)

pub room_more : (i : ℕ) (d : Span) (spans : List Span) (at end place : ℕ) → i < length spans → end ≡ at + content_len ((get_or spans i d).len, (get_or spans i d).flags)
    → at + (contents_len (as_pairs (drop i spans)) + 4) ≤ place → end + (contents_len (as_pairs (drop (i + 1) spans)) + 4) ≤ place
room_more i d spans at end place lt is room =
    left_over at end (content_len ((get_or spans i d).len, (get_or spans i d).flags)) (contents_len (as_pairs (drop i spans))) (contents_len (as_pairs (drop (i + 1) spans))) place is (lens_more i d spans lt) room
  where
    left_over : (at end here all rest place : ℕ) → end ≡ at + here → all ≡ here + rest → at + (all + 4) ≤ place → end + (rest + 4) ≤ place
    left_over at end here all rest place a b c = omega (arith, a, b, c)

-- the bytes that are left
pub all_more : (i : ℕ) (d : Span) (spans : List Span) (from whole : ℕ) → i < length spans → from + bytes_of (as_pairs (drop i spans)) ≡ whole
    → from + (get_or spans i d).len + bytes_of (as_pairs (drop (i + 1) spans)) ≡ whole
all_more i d spans from whole lt before =
    added from (get_or spans i d).len (bytes_of (as_pairs (drop i spans))) (bytes_of (as_pairs (drop (i + 1) spans))) whole (bytes_more i d spans lt) before
  where
    added : (from one all rest whole : ℕ) → all ≡ one + rest → from + all ≡ whole → from + one + rest ≡ whole
    added from one all rest whole a b = omega (arith, a, b)

pub inside_of : (i : ℕ) (d : Span) (spans : List Span) (from whole size : ℕ) → i < length spans → from + bytes_of (as_pairs (drop i spans)) ≡ whole → size ≡ whole → from + (get_or spans i d).len ≤ size
inside_of i d spans from whole size lt before same =
    let all = all_more i d spans from whole lt before in
    within from (get_or spans i d).len (bytes_of (as_pairs (drop (i + 1) spans))) whole size all same
  where
    within : (from one rest whole size : ℕ) → from + one + rest ≡ whole → size ≡ whole → from + one ≤ size
    within from one rest whole size a b = omega (arith, a, b)

pub short_of : (i : ℕ) (d : Span) (spans : List Span) (from place whole : ℕ) → i < length spans → from + bytes_of (as_pairs (drop i spans)) ≡ whole → place ≤ from → whole ≤ place + 1048576
    → (get_or spans i d).len ≤ 1048576
short_of i d spans from place whole lt before behind few =
    let all = all_more i d spans from whole lt before in
    few_of from (get_or spans i d).len (bytes_of (as_pairs (drop (i + 1) spans))) whole place all behind few
  where
    few_of : (from one rest whole place : ℕ) → from + one + rest ≡ whole → place ≤ from → whole ≤ place + 1048576 → one ≤ 1048576
    few_of from one rest whole place a b c = omega (arith, a, b, c)

-- ---- chunks that were put

-- what stands behind what was put is as it was
pub later : (old new added : List ℕ) (at end k : ℕ) → Puts old at added new end → end ≤ k → drop k new ≡ drop k old
later old new added at end k puts le =
    let on : k ≡ end + (k - end) = omega (arith, le) in
    ap (λ (n : ℕ). drop n new) on ∙ sym (drop-drop (k - end) end new) ∙ ap (drop (k - end)) puts.rest ∙ drop-drop (k - end) end old ∙ ap (λ (n : ℕ). drop n old) (sym on)

-- an extent was put as what it is
pub as_data : (old new : List ℕ) (at end cookie offset : ℕ) (last : Bool) (x : ℕ × ℕ) (given : List ℕ) → (x.1 == 0) ≡ true
    → Puts old at (data_chunk last cookie offset (take x.0 given)) new end → Puts old at (content_text cookie last offset x given) new end
as_data old new at end cookie offset last x given test puts =
    subst (λ (b : Bool). Puts old at (if b then data_chunk last cookie offset (take x.0 given) else hole_chunk last cookie offset x.0) new end) (sym test) puts

pub as_hole : (old new : List ℕ) (at end cookie offset : ℕ) (last : Bool) (x : ℕ × ℕ) (given : List ℕ) → (x.1 == 0) ≡ false
    → Puts old at (hole_chunk last cookie offset x.0) new end → Puts old at (content_text cookie last offset x given) new end
as_hole old new at end cookie offset last x given test puts =
    subst (λ (b : Bool). Puts old at (if b then data_chunk last cookie offset (take x.0 given) else hole_chunk last cookie offset x.0) new end) (sym test) puts

-- bytes of the buffer were put behind the head of their chunk
pub data_put : (old mid new : List ℕ) (at from n cookie offset place : ℕ) (p : Bool) → at + 28 ≤ from → from + n ≤ length old → Puts old at (data_head p cookie offset n) mid place → place ≡ at + 28
    → new ≡ paste mid place (drop from mid) (from + n - from) → Puts old at (data_chunk p cookie offset (take n (drop from old))) new (place + n)
data_put old mid new at from n cookie offset place p ahead inside head place_is pasted =
    let given : List ℕ = take n (drop from old) in
    let same : drop from mid ≡ drop from old = later old mid (data_head p cookie offset n) at place from head (omega (arith, ahead, place_is)) in
    let size : from + n - from ≡ n = omega arith in
    let is : new ≡ paste mid place (drop from old) n =
    pasted ∙ (ap (λ (k : ℕ). paste mid place (drop from mid) k) size ∙ ap (λ (l : List ℕ). paste mid place l n) same) in
    let mid_len : length mid ≡ length old = head.len in
    let there : place ≤ length mid = omega (arith, ahead, inside, place_is, mid_len) in
    let room : place + n ≤ length mid = omega (arith, ahead, inside, place_is, mid_len) in
    let enough : n ≤ length (drop from old) = omega (arith, inside, length-drop from old) in
    let long : length given ≡ n = length-take-le n (drop from old) enough in
    let behind : Puts mid place given new (place + n) = record {
      front = ap (take (place + n)) is ∙ take-paste mid place (drop from old) n there enough;
      rest = ap (drop (place + n)) is ∙ drop-paste mid place (drop from old) n there enough;
      ends = ap (λ (k : ℕ). place + k) (sym long);
      len = ap length is ∙ length-paste mid place (drop from old) n room enough;
    } in
    subst (λ (k : ℕ). Puts old at (data_head p cookie offset k ++ given) new (place + n)) (sym long) (puts_then old mid new (data_head p cookie offset n) given at place (place + n) head behind)

-- the bytes behind a head were put to the end of the buffer
pub moved : (old new : List ℕ) (n place : ℕ) → place + n ≡ length old → 28 + n ≤ length old → new ≡ paste old place (drop 28 old) (28 + n - 28) → drop place new ≡ take n (drop 28 old)
moved old new n place end room pasted =
    let size : 28 + n - 28 ≡ n = omega arith in
    let none : drop (place + n) old ≡ [] = drop_all (place + n) old (omega (arith, end)) in
    let front : length (take place old) ≡ place = length-take-le place old (omega (arith, end)) in
    let is : new ≡ take place old ++ take n (drop 28 old) =
    pasted ∙ (ap (λ (k : ℕ). paste old place (drop 28 old) k) size
    ∙ (ap (λ (l : List ℕ). (take place old ++ take n (drop 28 old)) ++ l) none ∙ append-nil (take place old ++ take n (drop 28 old)))) in
    ap (drop place) is ∙ drop_at (take place old) (take n (drop 28 old)) place front

-- the chunk of one extent more was put
pub chunks_more : (i : ℕ) (d : Span) (spans : List Span) (at end from here left cookie : ℕ) (old new whole : List ℕ) → i < length spans → left + (i + 1) ≡ length spans
    → Puts old at (content_text cookie (left == 0) here ((get_or spans i d).len, (get_or spans i d).flags) (drop from old)) new end → end ≤ from + (get_or spans i d).len
    → take at old ++ contents_text cookie here (as_pairs (drop i spans)) (drop from old) ≡ whole
    → take end new ++ contents_text cookie (here + (get_or spans i d).len) (as_pairs (drop (i + 1) spans)) (drop (from + (get_or spans i d).len) new) ≡ whole
chunks_more i d spans at end from here left cookie old new whole lt count puts le before =
    let x : ℕ × ℕ = ((get_or spans i d).len, (get_or spans i d).flags) in
    let n : ℕ = (get_or spans i d).len in
    let rest : List (ℕ × ℕ) = as_pairs (drop (i + 1) spans) in
    let given : List ℕ = drop from old in
    let one : List ℕ = content_text cookie (left == 0) here x given in
    let behind : drop (from + n) new ≡ drop n given = later old new one at end (from + n) puts le ∙ sym (drop-drop n from old) in
    let len : length rest ≡ left = pairs_len (drop (i + 1) spans) ∙ omega (arith, count, length-drop (i + 1) spans) in
    let cut : contents_text cookie here (as_pairs (drop i spans)) given ≡ one ++ contents_text cookie (here + n) rest (drop n given) =
    ap (λ (l : List Span). contents_text cookie here (as_pairs l) given) (drop_more spans i d lt)
    ∙ ap (λ (k : ℕ). content_text cookie (k == 0) here x given ++ contents_text cookie (here + n) rest (drop n given)) len in
    ap (λ (l : List ℕ). take end new ++ contents_text cookie (here + n) rest l) behind
    ∙ (ap (λ (l : List ℕ). l ++ contents_text cookie (here + n) rest (drop n given)) puts.front
    ∙ (append_assoc (take at old) one (contents_text cookie (here + n) rest (drop n given)) ∙ (ap (λ (l : List ℕ). take at old ++ l) (sym cut) ∙ before)))

-- all were
pub chunks_all : (i at from here cookie : ℕ) (spans : List Span) (out whole : List ℕ) → length spans ≤ i
    → take at out ++ contents_text cookie here (as_pairs (drop i spans)) (drop from out) ≡ whole → take at out ≡ whole
chunks_all i at from here cookie spans out whole over before =
    sym (append-nil (take at out)) ∙ (ap (λ (l : List Span). take at out ++ contents_text cookie here (as_pairs l) (drop from out)) (sym (drop_all i spans over)) ∙ before)

-- ---- which answer it is

pub in_chunks_is : (r : Request) (extents : List (ℕ × ℕ)) (given sent : List ℕ) → contents_len extents ≤ r.len → sent ≡ contents_text r.cookie r.offset extents given → sent ≡ shorter_text r extents given
in_chunks_is r extents given sent le is =
    is ∙ sym (ap (λ (b : Bool). if b then contents_text r.cookie r.offset extents given else data_chunk true r.cookie r.offset given) (le-leb (contents_len extents) r.len le))

pub in_one_is : (r : Request) (extents : List (ℕ × ℕ)) (given sent : List ℕ) → r.len < contents_len extents → sent ≡ data_chunk true r.cookie r.offset given → sent ≡ shorter_text r extents given
in_one_is r extents given sent lt is =
    is ∙ sym (ap (λ (b : Bool). if b then contents_text r.cookie r.offset extents given else data_chunk true r.cookie r.offset given) (lt-leb (contents_len extents) r.len lt))
