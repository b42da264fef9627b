-- One write after another is one write of both.
use Rattle.std.proofs.Common.{◌≡◌, ℕ, ◌+◌, ◌-◌, ◌≤◌, Bool, true, false, List, [], ◌++◌, length, take, drop, replicate, refl, sym, ap, subst, ◌∙◌, append_assoc, arith}
use Rattle.std.proofs.lemmas.List.{take_at, drop_at, take_all, drop_all, drop-drop, append-nil, length-append, length-take, length-drop}
use borrow.Rule.Slice.PartMut.{put_mid, post_of}
use Rattle.nbd_wire.specs.declared.TheConstants.{INFO_EXPORT, INFO_BLOCK_SIZE}
use Rattle.nbd_wire.specs.declared.writing.ReplyType.TheVariants.{Context}
use Rattle.nbd_wire.specs.Contexts.{allocation, context_data, since}
use Rattle.nbd_wire.specs.Replies.{Puts, option_reply, option_reply_head, export_info, export_reply, padding, block_size_info, server_data}
use Rattle.nbd_wire.specs.Numbers.{bytes}
use Rattle.nbd_wire.proofs.Fields.{width2, width4, width8}

further : (a b : List ℕ) (j d k : ℕ) → drop j b ≡ drop j a → k ≡ j + d → drop k b ≡ drop k a
further a b j d k e h = rw h (sym (drop-drop d j b) ∙ ap (drop d) e ∙ drop-drop d j a)

pub puts_then : (a b c x y : List ℕ) (i j k : ℕ) → Puts a i x b j → Puts b j y c k → Puts a i (x ++ y) c k
puts_then a b c x y i j k p q = record {
  front = q.front ∙ ap (λ (t : List ℕ). t ++ y) p.front ∙ append_assoc (take i a) x y;
  rest = q.rest ∙ further a b j (k - j) k p.rest (omega (arith, q.ends));
  ends = omega (arith, p.ends, q.ends, length-append x y);
  len = q.len ∙ p.len;
}

-- a number that is written at a place
pub puts_one : (n i : ℕ) (old part x : List ℕ) → length x ≡ n → i + n ≤ length old → part ≡ x ++ drop n (take (length old - i) (drop i old)) → Puts old i x (put_mid i (length old - i) old part) (i + n)
puts_one n i old part x len le e =
    let rest : List ℕ = drop n (take (length old - i) (drop i old)) in
    let whole : put_mid i (length old - i) old part ≡ (take i old ++ x) ++ (rest ++ post_of i (length old - i) old) =
    ap (λ (y : List ℕ). take i old ++ (y ++ post_of i (length old - i) old)) e ∙ simp append_assoc in
    let front : length (take i old ++ x) ≡ i + n = omega (arith, length-append (take i old) x, length-take i old) in
    let part_len : length part ≡ length old - i = ap length e ∙ length-append x rest ∙ omega (arith, length-drop n (take (length old - i) (drop i old)), length-take (length old - i) (drop i old), length-drop i old) in
    let tail : length (take (length old - i) (drop i old)) ≡ length old - i = omega (arith, length-take (length old - i) (drop i old), length-drop i old) in
    let all : take (length old - i) (drop i old) ≡ drop i old = take_all (length old - i) (drop i old) (omega (arith, length-drop i old)) in
    let none : post_of i (length old - i) old ≡ [] = drop_all (length old - i) (drop i old) (omega (arith, length-drop i old)) in
    let after : drop (i + n) (put_mid i (length old - i) old part) ≡ drop (i + n) old =
    ap (drop (i + n)) whole ∙ drop_at (take i old ++ x) (rest ++ post_of i (length old - i) old) (i + n) front
    ∙ ap (λ (y : List ℕ). rest ++ y) none ∙ append-nil rest ∙ ap (drop n) all ∙ drop-drop n i old in
    record {
      front = ap (take (i + n)) whole ∙ take_at (take i old ++ x) (rest ++ post_of i (length old - i) old) (i + n) front;
      rest = after;
      ends = omega arith;
      len = omega (arith, part_len, length-append (take i old) (part ++ post_of i (length old - i) old), length-append part (post_of i (length old - i) old), length-take i old, length-drop (length old - i) (drop i old), length-drop i old);
    }

-- bytes that are put into the middle
pub puts_part : (i n : ℕ) (old part x : List ℕ) → part ≡ x → n ≡ length x → i + n ≤ length old → Puts old i x (put_mid i n old part) (i + length x)
puts_part i n old part x part_is len le =
    let front : length (take i old ++ x) ≡ i + n = omega (arith, length-append (take i old) x, length-take i old) in
    let whole : put_mid i n old part ≡ (take i old ++ x) ++ post_of i n old =
    ap (λ (y : List ℕ). take i old ++ (y ++ post_of i n old)) part_is ∙ sym (append_assoc (take i old) x (post_of i n old)) in
    let end : i + length x ≡ i + n = omega arith in
    record {
      front = ap (λ (e : ℕ). take e (put_mid i n old part)) end ∙ ap (take (i + n)) whole ∙ take_at (take i old ++ x) (post_of i n old) (i + n) front;
      rest =
          ap (λ (e : ℕ). drop e (put_mid i n old part)) end ∙ ap (drop (i + n)) whole ∙ drop_at (take i old ++ x) (post_of i n old) (i + n) front ∙ drop-drop n i old
          ∙ ap (λ (e : ℕ). drop e old) (sym end);
      ends = refl;
      len = ap length whole ∙ length-append (take i old ++ x) (post_of i n old) ∙ omega (arith, front, length-drop n (drop i old), length-drop i old);
    }

-- the answer to EXPORT_NAME, where no zeroes are wanted, and where they are
pub puts_unpadded : (old new : List ℕ) (at size flags end : ℕ) (b : Bool) → b ≡ true → Puts old at (bytes 8 size ++ bytes 2 flags) new end → Puts old at (export_reply size flags b) new end
unfolding export_reply padding
puts_unpadded old new at size flags end b e p =
    let P : List ℕ → Type 0 = λ x. Puts old at x new end in
    let Q : Bool → Type 0 = λ c. Puts old at (export_reply size flags c) new end in
    subst Q (sym e) (subst P (sym (append-nil (bytes 8 size ++ bytes 2 flags))) p)

pub puts_padded : (old new : List ℕ) (at size flags end : ℕ) (b : Bool) → b ≡ false → Puts old at ((bytes 8 size ++ bytes 2 flags) ++ replicate 124 0) new end → Puts old at (export_reply size flags b) new end
unfolding export_reply padding
puts_padded old new at size flags end b e p = let Q : Bool → Type 0 = λ c. Puts old at (export_reply size flags c) new end in subst Q (sym e) p

-- the reply that tells the context
pub puts_context : (old a b new : List ℕ) (at i j end option id : ℕ) → Puts old at (option_reply_head option Context 19) a i → Puts a i (bytes 4 id) b j
    → Puts b j allocation new end → Puts old at (option_reply option Context (context_data id allocation)) new end
unfolding context_data
puts_context old a b new at i j end option id p q r =
    let told : List ℕ = bytes 4 id ++ allocation in
    let len : 19 ≡ length told = omega (arith, length-append (bytes 4 id) allocation, width4.len id) in
    puts_then old a new (option_reply_head option Context (length told)) told at i end
    (subst (λ (n : ℕ). Puts old at (option_reply_head option Context n) a i) len p) (puts_then a b new (bytes 4 id) allocation i j end q r)

-- the same of one that tells since which volume
pub puts_since : (old a b c new : List ℕ) (at i j k end option code : ℕ) (id : List ℕ) → Puts old at (option_reply_head option Context (19 + length id)) a i → Puts a i (bytes 4 code) b j
    → Puts b j since c k → Puts c k id new end → Puts old at (option_reply option Context (context_data code (since ++ id))) new end
unfolding context_data
puts_since old a b c new at i j k end option code id p q r s =
    let told : List ℕ = bytes 4 code ++ (since ++ id) in
    let len : 19 + length id ≡ length told = omega (arith, length-append (bytes 4 code) (since ++ id), length-append since id, width4.len code) in
    puts_then old a new (option_reply_head option Context (length told)) told at i end
    (subst (λ (n : ℕ). Puts old at (option_reply_head option Context n) a i) len p)
    (puts_then a b new (bytes 4 code) (since ++ id) i j end q (puts_then b c new since id j k end r s))

-- ---- how long the parts of an answer are

pub length-export_info : (size flags : ℕ) → length (export_info size flags) ≡ 12
unfolding export_info
length-export_info size flags =
    let a = width2.len INFO_EXPORT in let b = width8.len size in let c = width2.len flags in
    simp length-append (omega arith)

pub length-block_size_info : (least preferred most : ℕ) → length (block_size_info least preferred most) ≡ 14
unfolding block_size_info
length-block_size_info least preferred most =
    let a = width2.len INFO_BLOCK_SIZE in let b = width4.len least in let c = width4.len preferred in let d = width4.len most in
    simp length-append (omega arith)

-- a name behind its length
pub length-server_data : (name : List ℕ) → length (server_data name) ≡ 4 + length name
unfolding server_data
length-server_data name = omega (arith, length-append (bytes 4 (length name)) name, width4.len (length name))
