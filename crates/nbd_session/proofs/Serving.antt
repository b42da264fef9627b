-- What is sent for a request that the pool answered.
use Rattle.std.proofs.Common.{◌≡◌, ℕ, ◌+◌, ◌-◌, ◌/◌, ◌%◌, ◌<◌, ◌≤◌, Bool, true, false, true≢false, List, ◌++◌, length, take, drop, Option, Some, None, inl, inr, refl, sym, ap, subst, ◌∙◌, arith}
use Rattle.std.specs.Prelude.{IfSome, MatchBool, nat_lt}
use Rattle.std.specs.List.{concat}
use Rattle.std.proofs.Math.Seq.{take-add}
use Rattle.std.proofs.lemmas.Bool.{cases_lt, le-ltb, lt-ltb}
use Rattle.std.proofs.lemmas.List.{take_all, take_at, drop_at, length-take, length-drop}
use borrow.Rule.Slice.PartMut.{put_mid, post_of}
use Rattle.tp_model.specs.declared.refusal.NbdError.TheVariants.{Invalid}
use Rattle.tp_model.specs.declared.refusal.Refusal.{Refusal}
use Rattle.tp_model.specs.Refusals.{nbd_code, nbd_error}
use Rattle.tp_model.specs.Sectors.{Sector, sectors_of}
use Rattle.tp_model.specs.Slots.{BlockSlot, listed}
use Rattle.tp_model.specs.Calls.{Answer, Read, Walk, Gave, Listed, Refused}
use Rattle.tp_model.specs.Clauses.{Meets, PoolCall, View}
use Rattle.tp_model.proofs.DiskLaws.{concat-chopped}
use Rattle.nbd_wire.specs.declared.Kind.{Kind}
use Rattle.nbd_wire.specs.declared.Kind.TheVariants.{Requests}
use Rattle.nbd_wire.specs.declared.Request.{Request}
use Rattle.nbd_wire.specs.Grammar.{Message, command, IsFrame, IsRequest}
use Rattle.nbd_wire.specs.Chunks.{data_chunk, data_head, error_chunk}
use Rattle.nbd_wire.specs.Reading.{whole_len}
use Rattle.nbd_wire.specs.Replies.{Puts}
use Rattle.nbd_session.specs.declared.phase.Course.TheVariants.{Listens}
use Rattle.nbd_session.specs.declared.phase.Manner.{Manner}
use Rattle.nbd_session.specs.declared.phase.Phase.TheVariants.{Transmission}
use Rattle.nbd_session.specs.declared.request.Verdict.{Verdict}
use Rattle.nbd_session.specs.declared.request.Verdict.TheVariants as verdicts
use Rattle.nbd_session.specs.Requests.{verdict_in}
use Rattle.nbd_session.specs.Holes.{IsHoled, has_blank}
use Rattle.nbd_session.specs.Status.{IsAllocation, TellsSince, first_block, unit_of}
use Rattle.nbd_session.specs.Session.{AnswersText, Compares, Describes, IsDescribed, Performs, ReadsLong, SeeksFrom, SeeksHoles, Serves, TellsGiven, Walks}

-- bytes of whole sectors are those of their sectors
pub bytes_again : (bytes : List ℕ) → length bytes % 512 ≡ 0 → concat (sectors_of bytes) ≡ bytes
bytes_again bytes h = concat-chopped (length bytes / 512) bytes (omega arith)

-- room for the simple reply to a READ, short or long
pub room_of_read : (len room : ℕ) → len ≤ 1048576 → 65564 ≤ room → (65536 ≤ len → 2097172 ≤ room) → 16 + len ≤ room
room_of_read len room most short long = elim (cases_lt len 65536) [
  | inl less ↦ omega (arith, less, short)
  | inr more ↦ let whole = long more in omega (arith, most, whole)
]

-- the place of the data behind a reply's head
pub room_is : (at len : ℕ) (out : List ℕ) → at + len ≤ length out → length (take (at + len - at) (drop at out)) ≡ len
room_is at len out le = omega (arith, le, length-take (at + len - at) (drop at out), length-drop at out)

-- what was put in the middle is found there
pub middle : (i n len : ℕ) (old part : List ℕ) → i ≤ length old → length part ≡ len → take len (drop i (put_mid i n old part)) ≡ part
middle i n len old part le len_is =
    ap (take len) (drop_at (take i old) (part ++ post_of i n old) i (omega (arith, length-take i old))) ∙ take_at part (post_of i n old) len len_is

-- the head of the one chunk of a reply is put before its data, which stand there already
pub behind_head : (cookie offset len : ℕ) (old new : List ℕ) (end : ℕ) → 28 + len ≤ length old → Puts old 0 (data_head true cookie offset len) new end → end ≡ 28
    → take (28 + len) new ≡ data_chunk true cookie offset (take len (drop 28 old))
behind_head cookie offset len old new end room h is =
    let given = take len (drop 28 old) in
    let len_is : len ≡ length given = omega (arith, room, length-take len (drop 28 old), length-drop 28 old) in
    let P : ℕ → Type 0 = λ n. (take n new ≡ data_head true cookie offset len) × (drop n new ≡ drop n old) in
    let at : (take 28 new ≡ data_head true cookie offset len) × (drop 28 new ≡ drop 28 old) = subst P is (h.front, h.rest) in
    take-add 28 len new ∙ (ap (λ (x : List ℕ). x ++ take len (drop 28 new)) at.0
    ∙ (ap (λ (x : List ℕ). data_head true cookie offset len ++ take len x) at.1 ∙ ap (λ (n : ℕ). data_head true cookie offset n ++ given) len_is))

-- a test that is known
pub matched : (X Y : Type 0) (b : Bool) → b ≡ true → X → MatchBool b X Y
matched X Y true e x = x
matched X Y false e x = absurd (true≢false (sym e))

pub unmatched : (X Y : Type 0) (b : Bool) → b ≡ false → Y → MatchBool b X Y
unmatched X Y true e y = absurd (true≢false e)
unmatched X Y false e y = y

pub if_matched : (o : Option ℕ) (X Y : ℕ → Type 0) (b : Bool) → b ≡ true → IfSome o X → IfSome o (λ n. MatchBool b (X n) (Y n))
if_matched None X Y b e h = tt
if_matched (Some n) X Y b e h = matched (X n) (Y n) b e h

pub if_unmatched : (o : Option ℕ) (X Y : ℕ → Type 0) (b : Bool) → b ≡ false → IfSome o Y → IfSome o (λ n. MatchBool b (X n) (Y n))
if_unmatched None X Y b e h = tt
if_unmatched (Some n) X Y b e h = unmatched (X n) (Y n) b e h

-- a text that has one whole frame and no more is that frame
pub frame_of_text : (kind : Kind) (m : Message) (text : List ℕ) → whole_len kind text ≡ length text → IsFrame kind m (take (whole_len kind text) text) → IsFrame kind m text
frame_of_text kind m text whole is = subst (IsFrame kind m) (take_all (whole_len kind text) text (omega (arith, whole))) is

module _ {D : Type 0} (view : View D) where
  -- READs are told in two ways: how bytes are, and how any answer is
  pub read_gave : (reply : Answer → List ℕ) (tell : List ℕ → List ℕ) → ((sectors : List Sector) → reply (Gave sectors) ≡ tell (concat sectors))
      → (old new : D) (id sector len : ℕ) (room bytes shown sent : List ℕ) → len % 512 ≡ 0 → length room ≡ len → length bytes ≡ len
      → Meets view old new (Read id sector (length room / 512)) (Gave (sectors_of bytes)) → sent ≡ tell shown → shown ≡ bytes
      → Performs view.outline (PoolCall view) (Read id sector (len / 512)) reply old sent new
  read_gave reply tell told old new id sector len room bytes shown sent whole room_is bytes_is h sent_is shown_is = record {
    answer = Gave (sectors_of bytes);
    calls = let P : ℕ → Type 0 = λ n. Meets view old new (Read id sector (n / 512)) (Gave (sectors_of bytes)) in subst P room_is h;
    sent_is = sent_is ∙ (ap tell (shown_is ∙ sym (bytes_again bytes (ap (λ (n : ℕ). n % 512) bytes_is ∙ whole))) ∙ sym (told (sectors_of bytes)));
  }

  pub read_refused : (reply : Answer → List ℕ) (old new : D) (id sector len : ℕ) (room sent : List ℕ) (reason : Refusal) → length room ≡ len
      → Meets view old new (Read id sector (length room / 512)) (Refused reason) → sent ≡ reply (Refused reason)
      → Performs view.outline (PoolCall view) (Read id sector (len / 512)) reply old sent new
  read_refused reply old new id sector len room sent reason room_is h sent_is = record {
    answer = Refused reason;
    calls = let P : ℕ → Type 0 = λ n. Meets view old new (Read id sector (n / 512)) (Refused reason) in subst P room_is h;
    sent_is = sent_is;
  }

  -- a long READ in chunks, by how its bytes were told
  pub gave_long : (old mid new : D) (id unit : ℕ) (r : Request) (room bytes shown sent : List ℕ) → r.len % 512 ≡ 0 → length room ≡ r.len → length bytes ≡ r.len
      → unit ≡ unit_of (view.outline old).geometry → Meets view old mid (Read id (r.offset / 512) (length room / 512)) (Gave (sectors_of bytes))
      → TellsGiven view.outline (PoolCall view) id unit r shown mid sent new → shown ≡ bytes → ReadsLong view.outline (PoolCall view) id r old sent new
  gave_long old mid new id unit r room bytes shown sent whole room_is bytes_is unit_is h told shown_is =
      let P : ℕ → Type 0 = λ n. Meets view old mid (Read id (r.offset / 512) (n / 512)) (Gave (sectors_of bytes)) in
      let U : ℕ → Type 0 = λ n. TellsGiven view.outline (PoolCall view) id n r shown mid sent new in
      let G : List ℕ → Type 0 = λ given. TellsGiven view.outline (PoolCall view) id (unit_of (view.outline old).geometry) r given mid sent new in
      record {
        answer = Gave (sectors_of bytes);
        asked = mid;
        calls = subst P room_is h;
        is_given = subst G (shown_is ∙ sym (bytes_again bytes (ap (λ (n : ℕ). n % 512) bytes_is ∙ whole))) (subst U unit_is told);
      }

  pub refused_long : (old new : D) (id : ℕ) (r : Request) (room sent : List ℕ) (reason : Refusal) → length room ≡ r.len → Meets view old new (Read id (r.offset / 512) (length room / 512)) (Refused reason)
      → sent ≡ error_chunk (nbd_code (nbd_error reason)) r.cookie → ReadsLong view.outline (PoolCall view) id r old sent new
  refused_long old new id r room sent reason room_is h sent_is =
      let P : ℕ → Type 0 = λ n. Meets view old new (Read id (r.offset / 512) (n / 512)) (Refused reason) in
      record { answer = Refused reason; asked = new; calls = subst P room_is h; is_given = (sent_is, refl) }

  -- where no piece of the bytes is all zero
  pub told_whole : (id unit : ℕ) (r : Request) (given sent : List ℕ) (p : D) → has_blank r given ≡ false → sent ≡ data_chunk true r.cookie r.offset given
      → TellsGiven view.outline (PoolCall view) id unit r given p sent p
  told_whole id unit r given sent p none is = unmatched _ _ (has_blank r given) none (is, refl)

  -- the bytes of a long READ by what a walk listed
  pub sought : (p : D) (id unit from : ℕ) (r : Request) (given : List ℕ) (slots shown : List BlockSlot) (sent : List ℕ) → unit ≡ unit_of (view.outline p).geometry → from ≡ first_block unit r → from < 16777216
      → Meets view p p (Walk id from) (Listed (listed slots)) → shown ≡ slots → IsHoled unit r given (listed shown) sent
      → SeeksFrom view.outline (PoolCall view) id (unit_of (view.outline p).geometry) r given p sent p
  sought p id unit from r given slots shown sent unit_is from_is low walked shown_is holed =
      let own : ℕ = unit_of (view.outline p).geometry in
      let first_is : from ≡ first_block own r = from_is ∙ ap (λ (u : ℕ). first_block u r) unit_is in
      let first_low : first_block own r < 16777216 = subst (λ (n : ℕ). n < 16777216) first_is low in
      let seeks : SeeksHoles view.outline (PoolCall view) id own r given p sent p = record {
        answer = Listed (listed slots);
        calls = subst (λ (n : ℕ). Meets view p p (Walk id n) (Listed (listed slots))) first_is walked;
        is_sought = subst (λ (u : ℕ). IsHoled u r given (listed slots) sent) unit_is (subst (λ (xs : List BlockSlot). IsHoled unit r given (listed xs) sent) shown_is holed);
      } in
      matched _ _ (nat_lt (first_block own r) 16777216) (lt-ltb (first_block own r) 16777216 first_low) seeks

  -- a BLOCK_STATUS by what a walk over the volume told
  pub walked_so : (x : Manner) (old mid new : D) (id unit from : ℕ) (r : Request) (answer : Answer) (sent : List ℕ) → unit ≡ unit_of (view.outline old).geometry → from ≡ first_block unit r → from < 16777216
      → Meets view old mid (Walk id from) answer → IsDescribed view.outline (PoolCall view) x unit from r answer mid sent new → Describes view.outline (PoolCall view) x id r old sent new
  walked_so x old mid new id unit from r answer sent unit_is from_is low walked told =
      let own : ℕ = unit_of (view.outline old).geometry in
      let first_is : from ≡ first_block own r = from_is ∙ ap (λ (u : ℕ). first_block u r) unit_is in
      let first_low : first_block own r < 16777216 = subst (λ (n : ℕ). n < 16777216) first_is low in
      let there : nat_lt (first_block own r) 16777216 ≡ true = lt-ltb (first_block own r) 16777216 first_low in
      let from_first : IsDescribed view.outline (PoolCall view) x unit (first_block own r) r answer mid sent new =
      subst (λ (n : ℕ). IsDescribed view.outline (PoolCall view) x unit n r answer mid sent new) first_is told in
      let walks : Walks view.outline (PoolCall view) x id r old sent new = record {
        answer = answer;
        walked = mid;
        calls = subst (λ (n : ℕ). Meets view old mid (Walk id n) answer) first_is walked;
        is_described = subst (λ (u : ℕ). IsDescribed view.outline (PoolCall view) x u (first_block own r) r answer mid sent new) unit_is from_first;
      } in
      subst (λ (b : Bool). MatchBool b (Walks view.outline (PoolCall view) x id r old sent new) ((sent ≡ error_chunk (nbd_code Invalid) r.cookie) × (new ≡ old))) (sym there) walks

  -- by what it listed
  pub described : (x : Manner) (old mid new : D) (id unit from : ℕ) (r : Request) (slots shown : List BlockSlot) (sent : List ℕ) → unit ≡ unit_of (view.outline old).geometry → from ≡ first_block unit r → from < 16777216
      → Meets view old mid (Walk id from) (Listed (listed slots)) → shown ≡ slots → IsDescribed view.outline (PoolCall view) x unit from r (Listed (listed shown)) mid sent new
      → Describes view.outline (PoolCall view) x id r old sent new
  described x old mid new id unit from r slots shown sent unit_is from_is low walked shown_is told =
      walked_so x old mid new id unit from r (Listed (listed slots)) sent unit_is from_is low walked
      (subst (λ (xs : List BlockSlot). IsDescribed view.outline (PoolCall view) x unit from r (Listed (listed xs)) mid sent new) shown_is told)

  -- what is told of listed slots, where nothing is to be told since an older volume, and where something is
  pub not_since : (x : Manner) (pool : D) (unit from : ℕ) (r : Request) (slots : List (ℕ × ℕ)) (sent : List ℕ) → 16777216 ≤ x.since → IsAllocation true unit r slots sent
      → IsDescribed view.outline (PoolCall view) x unit from r (Listed slots) pool sent pool
  not_since x pool unit from r slots sent le told =
      subst (λ (b : Bool). MatchBool b (Compares view.outline (PoolCall view) x unit from r slots pool sent pool) (IsAllocation true unit r slots sent × (pool ≡ pool))) (sym (le-ltb x.since 16777216 le)) (told, refl)

  since_one : (x : Manner) (old new : D) (unit from : ℕ) (r : Request) (slots : List (ℕ × ℕ)) (sent : List ℕ) → x.since < 16777216 → Compares view.outline (PoolCall view) x unit from r slots old sent new
      → IsDescribed view.outline (PoolCall view) x unit from r (Listed slots) old sent new
  since_one x old new unit from r slots sent low compares =
      subst (λ (b : Bool). MatchBool b (Compares view.outline (PoolCall view) x unit from r slots old sent new) (IsAllocation true unit r slots sent × (new ≡ old))) (sym (lt-ltb x.since 16777216 low)) compares

  -- a walk over the older volume listed slots, or was refused
  pub compared : (x : Manner) (old new : D) (id unit from : ℕ) (r : Request) (slots : List (ℕ × ℕ)) (seen shown : List BlockSlot) (sent : List ℕ) → id ≡ x.since → x.since < 16777216
      → Meets view old new (Walk id from) (Listed (listed seen)) → shown ≡ seen → TellsSince x.tells_blocks unit r (listed shown) slots sent
      → IsDescribed view.outline (PoolCall view) x unit from r (Listed slots) old sent new
  compared x old new id unit from r slots seen shown sent id_is low walked shown_is told = since_one x old new unit from r slots sent low (record {
    answer = Listed (listed seen);
    calls = subst (λ (n : ℕ). Meets view old new (Walk n from) (Listed (listed seen))) id_is walked;
    is_compared = subst (λ (xs : List BlockSlot). TellsSince x.tells_blocks unit r (listed xs) slots sent) shown_is told;
  })

  pub compare_refused : (x : Manner) (old new : D) (id unit from : ℕ) (r : Request) (slots : List (ℕ × ℕ)) (reason : Refusal) (sent : List ℕ) → id ≡ x.since → x.since < 16777216
      → Meets view old new (Walk id from) (Refused reason) → sent ≡ error_chunk (nbd_code (nbd_error reason)) r.cookie
      → IsDescribed view.outline (PoolCall view) x unit from r (Listed slots) old sent new
  compare_refused x old new id unit from r slots reason sent id_is low walked sent_is = since_one x old new unit from r slots sent low (record {
    answer = Refused reason;
    calls = subst (λ (n : ℕ). Meets view old new (Walk n from) (Refused reason)) id_is walked;
    is_compared = sent_is;
  })

  -- where it was described, so it was served
  pub described_served : (o : Option ℕ) (sent : ℕ → List ℕ) (pool : D) (volume size : ℕ) (x : Manner) (r : Request) (payload : List ℕ) → verdict_in x size r ≡ verdicts.Status
      → IfSome o (λ n. Describes view.outline (PoolCall view) x volume r pool (sent n) pool)
      → IfSome o (λ n. Serves view.outline (PoolCall view) (verdict_in x size r) volume size x r payload pool (sent n) (Transmission volume size (Listens x)) pool)
  described_served None sent pool volume size x r payload is h = tt
  described_served (Some n) sent pool volume size x r payload is h =
      subst (λ (v : Verdict). Serves view.outline (PoolCall view) v volume size x r payload pool (sent n) (Transmission volume size (Listens x)) pool) (sym is) (h, refl)

  -- a request that was served where it could be, as the text that it is
  pub served_text : (o : Option ℕ) (sent : ℕ → List ℕ) (pool : D) (volume size : ℕ) (x : Manner) (r : Request) (payload text : List ℕ) → whole_len Requests text ≡ length text
      → IsRequest (take (whole_len Requests text) text) r payload
      → IfSome o (λ n. Serves view.outline (PoolCall view) (verdict_in x size r) volume size x r payload pool (sent n) (Transmission volume size (Listens x)) pool)
      → IfSome o (λ n. AnswersText view.outline (PoolCall view) Requests (Transmission volume size (Listens x)) text pool (sent n) (Transmission volume size (Listens x)) pool)
  served_text None sent pool volume size x r payload text whole is h = tt
  served_text (Some n) sent pool volume size x r payload text whole is h =
      record { message = command r payload; frame = frame_of_text Requests (command r payload) text whole is; answer = h }
