-- The first session, frame by frame.
use Rattle.std.proofs.Common.{◌≡◌, ◌≢◌, ◌⊎◌, inl, inr, ℕ, ◌/◌, ◌<◌, ◌≤◌, ◌^◌, true, false, cond, Bool, None, Some, Option, List, [], ◌∷◌, ◌++◌, length, take, drop, refl, sym, ap, subst, ◌∙◌, arith}
use Rattle.std.specs.Prelude.{◌==◌, MatchBool, MatchOption, not}
use Rattle.std.specs.Option.{unwrap_or}
use Rattle.std.specs.List.{concat, flat_map}
use Rattle.std.specs.Fmt.{decimal, digits}
use Rattle.std.specs.Ordering.{nat_cmp}
use Rattle.std.specs.FinMap.{FinMap}
use Rattle.std.proofs.lemmas.Fmt.{decimal_injective}
use Rattle.std.proofs.lemmas.List.{append-nil, drop_at, length-append, take_at}
use Rattle.tp_model.specs.declared.mode.Mode.{Mode}
use Rattle.tp_model.specs.declared.mode.Mode.TheVariants as mode
use Rattle.tp_model.specs.declared.refusal.Refusal.{Refusal}
use Rattle.tp_model.specs.declared.refusal.Refusal.TheVariants.{Failed, Fault, NoMetadataSpace, NoSuchDevice}
use Rattle.tp_model.specs.Refusals.{nbd_code, nbd_error}
use Rattle.tp_model.specs.Sectors.{sectors_of}
use Rattle.tp_model.specs.Pool.{PlainPool, outline_of, volume_sectors}
use Rattle.tp_model.specs.Calls.{Call, Answer, Done, Edits, Flush, Found, Gave, HasCause, Hold, Line, holds_after, Makes, NextId, Read, Refused, Sized, Listed, Takes, VolumeBlocks, Write, after_refusal, is_failed, refusal_of, reply, volume_blocks}
use Rattle.tp_model.proofs.DiskLaws.{concat-chopped}
use Rattle.nbd_wire.specs.declared.Kind.{Kind}
use Rattle.nbd_wire.specs.declared.Kind.TheVariants as kinds
use Rattle.nbd_wire.specs.declared.TheConstants.{MAX_OPTION, OPTION_GO, COMMAND_READ, COMMAND_WRITE, COMMAND_DISC, COMMAND_FLUSH}
use Rattle.nbd_wire.specs.Numbers.{bytes, number}
use Rattle.nbd_wire.specs.Grammar.{Message, client_flags, client_option, command, FitsRequest, IsFrame}
use Rattle.nbd_wire.specs.Replies.{IsInfo, info_text, simple_reply}
use Rattle.nbd_wire.proofs.Fields.{field_drops, width2, width4}
use Rattle.nbd_wire.proofs.Frames.{one_frame}
use Rattle.nbd_session.specs.declared.phase.Course.TheVariants.{Listens}
use Rattle.nbd_session.specs.declared.phase.Phase.{Phase}
use Rattle.nbd_session.specs.declared.phase.Phase.TheVariants.{Options, Transmission, Ended}
use Rattle.nbd_session.specs.declared.phase.Profile.TheVariants.{Strict}
use Rattle.nbd_session.specs.declared.phase.Terms.{Terms}
use Rattle.nbd_session.specs.Requests.{bytes_of_blocks}
use Rattle.nbd_session.specs.Session.{State, Outcome, kind_of, older_in, outcome, Answers, AsksFor, Finds, Holds, IsHeld, IsInvalid, IsSized, IsValid, LooksFor, Means, Settles, Sizes, Tells, Trades, go, manner_of, reply_to, terms_of, transmission_flags}
use Rattle.nbd_session.specs.Talk.{Talks, waits, over, stops, works, goes}
use Rattle.nbd_session.proofs.Turning.{talks_likewise}
use Rattle.tp_users.specs.Users.{Bears, users_geometry}
use Rattle.tp_users.specs.First.{Counted, CountedCall, IsFirstAnswer, whole, no_volume, not_written, not_read, not_flushed, outline_of_counted, FirstIsAnswered, go_answer, go_data, request, flags_text, go_text, write_text, read_text, flush_text, disc_text}
use Rattle.tp_pool.specs.Bounds.{BoundLeavesRoom}
use Rattle.tp_pool.specs.Held.{HasUse}
use Rattle.tp_users.proofs.Plain.{blank, blank_leaves, blank_sectors, least_is, put_is_borne, readable, there_is, writable}

abbrev Talk : Phase → List ℕ → Counted → List ℕ → State → Counted → Type 0
Talk = Talks outline_of_counted CountedCall

-- ---- one frame after the other

record Next (phase : Phase) (m : Message) (rest : List ℕ) (p : Counted) (sent : List ℕ) (new : State) (p' : Counted) : Type 0 where
  first : List ℕ
  others : List ℕ
  mid : Phase
  q : Counted
  answer : Answers outline_of_counted CountedCall phase m p first mid q
  talk : Talk mid rest q others new p'
  sent_is : sent ≡ first ++ others

kinds_are : (a b : Kind) → Some a ≡ Some b → a ≡ b
kinds_are a b e = ap (λ (o : Option Kind). unwrap_or o a) e

at_frame : (kind : Kind) (m : Message) (frame rest : List ℕ) {phase : Phase} {text sent : List ℕ} {p p' : Counted} {new : State}
    → kind_of phase ≡ Some kind → IsFrame kind m frame → text ≡ frame ++ rest → Talk phase text p sent new p' → Next phase m rest p sent new p'
at_frame kind m frame rest speaks is text_is (waits k e part) =
    absurd (part m frame rest (subst (λ (x : Kind). IsFrame x m frame) (kinds_are kind k (sym speaks ∙ e)) is) text_is)
at_frame kind m frame rest speaks is text_is over = absurd cc
at_frame kind m frame rest speaks is text_is stops = absurd cc
at_frame kind m frame rest speaks is text_is (works v n x r first others mid q part talk sent_is) = absurd cc
at_frame kind m frame rest {phase} {text} {sent} {p} {p'} {new} speaks is text_is (goes k n f r first others mid q e is_frame cut answer talk sent_is) =
    let there = subst (λ (x : Kind). IsFrame x n f) (kinds_are k kind (sym e ∙ speaks)) is_frame in
    let same = one_frame kind n m f frame r rest there is (sym cut ∙ text_is) in
    let tail : r ≡ rest = sym (drop_at f r (length f) refl) ∙ ap (drop (length f)) (sym cut ∙ text_is) ∙ drop_at frame rest (length f) (ap length (sym same.0)) in
    record {
      first = first;
      others = others;
      mid = mid;
      q = q;
      answer = subst (λ (x : Message). Answers outline_of_counted CountedCall phase x p first mid q) same.1 answer;
      talk = subst (λ (x : List ℕ). Talk mid x q others new p') tail talk;
      sent_is = sent_is;
    }

after_end : {phase : Phase} {text sent : List ℕ} {p p' : Counted} {new : State} → Talk phase text p sent new p' → phase ≡ Ended → sent ≡ []
after_end (waits kind speaks part) e = refl
after_end over e = refl
after_end stops e = refl
after_end (works v n x r first others mid q part talk sent_is) e = absurd cc
after_end (goes kind message frame rest first others mid q speaks is_frame text_is answer talk sent_is) e = let n : kind_of _ ≡ None = ap kind_of e in absurd cc

-- ---- failures

caused : (failures more : ℕ) (answer : Answer) → HasCause failures answer more → failures ≤ more
caused failures more Done c = omega (arith, c)
caused failures more (Gave xs) c = omega (arith, c)
caused failures more (Line bytes) c = omega (arith, c)
caused failures more (Found id) c = omega (arith, c)
caused failures more (Sized blocks) c = omega (arith, c)
caused failures more (Listed slots) c = omega (arith, c)
caused failures more (Refused Fault) c = omega (arith, c)
caused failures more (Refused reason) c = omega (arith, c)

-- no call makes them fewer
talk_rises : {phase : Phase} {text sent : List ℕ} {p p' : Counted} {new : State} → Talk phase text p sent new p' → p.failures ≤ p'.failures
talk_rises {p = p} {p' = p'} talk =
    let w = talks_likewise outline_of_counted CountedCall outline_of_counted CountedCall (λ (d b : Counted). (p.failures ≤ d.failures) × (d ≡ b))
    (λ d b r. ap outline_of_counted (sym r.1))
    (λ d d' b call answer r c. let le = caused d.failures d'.failures answer c.1 in (d', subst (λ (x : Counted). CountedCall x call answer d') r.1 c, (omega (arith, r.0, le), refl)))
    p (omega arith, refl) talk in
    w.2.0

failed_there : (c c' : Counted) (call : Call) (answer : Answer) → answer ≡ Refused Fault → CountedCall c call answer c' → c.failures < c'.failures
failed_there c c' call answer is calls = subst (λ (a : Answer). HasCause c.failures a c'.failures) is calls.1

-- ---- the calls

accepted : (s : PlainPool) (call : Call) (answer : Answer) (made after : PlainPool) → refusal_of s call ≡ None → Takes s call answer made after
    → ((answer ≡ reply s call) × Makes s call after) ⊎ (answer ≡ Refused Fault)
accepted s call answer made after none (inl step) =
    inl (subst (λ (o : Option Refusal). MatchOption o ((answer ≡ reply s call) × Makes s call after) (λ r. (answer ≡ Refused r) × (after ≡ after_refusal r s))) none step.0)
accepted s call answer made after none (inr fault) = inr fault.0

-- a blank pool with some holds
abbrev held : ℕ → FinMap nat_cmp ℕ → PlainPool
held m h = record (blank 0 m) { holds = h }

borne : (m : ℕ) (h : FinMap nat_cmp ℕ) (payload : List ℕ) (q : PlainPool) → length payload ≡ 512 → Edits (held m h) (Write 0 0 (sectors_of payload) false) 0 q → Bears 0 0 payload q
borne m h payload q len e =
    let long : length (volume_sectors (held m h) 0) ≡ 2048 = blank_sectors 0 m in
    put_is_borne 0 0 payload (held m h) q (omega arith) refl refl refl (omega (arith, long, len)) e

read_back : (payload : List ℕ) (q : PlainPool) → length payload ≡ 512 → Bears 0 0 payload q → concat (take 1 (drop 0 (volume_sectors q 0))) ≡ payload
read_back payload q len b =
    let one : 1 ≡ length payload / 512 = omega (arith, len) in
    ap (λ n. concat (take n (drop 0 (volume_sectors q 0)))) one ∙ ap concat b.bytes_are ∙ concat-chopped (length payload / 512) payload (omega (arith, len))

-- ---- what the client says

fits : (kind cookie len : ℕ) → kind < 2 ^ 16 → cookie < 2 ^ 64 → len < 2 ^ 32 → FitsRequest (request kind cookie len)
fits kind cookie len k c l = record { flags = omega arith; kind = k; cookie = c; offset = omega arith; len = l }

info_is : IsInfo go_data (48 ∷ []) []
info_is = record { name_fits = omega arith; count_fits = omega arith; text_is = refl }

one_name : (name types : List ℕ) → IsInfo go_data name types → name ≡ 48 ∷ []
unfolding info_text
one_name name types i =
    let a : List ℕ = name ++ (bytes 2 (length types) ++ flat_map (bytes 2) types) in
    let b : List ℕ = (48 ∷ []) ++ (bytes 2 0 ++ []) in
    let e : bytes 4 1 ++ b ≡ bytes 4 (length name) ++ a = i.text_is in
    let n : 1 ≡ length name = sym (width4.again 1 b (omega arith)) ∙ ap (number 4) e ∙ width4.again (length name) a i.name_fits in
    let d : b ≡ a = sym (field_drops 4 width4 1 b) ∙ ap (drop 4) e ∙ field_drops 4 width4 (length name) a in
    sym (take_at name (bytes 2 (length types) ++ flat_map (bytes 2) types) 1 (sym n)) ∙ ap (take 1) (sym d)

zero_name : decimal 0 ≡ 48 ∷ []
unfolding digits
zero_name = refl

is_zero : (id : ℕ) → id < 16777216 → (48 ∷ []) ≡ decimal id → id ≡ 0
is_zero id small e = decimal_injective id 0 (omega (arith, small)) (omega arith) (sym e ∙ sym zero_name)

go_short : length go_data ≤ MAX_OPTION
unfolding info_text
go_short = omega (arith, width4.len 1, width2.len 0, length-append (bytes 4 1) ((48 ∷ []) ++ (bytes 2 0 ++ [])), length-append (bytes 2 0) [])

go_is : IsFrame kinds.Options (client_option OPTION_GO go_data) go_text
go_is = record { option_fits = omega arith; short = go_short; text_is = refl }

write_is : (payload : List ℕ) → length payload ≡ 512 → IsFrame kinds.Requests (command (request COMMAND_WRITE 1 512) payload) (write_text payload)
write_is payload len = record { request_fits = fits 1 1 512 (omega arith) (omega arith) (omega arith); whole = len; short = omega arith; text_is = refl }

read_is : IsFrame kinds.Requests (command (request COMMAND_READ 2 512) []) read_text
read_is = record { request_fits = fits 0 2 512 (omega arith) (omega arith) (omega arith); whole = refl; short = omega arith; text_is = refl }

flush_is : IsFrame kinds.Requests (command (request COMMAND_FLUSH 3 0) []) flush_text
flush_is = record { request_fits = fits 3 3 0 (omega arith) (omega arith) (omega arith); whole = refl; short = omega arith; text_is = refl }

disc_is : IsFrame kinds.Requests (command (request COMMAND_DISC 4 0) []) disc_text
disc_is = record { request_fits = fits 2 4 0 (omega arith) (omega arith) (omega arith); whole = refl; short = omega arith; text_is = refl }

-- ---- what it is answered, from the last frame on

-- what a strict client agrees on that wants no padding zeroes
abbrev agreed : Terms
agreed = terms_of Strict true

abbrev serving : Phase
serving = Transmission 0 1048576 (Listens (manner_of agreed 0))

abbrev failed : ℕ → List ℕ
failed cookie = simple_reply (nbd_code (nbd_error Fault)) cookie []

told : {first others sent x y : List ℕ} → sent ≡ first ++ others → first ≡ x → others ≡ y → sent ≡ x ++ y
told {first} {others} {sent} {x} {y} s a b = s ∙ ap (λ l. l ++ others) a ∙ ap (λ l. x ++ l) b

ends : {sent : List ℕ} {q s' : Counted} {new : State} → Talk serving disc_text q sent new s' → sent ≡ []
ends talk =
    let n = at_frame kinds.Requests (command (request COMMAND_DISC 4 0) []) disc_text [] refl disc_is (sym (append-nil disc_text)) talk in
    told n.sent_is n.answer.0 (after_end n.talk n.answer.1)

abbrev Flushed : Type 0 → List ℕ → Type 0
Flushed fails sent = (sent ≡ simple_reply 0 3 []) ⊎ (fails × (sent ≡ failed 3))

flushes : {sent : List ℕ} {q s' : Counted} {new : State} → q.pool.mode ≡ mode.Writable → Talk serving (flush_text ++ disc_text) q sent new s' → Flushed (q.failures < s'.failures) sent
flushes {sent} {q} {s'} {new} is_writable talk =
    let n = at_frame kinds.Requests (command (request COMMAND_FLUSH 3 0) []) flush_text disc_text refl flush_is refl talk in
    let t : Talk serving disc_text n.q n.others new s' = subst (λ (x : Phase). Talk x disc_text n.q n.others new s') n.answer.1 n.talk in
    let rises = talk_rises t in
    let d : n.others ≡ [] = ends t in
    let a = n.answer.0 in
    let none : refusal_of q.pool Flush ≡ None = ap (λ (m : Mode). cond (is_failed m) (Some Failed) None) is_writable in
    elim (accepted q.pool Flush a.answer a.calls.0.0 n.q.pool none a.calls.0.1) [
      | inl h ↦ inl (told n.sent_is (a.sent_is ∙ ap (reply_to 3) h.0) d ∙ append-nil (simple_reply 0 3 []))
      | inr h ↦ let f = failed_there q n.q Flush a.answer h a.calls in inr (omega (arith, f, rises), told n.sent_is (a.sent_is ∙ ap (reply_to 3) h) d ∙ append-nil (failed 3))
    ]

abbrev ReadAnswer : Type 0 → List ℕ → List ℕ → Type 0
ReadAnswer fails payload sent = ((flushed : List ℕ) × Flushed fails flushed × (sent ≡ simple_reply 0 2 payload ++ flushed)) ⊎ (fails × (rest : List ℕ) × (sent ≡ failed 2 ++ rest))

more_failed : (a b c : ℕ) (sent : List ℕ) → a ≤ b → Flushed (b < c) sent → Flushed (a < c) sent
more_failed a b c sent le (inl e) = inl e
more_failed a b c sent le (inr f) = inr (omega (arith, le, f.0), f.1)

reads : (payload : List ℕ) {sent : List ℕ} {q s' : Counted} {new : State} → length payload ≡ 512 → Bears 0 0 payload q.pool
    → Talk serving (read_text ++ (flush_text ++ disc_text)) q sent new s' → ReadAnswer (q.failures < s'.failures) payload sent
reads payload {sent} {q} {s'} {new} len b talk =
    let n = at_frame kinds.Requests (command (request COMMAND_READ 2 512) []) read_text (flush_text ++ disc_text) refl read_is refl talk in
    let t : Talk serving (flush_text ++ disc_text) n.q n.others new s' = subst (λ (x : Phase). Talk x (flush_text ++ disc_text) n.q n.others new s') n.answer.1 n.talk in
    let rises = talk_rises t in
    let a = n.answer.0 in
    let here = caused q.failures n.q.failures a.answer a.calls.1 in
    elim (accepted q.pool (Read 0 0 1) a.answer a.calls.0.0 n.q.pool (readable 0 0 1 payload q.pool b) a.calls.0.1) [
      | inl h ↦
          inl (
            n.others,
            more_failed q.failures n.q.failures s'.failures n.others here (flushes (ap (λ (p : PlainPool). p.mode) h.1 ∙ b.works) t),
            told n.sent_is (a.sent_is ∙ ap (reply_to 2) h.0 ∙ ap (simple_reply 0 2) (read_back payload q.pool len b)) refl,
          )
      | inr h ↦ let f = failed_there q n.q (Read 0 0 1) a.answer h a.calls in inr (omega (arith, f, rises), n.others, told n.sent_is (a.sent_is ∙ ap (reply_to 2) h) refl)
    ]

abbrev WriteAnswer : Type 0 → List ℕ → List ℕ → Type 0
WriteAnswer fails payload sent =
    ((read : List ℕ) × ReadAnswer fails payload read × (sent ≡ simple_reply 0 1 [] ++ read))
    ⊎ (fails × (rest : List ℕ) × (sent ≡ failed 1 ++ rest))

more_read : (a b c : ℕ) (payload sent : List ℕ) → a ≤ b → ReadAnswer (b < c) payload sent → ReadAnswer (a < c) payload sent
more_read a b c payload sent le (inl (flushed, f, e)) = inl (flushed, more_failed a b c flushed le f, e)
more_read a b c payload sent le (inr (fails, rest, e)) = inr (omega (arith, le, fails), rest, e)

more_written : (a b c : ℕ) (payload sent : List ℕ) → a ≤ b → WriteAnswer (b < c) payload sent → WriteAnswer (a < c) payload sent
more_written a b c payload sent le (inl (read, r, e)) = inl (read, more_read a b c payload read le r, e)
more_written a b c payload sent le (inr (fails, rest, e)) = inr (omega (arith, le, fails), rest, e)

-- there is metadata room for the write
abbrev IsRoomy : ℕ → List ℕ → Type 0
IsRoomy m payload = refusal_of (blank 0 m) (Write 0 0 (sectors_of payload) false) ≢ Some NoMetadataSpace

writes : (payload : List ℕ) (m : ℕ) (h : FinMap nat_cmp ℕ) {sent : List ℕ} {q s' : Counted} {new : State} → length payload ≡ 512 → IsRoomy m payload → q.pool ≡ held m h
    → Talk serving (write_text payload ++ (read_text ++ (flush_text ++ disc_text))) q sent new s' → WriteAnswer (q.failures < s'.failures) payload sent
writes payload m h {sent} {q} {s'} {new} len roomy is_held talk =
    let rest = read_text ++ (flush_text ++ disc_text) in
    let call = Write 0 0 (sectors_of payload) false in
    let n = at_frame kinds.Requests (command (request COMMAND_WRITE 1 512) payload) (write_text payload) rest refl (write_is payload len) refl talk in
    let t : Talk serving rest n.q n.others new s' = subst (λ (x : Phase). Talk x rest n.q n.others new s') n.answer.1 n.talk in
    let rises = talk_rises t in
    let a = n.answer.0 in
    let here = caused q.failures n.q.failures a.answer a.calls.1 in
    let takes : Takes (held m h) call a.answer a.calls.0.0 n.q.pool = subst (λ (p : PlainPool). Takes p call a.answer a.calls.0.0 n.q.pool) is_held a.calls.0.1 in
    let tests : (refusal_of (held m h) call ≡ None) ⊎ (refusal_of (held m h) call ≡ Some NoMetadataSpace) = writable 0 0 (sectors_of payload) (blank 0 m) (omega arith) (m, refl) in
    let fault : a.answer ≡ Refused Fault → WriteAnswer (q.failures < s'.failures) payload sent = λ e.
    let f = failed_there q n.q call a.answer e a.calls in inr (omega (arith, f, rises), n.others, told n.sent_is (a.sent_is ∙ ap (reply_to 1) e) refl) in
    elim tests [
      | inl none ↦ elim (accepted (held m h) call a.answer a.calls.0.0 n.q.pool none takes) [
        | inl e ↦ inl (n.others, more_read q.failures n.q.failures s'.failures payload n.others here (reads payload len (borne m h payload n.q.pool len e.1) t), told n.sent_is (a.sent_is ∙ ap (reply_to 1) e.0) refl)
        | inr e ↦ fault e
      ]
      | inr some ↦ absurd (roomy some)
    ]

-- ---- GO

abbrev Entered : ℕ → Counted → List ℕ → Phase → Counted → Type 0
Entered m c first mid q =
    ((h : FinMap nat_cmp ℕ) × (first ≡ go_answer) × (mid ≡ serving) × (q.pool ≡ held m h) × (c.failures ≤ q.failures))
    ⊎ ((first ≡ []) × (mid ≡ Ended) × (c.failures < q.failures))

-- what GO does where its volume is there, by its blocks
abbrev there : ℕ → Outcome
there = λ blocks. (go agreed).found 0 (bytes_of_blocks users_geometry blocks) 0x6d

-- it has 16 blocks
blocks_of : (m : ℕ) (h : FinMap nat_cmp ℕ) → volume_blocks (held m h) 0 ≡ 16
blocks_of m h = ap (λ (n : ℕ). n / 128) (blank_sectors 0 m)

-- its size is told
size_is_asked : (m : ℕ) (h : FinMap nat_cmp ℕ) (first : List ℕ) (mid : Phase) (c p q : Counted) → c.failures ≤ p.failures → p.pool ≡ held m h → Sizes outline_of_counted CountedCall true there 0 p first mid q
    → Entered m c first mid q
size_is_asked m h first mid c p q before is z =
    let none : refusal_of (held m h) (VolumeBlocks 0) ≡ None = ap (λ (b : Bool). cond (not b) (Some NoSuchDevice) None) (there_is 0 m (omega arith)) in
    let takes : Takes (held m h) (VolumeBlocks 0) z.answer z.calls.0.0 z.asked.pool = subst (λ (s : PlainPool). Takes s (VolumeBlocks 0) z.answer z.calls.0.0 z.asked.pool) is z.calls.0.1 in
    elim (accepted (held m h) (VolumeBlocks 0) z.answer z.calls.0.0 z.asked.pool none takes) [
      | inl e ↦
          let f = subst (λ (x : Answer). IsSized outline_of_counted CountedCall true there 0 x z.asked first mid q) (e.0 ∙ ap Sized (blocks_of m h)) z.is_sized in
          let more = caused p.failures z.asked.failures z.answer z.calls.1 in
          let same : q.pool ≡ held m h = ap (λ (x : Counted). x.pool) f.2 ∙ e.1 in
          let equal : q.failures ≡ z.asked.failures = ap (λ (x : Counted). x.failures) f.2 in
          inl (h, f.0, f.1, same, omega (arith, before, more, equal))
      | inr e ↦
          let f = subst (λ (x : Answer). IsSized outline_of_counted CountedCall true there 0 x z.asked first mid q) e z.is_sized in
          let more = failed_there p z.asked (VolumeBlocks 0) z.answer e z.calls in
          let last = caused z.asked.failures q.failures Done f.2.1 in
          inr (f.0, f.1, omega (arith, before, more, last))
    ]

-- the volume is held, and then its size is asked for
hold_is_asked : (m : ℕ) (first : List ℕ) (mid : Phase) (c p q : Counted) → c.failures ≤ p.failures → p.pool ≡ blank 0 m → Holds outline_of_counted CountedCall there 0 p first mid q → Entered m c first mid q
hold_is_asked m first mid c p q before is h =
    let none : refusal_of (blank 0 m) (Hold 0) ≡ None = ap (λ (b : Bool). cond (not b) (Some NoSuchDevice) None) (there_is 0 m (omega arith)) in
    let takes : Takes (blank 0 m) (Hold 0) h.answer h.calls.0.0 h.held.pool = subst (λ (s : PlainPool). Takes s (Hold 0) h.answer h.calls.0.0 h.held.pool) is h.calls.0.1 in
    elim (accepted (blank 0 m) (Hold 0) h.answer h.calls.0.0 h.held.pool none takes) [
      | inl e ↦
          let f = subst (λ (x : Answer). IsHeld outline_of_counted CountedCall there 0 x h.held first mid q) e.0 h.is_held in
          let more = caused p.failures h.held.failures h.answer h.calls.1 in
          size_is_asked m (holds_after (blank 0 m).holds (Hold 0) Done) first mid c h.held q (omega (arith, before, more)) e.1 f
      | inr e ↦
          let f = subst (λ (x : Answer). IsHeld outline_of_counted CountedCall there 0 x h.held first mid q) e h.is_held in
          let more = failed_there p h.held (Hold 0) h.answer e h.calls in
          let equal : q.failures ≡ h.held.failures = ap (λ (x : Counted). x.failures) f.2 in
          inr (f.0, f.1, omega (arith, before, more, equal))
    ]

-- it is looked for, and then held
asked : (m : ℕ) (first : List ℕ) (mid : Phase) (c q : Counted) → c.pool ≡ blank 0 m → AsksFor outline_of_counted CountedCall (go agreed) 0 c first mid q → Entered m c first mid q
asked m first mid c q is a =
    let p = a.looked in
    let takes : Takes (blank 0 m) (NextId 0) a.answer a.calls.0.0 p.pool = subst (λ (s : PlainPool). Takes s (NextId 0) a.answer a.calls.0.0 p.pool) is a.calls.0.1 in
    let finds : Finds outline_of_counted CountedCall (go agreed) there 0 a.answer p first mid q =
    subst (λ (s : PlainPool). Finds outline_of_counted CountedCall (go agreed) (λ blocks. (go agreed).found 0 (bytes_of_blocks s.geometry blocks) (transmission_flags (outline_of s))) 0 a.answer p first mid q) is a.finds in
    elim (accepted (blank 0 m) (NextId 0) a.answer a.calls.0.0 p.pool refl takes) [
      | inl e ↦
          let f = subst (λ (x : Answer). Finds outline_of_counted CountedCall (go agreed) there 0 x p first mid q) (e.0 ∙ ap Found (least_is 0 m (omega arith))) finds in
          hold_is_asked m first mid c p q (caused c.failures p.failures a.answer a.calls.1) e.1 f
      | inr e ↦
          let f = subst (λ (x : Answer). Finds outline_of_counted CountedCall (go agreed) there 0 x p first mid q) e finds in
          let more = failed_there c p (NextId 0) a.answer e a.calls in
          inr (f.0, f.1, subst (λ (x : Counted). c.failures < x.failures) (sym f.2) more)
    ]

means_zero : (id : ℕ) (name : List ℕ) → name ≡ 48 ∷ [] → Means None 16777216 name id → id ≡ 0
means_zero id name is (inl named) = is_zero id named.0.0 (sym is ∙ named.0.1)
means_zero id name is (inr none) = let e = ap length (sym is ∙ none.0) in absurd (omega (arith, e))

looked : (m : ℕ) (first : List ℕ) (mid : Phase) (c q : Counted) (name : List ℕ) → c.pool ≡ blank 0 m → name ≡ 48 ∷ [] → LooksFor outline_of_counted CountedCall (go agreed) name c first mid q → Entered m c first mid q
looked m first mid c q name blank_is is (inl nameless) = absurd (nameless.no_id 0 (inl ((omega arith, is ∙ sym zero_name), omega arith)))
looked m first mid c q name blank_is is (inr (inr clone)) = let none : false ≡ true = clone.name_is.0 in absurd cc
looked m first mid c q name blank_is is (inr (inl named)) =
    let zero_id : named.id ≡ 0 = means_zero named.id name is named.name_is in
    asked m first mid c q blank_is (subst (λ (x : ℕ). AsksFor outline_of_counted CountedCall (go agreed) x c first mid q) zero_id named.asks)

abbrev Informed : Counted → List ℕ → Phase → Counted → Type 0
Informed c first mid q = IsInvalid outline_of_counted CountedCall OPTION_GO agreed go_data c first mid q ⊎ IsValid outline_of_counted CountedCall (go agreed) go_data c first mid q

by_data : (m : ℕ) (first : List ℕ) (mid : Phase) (c q : Counted) → c.pool ≡ blank 0 m → Informed c first mid q → Entered m c first mid q
by_data m first mid c q is (inl invalid) = absurd (invalid.no_info (48 ∷ []) [] info_is)
by_data m first mid c q is (inr valid) = looked m first mid c q valid.name is (one_name valid.name valid.types valid.info) valid.looks

-- a strict session holds no older volume, so what the option leads to stays so
settled : (first : List ℕ) (mid to : Phase) (chosen q : Counted) (o : Outcome) → o.next ≡ to → older_in to ≡ 16777216 → Settles outline_of_counted CountedCall 16777216 o chosen first mid q
    → Tells outline_of_counted CountedCall o chosen first mid q
settled first mid to chosen q o at none settles =
    let same : (16777216 == older_in o.next) ≡ true = ap (λ (x : Phase). 16777216 == older_in x) at ∙ ap (λ (n : ℕ). 16777216 == n) none in
    subst (λ (b : Bool). MatchBool b (Tells outline_of_counted CountedCall o chosen first mid q) (Trades outline_of_counted CountedCall 16777216 (older_in o.next) o chosen first mid q)) same settles

as_told : (m : ℕ) (first : List ℕ) (mid : Phase) (c chosen q : Counted) (o : Outcome) → Entered m c o.sent o.next chosen → Settles outline_of_counted CountedCall 16777216 o chosen first mid q → Entered m c first mid q
as_told m first mid c chosen q o (inl (h, f, p, is, le)) settles =
    let t = settled first mid serving chosen q o p refl settles in
    inl (
      h,
      t.0 ∙ f,
      t.1 ∙ p,
      ap (λ (x : Counted). x.pool) t.2 ∙ is,
      subst (λ (x : Counted). c.failures ≤ x.failures) (sym t.2) le,
    )
as_told m first mid c chosen q o (inr (f, p, fails)) settles =
    let t = settled first mid Ended chosen q o p refl settles in
    inr (t.0 ∙ f, t.1 ∙ p, subst (λ (x : Counted). c.failures < x.failures) (sym t.2) fails)

informed : (m : ℕ) (first : List ℕ) (mid : Phase) (c q : Counted) → c.pool ≡ blank 0 m → Answers outline_of_counted CountedCall (Options agreed) (client_option OPTION_GO go_data) c first mid q → Entered m c first mid q
informed m first mid c q is answer =
    let o = answer.chosen in
    let behind = answer.answered in
    as_told m first mid c behind q o
    (by_data m o.sent o.next c behind is
    (subst (λ (x : Mode). MatchBool (is_failed x) (Tells outline_of_counted CountedCall (outcome [] Ended) c o.sent o.next behind) (Informed c o.sent o.next behind)) (ap (λ (p : PlainPool). p.mode) is) answer.chooses))
    answer.settles

-- ---- the whole

finish : (payload sent written : List ℕ) (fails : Type 0) → sent ≡ go_answer ++ written → WriteAnswer fails payload written → IsFirstAnswer payload fails sent
finish payload sent written fails e (inl (read, inl (flushed, inl f, r), w)) =
    whole (told e refl (told w refl (told r refl f)))
finish payload sent written fails e (inl (read, inl (flushed, inr f, r), w)) =
    not_flushed f.0 (told e refl (told w refl (told r refl f.1)))
finish payload sent written fails e (inl (read, inr (f, rest, r), w)) = not_read f rest (told e refl (told w refl r))
finish payload sent written fails e (inr (f, rest, w)) = not_written f rest (told e refl w)

entered : (payload : List ℕ) (m : ℕ) (first others : List ℕ) (mid : Phase) (c q s' : Counted) (new : State) → length payload ≡ 512 → IsRoomy m payload
    → Talk mid (write_text payload ++ (read_text ++ (flush_text ++ disc_text))) q others new s' → Entered m c first mid q → IsFirstAnswer payload (c.failures < s'.failures) (first ++ others)
entered payload m first others mid c q s' new len roomy talk (inl (h, f, p, is, le)) =
    let rest = write_text payload ++ (read_text ++ (flush_text ++ disc_text)) in
    let t = subst (λ (x : Phase). Talk x rest q others new s') p talk in
    finish payload (first ++ others) others (c.failures < s'.failures) (ap (λ l. l ++ others) f) (more_written c.failures q.failures s'.failures payload others le (writes payload m h len roomy is t))
entered payload m first others mid c q s' new len roomy talk (inr (f, p, fails)) =
    let rises = talk_rises talk in
    no_volume (omega (arith, fails, rises)) (told {first = first} {others = others} refl f (after_end talk p))

-- by the law that metadata room lasts to the bound
pub first_is_answered : ((s : PlainPool) (call : Call) → HasUse s → BoundLeavesRoom s call → refusal_of s call ≢ Some NoMetadataSpace) → FirstIsAnswered
first_is_answered lasts payload sent c c' new len is bounded talk =
    let m = is.0 in
    let call = Write 0 0 (sectors_of payload) false in
    let roomy : IsRoomy m payload = lasts (blank 0 m) call (subst HasUse is.1 bounded) (blank_leaves 0 0 (sectors_of payload) (blank 0 m) (m, refl)) in
    let rest = write_text payload ++ (read_text ++ (flush_text ++ disc_text)) in
    let f = at_frame kinds.Flags (client_flags true) flags_text (go_text ++ rest) refl refl refl talk in
    let u = subst (λ (x : Counted). Talk (Options agreed) (go_text ++ rest) x f.others new c') f.answer.2 (subst (λ (x : Phase). Talk x (go_text ++ rest) f.q f.others new c') f.answer.1 f.talk) in
    let g = at_frame kinds.Options (client_option OPTION_GO go_data) go_text rest refl go_is refl u in
    let same : sent ≡ g.first ++ g.others = told f.sent_is f.answer.0 g.sent_is in
    subst (IsFirstAnswer payload (c.failures < c'.failures)) (sym same) (entered payload m g.first g.others g.mid c g.q c' new len roomy g.talk (informed m g.first g.mid c g.q is.1 g.answer))
