-- What follows the calls of a pool follows the steps of a session over it.
use Rattle.std.proofs.Common.{◌≡◌, ℕ, zero, suc, ◌+◌, ◌/◌, ◌⊎◌, Bool, true, false, List, [], ◌∷◌, length, Option, Some, None, refl, sym, ap, subst, inl, inr}
use Rattle.std.specs.Prelude.{MatchOption, MatchBool, ◌==◌, if◌then◌else◌, nat_le, nat_lt}
use Rattle.std.specs.List.{concat}
use Rattle.tp_model.specs.declared.mode.Mode.{Mode}
use Rattle.tp_model.specs.Geometry.{Geometry}
use Rattle.tp_model.specs.Pool.{Outline}
use Rattle.tp_model.specs.Calls.{Call, Answer, CreateSnap, Delete, Done, Found, Gave, Hold, LetGo, Line, NextId, Read, Refused, Sized, Listed, VolumeBlocks, Walk, is_failed, is_read_only}
use Rattle.nbd_wire.specs.declared.Kind.{Kind}
use Rattle.nbd_wire.specs.declared.Request.{Request}
use Rattle.nbd_wire.specs.declared.TheConstants.{OPTION_ABORT, OPTION_EXPORT_NAME, OPTION_GO, OPTION_INFO, OPTION_LIST, OPTION_LIST_META_CONTEXT, OPTION_SET_META_CONTEXT, OPTION_STRUCTURED_REPLY}
use Rattle.nbd_wire.specs.declared.writing.ReplyType.TheVariants.{Acknowledged, Invalid, Unsupported}
use Rattle.nbd_wire.specs.Replies.{option_reply}
use Rattle.nbd_wire.specs.Grammar.{Message, client_flags, client_option, command, malformed}
use Rattle.nbd_session.specs.declared.phase.Course.TheVariants.{Listens, Works}
use Rattle.nbd_session.specs.declared.phase.Terms.{Terms}
use Rattle.nbd_session.specs.declared.phase.Manner.{Manner}
use Rattle.nbd_session.specs.declared.phase.Phase.{Phase}
use Rattle.nbd_session.specs.declared.phase.Phase.TheVariants.{Flags, Options, Transmission, Ended}
use Rattle.nbd_session.specs.declared.request.Verdict.{Verdict}
use Rattle.nbd_session.specs.declared.request.Verdict.TheVariants as verdicts
use Rattle.nbd_session.specs.Requests.{bytes_of_blocks, has_since, is_kept_apart, is_last, part_call, rest_of, verdict_in}
use Rattle.tp_model.specs.declared.refusal.NbdError.TheVariants as errors
use Rattle.tp_model.specs.Refusals.{nbd_code}
use Rattle.nbd_wire.specs.Chunks.{data_chunk, error_chunk}
use Rattle.nbd_wire.specs.Contexts.{asks_for, lists, since_of}
use Rattle.nbd_session.specs.Holes.{has_blank}
use Rattle.nbd_session.specs.Status.{IsAllocation, first_block, unit_of}
use Rattle.nbd_session.specs.Session.{State, Outcome, outcome, option_error, uncloned, VolumeOption, export_name, go, info, is_extended, kind_of, limit_of, list_context, manner_in, older_in, of_clone, set_context, structures, transmission_flags, terms_of, without_context, chunk_to, reply_to, Clones, Deletes, FindsNone, GivesUp, HoldsClone, IsCloneHeld, IsCloneSized, IsCloned, Passes, SizesClone, Snaps, AnswersOption, HoldsOlder, LetsGo, LetsOwnGo, Trades, Begins, Ends, Tells, Performs, Serves, IsMade, MakesPart, IsDeaf, IsSized, Sizes, IsHeld, Holds, Enters, Finds, AsksFor, LooksFor, is_there, IsInvalid, IsValid, Informs, Exports, Finding, IsEnough, IsLast, IsRefused, Lists, NamesAll, NamesNone, Answers, Waits, TakesFrame, Steps, Describes, Extends, Compares, IsDescribed, IsNoQuery, IsQueried, Queries, Seeks, SeeksFor, Walks, IsGiven, ReadsLong, SeeksHoles}

-- Calls of one kind of pool, and Calls' of another. R: what stands between them, and goes on from call to call.
module _ {D B : Type 0} (outline : D → Outline) (Calls : D → Call → Answer → D → Type 0) (outline' : B → Outline) (Calls' : B → Call → Answer → B → Type 0) (R : D → B → Type 0)
    (same : (d : D) (b : B) → R d b → outline' b ≡ outline d)
    (call_follows : (d d' : D) (b : B) (call : Call) (answer : Answer) → R d b → Calls d call answer d' → (b' : B) × Calls' b call answer b' × R d' b') where
  -- From s, what is said of the pool is said of the plain pool.
  abbrev Likewise : (B → Type 0) → D → Type 0
  Likewise Said new = (s' : B) × Said s' × R new s'

  resting : (P : B → Type 0) (old new : D) (s : B) → new ≡ old → R old s → P s → Likewise P new
  resting P old new s e h x = (s, x, let Q : D → Type 0 = λ d. R d s in subst Q (sym e) h)

  -- ---- ids that are found one after another

  -- an end of a search is followed by an end
  abbrev EndLikewise : (ℕ → D → D → Type 0) → (ℕ → B → B → Type 0) → Type 0
  EndLikewise End End' = (from : ℕ) (old new : D) (s : B) → R old s → End from old new → Likewise (End' from s) new

  finding_likewise : (End : ℕ → D → D → Type 0) (End' : ℕ → B → B → Type 0) → EndLikewise End End' → (from : ℕ) (ids : List ℕ) (old new : D) (s : B) → R old s
      → Finding outline Calls End from ids old new → Likewise (Finding outline' Calls' End' from ids s) new
  finding_likewise End End' ends from [] old new s r h = ends from old new s r h
  finding_likewise End End' ends from (id ∷ ids) old new s r h =
      let m = call_follows old h.0 s (NextId from) (Found (Some id)) r h.1 in
      let n = finding_likewise End End' ends (id + 1) ids h.0 new m.0 m.2 h.2 in
      (n.0, (m.0, m.1, n.1), n.2)

  last_by : (b : Bool) (limit from : ℕ) (old new : D) (s : B) → R old s → MatchBool b (FindsNone outline Calls limit from old new) (new ≡ old)
      → Likewise (λ s'. MatchBool b (FindsNone outline' Calls' limit from s s') (s' ≡ s)) new
  last_by true limit from old new s r h =
      let m = call_follows old new s (NextId from) (Found h.found) r h.calls in
      (m.0, record { found = h.found; behind = h.behind; calls = m.1 }, m.2)
  last_by false limit from old new s r h = resting (λ s'. s' ≡ s) old new s h r refl

  last_likewise : (limit : ℕ) → EndLikewise (IsLast outline Calls limit) (IsLast outline' Calls' limit)
  last_likewise limit from old new s r h = last_by (nat_lt from limit) limit from old new s r h

  refused_likewise : EndLikewise (IsRefused outline Calls) (IsRefused outline' Calls')
  refused_likewise from old new s r h = let m = call_follows old new s (NextId from) (Refused h.0) r h.1 in (m.0, (h.0, m.1), m.2)

  enough_likewise : EndLikewise (IsEnough outline Calls) (IsEnough outline' Calls')
  enough_likewise from old new s r h = resting (λ s'. s' ≡ s) old new s h r refl

  -- ---- a volume that is looked for

  told_likewise : (o : Outcome) (old new : D) (s : B) (sent : List ℕ) (next : Phase) → R old s → Tells outline Calls o old sent next new → Likewise (Tells outline' Calls' o s sent next) new
  told_likewise o old new s sent next r h = resting _ old new s h.2 r (h.0, h.1, refl)

  refused_size : (held : Bool) (id : ℕ) (old new : D) (s : B) (sent : List ℕ) (next : Phase) → R old s
      → (sent ≡ []) × (next ≡ Ended) × MatchBool held (Calls old (LetGo id) Done new) (new ≡ old)
      → Likewise (λ s'. (sent ≡ []) × (next ≡ Ended) × MatchBool held (Calls' s (LetGo id) Done s') (s' ≡ s)) new
  refused_size true id old new s sent next r h = let m = call_follows old new s (LetGo id) Done r h.2 in (m.0, (h.0, h.1, m.1), m.2)
  refused_size false id old new s sent next r h = resting _ old new s h.2 r (h.0, h.1, refl)

  sized_likewise : (held : Bool) (found : ℕ → Outcome) (id : ℕ) (answer : Answer) (old new : D) (s : B) (sent : List ℕ) (next : Phase) → R old s
      → IsSized outline Calls held found id answer old sent next new → Likewise (IsSized outline' Calls' held found id answer s sent next) new
  sized_likewise held found id (Sized blocks) old new s sent next r h = told_likewise (found blocks) old new s sent next r h
  sized_likewise held found id (Refused reason) old new s sent next r h = refused_size held id old new s sent next r h
  sized_likewise held found id Done old new s sent next r h = absurd h
  sized_likewise held found id (Gave sectors) old new s sent next r h = absurd h
  sized_likewise held found id (Line bytes) old new s sent next r h = absurd h
  sized_likewise held found id (Found least) old new s sent next r h = absurd h
  sized_likewise held found id (Listed slots) old new s sent next r h = absurd h

  sizes_likewise : (held : Bool) (found : ℕ → Outcome) (id : ℕ) (old new : D) (s : B) (sent : List ℕ) (next : Phase) → R old s
      → Sizes outline Calls held found id old sent next new → Likewise (Sizes outline' Calls' held found id s sent next) new
  sizes_likewise held found id old new s sent next r h =
      let m = call_follows old h.asked s (VolumeBlocks id) h.answer r h.calls in
      let n = sized_likewise held found id h.answer h.asked new m.0 sent next m.2 h.is_sized in
      (n.0, record { answer = h.answer; asked = m.0; calls = m.1; is_sized = n.1 }, n.2)

  held_likewise : (found : ℕ → Outcome) (id : ℕ) (answer : Answer) (old new : D) (s : B) (sent : List ℕ) (next : Phase) → R old s
      → IsHeld outline Calls found id answer old sent next new → Likewise (IsHeld outline' Calls' found id answer s sent next) new
  held_likewise found id Done old new s sent next r h = sizes_likewise true found id old new s sent next r h
  held_likewise found id (Refused reason) old new s sent next r h = told_likewise (outcome [] Ended) old new s sent next r h
  held_likewise found id (Gave sectors) old new s sent next r h = absurd h
  held_likewise found id (Line bytes) old new s sent next r h = absurd h
  held_likewise found id (Found least) old new s sent next r h = absurd h
  held_likewise found id (Sized blocks) old new s sent next r h = absurd h
  held_likewise found id (Listed slots) old new s sent next r h = absurd h

  enters_likewise : (b : Bool) (found : ℕ → Outcome) (id : ℕ) (old new : D) (s : B) (sent : List ℕ) (next : Phase) → R old s
      → MatchBool b (Holds outline Calls found id old sent next new) (Sizes outline Calls false found id old sent next new)
      → Likewise (λ s'. MatchBool b (Holds outline' Calls' found id s sent next s') (Sizes outline' Calls' false found id s sent next s')) new
  enters_likewise true found id old new s sent next r h =
      let m = call_follows old h.held s (Hold id) h.answer r h.calls in
      let n = held_likewise found id h.answer h.held new m.0 sent next m.2 h.is_held in
      (n.0, record { answer = h.answer; held = m.0; calls = m.1; is_held = n.1 }, n.2)
  enters_likewise false found id old new s sent next r h = sizes_likewise false found id old new s sent next r h

  there_likewise : (b holds : Bool) (found : ℕ → Outcome) (missing : Outcome) (id : ℕ) (old new : D) (s : B) (sent : List ℕ) (next : Phase) → R old s
      → MatchBool b (Enters outline Calls holds found id old sent next new) (Tells outline Calls missing old sent next new)
      → Likewise (λ s'. MatchBool b (Enters outline' Calls' holds found id s sent next s') (Tells outline' Calls' missing s sent next s')) new
  there_likewise true holds found missing id old new s sent next r h = enters_likewise holds found id old new s sent next r h
  there_likewise false holds found missing id old new s sent next r h = told_likewise missing old new s sent next r h

  finds_likewise : (o : VolumeOption) (found : ℕ → Outcome) (id : ℕ) (answer : Answer) (old new : D) (s : B) (sent : List ℕ) (next : Phase) → R old s
      → Finds outline Calls o found id answer old sent next new → Likewise (Finds outline' Calls' o found id answer s sent next) new
  finds_likewise o found id (Found least) old new s sent next r h = there_likewise (is_there id least) o.holds found o.missing id old new s sent next r h
  finds_likewise o found id (Refused reason) old new s sent next r h = told_likewise (outcome [] Ended) old new s sent next r h
  finds_likewise o found id Done old new s sent next r h = absurd h
  finds_likewise o found id (Gave sectors) old new s sent next r h = absurd h
  finds_likewise o found id (Line bytes) old new s sent next r h = absurd h
  finds_likewise o found id (Sized blocks) old new s sent next r h = absurd h
  finds_likewise o found id (Listed slots) old new s sent next r h = absurd h

  asks_likewise : (o : VolumeOption) (id : ℕ) (old new : D) (s : B) (sent : List ℕ) (next : Phase) → R old s → AsksFor outline Calls o id old sent next new → Likewise (AsksFor outline' Calls' o id s sent next) new
  asks_likewise o id old new s sent next r h =
      let seen : outline' s ≡ outline old = same old s r in
      let m = call_follows old h.looked s (NextId id) h.answer r h.calls in
      let n = finds_likewise o (λ blocks. o.found id (bytes_of_blocks (outline old).geometry blocks) (transmission_flags (outline old))) id h.answer h.looked new m.0 sent next m.2 h.finds in
      let P : Geometry → Type 0 = λ g. Finds outline' Calls' o (λ blocks. o.found id (bytes_of_blocks g blocks) (transmission_flags (outline' s))) id h.answer m.0 sent next n.0 in
      let Q : Mode → Type 0 = λ k. Finds outline' Calls' o (λ blocks. o.found id (bytes_of_blocks (outline old).geometry blocks) (if is_read_only k then 0x6f else 0x6d)) id h.answer m.0 sent next n.0 in (
        n.0,
        record {
          answer = h.answer;
          looked = m.0;
          calls = m.1;
          finds = subst P (sym (ap (λ (p : Outline). p.geometry) seen)) (subst Q (sym (ap (λ (p : Outline). p.mode) seen)) n.1);
        },
        n.2,
      )

  -- ---- a clone that is made

  gives_likewise : (id : ℕ) (old new : D) (s : B) → R old s → GivesUp outline Calls id old new → Likewise (GivesUp outline' Calls' id s) new
  gives_likewise id old new s r h =
      let m = call_follows old h.let_go s (LetGo id) Done r h.lets_go in
      let n = call_follows h.let_go new m.0 (Delete id) h.answer m.2 h.deletes in
      (n.0, record { let_go = m.0; lets_go = m.1; answer = h.answer; deletes = n.1 }, n.2)

  -- ---- what is let go at an end, and what is held behind an option

  older_likewise : (b : Bool) (id : ℕ) (old new : D) (s : B) → R old s → MatchBool b (Calls old (LetGo id) Done new) (new ≡ old) → Likewise (λ s'. MatchBool b (Calls' s (LetGo id) Done s') (s' ≡ s)) new
  older_likewise true id old new s r h = call_follows old new s (LetGo id) Done r h
  older_likewise false id old new s r h = resting _ old new s h r refl

  own_by : (b : Bool) (v : ℕ) (old new : D) (s : B) → R old s → MatchBool b (GivesUp outline Calls v old new) (Calls old (LetGo v) Done new)
      → Likewise (λ s'. MatchBool b (GivesUp outline' Calls' v s s') (Calls' s (LetGo v) Done s')) new
  own_by true v old new s r h = gives_likewise v old new s r h
  own_by false v old new s r h = call_follows old new s (LetGo v) Done r h

  own_likewise : (phase : Phase) (old new : D) (s : B) → R old s → LetsOwnGo outline Calls phase old new → Likewise (LetsOwnGo outline' Calls' phase s) new
  own_likewise (Flags a) old new s r h = resting _ old new s h r refl
  own_likewise (Options z) old new s r h = resting _ old new s h r refl
  own_likewise (Transmission v n c) old new s r h = own_by (manner_in c).is_clone v old new s r h
  own_likewise Ended old new s r h = resting _ old new s h r refl

  holds_likewise : (b : Bool) (id : ℕ) (o : Outcome) (old new : D) (s : B) (sent : List ℕ) (next : Phase) → R old s
      → MatchBool b (HoldsOlder outline Calls id o old sent next new) (Tells outline Calls o old sent next new)
      → Likewise (λ s'. MatchBool b (HoldsOlder outline' Calls' id o s sent next s') (Tells outline' Calls' o s sent next s')) new
  holds_likewise true id o old new s sent next r h =
      let m = call_follows old new s (Hold id) h.answer r h.calls in
      (m.0, record { answer = h.answer; calls = m.1; is_held = h.is_held }, m.2)
  holds_likewise false id o old new s sent next r h = told_likewise o old new s sent next r h

  settles_likewise : (b : Bool) (id : ℕ) (o : Outcome) (old new : D) (s : B) (sent : List ℕ) (next : Phase) → R old s
      → MatchBool b (Tells outline Calls o old sent next new) (Trades outline Calls id (older_in o.next) o old sent next new)
      → Likewise (λ s'. MatchBool b (Tells outline' Calls' o s sent next s') (Trades outline' Calls' id (older_in o.next) o s sent next s')) new
  settles_likewise true id o old new s sent next r h = told_likewise o old new s sent next r h
  settles_likewise false id o old new s sent next r h =
      let m = older_likewise (nat_lt id 16777216) id old h.without_older s r h.lets_older_go in
      let n = holds_likewise (nat_lt (older_in o.next) 16777216) (older_in o.next) o h.without_older new m.0 sent next m.2 h.holds in
      (n.0, record { without_older = m.0; lets_older_go = m.1; holds = n.1 }, n.2)

  clone_sized_likewise : (found : ℕ → Outcome) (id : ℕ) (answer : Answer) (old new : D) (s : B) (sent : List ℕ) (next : Phase) → R old s
      → IsCloneSized outline Calls found id answer old sent next new → Likewise (IsCloneSized outline' Calls' found id answer s sent next) new
  clone_sized_likewise found id (Sized blocks) old new s sent next r h = told_likewise (found blocks) old new s sent next r h
  clone_sized_likewise found id (Refused reason) old new s sent next r h = let m = gives_likewise id old new s r h.2 in (m.0, (h.0, h.1, m.1), m.2)
  clone_sized_likewise found id Done old new s sent next r h = absurd h
  clone_sized_likewise found id (Gave sectors) old new s sent next r h = absurd h
  clone_sized_likewise found id (Line bytes) old new s sent next r h = absurd h
  clone_sized_likewise found id (Found least) old new s sent next r h = absurd h
  clone_sized_likewise found id (Listed slots) old new s sent next r h = absurd h

  clone_sizes_likewise : (found : ℕ → Outcome) (id : ℕ) (old new : D) (s : B) (sent : List ℕ) (next : Phase) → R old s
      → SizesClone outline Calls found id old sent next new → Likewise (SizesClone outline' Calls' found id s sent next) new
  clone_sizes_likewise found id old new s sent next r h =
      let m = call_follows old h.asked s (VolumeBlocks id) h.answer r h.calls in
      let n = clone_sized_likewise found id h.answer h.asked new m.0 sent next m.2 h.is_sized in
      (n.0, record { answer = h.answer; asked = m.0; calls = m.1; is_sized = n.1 }, n.2)

  deletes_likewise : (id : ℕ) (old new : D) (s : B) (sent : List ℕ) (next : Phase) → R old s → Deletes outline Calls id old sent next new → Likewise (Deletes outline' Calls' id s sent next) new
  deletes_likewise id old new s sent next r h =
      let m = call_follows old new s (Delete id) h.answer r h.calls in
      (m.0, record { answer = h.answer; calls = m.1; sent_is = h.sent_is; next_is = h.next_is }, m.2)

  clone_held_likewise : (found : ℕ → Outcome) (id : ℕ) (answer : Answer) (old new : D) (s : B) (sent : List ℕ) (next : Phase) → R old s
      → IsCloneHeld outline Calls found id answer old sent next new → Likewise (IsCloneHeld outline' Calls' found id answer s sent next) new
  clone_held_likewise found id Done old new s sent next r h = clone_sizes_likewise found id old new s sent next r h
  clone_held_likewise found id (Refused reason) old new s sent next r h = deletes_likewise id old new s sent next r h
  clone_held_likewise found id (Gave sectors) old new s sent next r h = absurd h
  clone_held_likewise found id (Line bytes) old new s sent next r h = absurd h
  clone_held_likewise found id (Found least) old new s sent next r h = absurd h
  clone_held_likewise found id (Sized blocks) old new s sent next r h = absurd h
  clone_held_likewise found id (Listed slots) old new s sent next r h = absurd h

  clone_holds_likewise : (found : ℕ → Outcome) (id : ℕ) (old new : D) (s : B) (sent : List ℕ) (next : Phase) → R old s
      → HoldsClone outline Calls found id old sent next new → Likewise (HoldsClone outline' Calls' found id s sent next) new
  clone_holds_likewise found id old new s sent next r h =
      let m = call_follows old h.held s (Hold id) h.answer r h.calls in
      let n = clone_held_likewise found id h.answer h.held new m.0 sent next m.2 h.is_held in
      (n.0, record { answer = h.answer; held = m.0; calls = m.1; is_held = n.1 }, n.2)

  cloned_likewise : (o : VolumeOption) (found : ℕ → Outcome) (id : ℕ) (answer : Answer) (old new : D) (s : B) (sent : List ℕ) (next : Phase) → R old s
      → IsCloned outline Calls o found id answer old sent next new → Likewise (IsCloned outline' Calls' o found id answer s sent next) new
  cloned_likewise o found id Done old new s sent next r h = clone_holds_likewise found id old new s sent next r h
  cloned_likewise o found id (Refused reason) old new s sent next r h = told_likewise (uncloned o reason) old new s sent next r h
  cloned_likewise o found id (Gave sectors) old new s sent next r h = absurd h
  cloned_likewise o found id (Line bytes) old new s sent next r h = absurd h
  cloned_likewise o found id (Found least) old new s sent next r h = absurd h
  cloned_likewise o found id (Sized blocks) old new s sent next r h = absurd h
  cloned_likewise o found id (Listed slots) old new s sent next r h = absurd h

  passes_likewise : (origin id n : ℕ) (old new : D) (s : B) → R old s → Passes outline Calls origin id n old new → Likewise (Passes outline' Calls' origin id n s) new
  passes_likewise origin id zero old new s r h = resting (λ s'. s' ≡ s) old new s h r refl
  passes_likewise origin id (suc n) old new s r h =
      let m = call_follows old h.1 s (CreateSnap id origin) h.0 r h.3 in
      let k = passes_likewise origin (id + 1) n h.1 new m.0 m.2 h.4 in
      (k.0, (h.0, m.0, h.2, m.1, k.1), k.2)

  snaps_likewise : (origin id : ℕ) (answer : Answer) (old new : D) (s : B) → R old s → Snaps outline Calls origin id answer old new → Likewise (Snaps outline' Calls' origin id answer s) new
  snaps_likewise origin id answer old new s r h =
      let m = passes_likewise origin 8388608 h.passed old h.tried s r h.passes in
      let n = call_follows h.tried new m.0 (CreateSnap id origin) answer m.2 h.calls in
      (n.0, record { passed = h.passed; few = h.few; id_is = h.id_is; tried = m.0; passes = m.1; calls = n.1; all = h.all }, n.2)

  clones_likewise : (o : VolumeOption) (origin : ℕ) (old new : D) (s : B) (sent : List ℕ) (next : Phase) → R old s → Clones outline Calls o origin old sent next new → Likewise (Clones outline' Calls' o origin s sent next) new
  clones_likewise o origin old new s sent next r h =
      let seen : outline' s ≡ outline old = same old s r in
      let m = snaps_likewise origin h.id h.answer old h.made s r h.snaps in
      let n = cloned_likewise o (λ blocks. o.cloned origin h.id (bytes_of_blocks (outline old).geometry blocks) (transmission_flags (outline old))) h.id h.answer h.made new m.0 sent next m.2 h.is_cloned in
      let P : Geometry → Type 0 = λ g. IsCloned outline' Calls' o (λ blocks. o.cloned origin h.id (bytes_of_blocks g blocks) (transmission_flags (outline' s))) h.id h.answer m.0 sent next n.0 in
      let Q : Mode → Type 0 = λ k. IsCloned outline' Calls' o (λ blocks. o.cloned origin h.id (bytes_of_blocks (outline old).geometry blocks) (if is_read_only k then 0x6f else 0x6d)) h.id h.answer m.0 sent next n.0 in (
        n.0,
        record {
          id = h.id;
          answer = h.answer;
          made = m.0;
          snaps = m.1;
          is_cloned = subst P (sym (ap (λ (p : Outline). p.geometry) seen)) (subst Q (sym (ap (λ (p : Outline). p.mode) seen)) n.1);
        },
        n.2,
      )

  clone_by : (b : Bool) (o : VolumeOption) (origin : ℕ) (old new : D) (s : B) (sent : List ℕ) (next : Phase) → R old s
      → MatchBool b (Clones outline Calls o origin old sent next new) (AsksFor outline Calls (of_clone o origin) origin old sent next new)
      → Likewise (λ s'. MatchBool b (Clones outline' Calls' o origin s sent next s') (AsksFor outline' Calls' (of_clone o origin) origin s sent next s')) new
  clone_by true o origin old new s sent next r h = clones_likewise o origin old new s sent next r h
  clone_by false o origin old new s sent next r h = asks_likewise (of_clone o origin) origin old new s sent next r h

  looks_likewise : (o : VolumeOption) (name : List ℕ) (old new : D) (s : B) (sent : List ℕ) (next : Phase) → R old s → LooksFor outline Calls o name old sent next new → Likewise (LooksFor outline' Calls' o name s sent next) new
  looks_likewise o name old new s sent next r (inl h) =
      let m = told_likewise o.missing old new s sent next r h.tells in
      (m.0, inl (record { no_id = h.no_id; no_clone = h.no_clone; tells = m.1 }), m.2)
  looks_likewise o name old new s sent next r (inr (inl h)) =
      let m = asks_likewise o h.id old new s sent next r h.asks in
      (m.0, inr (inl (record { id = h.id; name_is = h.name_is; asks = m.1 })), m.2)
  looks_likewise o name old new s sent next r (inr (inr h)) =
      let m = clone_by o.holds o h.origin old new s sent next r h.asks in
      (m.0, inr (inr (record { origin = h.origin; name_is = h.name_is; asks = m.1 })), m.2)

  -- and an older one before it
  sought_likewise : (o : ℕ → VolumeOption) (name : List ℕ) (id : ℕ) (answer : Answer) (old new : D) (s : B) (sent : List ℕ) (next : Phase) → R old s
      → Seeks outline Calls o name id answer old sent next new → Likewise (Seeks outline' Calls' o name id answer s sent next) new
  sought_likewise o name id (Found least) old new s sent next r h = looks_likewise (o (if is_there id least then id else 16777216)) name old new s sent next r h
  sought_likewise o name id (Refused reason) old new s sent next r h = told_likewise (outcome [] Ended) old new s sent next r h
  sought_likewise o name id Done old new s sent next r h = absurd h
  sought_likewise o name id (Gave sectors) old new s sent next r h = absurd h
  sought_likewise o name id (Line bytes) old new s sent next r h = absurd h
  sought_likewise o name id (Sized blocks) old new s sent next r h = absurd h
  sought_likewise o name id (Listed slots) old new s sent next r h = absurd h

  seeks_likewise : (o : ℕ → VolumeOption) (text name : List ℕ) (old new : D) (s : B) (sent : List ℕ) (next : Phase) → R old s
      → SeeksFor outline Calls o text name old sent next new → Likewise (SeeksFor outline' Calls' o text name s sent next) new
  seeks_likewise o text name old new s sent next r (inl h) = let m = looks_likewise (o 16777216) name old new s sent next r h.looks in (m.0, inl (record { no_id = h.no_id; looks = m.1 }), m.2)
  seeks_likewise o text name old new s sent next r (inr h) =
      let m = call_follows old h.looked s (NextId h.id) h.answer r h.calls in
      let n = sought_likewise o name h.id h.answer h.looked new m.0 sent next m.2 h.seeks in
      (n.0, inr (record { id = h.id; text_is = h.text_is; below = h.below; answer = h.answer; looked = m.0; calls = m.1; seeks = n.1 }), n.2)

  -- ---- what is told of a volume

  compares_likewise : (b : Bool) (x : Manner) (unit from : ℕ) (q : Request) (slots : List (ℕ × ℕ)) (old new : D) (s : B) (sent : List ℕ) → R old s
      → MatchBool b (Compares outline Calls x unit from q slots old sent new) (IsAllocation true unit q slots sent × (new ≡ old))
      → Likewise (λ s'. MatchBool b (Compares outline' Calls' x unit from q slots s sent s') (IsAllocation true unit q slots sent × (s' ≡ s))) new
  compares_likewise true x unit from q slots old new s sent r h =
      let m = call_follows old new s (Walk x.since from) h.answer r h.calls in
      (m.0, record { answer = h.answer; calls = m.1; is_compared = h.is_compared }, m.2)
  compares_likewise false x unit from q slots old new s sent r h = resting _ old new s h.1 r (h.0, refl)

  described_likewise : (x : Manner) (unit from : ℕ) (q : Request) (answer : Answer) (old new : D) (s : B) (sent : List ℕ) → R old s
      → IsDescribed outline Calls x unit from q answer old sent new → Likewise (IsDescribed outline' Calls' x unit from q answer s sent) new
  described_likewise x unit from q (Listed slots) old new s sent r h = compares_likewise (has_since x) x unit from q slots old new s sent r h
  described_likewise x unit from q (Refused reason) old new s sent r h = resting _ old new s h.1 r (h.0, refl)
  described_likewise x unit from q Done old new s sent r h = absurd h
  described_likewise x unit from q (Gave sectors) old new s sent r h = absurd h
  described_likewise x unit from q (Line bytes) old new s sent r h = absurd h
  described_likewise x unit from q (Found least) old new s sent r h = absurd h
  described_likewise x unit from q (Sized blocks) old new s sent r h = absurd h

  -- ---- a long READ in chunks

  holes_likewise : (id unit : ℕ) (q : Request) (given sent : List ℕ) (old new : D) (s : B) → R old s → SeeksHoles outline Calls id unit q given old sent new
      → Likewise (SeeksHoles outline' Calls' id unit q given s sent) new
  holes_likewise id unit q given sent old new s r h =
      let m = call_follows old new s (Walk id (first_block unit q)) h.answer r h.calls in
      (m.0, record { answer = h.answer; calls = m.1; is_sought = h.is_sought }, m.2)

  holes_by : (b : Bool) (id unit : ℕ) (q : Request) (given sent told : List ℕ) (old new : D) (s : B) → R old s
      → MatchBool b (SeeksHoles outline Calls id unit q given old sent new) ((sent ≡ told) × (new ≡ old))
      → Likewise (λ s'. MatchBool b (SeeksHoles outline' Calls' id unit q given s sent s') ((sent ≡ told) × (s' ≡ s))) new
  holes_by true id unit q given sent told old new s r h = holes_likewise id unit q given sent old new s r h
  holes_by false id unit q given sent told old new s r h = resting _ old new s h.1 r (h.0, refl)

  told_given : (b c : Bool) (id unit : ℕ) (q : Request) (given sent told : List ℕ) (old new : D) (s : B) → R old s
      → MatchBool b (MatchBool c (SeeksHoles outline Calls id unit q given old sent new) ((sent ≡ told) × (new ≡ old))) ((sent ≡ told) × (new ≡ old))
      → Likewise (λ s'. MatchBool b (MatchBool c (SeeksHoles outline' Calls' id unit q given s sent s') ((sent ≡ told) × (s' ≡ s))) ((sent ≡ told) × (s' ≡ s))) new
  told_given true c id unit q given sent told old new s r h = holes_by c id unit q given sent told old new s r h
  told_given false c id unit q given sent told old new s r h = resting _ old new s h.1 r (h.0, refl)

  given_likewise : (id unit : ℕ) (q : Request) (answer : Answer) (sent : List ℕ) (old new : D) (s : B) → R old s → IsGiven outline Calls id unit q answer old sent new
      → Likewise (IsGiven outline' Calls' id unit q answer s sent) new
  given_likewise id unit q (Gave sectors) sent old new s r h =
      told_given (has_blank q (concat sectors)) (nat_lt (first_block unit q) 16777216) id unit q (concat sectors) sent (data_chunk true q.cookie q.offset (concat sectors)) old new s r h
  given_likewise id unit q Done sent old new s r h = resting _ old new s h.1 r (h.0, refl)
  given_likewise id unit q (Line bytes) sent old new s r h = resting _ old new s h.1 r (h.0, refl)
  given_likewise id unit q (Found least) sent old new s r h = resting _ old new s h.1 r (h.0, refl)
  given_likewise id unit q (Sized blocks) sent old new s r h = resting _ old new s h.1 r (h.0, refl)
  given_likewise id unit q (Listed slots) sent old new s r h = resting _ old new s h.1 r (h.0, refl)
  given_likewise id unit q (Refused reason) sent old new s r h = resting _ old new s h.1 r (h.0, refl)

  long_likewise : (id : ℕ) (q : Request) (sent : List ℕ) (old new : D) (s : B) → R old s → ReadsLong outline Calls id q old sent new → Likewise (ReadsLong outline' Calls' id q s sent) new
  long_likewise id q sent old new s r h =
      let m = call_follows old h.asked s (Read id (q.offset / 512) (q.len / 512)) h.answer r h.calls in
      let n = given_likewise id (unit_of (outline old).geometry) q h.answer sent h.asked new m.0 m.2 h.is_given in
      let G : Geometry → Type 0 = λ g. IsGiven outline' Calls' id (unit_of g) q h.answer m.0 sent n.0 in
      (n.0, record { answer = h.answer; asked = m.0; calls = m.1; is_given = subst G (sym (ap (λ (p : Outline). p.geometry) (same old s r))) n.1 }, n.2)

  module _ (old new : D) (s : B) (is_shown : R old s) where
    same_mode : (outline' s).mode ≡ (outline old).mode
    same_mode = ap (λ (p : Outline). p.mode) (same old s is_shown)

    same_geometry : (outline' s).geometry ≡ (outline old).geometry
    same_geometry = ap (λ (p : Outline). p.geometry) (same old s is_shown)

    call_likewise : (call : Call) (answer : Answer) → Calls old call answer new → Likewise (Calls' s call answer) new
    call_likewise call answer h = call_follows old new s call answer is_shown h

    pub lets_go_likewise : (phase : Phase) → LetsGo outline Calls phase old new → Likewise (LetsGo outline' Calls' phase s) new
    lets_go_likewise phase h =
        let m = older_likewise (nat_lt (older_in phase) 16777216) (older_in phase) old h.without_older s is_shown h.lets_older_go in
        let n = own_likewise phase h.without_older new m.0 m.2 h.lets_own_go in
        (n.0, record { without_older = m.0; lets_older_go = m.1; lets_own_go = n.1 }, n.2)

    ends_likewise : (last : List ℕ) (phase next : Phase) (sent : List ℕ) → Ends outline Calls last phase old sent next new → Likewise (Ends outline' Calls' last phase s sent next) new
    ends_likewise last phase next sent h = let m = lets_go_likewise phase h.2 in (m.0, (h.0, h.1, m.1), m.2)

    performs_likewise : (call : Call) (reply : Answer → List ℕ) (sent : List ℕ) → Performs outline Calls call reply old sent new → Likewise (Performs outline' Calls' call reply s sent) new
    performs_likewise call reply sent h = let m = call_likewise call h.answer h.calls in (m.0, record { answer = h.answer; calls = m.1; sent_is = h.sent_is }, m.2)

    performed : (call : Call) (reply : Answer → List ℕ) (v n : ℕ) (x : Manner) (sent : List ℕ) (next : Phase) → Performs outline Calls call reply old sent new × (next ≡ Transmission v n (Listens x))
        → Likewise (λ s'. Performs outline' Calls' call reply s sent s' × (next ≡ Transmission v n (Listens x))) new
    performed call reply v n x sent next h = let m = performs_likewise call reply sent h.0 in (m.0, (m.1, h.1), m.2)

    begun_likewise : (call : Call) (v n : ℕ) (x : Manner) (r : Request) (sent : List ℕ) (next : Phase) → Begins outline Calls call v n x r old sent next new
        → Likewise (Begins outline' Calls' call v n x r s sent next) new
    begun_likewise call v n x r sent next h = let m = call_likewise call h.answer h.calls in (m.0, record { answer = h.answer; calls = m.1; is_begun = h.is_begun }, m.2)

    written_likewise : (b : Bool) (apart call : Call) (v n : ℕ) (x : Manner) (r : Request) (sent : List ℕ) (next : Phase)
        → MatchBool b (Begins outline Calls apart v n x r old sent next new) (Performs outline Calls call (reply_to r.cookie) old sent new × (next ≡ Transmission v n (Listens x)))
        → Likewise (λ s'. MatchBool b (Begins outline' Calls' apart v n x r s sent next s') (Performs outline' Calls' call (reply_to r.cookie) s sent s' × (next ≡ Transmission v n (Listens x)))) new
    written_likewise true apart call v n x r sent next h = begun_likewise apart v n x r sent next h
    written_likewise false apart call v n x r sent next h = performed call (reply_to r.cookie) v n x sent next h

    tells_likewise : (o : Outcome) (sent : List ℕ) (next : Phase) → Tells outline Calls o old sent next new → Likewise (Tells outline' Calls' o s sent next) new
    tells_likewise o sent next h = resting _ old new s h.2 is_shown (h.0, h.1, refl)

    described_by : (b : Bool) (x : Manner) (v : ℕ) (r : Request) (sent told : List ℕ) → MatchBool b (Walks outline Calls x v r old sent new) ((sent ≡ told) × (new ≡ old))
        → Likewise (λ s'. MatchBool b (Walks outline' Calls' x v r s sent s') ((sent ≡ told) × (s' ≡ s))) new
    described_by true x v r sent told h =
        let unit : ℕ = unit_of (outline old).geometry in
        let from : ℕ = first_block unit r in
        let m = call_follows old h.walked s (Walk v from) h.answer is_shown h.calls in
        let n = described_likewise x unit from r h.answer h.walked new m.0 sent m.2 h.is_described in
        let P : Geometry → Type 0 = λ g. Calls' s (Walk v (first_block (unit_of g) r)) h.answer m.0 in
        let Q : Geometry → Type 0 = λ g. IsDescribed outline' Calls' x (unit_of g) (first_block (unit_of g) r) r h.answer m.0 sent n.0 in
        (n.0, record { answer = h.answer; walked = m.0; calls = subst P (sym same_geometry) m.1; is_described = subst Q (sym same_geometry) n.1 }, n.2)
    described_by false x v r sent told h = resting _ old new s h.1 is_shown (h.0, refl)

    describes_likewise : (x : Manner) (v : ℕ) (r : Request) (sent : List ℕ) → Describes outline Calls x v r old sent new → Likewise (Describes outline' Calls' x v r s sent) new
    describes_likewise x v r sent h =
        let P : Geometry → Type 0 = λ g. Likewise (λ s'. MatchBool (nat_lt (first_block (unit_of g) r) 16777216) (Walks outline' Calls' x v r s sent s')
        ((sent ≡ error_chunk (nbd_code errors.Invalid) r.cookie) × (s' ≡ s))) new in
        subst P (sym same_geometry) (described_by (nat_lt (first_block (unit_of (outline old).geometry) r) 16777216) x v r sent _ h)

    chunks_by : (b : Bool) (v : ℕ) (q : Request) (sent : List ℕ)
        → MatchBool b (ReadsLong outline Calls v q old sent new) (Performs outline Calls (Read v (q.offset / 512) (q.len / 512)) (chunk_to q) old sent new)
        → Likewise (λ s'. MatchBool b (ReadsLong outline' Calls' v q s sent s') (Performs outline' Calls' (Read v (q.offset / 512) (q.len / 512)) (chunk_to q) s sent s')) new
    chunks_by true v q sent h = long_likewise v q sent old new s is_shown h
    chunks_by false v q sent h = performs_likewise (Read v (q.offset / 512) (q.len / 512)) (chunk_to q) sent h

    reads_by : (b c : Bool) (v : ℕ) (q : Request) (sent : List ℕ)
        → MatchBool b (MatchBool c (ReadsLong outline Calls v q old sent new) (Performs outline Calls (Read v (q.offset / 512) (q.len / 512)) (chunk_to q) old sent new))
        (Performs outline Calls (Read v (q.offset / 512) (q.len / 512)) (reply_to q.cookie) old sent new)
        → Likewise (λ s'. MatchBool b (MatchBool c (ReadsLong outline' Calls' v q s sent s') (Performs outline' Calls' (Read v (q.offset / 512) (q.len / 512)) (chunk_to q) s sent s'))
        (Performs outline' Calls' (Read v (q.offset / 512) (q.len / 512)) (reply_to q.cookie) s sent s')) new
    reads_by true c v q sent h = chunks_by c v q sent h
    reads_by false c v q sent h = performs_likewise (Read v (q.offset / 512) (q.len / 512)) (reply_to q.cookie) sent h

    serves_likewise : (d : Verdict) (v n : ℕ) (x : Manner) (r : Request) (payload sent : List ℕ) (next : Phase) → Serves outline Calls d v n x r payload old sent next new
        → Likewise (Serves outline' Calls' d v n x r payload s sent next) new
    serves_likewise verdicts.Disconnect v n x r payload sent next h = ends_likewise [] (Transmission v n (Listens x)) next sent h
    serves_likewise (verdicts.Refuse e) v n x r payload sent next h = tells_likewise _ sent next h
    serves_likewise verdicts.Nothing v n x r payload sent next h = tells_likewise _ sent next h
    serves_likewise verdicts.Read v n x r payload sent next h = let m = reads_by x.is_structured (nat_le 65536 r.len) v r sent h.0 in (m.0, (m.1, h.1), m.2)
    serves_likewise verdicts.Write v n x r payload sent next h = written_likewise (is_kept_apart x r) _ _ v n x r sent next h
    serves_likewise verdicts.Trim v n x r payload sent next h = written_likewise (is_kept_apart x r) _ _ v n x r sent next h
    serves_likewise verdicts.WriteZeroes v n x r payload sent next h = written_likewise (is_kept_apart x r) _ _ v n x r sent next h
    serves_likewise verdicts.Flush v n x r payload sent next h = performed _ _ v n x sent next h
    serves_likewise verdicts.Status v n x r payload sent next h = let m = describes_likewise x v r sent h.0 in (m.0, (m.1, h.1), m.2)
    serves_likewise verdicts.Long v n x r payload sent next h = tells_likewise _ sent next h

    pub part_likewise : (v n : ℕ) (x : Manner) (r : Request) (sent : List ℕ) (next : Phase) → MakesPart outline Calls v n x r old sent next new → Likewise (MakesPart outline' Calls' v n x r s sent next) new
    part_likewise v n x r sent next h =
        let P : Geometry → Type 0 = λ g. Likewise (Calls' s (part_call x v g r) h.answer) new in
        let m = subst P (sym same_geometry) (call_likewise (part_call x v (outline old).geometry r) h.answer h.calls) in
        let Q : Geometry → Type 0 = λ g. IsMade v n x r (rest_of g r) (is_last g r) h.answer sent next in
        (m.0, record { answer = h.answer; calls = m.1; is_made = subst Q (sym same_geometry) h.is_made }, m.2)

    informs_by : (b : Bool) (option : ℕ) (o : VolumeOption) (z : Terms) (payload sent : List ℕ) (next : Phase)
        → MatchBool b (Tells outline Calls (outcome [] Ended) old sent next new) (IsInvalid outline Calls option z payload old sent next new ⊎ IsValid outline Calls o payload old sent next new)
        → Likewise (λ s'. MatchBool b (Tells outline' Calls' (outcome [] Ended) s sent next s') (IsInvalid outline' Calls' option z payload s sent next s' ⊎ IsValid outline' Calls' o payload s sent next s')) new
    informs_by true option o z payload sent next h = tells_likewise (outcome [] Ended) sent next h
    informs_by false option o z payload sent next (inl h) = let m = tells_likewise _ sent next h.tells in (m.0, inl (record { no_info = h.no_info; tells = m.1 }), m.2)
    informs_by false option o z payload sent next (inr h) =
        let m = looks_likewise o h.name old new s sent next is_shown h.looks in
        (m.0, inr (record { name = h.name; types = h.types; info = h.info; looks = m.1 }), m.2)

    informs_likewise : (option : ℕ) (o : VolumeOption) (z : Terms) (payload sent : List ℕ) (next : Phase) → Informs outline Calls option o z payload old sent next new → Likewise (Informs outline' Calls' option o z payload s sent next) new
    informs_likewise option o z payload sent next h =
        let P : Mode → Type 0 = λ m. Likewise (λ s'. MatchBool (is_failed m) (Tells outline' Calls' (outcome [] Ended) s sent next s')
        (IsInvalid outline' Calls' option z payload s sent next s' ⊎ IsValid outline' Calls' o payload s sent next s')) new in
        subst P (sym (same_mode)) (informs_by (is_failed (outline old).mode) option o z payload sent next h)

    exports_by : (b : Bool) (o : VolumeOption) (z : Terms) (name sent : List ℕ) (next : Phase)
        → MatchBool b (Tells outline Calls (outcome [] Ended) old sent next new) (LooksFor outline Calls o name old sent next new)
        → Likewise (λ s'. MatchBool b (Tells outline' Calls' (outcome [] Ended) s sent next s') (LooksFor outline' Calls' o name s sent next s')) new
    exports_by true o z name sent next h = tells_likewise (outcome [] Ended) sent next h
    exports_by false o z name sent next h = looks_likewise o name old new s sent next is_shown h

    exports_likewise : (o : VolumeOption) (z : Terms) (name sent : List ℕ) (next : Phase) → Exports outline Calls o z name old sent next new → Likewise (Exports outline' Calls' o z name s sent next) new
    exports_likewise o z name sent next h =
        let P : Mode → Type 0 = λ m. Likewise (λ s'. MatchBool (is_failed m) (Tells outline' Calls' (outcome [] Ended) s sent next s') (LooksFor outline' Calls' o name s sent next s')) new in
        subst P (sym (same_mode)) (exports_by (is_failed (outline old).mode) o z name sent next h)

    names_by : (b : Bool) (z : Terms) (sent : List ℕ) (next : Phase)
        → MatchBool b (NamesAll outline Calls z old sent next new ⊎ NamesNone outline Calls old sent next new) (Tells outline Calls (option_error OPTION_LIST Invalid z) old sent next new)
        → Likewise (λ s'. MatchBool b (NamesAll outline' Calls' z s sent next s' ⊎ NamesNone outline' Calls' s sent next s') (Tells outline' Calls' (option_error OPTION_LIST Invalid z) s sent next s')) new
    names_by true z sent next (inl h) =
        let limit : ℕ = limit_of z.profile in
        let m = finding_likewise (IsLast outline Calls limit) (IsLast outline' Calls' limit) (last_likewise limit) 0 h.ids old new s is_shown h.finding in
        (m.0, inl (record { ids = h.ids; few = h.few; below = h.below; finding = m.1; sent_is = h.sent_is; next_is = h.next_is }), m.2)
    names_by true z sent next (inr h) = none h.finding where
      none : Finding outline Calls (IsRefused outline Calls) 0 h.ids old new ⊎ ((length h.ids ≡ 65537) × Finding outline Calls (IsEnough outline Calls) 0 h.ids old new)
          → Likewise (λ s'. NamesAll outline' Calls' z s sent next s' ⊎ NamesNone outline' Calls' s sent next s') new
      none (inl f) =
          let m = finding_likewise (IsRefused outline Calls) (IsRefused outline' Calls') refused_likewise 0 h.ids old new s is_shown f in
          (m.0, inr (record { ids = h.ids; few = h.few; finding = inl m.1; sent_is = h.sent_is; next_is = h.next_is }), m.2)
      none (inr f) =
          let m = finding_likewise (IsEnough outline Calls) (IsEnough outline' Calls') enough_likewise 0 h.ids old new s is_shown f.1 in
          (m.0, inr (record { ids = h.ids; few = h.few; finding = inr (f.0, m.1); sent_is = h.sent_is; next_is = h.next_is }), m.2)
    names_by false z sent next h = tells_likewise (option_error OPTION_LIST Invalid z) sent next h

    lists_by : (b : Bool) (z : Terms) (payload sent : List ℕ) (next : Phase)
        → MatchBool b (Tells outline Calls (outcome [] Ended) old sent next new)
        (MatchBool (length payload == 0) (NamesAll outline Calls z old sent next new ⊎ NamesNone outline Calls old sent next new) (Tells outline Calls (option_error OPTION_LIST Invalid z) old sent next new))
        → Likewise (λ s'. MatchBool b (Tells outline' Calls' (outcome [] Ended) s sent next s')
        (MatchBool (length payload == 0) (NamesAll outline' Calls' z s sent next s' ⊎ NamesNone outline' Calls' s sent next s') (Tells outline' Calls' (option_error OPTION_LIST Invalid z) s sent next s'))) new
    lists_by true z payload sent next h = tells_likewise (outcome [] Ended) sent next h
    lists_by false z payload sent next h = names_by (length payload == 0) z sent next h

    lists_likewise : (z : Terms) (payload sent : List ℕ) (next : Phase) → Lists outline Calls z payload old sent next new → Likewise (Lists outline' Calls' z payload s sent next) new
    lists_likewise z payload sent next h =
        let P : Mode → Type 0 = λ m. Likewise (λ s'. MatchBool (is_failed m) (Tells outline' Calls' (outcome [] Ended) s sent next s')
        (MatchBool (length payload == 0) (NamesAll outline' Calls' z s sent next s' ⊎ NamesNone outline' Calls' s sent next s') (Tells outline' Calls' (option_error OPTION_LIST Invalid z) s sent next s'))) new in
        subst P (sym (same_mode)) (lists_by (is_failed (outline old).mode) z payload sent next h)

    queries_by : (b c : Bool) (option : ℕ) (asks : List (List ℕ) → Bool) (o : Bool → ℕ → VolumeOption) (z y : Terms) (payload sent : List ℕ) (next : Phase)
        → MatchBool b (Tells outline Calls (outcome [] Ended) old sent next new)
        (MatchBool c (IsNoQuery outline Calls option y payload old sent next new ⊎ IsQueried outline Calls asks o payload old sent next new) (Tells outline Calls (option_error option Invalid y) old sent next new))
        → Likewise (λ s'. MatchBool b (Tells outline' Calls' (outcome [] Ended) s sent next s')
        (MatchBool c (IsNoQuery outline' Calls' option y payload s sent next s' ⊎ IsQueried outline' Calls' asks o payload s sent next s') (Tells outline' Calls' (option_error option Invalid y) s sent next s'))) new
    queries_by true c option asks o z y payload sent next h = tells_likewise (outcome [] Ended) sent next h
    queries_by false true option asks o z y payload sent next (inl h) = let m = tells_likewise _ sent next h.tells in (m.0, inl (record { no_query = h.no_query; tells = m.1 }), m.2)
    queries_by false true option asks o z y payload sent next (inr h) =
        let m = seeks_likewise (o (asks h.queries)) (since_of h.queries) h.name old new s sent next is_shown h.seeks in
        (m.0, inr (record { name = h.name; queries = h.queries; query = h.query; seeks = m.1 }), m.2)
    queries_by false false option asks o z y payload sent next h = tells_likewise (option_error option Invalid y) sent next h

    queries_likewise : (option : ℕ) (asks : List (List ℕ) → Bool) (o : Bool → ℕ → VolumeOption) (z y : Terms) (payload sent : List ℕ) (next : Phase) → Queries outline Calls option asks o z y payload old sent next new
        → Likewise (Queries outline' Calls' option asks o z y payload s sent next) new
    queries_likewise option asks o z y payload sent next h =
        let P : Mode → Type 0 = λ m. Likewise (λ s'. MatchBool (is_failed m) (Tells outline' Calls' (outcome [] Ended) s sent next s')
        (MatchBool z.is_structured (IsNoQuery outline' Calls' option y payload s sent next s' ⊎ IsQueried outline' Calls' asks o payload s sent next s') (Tells outline' Calls' (option_error option Invalid y) s sent next s'))) new in
        subst P (sym (same_mode)) (queries_by (is_failed (outline old).mode) z.is_structured option asks o z y payload sent next h)

    extends_likewise : (is_chunks is_list is_set : Bool) (z : Terms) (option : ℕ) (payload sent : List ℕ) (next : Phase)
        → MatchBool is_chunks (Tells outline Calls (structures z payload) old sent next new)
        (MatchBool is_list (Queries outline Calls OPTION_LIST_META_CONTEXT lists (list_context z) z z payload old sent next new)
        (MatchBool is_set (Queries outline Calls OPTION_SET_META_CONTEXT asks_for (set_context z) z (without_context z) payload old sent next new)
        (Tells outline Calls (option_error option Unsupported z) old sent next new)))
        → Likewise (λ s'. MatchBool is_chunks (Tells outline' Calls' (structures z payload) s sent next s')
        (MatchBool is_list (Queries outline' Calls' OPTION_LIST_META_CONTEXT lists (list_context z) z z payload s sent next s')
        (MatchBool is_set (Queries outline' Calls' OPTION_SET_META_CONTEXT asks_for (set_context z) z (without_context z) payload s sent next s')
        (Tells outline' Calls' (option_error option Unsupported z) s sent next s')))) new
    extends_likewise true is_list is_set z option payload sent next h = tells_likewise (structures z payload) sent next h
    extends_likewise false true is_set z option payload sent next h = queries_likewise OPTION_LIST_META_CONTEXT lists (list_context z) z z payload sent next h
    extends_likewise false false true z option payload sent next h = queries_likewise OPTION_SET_META_CONTEXT asks_for (set_context z) z (without_context z) payload sent next h
    extends_likewise false false false z option payload sent next h = tells_likewise (option_error option Unsupported z) sent next h

    chosen_by : (is_go is_info is_export is_list is_abort is_long : Bool) (z : Terms) (option : ℕ) (payload sent : List ℕ) (next : Phase)
        → MatchBool is_go (Informs outline Calls OPTION_GO (go z) z payload old sent next new)
        (MatchBool is_info (Informs outline Calls OPTION_INFO (info z) z payload old sent next new)
        (MatchBool is_export (Exports outline Calls (export_name z) z payload old sent next new)
        (MatchBool is_list (Lists outline Calls z payload old sent next new)
        (MatchBool is_abort (Tells outline Calls (outcome (option_reply OPTION_ABORT Acknowledged []) Ended) old sent next new)
        (MatchBool is_long (Extends outline Calls z option payload old sent next new) (Tells outline Calls (option_error option Unsupported z) old sent next new))))))
        → Likewise (λ s'. MatchBool is_go (Informs outline' Calls' OPTION_GO (go z) z payload s sent next s')
        (MatchBool is_info (Informs outline' Calls' OPTION_INFO (info z) z payload s sent next s')
        (MatchBool is_export (Exports outline' Calls' (export_name z) z payload s sent next s')
        (MatchBool is_list (Lists outline' Calls' z payload s sent next s')
        (MatchBool is_abort (Tells outline' Calls' (outcome (option_reply OPTION_ABORT Acknowledged []) Ended) s sent next s')
        (MatchBool is_long (Extends outline' Calls' z option payload s sent next s') (Tells outline' Calls' (option_error option Unsupported z) s sent next s'))))))) new
    chosen_by true is_info is_export is_list is_abort is_long z option payload sent next h = informs_likewise OPTION_GO (go z) z payload sent next h
    chosen_by false true is_export is_list is_abort is_long z option payload sent next h = informs_likewise OPTION_INFO (info z) z payload sent next h
    chosen_by false false true is_list is_abort is_long z option payload sent next h = exports_likewise (export_name z) z payload sent next h
    chosen_by false false false true is_abort is_long z option payload sent next h = lists_likewise z payload sent next h
    chosen_by false false false false true is_long z option payload sent next h = tells_likewise (outcome (option_reply OPTION_ABORT Acknowledged []) Ended) sent next h
    chosen_by false false false false false true z option payload sent next h = extends_likewise (option == OPTION_STRUCTURED_REPLY) (option == OPTION_LIST_META_CONTEXT) (option == OPTION_SET_META_CONTEXT) z option payload sent next h
    chosen_by false false false false false false z option payload sent next h = tells_likewise (option_error option Unsupported z) sent next h

  option_likewise : (old new : D) (s : B) → R old s → (z : Terms) (option : ℕ) (payload sent : List ℕ) (next : Phase) → AnswersOption outline Calls z option payload old sent next new
      → Likewise (AnswersOption outline' Calls' z option payload s sent next) new
  option_likewise old new s is_shown z option payload sent next h =
      let m = chosen_by old h.answered s is_shown (option == OPTION_GO) (option == OPTION_INFO) (option == OPTION_EXPORT_NAME) (option == OPTION_LIST) (option == OPTION_ABORT) (is_extended z.profile) z option payload
      h.chosen.sent h.chosen.next h.chooses in
      let n = settles_likewise (z.since == older_in h.chosen.next) z.since h.chosen h.answered new m.0 sent next m.2 h.settles in
      (n.0, record { chosen = h.chosen; answered = m.0; chooses = m.1; settles = n.1 }, n.2)

  module _ (old new : D) (s : B) (is_shown : R old s) where
    pub answers_likewise : (phase next : Phase) (m : Message) (sent : List ℕ) → Answers outline Calls phase m old sent next new → Likewise (Answers outline' Calls' phase m s sent next) new
    answers_likewise (Flags a) next (client_flags z) sent h = tells_likewise old new s is_shown (outcome [] (Options (terms_of a z))) sent next h
    answers_likewise (Flags a) next (client_option o q) sent h = absurd h
    answers_likewise (Flags a) next (command r q) sent h = absurd h
    answers_likewise (Flags a) next malformed sent h = ends_likewise old new s is_shown [] (Flags a) next sent h
    answers_likewise (Options z) next (client_flags y) sent h = absurd h
    answers_likewise (Options z) next (client_option o q) sent h = option_likewise old new s is_shown z o q sent next h
    answers_likewise (Options z) next (command r q) sent h = absurd h
    answers_likewise (Options z) next malformed sent h = ends_likewise old new s is_shown [] (Options z) next sent h
    answers_likewise (Transmission v n (Listens x)) next (client_flags y) sent h = absurd h
    answers_likewise (Transmission v n (Listens x)) next (client_option o q) sent h = absurd h
    answers_likewise (Transmission v n (Listens x)) next (command r q) sent h = serves_likewise old new s is_shown (verdict_in x n r) v n x r q sent next h
    answers_likewise (Transmission v n (Listens x)) next malformed sent h = ends_likewise old new s is_shown [] (Transmission v n (Listens x)) next sent h
    answers_likewise (Transmission v n (Works x r)) next m sent h = absurd h
    answers_likewise Ended next (client_flags y) sent h = absurd h
    answers_likewise Ended next (client_option o q) sent h = absurd h
    answers_likewise Ended next (command r q) sent h = absurd h
    answers_likewise Ended next malformed sent h = ends_likewise old new s is_shown [] Ended next sent h

    -- a session that reads no frames
    deaf_likewise : (phase : Phase) (from to : State) (piece sent : List ℕ) (taken : ℕ) (ended : Bool) → IsDeaf outline Calls phase from old piece taken sent ended to new
        → Likewise (IsDeaf outline' Calls' phase from s piece taken sent ended to) new
    deaf_likewise (Transmission v n (Works m r)) from to piece sent taken ended h =
        let x = part_likewise old new s is_shown v n m r sent to.phase h.part in
        (x.0, record { part = x.1; none = h.none; taken_is = h.taken_is; ended_is = h.ended_is; held_is = h.held_is }, x.2)
    deaf_likewise Ended from to piece sent taken ended h =
        resting _ old new s h.pool_is is_shown (record { taken_is = h.taken_is; sent_is = h.sent_is; ended_is = h.ended_is; phase_is = h.phase_is; held_is = h.held_is; pool_is = refl })
    deaf_likewise (Flags a) from to piece sent taken ended h = absurd h
    deaf_likewise (Options z) from to piece sent taken ended h = absurd h
    deaf_likewise (Transmission v n (Listens x)) from to piece sent taken ended h = absurd h

    steps_by : (o : Option Kind) (from to : State) (piece sent : List ℕ) (taken : ℕ) (ended : Bool)
        → MatchOption o (IsDeaf outline Calls from.phase from old piece taken sent ended to new)
        (λ kind. Waits outline Calls kind from old piece taken sent ended to new ⊎ TakesFrame outline Calls kind from old piece taken sent ended to new)
        → Likewise (λ s'. MatchOption o (IsDeaf outline' Calls' from.phase from s piece taken sent ended to s')
        (λ kind. Waits outline' Calls' kind from s piece taken sent ended to s' ⊎ TakesFrame outline' Calls' kind from s piece taken sent ended to s')) new
    steps_by None from to piece sent taken ended h = deaf_likewise from.phase from to piece sent taken ended h
    steps_by (Some kind) from to piece sent taken ended (inl h) =
        resting _ old new s h.pool_is is_shown (inl (record { partial = h.partial; taken_is = h.taken_is; sent_is = h.sent_is; ended_is = h.ended_is; phase_is = h.phase_is; held_is = h.held_is; pool_is = refl }))
    steps_by (Some kind) from to piece sent taken ended (inr h) =
        let m = answers_likewise from.phase to.phase h.message sent h.answer in
        (m.0, inr (record { message = h.message; some = h.some; inside = h.inside; frame = h.frame; answer = m.1; ended_is = h.ended_is; held_is = h.held_is }), m.2)

    pub steps_likewise : (from to : State) (piece sent : List ℕ) (taken : ℕ) (ended : Bool) → Steps outline Calls from old piece taken sent ended to new
        → Likewise (Steps outline' Calls' from s piece taken sent ended to) new
    steps_likewise from to piece sent taken ended h = steps_by (kind_of from.phase) from to piece sent taken ended h
