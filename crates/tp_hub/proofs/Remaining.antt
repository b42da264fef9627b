-- A session whose client was offered a profile that writes through does so in each phase.
use Rattle.std.proofs.Common.{◌≡◌, ◌⊎◌, ℕ, Bool, true, false, List, [], ◌∷◌, length, Option, Some, None, inl, inr, refl, sym, subst}
use Rattle.std.specs.Prelude.{MatchBool, MatchOption, ◌==◌, if◌then◌else◌, nat_lt}
use Rattle.std.proofs.lemmas.Bool.{cases_eq}
use Rattle.tp_model.specs.Pool.{Outline}
use Rattle.tp_model.specs.Calls.{Answer, Call, Done, Found, Gave, Line, Listed, Refused, Sized, is_failed}
use Rattle.nbd_wire.specs.declared.Kind.{Kind}
use Rattle.nbd_wire.specs.declared.Request.{Request}
use Rattle.nbd_wire.specs.declared.TheConstants.{OPTION_ABORT, OPTION_EXPORT_NAME, OPTION_GO, OPTION_INFO, OPTION_LIST, OPTION_LIST_META_CONTEXT, OPTION_SET_META_CONTEXT, OPTION_STRUCTURED_REPLY}
use Rattle.nbd_wire.specs.declared.writing.ReplyType.TheVariants.{Acknowledged, Invalid, Unsupported}
use Rattle.nbd_wire.specs.Contexts.{asks_for, lists, since_of}
use Rattle.nbd_wire.specs.Replies.{option_reply}
use Rattle.nbd_wire.specs.Grammar.{Message, client_flags, client_option, command, malformed}
use Rattle.nbd_session.specs.declared.phase.Course.TheVariants.{Listens, Works}
use Rattle.nbd_session.specs.declared.phase.Manner.{Manner}
use Rattle.nbd_session.specs.declared.phase.Phase.{Phase}
use Rattle.nbd_session.specs.declared.phase.Phase.TheVariants.{Flags, Options, Transmission, Ended}
use Rattle.nbd_session.specs.declared.phase.Profile.{Profile}
use Rattle.nbd_session.specs.declared.phase.Profile.TheVariants.{Strict, Extended, WithDefault, Cloning, WritingThrough}
use Rattle.nbd_session.specs.declared.phase.Terms.{Terms}
use Rattle.nbd_session.specs.declared.request.Verdict.{Verdict}
use Rattle.nbd_session.specs.declared.request.Verdict.TheVariants as verdicts
use Rattle.nbd_session.specs.Requests.{bytes_of_blocks, is_kept_apart, verdict_in}
use Rattle.nbd_session.specs.Session.{Answers, AnswersOption, AsksFor, Begins, Clones, Enters, Exports, Extends, Finds, Holds, HoldsOlder, Informs, IsCloneHeld, IsCloneSized, IsCloned, IsDeaf, IsHeld, IsInvalid, IsMade, IsNoQuery, IsOlderHeld, IsQueried, IsSized, IsValid, Lists, LooksFor, NamesAll, NamesNone, Outcome, Performs, Queries, Seeks, SeeksFor, Serves, Sizes, State, Steps, TakesFrame, Tells, Trades, VolumeOption, Waits, export_name, go, in_chunks, info, is_extended, is_of_failure, is_of_none, is_there, kind_of, list_context, manner_in, of_clone, older_in, option_error, outcome, reply_to, set_context, state, transmission_flags, uncloned, without_context, writes_through}
use Rattle.nbd_session.specs.Turns.{AreTurns, Asks, Happened, Hears, Leaves, Opens, Sessions, TakesTurn, Turn, sessions_after}
use Rattle.tp_hub.specs.Covered.{AreOffered, IsOffered}

-- a phase of a session that writes through
abbrev pub IsThrough : Phase → Type 0
IsThrough (Flags profile) = writes_through profile ≡ true
IsThrough (Options terms) = writes_through terms.profile ≡ true
IsThrough (Transmission volume size course) = ((manner_in course).is_extended ≡ true) × ((manner_in course).writes_through ≡ true)
IsThrough Ended = Unit {0}

extended_too : (p : Profile) → writes_through p ≡ true → is_extended p ≡ true
extended_too Strict is = absurd cc
extended_too Extended is = absurd cc
extended_too (WithDefault v) is = absurd cc
extended_too (Cloning v) is = absurd cc
extended_too (WritingThrough v clones) is = refl

moved : (next to : Phase) → next ≡ to → IsThrough to → IsThrough next
moved next to is h = subst IsThrough (sym is) h

module _ {S : Type 0} (outline : S → Outline) (Calls : S → Call → Answer → S → Type 0) where
  -- ---- an option that looks for a volume

  record IsFine (o : VolumeOption) : Type 0 where
    found : (id size flags : ℕ) → IsThrough (o.found id size flags).next
    cloned : (origin id size flags : ℕ) → IsThrough (o.cloned origin id size flags).next
    missing : IsThrough o.missing.next
    refused : IsThrough o.refused.next

  sized : (held : Bool) (f : ℕ → Outcome) (id : ℕ) (answer : Answer) (p p' : S) (sent : List ℕ) (next : Phase) → ((n : ℕ) → IsThrough (f n).next) → IsSized outline Calls held f id answer p sent next p' → IsThrough next
  sized held f id (Sized blocks) p p' sent next fine h = moved next (f blocks).next h.1 (fine blocks)
  sized held f id (Refused reason) p p' sent next fine h = moved next Ended h.1 tt
  sized held f id Done p p' sent next fine h = absurd h
  sized held f id (Gave sectors) p p' sent next fine h = absurd h
  sized held f id (Line text) p p' sent next fine h = absurd h
  sized held f id (Found least) p p' sent next fine h = absurd h
  sized held f id (Listed slots) p p' sent next fine h = absurd h

  held : (f : ℕ → Outcome) (id : ℕ) (answer : Answer) (p p' : S) (sent : List ℕ) (next : Phase) → ((n : ℕ) → IsThrough (f n).next) → IsHeld outline Calls f id answer p sent next p' → IsThrough next
  held f id Done p p' sent next fine h = sized true f id h.answer h.asked p' sent next fine h.is_sized
  held f id (Refused reason) p p' sent next fine h = moved next Ended h.1 tt
  held f id (Sized blocks) p p' sent next fine h = absurd h
  held f id (Gave sectors) p p' sent next fine h = absurd h
  held f id (Line text) p p' sent next fine h = absurd h
  held f id (Found least) p p' sent next fine h = absurd h
  held f id (Listed slots) p p' sent next fine h = absurd h

  entered : (b : Bool) (f : ℕ → Outcome) (id : ℕ) (p p' : S) (sent : List ℕ) (next : Phase) → ((n : ℕ) → IsThrough (f n).next)
      → MatchBool b (Holds outline Calls f id p sent next p') (Sizes outline Calls false f id p sent next p') → IsThrough next
  entered true f id p p' sent next fine h = held f id h.answer h.held p' sent next fine h.is_held
  entered false f id p p' sent next fine h = sized false f id h.answer h.asked p' sent next fine h.is_sized

  there : (b : Bool) (o : VolumeOption) (f : ℕ → Outcome) (id : ℕ) (p p' : S) (sent : List ℕ) (next : Phase) → ((n : ℕ) → IsThrough (f n).next) → IsThrough o.missing.next
      → MatchBool b (Enters outline Calls o.holds f id p sent next p') (Tells outline Calls o.missing p sent next p') → IsThrough next
  there true o f id p p' sent next fine missing h = entered o.holds f id p p' sent next fine h
  there false o f id p p' sent next fine missing h = moved next o.missing.next h.1 missing

  finds : (o : VolumeOption) (f : ℕ → Outcome) (id : ℕ) (answer : Answer) (p p' : S) (sent : List ℕ) (next : Phase) → ((n : ℕ) → IsThrough (f n).next) → IsThrough o.missing.next
      → Finds outline Calls o f id answer p sent next p' → IsThrough next
  finds o f id (Found least) p p' sent next fine missing h = there (is_there id least) o f id p p' sent next fine missing h
  finds o f id (Refused reason) p p' sent next fine missing h = moved next Ended h.1 tt
  finds o f id Done p p' sent next fine missing h = absurd h
  finds o f id (Sized blocks) p p' sent next fine missing h = absurd h
  finds o f id (Gave sectors) p p' sent next fine missing h = absurd h
  finds o f id (Line text) p p' sent next fine missing h = absurd h
  finds o f id (Listed slots) p p' sent next fine missing h = absurd h

  asked : (o : VolumeOption) → IsFine o → (id : ℕ) (p p' : S) (sent : List ℕ) (next : Phase) → AsksFor outline Calls o id p sent next p' → IsThrough next
  asked o fine id p p' sent next h =
      finds o (λ blocks. o.found id (bytes_of_blocks (outline p).geometry blocks) (transmission_flags (outline p))) id h.answer h.looked p' sent next
      (λ blocks. fine.found id (bytes_of_blocks (outline p).geometry blocks) (transmission_flags (outline p))) fine.missing h.finds

  clone_sized : (f : ℕ → Outcome) (id : ℕ) (answer : Answer) (p p' : S) (sent : List ℕ) (next : Phase) → ((n : ℕ) → IsThrough (f n).next) → IsCloneSized outline Calls f id answer p sent next p' → IsThrough next
  clone_sized f id (Sized blocks) p p' sent next fine h = moved next (f blocks).next h.1 (fine blocks)
  clone_sized f id (Refused reason) p p' sent next fine h = moved next Ended h.1 tt
  clone_sized f id Done p p' sent next fine h = absurd h
  clone_sized f id (Gave sectors) p p' sent next fine h = absurd h
  clone_sized f id (Line text) p p' sent next fine h = absurd h
  clone_sized f id (Found least) p p' sent next fine h = absurd h
  clone_sized f id (Listed slots) p p' sent next fine h = absurd h

  clone_held : (f : ℕ → Outcome) (id : ℕ) (answer : Answer) (p p' : S) (sent : List ℕ) (next : Phase) → ((n : ℕ) → IsThrough (f n).next) → IsCloneHeld outline Calls f id answer p sent next p' → IsThrough next
  clone_held f id Done p p' sent next fine h = clone_sized f id h.answer h.asked p' sent next fine h.is_sized
  clone_held f id (Refused reason) p p' sent next fine h = moved next Ended h.next_is tt
  clone_held f id (Sized blocks) p p' sent next fine h = absurd h
  clone_held f id (Gave sectors) p p' sent next fine h = absurd h
  clone_held f id (Line text) p p' sent next fine h = absurd h
  clone_held f id (Found least) p p' sent next fine h = absurd h
  clone_held f id (Listed slots) p p' sent next fine h = absurd h

  uncloned_by : (a b : Bool) (o : VolumeOption) → IsFine o → IsThrough (if a then o.missing else (if b then outcome [] Ended else o.refused)).next
  uncloned_by true b o fine = fine.missing
  uncloned_by false true o fine = tt
  uncloned_by false false o fine = fine.refused

  cloned : (o : VolumeOption) → IsFine o → (f : ℕ → Outcome) (id : ℕ) (answer : Answer) (p p' : S) (sent : List ℕ) (next : Phase) → ((n : ℕ) → IsThrough (f n).next) → IsCloned outline Calls o f id answer p sent next p' → IsThrough next
  cloned o ok f id Done p p' sent next fine h = clone_held f id h.answer h.held p' sent next fine h.is_held
  cloned o ok f id (Refused reason) p p' sent next fine h = moved next (uncloned o reason).next h.1 (uncloned_by (is_of_none reason) (is_of_failure reason) o ok)
  cloned o ok f id (Sized blocks) p p' sent next fine h = absurd h
  cloned o ok f id (Gave sectors) p p' sent next fine h = absurd h
  cloned o ok f id (Line text) p p' sent next fine h = absurd h
  cloned o ok f id (Found least) p p' sent next fine h = absurd h
  cloned o ok f id (Listed slots) p p' sent next fine h = absurd h

  of_clones : (b : Bool) (o : VolumeOption) → IsFine o → (origin : ℕ) (p p' : S) (sent : List ℕ) (next : Phase)
      → MatchBool b (Clones outline Calls o origin p sent next p') (AsksFor outline Calls (of_clone o origin) origin p sent next p') → IsThrough next
  of_clones true o fine origin p p' sent next h =
      cloned o fine (λ blocks. o.cloned origin h.id (bytes_of_blocks (outline p).geometry blocks) (transmission_flags (outline p))) h.id h.answer h.made p' sent next
      (λ blocks. fine.cloned origin h.id (bytes_of_blocks (outline p).geometry blocks) (transmission_flags (outline p))) h.is_cloned
  of_clones false o fine origin p p' sent next h =
      asked (of_clone o origin) (record { found = fine.cloned origin; cloned = fine.cloned; missing = fine.missing; refused = fine.refused }) origin p p' sent next h

  looked : (o : VolumeOption) → IsFine o → (name : List ℕ) (p p' : S) (sent : List ℕ) (next : Phase) → LooksFor outline Calls o name p sent next p' → IsThrough next
  looked o fine name p p' sent next (inl h) = moved next o.missing.next h.tells.1 fine.missing
  looked o fine name p p' sent next (inr (inl h)) = asked o fine h.id p p' sent next h.asks
  looked o fine name p p' sent next (inr (inr h)) = of_clones o.holds o fine h.origin p p' sent next h.asks

  -- ---- one option

  module _ (z : Terms) (through : writes_through z.profile ≡ true) where
    go_fine : IsFine (go z)
    go_fine = record {
      found = λ id size flags. (extended_too z.profile through, through);
      cloned = λ origin id size flags. (extended_too z.profile through, through);
      missing = through;
      refused = through;
    }

    info_fine : IsFine (info z)
    info_fine = record { found = λ id size flags. through; cloned = λ origin id size flags. through; missing = through; refused = through }

    export_fine : IsFine (export_name z)
    export_fine = record {
      found = λ id size flags. (extended_too z.profile through, through);
      cloned = λ origin id size flags. (extended_too z.profile through, through);
      missing = tt;
      refused = tt;
    }

    list_fine : (b : Bool) (since : ℕ) → IsFine (list_context z b since)
    list_fine b since = record { found = λ id size flags. through; cloned = λ origin id size flags. through; missing = through; refused = through }

    set_fine : (b : Bool) (since : ℕ) → IsFine (set_context z b since)
    set_fine b since = record { found = λ id size flags. through; cloned = λ origin id size flags. through; missing = through; refused = through }

    module _ (payload : List ℕ) (p p' : S) (sent : List ℕ) (next : Phase) where
      informed : (b : Bool) (option : ℕ) (o : VolumeOption) → IsFine o
          → MatchBool b (Tells outline Calls (outcome [] Ended) p sent next p') (IsInvalid outline Calls option z payload p sent next p' ⊎ IsValid outline Calls o payload p sent next p') → IsThrough next
      informed true option o fine h = moved next Ended h.1 tt
      informed false option o fine (inl h) = moved next (Options z) h.tells.1 through
      informed false option o fine (inr h) = looked o fine h.name p p' sent next h.looks

      exported : (b : Bool) → MatchBool b (Tells outline Calls (outcome [] Ended) p sent next p') (LooksFor outline Calls (export_name z) payload p sent next p') → IsThrough next
      exported true h = moved next Ended h.1 tt
      exported false h = looked (export_name z) export_fine payload p p' sent next h

      listed : (b c : Bool)
          → MatchBool b (Tells outline Calls (outcome [] Ended) p sent next p')
          (MatchBool c (NamesAll outline Calls z p sent next p' ⊎ NamesNone outline Calls p sent next p') (Tells outline Calls (option_error OPTION_LIST Invalid z) p sent next p')) → IsThrough next
      listed true c h = moved next Ended h.1 tt
      listed false true (inl h) = moved next (Options z) h.next_is through
      listed false true (inr h) = moved next Ended h.next_is tt
      listed false false h = moved next (Options z) h.1 through

      sought : (o : ℕ → VolumeOption) → ((since : ℕ) → IsFine (o since)) → (name : List ℕ) (id : ℕ) (answer : Answer) (q : S) → Seeks outline Calls o name id answer q sent next p' → IsThrough next
      sought o fine name id (Found least) q h = looked _ (fine (if is_there id least then id else 16777216)) name q p' sent next h
      sought o fine name id (Refused reason) q h = moved next Ended h.1 tt
      sought o fine name id Done q h = absurd h
      sought o fine name id (Sized blocks) q h = absurd h
      sought o fine name id (Gave sectors) q h = absurd h
      sought o fine name id (Line text) q h = absurd h
      sought o fine name id (Listed slots) q h = absurd h

      sought_for : (o : ℕ → VolumeOption) → ((since : ℕ) → IsFine (o since)) → (text name : List ℕ) → SeeksFor outline Calls o text name p sent next p' → IsThrough next
      sought_for o fine text name (inl h) = looked (o 16777216) (fine 16777216) name p p' sent next h.looks
      sought_for o fine text name (inr h) = sought o fine name h.id h.answer h.looked h.seeks

      queried : (b c : Bool) (option : ℕ) (asks : List (List ℕ) → Bool) (o : Bool → ℕ → VolumeOption) (y : Terms) → ((x : Bool) (since : ℕ) → IsFine (o x since)) → writes_through y.profile ≡ true
          → MatchBool b (Tells outline Calls (outcome [] Ended) p sent next p')
          (MatchBool c (IsNoQuery outline Calls option y payload p sent next p' ⊎ IsQueried outline Calls asks o payload p sent next p') (Tells outline Calls (option_error option Invalid y) p sent next p')) → IsThrough next
      queried true c option asks o y fine also h = moved next Ended h.1 tt
      queried false true option asks o y fine also (inl h) = moved next (Options y) h.tells.1 also
      queried false true option asks o y fine also (inr h) = sought_for (o (asks h.queries)) (fine (asks h.queries)) (since_of h.queries) h.name h.seeks
      queried false false option asks o y fine also h = moved next (Options y) h.1 also

      structured : (b : Bool) → Tells outline Calls (if b then outcome (option_reply OPTION_STRUCTURED_REPLY Acknowledged []) (Options (in_chunks z)) else option_error OPTION_STRUCTURED_REPLY Invalid z) p sent next p' → IsThrough next
      structured true h = moved next (Options (in_chunks z)) h.1 through
      structured false h = moved next (Options z) h.1 through

      extends : (is_chunks is_list is_set : Bool) (option : ℕ)
          → MatchBool is_chunks (Tells outline Calls (if length payload == 0 then outcome (option_reply OPTION_STRUCTURED_REPLY Acknowledged []) (Options (in_chunks z)) else option_error OPTION_STRUCTURED_REPLY Invalid z) p sent next p')
          (MatchBool is_list (Queries outline Calls OPTION_LIST_META_CONTEXT lists (list_context z) z z payload p sent next p')
          (MatchBool is_set (Queries outline Calls OPTION_SET_META_CONTEXT asks_for (set_context z) z (without_context z) payload p sent next p')
          (Tells outline Calls (option_error option Unsupported z) p sent next p'))) → IsThrough next
      extends true is_list is_set option h = structured (length payload == 0) h
      extends false true is_set option h = queried (is_failed (outline p).mode) z.is_structured OPTION_LIST_META_CONTEXT lists (list_context z) z list_fine through h
      extends false false true option h = queried (is_failed (outline p).mode) z.is_structured OPTION_SET_META_CONTEXT asks_for (set_context z) (without_context z) set_fine through h
      extends false false false option h = moved next (Options z) h.1 through

      chosen : (is_go is_info is_export is_list is_abort is_long : Bool) (option : ℕ)
          → MatchBool is_go (Informs outline Calls OPTION_GO (go z) z payload p sent next p')
          (MatchBool is_info (Informs outline Calls OPTION_INFO (info z) z payload p sent next p')
          (MatchBool is_export (Exports outline Calls (export_name z) z payload p sent next p')
          (MatchBool is_list (Lists outline Calls z payload p sent next p')
          (MatchBool is_abort (Tells outline Calls (outcome (option_reply OPTION_ABORT Acknowledged []) Ended) p sent next p')
          (MatchBool is_long (Extends outline Calls z option payload p sent next p') (Tells outline Calls (option_error option Unsupported z) p sent next p')))))) → IsThrough next
      chosen true is_info is_export is_list is_abort is_long option h = informed (is_failed (outline p).mode) OPTION_GO (go z) go_fine h
      chosen false true is_export is_list is_abort is_long option h = informed (is_failed (outline p).mode) OPTION_INFO (info z) info_fine h
      chosen false false true is_list is_abort is_long option h = exported (is_failed (outline p).mode) h
      chosen false false false true is_abort is_long option h = listed (is_failed (outline p).mode) (length payload == 0) h
      chosen false false false false true is_long option h = moved next Ended h.1 tt
      chosen false false false false false true option h = extends (option == OPTION_STRUCTURED_REPLY) (option == OPTION_LIST_META_CONTEXT) (option == OPTION_SET_META_CONTEXT) option h
      chosen false false false false false false option h = moved next (Options z) h.1 through

  -- what is held behind an option
  module _ (o : Outcome) (fine : IsThrough o.next) (p' : S) (sent : List ℕ) (next : Phase) where
    older_held : (answer : Answer) → IsOlderHeld outline Calls o answer sent next → IsThrough next
    older_held Done h = moved next o.next h.1 fine
    older_held (Refused reason) h = moved next Ended h.1 tt
    older_held (Sized blocks) h = absurd h
    older_held (Gave sectors) h = absurd h
    older_held (Line text) h = absurd h
    older_held (Found least) h = absurd h
    older_held (Listed slots) h = absurd h

    traded : (b : Bool) (other : ℕ) (q : S) → MatchBool b (HoldsOlder outline Calls other o q sent next p') (Tells outline Calls o q sent next p') → IsThrough next
    traded true other q h = older_held h.answer h.is_held
    traded false other q h = moved next o.next h.1 fine

    settled : (b : Bool) (id other : ℕ) (p : S) → MatchBool b (Tells outline Calls o p sent next p') (Trades outline Calls id other o p sent next p') → IsThrough next
    settled true id other p h = moved next o.next h.1 fine
    settled false id other p h = traded (nat_lt other 16777216) other h.without_older h.holds

  answered : (z : Terms) → writes_through z.profile ≡ true → (option : ℕ) (payload : List ℕ) (p p' : S) (sent : List ℕ) (next : Phase) → AnswersOption outline Calls z option payload p sent next p' → IsThrough next
  answered z through option payload p p' sent next h =
      let led = chosen z through payload p h.answered h.chosen.sent h.chosen.next (option == OPTION_GO) (option == OPTION_INFO) (option == OPTION_EXPORT_NAME) (option == OPTION_LIST) (option == OPTION_ABORT) (is_extended z.profile) option h.chooses in
      settled h.chosen led p' sent next (z.since == older_in h.chosen.next) z.since (older_in h.chosen.next) h.answered h.settles

  -- ---- one request

  module _ (v n : ℕ) (m : Manner) (through : (m.is_extended ≡ true) × (m.writes_through ≡ true)) (sent : List ℕ) (next : Phase) where
    made : (last : Bool) (r rest : Request) (answer : Answer) → IsMade v n m r rest last answer sent next → IsThrough next
    made true r rest Done h = moved next (Transmission v n (Listens m)) h.1 through
    made false r rest Done h = moved next (Transmission v n (Works m rest)) h.1 through
    made last r rest (Sized blocks) h = moved next (Transmission v n (Listens m)) h.1 through
    made last r rest (Gave sectors) h = moved next (Transmission v n (Listens m)) h.1 through
    made last r rest (Line text) h = moved next (Transmission v n (Listens m)) h.1 through
    made last r rest (Found least) h = moved next (Transmission v n (Listens m)) h.1 through
    made last r rest (Listed slots) h = moved next (Transmission v n (Listens m)) h.1 through
    made last r rest (Refused reason) h = moved next (Transmission v n (Listens m)) h.1 through

    changed : (b : Bool) (apart call : Call) (r : Request) (p p' : S)
        → MatchBool b (Begins outline Calls apart v n m r p sent next p') (Performs outline Calls call (reply_to r.cookie) p sent p' × (next ≡ Transmission v n (Listens m))) → IsThrough next
    changed true apart call r p p' h = made false r _ h.answer h.is_begun
    changed false apart call r p p' h = moved next (Transmission v n (Listens m)) h.1 through

    served : (d : Verdict) (r : Request) (payload : List ℕ) (p p' : S) → Serves outline Calls d v n m r payload p sent next p' → IsThrough next
    served verdicts.Disconnect r payload p p' h = moved next Ended h.1 tt
    served (verdicts.Refuse e) r payload p p' h = moved next (Transmission v n (Listens m)) h.1 through
    served verdicts.Nothing r payload p p' h = moved next (Transmission v n (Listens m)) h.1 through
    served verdicts.Read r payload p p' h = moved next (Transmission v n (Listens m)) h.1 through
    served verdicts.Write r payload p p' h = changed (is_kept_apart m r) _ _ r p p' h
    served verdicts.Trim r payload p p' h = changed (is_kept_apart m r) _ _ r p p' h
    served verdicts.WriteZeroes r payload p p' h = changed (is_kept_apart m r) _ _ r p p' h
    served verdicts.Flush r payload p p' h = moved next (Transmission v n (Listens m)) h.1 through
    served verdicts.Status r payload p p' h = moved next (Transmission v n (Listens m)) h.1 through
    served verdicts.Long r payload p p' h = moved next (Transmission v n (Works m r)) h.1 through

  -- ---- one step

  framed : (phase next : Phase) (message : Message) (p p' : S) (sent : List ℕ) → IsThrough phase → Answers outline Calls phase message p sent next p' → IsThrough next
  framed (Flags a) next (client_flags z) p p' sent is h = moved next _ h.1 is
  framed (Flags a) next (client_option o q) p p' sent is h = absurd h
  framed (Flags a) next (command r q) p p' sent is h = absurd h
  framed (Flags a) next malformed p p' sent is h = moved next Ended h.1 tt
  framed (Options z) next (client_flags y) p p' sent is h = absurd h
  framed (Options z) next (client_option o q) p p' sent is h = answered z is o q p p' sent next h
  framed (Options z) next (command r q) p p' sent is h = absurd h
  framed (Options z) next malformed p p' sent is h = moved next Ended h.1 tt
  framed (Transmission v n (Listens x)) next (client_flags y) p p' sent is h = absurd h
  framed (Transmission v n (Listens x)) next (client_option o q) p p' sent is h = absurd h
  framed (Transmission v n (Listens x)) next (command r q) p p' sent is h = served v n x is sent next (verdict_in x n r) r q p p' h
  framed (Transmission v n (Listens x)) next malformed p p' sent is h = moved next Ended h.1 tt
  framed (Transmission v n (Works x r)) next m p p' sent is h = absurd h
  framed Ended next (client_flags y) p p' sent is h = absurd h
  framed Ended next (client_option o q) p p' sent is h = absurd h
  framed Ended next (command r q) p p' sent is h = absurd h
  framed Ended next malformed p p' sent is h = moved next Ended h.1 tt

  deaf : (phase : Phase) (old new : State) (p p' : S) (piece sent : List ℕ) (taken : ℕ) (ended : Bool) → IsThrough phase → IsThrough old.phase → IsDeaf outline Calls phase old p piece taken sent ended new p' → IsThrough new.phase
  deaf (Transmission v n (Works m r)) old new p p' piece sent taken ended is same h = made v n m is sent new.phase _ r _ h.part.answer h.part.is_made
  deaf Ended old new p p' piece sent taken ended is same h = moved new.phase old.phase h.phase_is same
  deaf (Flags a) old new p p' piece sent taken ended is same h = absurd h
  deaf (Options z) old new p p' piece sent taken ended is same h = absurd h
  deaf (Transmission v n (Listens x)) old new p p' piece sent taken ended is same h = absurd h

  stepped_by : (o : Option Kind) (old new : State) (p p' : S) (piece sent : List ℕ) (taken : ℕ) (ended : Bool) → IsThrough old.phase
      → MatchOption o (IsDeaf outline Calls old.phase old p piece taken sent ended new p')
      (λ kind. Waits outline Calls kind old p piece taken sent ended new p' ⊎ TakesFrame outline Calls kind old p piece taken sent ended new p') → IsThrough new.phase
  stepped_by None old new p p' piece sent taken ended is h = deaf old.phase old new p p' piece sent taken ended is is h
  stepped_by (Some kind) old new p p' piece sent taken ended is (inl h) = moved new.phase old.phase h.phase_is is
  stepped_by (Some kind) old new p p' piece sent taken ended is (inr h) = framed old.phase new.phase h.message p p' sent is h.answer

  -- ---- turns

  turned : (n : ℕ) (at at' : Sessions) (p p' : S) (turn : Turn) → IsThrough (at n).phase → IsOffered n turn → TakesTurn outline Calls at p turn at' p' → IsThrough (at' n).phase
  turned n at at' p p' (Opens m profile sent) is offered takes =
      elim (cases_eq m n) [
        | inl own ↦ subst (λ (s : State). IsThrough s.phase) (sym (subst (λ (i : ℕ). at' i ≡ state (Flags profile) []) own takes.3)) (offered own)
        | inr other ↦ subst (λ (s : State). IsThrough s.phase) (sym (takes.1 n (λ same. other (sym same)))) is
      ]
  turned n at at' p p' (Hears m piece taken sent ended) is offered takes =
      elim (cases_eq m n) [
        | inl own ↦
            let here : Steps outline Calls (at n) p piece taken sent ended (at' n) p' = subst (λ (i : ℕ). Steps outline Calls (at i) p piece taken sent ended (at' i) p') own takes.0 in
            stepped_by (kind_of (at n).phase) (at n) (at' n) p p' piece sent taken ended is here
        | inr other ↦ subst (λ (s : State). IsThrough s.phase) (sym (takes.1 n (λ same. other (sym same)))) is
      ]
  turned n at at' p p' (Leaves m) is offered takes =
      elim (cases_eq m n) [
        | inl own ↦ subst (λ (s : State). IsThrough s.phase) (sym (subst (λ (i : ℕ). at' i ≡ state Ended []) own takes.2)) tt
        | inr other ↦ subst (λ (s : State). IsThrough s.phase) (sym (takes.1 n (λ same. other (sym same)))) is
      ]
  turned n at at' p p' (Asks call answer) is offered takes = subst (λ (s : State). IsThrough s.phase) (sym (takes.1 n)) is

  pub stays_through : (n : ℕ) (at : Sessions) (p : S) (hs : List (Happened S)) → IsThrough (at n).phase → AreOffered n hs → AreTurns outline Calls at p hs → IsThrough (sessions_after at hs n).phase
  stays_through n at p [] is offered are = is
  stays_through n at p (h ∷ hs) is offered are = stays_through n h.sessions h.pool hs (turned n at h.sessions p h.pool h.turn is offered.0 are.0) offered.1 are.1
