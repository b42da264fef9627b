-- A turn that is quiet flushes no disk.
use Rattle.std.proofs.Common.{◌≡◌, ◌⊎◌, ◌∙◌, ℕ, ◌+◌, ◌/◌, ◌≤◌, Bool, true, false, List, [], ◌∷◌, ◌++◌, length, Option, Some, None, refl, ap, inl, inr, arith}
use Rattle.std.specs.Prelude.{Err, Ok, Result, MatchBool, MatchOption, ◌&&◌, ◌||◌, ◌==◌, if◌then◌else◌, nat_le, nat_lt, take}
use Rattle.std.specs.List.{concat}
use Rattle.tp_model.specs.declared.mode.Mode.{Mode}
use Rattle.tp_model.specs.declared.mode.Mode.TheVariants as mode
use Rattle.tp_model.specs.Pool.{Outline}
use Rattle.tp_model.specs.Calls.{Answer, Call, Done, Flush, Found, Gave, Hold, LetGo, Line, Listed, NextId, Read, Refused, Sized, VolumeBlocks, Walk, ends_in_commit, is_failed, may_reclaim, most_flushes}
use Rattle.tp_model.specs.Clauses.{PoolCall, View}
use Rattle.tp_model.specs.Flushing.{IsFlushed}
use Rattle.tp_model.specs.declared.refusal.Refusal.{Refusal}
use Rattle.tp_msg.specs.declared.message.Message.{Message as Order}
use Rattle.tp_msg.specs.Asked.{call_of}
use Rattle.tp_msg.proofs.Asking.{IsMessageMade}
use Rattle.nbd_wire.specs.declared.Kind.{Kind}
use Rattle.nbd_wire.specs.declared.Request.{Request}
use Rattle.nbd_wire.specs.declared.TheConstants.{OPTION_ABORT, OPTION_EXPORT_NAME, OPTION_GO, OPTION_INFO, OPTION_LIST, OPTION_LIST_META_CONTEXT, OPTION_SET_META_CONTEXT, OPTION_STRUCTURED_REPLY}
use Rattle.nbd_wire.specs.declared.writing.ReplyType.TheVariants.{Acknowledged, Invalid, Unsupported}
use Rattle.nbd_wire.specs.Contexts.{asks_for, lists, since_of}
use Rattle.nbd_wire.specs.Replies.{option_reply}
use Rattle.nbd_wire.specs.Grammar.{IsFrame, Message, client_flags, client_option, command, malformed}
use Rattle.nbd_session.specs.declared.phase.Course.TheVariants.{Listens, Works}
use Rattle.nbd_session.specs.declared.phase.Manner.{Manner}
use Rattle.nbd_session.specs.declared.phase.Phase.{Phase}
use Rattle.nbd_session.specs.declared.phase.Phase.TheVariants.{Ended, Flags, Options, Transmission}
use Rattle.nbd_session.specs.declared.phase.Terms.{Terms}
use Rattle.nbd_session.specs.declared.request.Verdict.{Verdict}
use Rattle.nbd_session.specs.declared.request.Verdict.TheVariants as verdicts
use Rattle.nbd_session.specs.Holes.{has_blank}
use Rattle.nbd_session.specs.Requests.{has_since, is_kept_apart, verdict_in}
use Rattle.nbd_session.specs.Status.{IsAllocation, first_block, unit_of}
use Rattle.nbd_session.specs.Session.{Answers, AnswersOption, AsksFor, Begins, Clones, Compares, Ends, Enters, Exports, Extends, Finding, Finds, FindsNone, GivesUp, Holds, HoldsOlder, Informs, IsDeaf, IsDescribed, IsEnough, IsGiven, IsHeld, IsInvalid, IsLast, IsNoQuery, IsQueried, IsRefused, IsSized, IsValid, LetsGo, LetsOwnGo, Lists, LooksFor, NamesAll, NamesNone, Outcome, Performs, Queries, ReadsLong, Seeks, SeeksFor, SeeksHoles, Serves, Sizes, State, TakesFrame, Tells, Trades, VolumeOption, Waits, Walks, chunk_to, export_name, go, has_clones, info, is_extended, is_there, kind_of, limit_of, list_context, manner_in, of_clone, older_in, option_error, outcome, reply_to, set_context, structures, without_context}
use Rattle.nbd_session.specs.Turns.{AreTurns, Asks, Happened, Hears, Leaves, Opens, Sessions, TakesTurn, Turn, pool_after, sessions_after}
use Rattle.tp_hub.specs.Told.{Answer as Said, Told}
use Rattle.tp_hub.specs.Desks.{IsAsked}
use Rattle.tp_hub.specs.Owed.{AreOwed, CommitsNone, IsQuiet, IsQuietFrame, IsQuietPart, IsQuietRequest, RunsOwed, has_clone, makes_clone}
use Rattle.tp_hub.specs.Runs.{AreServed, Incoming, Served, turns_in}
use Rattle.tp_hub.specs.Serve.{HubRuns}
use Rattle.tp_hub.specs.Serving.{HubState, sessions_of}

and_true : (b : Bool) → (b && true) ≡ false → b ≡ false
and_true true is = is
and_true false is = refl

none_of : (a b : Bool) → a ≡ false → b ≡ false → (if a then 2 else 0) + (if b then 2 else 0) ≡ 0
none_of false false x y = refl
none_of true b x y = absurd cc
none_of false true x y = absurd cc

never : (m : Mode) (call : Call) → may_reclaim call ≡ false → ends_in_commit call ≡ false → most_flushes m call ≡ 0
never mode.Writable call a b = none_of (may_reclaim call) (ends_in_commit call) a b
never mode.ReadOnly call a b = refl
never mode.Failed call a b = refl

two_at_most : (m : Mode) → most_flushes m Flush ≤ 2
two_at_most mode.Writable = omega arith
two_at_most mode.ReadOnly = omega arith
two_at_most mode.Failed = omega arith

sum_few : (a b : Bool) → (if a then 2 else 0) + (if b then 2 else 0) ≤ 4
sum_few true true = omega arith
sum_few true false = omega arith
sum_few false true = omega arith
sum_few false false = omega arith

four_at_most : (m : Mode) (call : Call) → most_flushes m call ≤ 4
four_at_most mode.Writable call = sum_few (may_reclaim call) (ends_in_commit call)
four_at_most mode.ReadOnly call = omega arith
four_at_most mode.Failed call = omega arith

no_more : (old new n : ℕ) → old ≤ new → new ≤ old + n → n ≡ 0 → new ≡ old
no_more old new n least most none = omega (arith, least, most, none)

no_commit : (b : Bool) (old new : ℕ) → old ≤ new → new ≤ old + (if b then 2 else 0) → b ≡ false → new ≡ old
no_commit true old new least most none = absurd cc
no_commit false old new least most none = omega (arith, least, most)

-- flushes: how often the disk of a pool was flushed. still: a call that neither ends in a commit nor may want one before it flushes no disk.
module _ {D : Type 0} (outline : D → Outline) (Calls : D → Call → Answer → D → Type 0) (flushes : D → ℕ)
    (still : (p q : D) (call : Call) (answer : Answer) → Calls p call answer q → may_reclaim call ≡ false → ends_in_commit call ≡ false → flushes q ≡ flushes p) where
  abbrev Still : D → D → Type 0
  Still p q = flushes q ≡ flushes p

  same : (p q : D) → q ≡ p → Still p q
  same p q is = ap flushes is

  -- ---- ids that are found one after another

  finding_still : (End : ℕ → D → D → Type 0) → ((from : ℕ) (p q : D) → End from p q → Still p q) → (from : ℕ) (ids : List ℕ) (p q : D) → Finding outline Calls End from ids p q → Still p q
  finding_still End ends from [] p q h = ends from p q h
  finding_still End ends from (id ∷ ids) p q h = finding_still End ends (id + 1) ids h.0 q h.2 ∙ still p h.0 (NextId from) (Found (Some id)) h.1 refl refl

  last_by : (b : Bool) (limit from : ℕ) (p q : D) → MatchBool b (FindsNone outline Calls limit from p q) (q ≡ p) → Still p q
  last_by true limit from p q h = still p q (NextId from) (Found h.found) h.calls refl refl
  last_by false limit from p q h = same p q h

  refused_still : (from : ℕ) (p q : D) → IsRefused outline Calls from p q → Still p q
  refused_still from p q h = still p q (NextId from) (Refused h.0) h.1 refl refl

  -- ---- a volume that is looked for

  refused_size : (held : Bool) (id : ℕ) (p q : D) → MatchBool held (Calls p (LetGo id) Done q) (q ≡ p) → Still p q
  refused_size true id p q h = still p q (LetGo id) Done h refl refl
  refused_size false id p q h = same p q h

  sized_still : (held : Bool) (found : ℕ → Outcome) (id : ℕ) (answer : Answer) (p q : D) (sent : List ℕ) (next : Phase) → IsSized outline Calls held found id answer p sent next q → Still p q
  sized_still held found id (Sized blocks) p q sent next h = same p q h.2
  sized_still held found id (Refused reason) p q sent next h = refused_size held id p q h.2
  sized_still held found id Done p q sent next h = absurd h
  sized_still held found id (Gave sectors) p q sent next h = absurd h
  sized_still held found id (Line bytes) p q sent next h = absurd h
  sized_still held found id (Found least) p q sent next h = absurd h
  sized_still held found id (Listed slots) p q sent next h = absurd h

  sizes_still : (held : Bool) (found : ℕ → Outcome) (id : ℕ) (p q : D) (sent : List ℕ) (next : Phase) → Sizes outline Calls held found id p sent next q → Still p q
  sizes_still held found id p q sent next h = sized_still held found id h.answer h.asked q sent next h.is_sized ∙ still p h.asked (VolumeBlocks id) h.answer h.calls refl refl

  held_still : (found : ℕ → Outcome) (id : ℕ) (answer : Answer) (p q : D) (sent : List ℕ) (next : Phase) → IsHeld outline Calls found id answer p sent next q → Still p q
  held_still found id Done p q sent next h = sizes_still true found id p q sent next h
  held_still found id (Refused reason) p q sent next h = same p q h.2
  held_still found id (Gave sectors) p q sent next h = absurd h
  held_still found id (Line bytes) p q sent next h = absurd h
  held_still found id (Found least) p q sent next h = absurd h
  held_still found id (Sized blocks) p q sent next h = absurd h
  held_still found id (Listed slots) p q sent next h = absurd h

  enters_still : (b : Bool) (found : ℕ → Outcome) (id : ℕ) (p q : D) (sent : List ℕ) (next : Phase) → MatchBool b (Holds outline Calls found id p sent next q) (Sizes outline Calls false found id p sent next q) → Still p q
  enters_still true found id p q sent next h = held_still found id h.answer h.held q sent next h.is_held ∙ still p h.held (Hold id) h.answer h.calls refl refl
  enters_still false found id p q sent next h = sizes_still false found id p q sent next h

  there_still : (b holds : Bool) (found : ℕ → Outcome) (missing : Outcome) (id : ℕ) (p q : D) (sent : List ℕ) (next : Phase)
      → MatchBool b (Enters outline Calls holds found id p sent next q) (Tells outline Calls missing p sent next q) → Still p q
  there_still true holds found missing id p q sent next h = enters_still holds found id p q sent next h
  there_still false holds found missing id p q sent next h = same p q h.2

  finds_still : (o : VolumeOption) (found : ℕ → Outcome) (id : ℕ) (answer : Answer) (p q : D) (sent : List ℕ) (next : Phase) → Finds outline Calls o found id answer p sent next q → Still p q
  finds_still o found id (Found least) p q sent next h = there_still (is_there id least) o.holds found o.missing id p q sent next h
  finds_still o found id (Refused reason) p q sent next h = same p q h.2
  finds_still o found id Done p q sent next h = absurd h
  finds_still o found id (Gave sectors) p q sent next h = absurd h
  finds_still o found id (Line bytes) p q sent next h = absurd h
  finds_still o found id (Sized blocks) p q sent next h = absurd h
  finds_still o found id (Listed slots) p q sent next h = absurd h

  asks_still : (o : VolumeOption) (id : ℕ) (p q : D) (sent : List ℕ) (next : Phase) → AsksFor outline Calls o id p sent next q → Still p q
  asks_still o id p q sent next h = finds_still o _ id h.answer h.looked q sent next h.finds ∙ still p h.looked (NextId id) h.answer h.calls refl refl

  -- a clone is made by no option but one that holds it, where there are clones
  clone_by : (b clones : Bool) (o : VolumeOption) (origin : ℕ) (p q : D) (sent : List ℕ) (next : Phase) → (b && clones) ≡ false → clones ≡ true
      → MatchBool b (Clones outline Calls o origin p sent next q) (AsksFor outline Calls (of_clone o origin) origin p sent next q) → Still p q
  clone_by true true o origin p q sent next none some h = absurd cc
  clone_by true false o origin p q sent next none some h = absurd cc
  clone_by false clones o origin p q sent next none some h = asks_still (of_clone o origin) origin p q sent next h

  looks_still : (o : VolumeOption) (name : List ℕ) (p q : D) (sent : List ℕ) (next : Phase) → (o.holds && o.clones) ≡ false → LooksFor outline Calls o name p sent next q → Still p q
  looks_still o name p q sent next none (inl h) = same p q h.tells.2
  looks_still o name p q sent next none (inr (inl h)) = asks_still o h.id p q sent next h.asks
  looks_still o name p q sent next none (inr (inr h)) = clone_by o.holds o.clones o h.origin p q sent next none h.name_is.0 h.asks

  seeks_still : (o : ℕ → VolumeOption) (name : List ℕ) (id : ℕ) (answer : Answer) (p q : D) (sent : List ℕ) (next : Phase) → ((since : ℕ) → ((o since).holds && (o since).clones) ≡ false)
      → Seeks outline Calls o name id answer p sent next q → Still p q
  seeks_still o name id (Found least) p q sent next none h = looks_still (o (if is_there id least then id else 16777216)) name p q sent next (none _) h
  seeks_still o name id (Refused reason) p q sent next none h = same p q h.2
  seeks_still o name id Done p q sent next none h = absurd h
  seeks_still o name id (Gave sectors) p q sent next none h = absurd h
  seeks_still o name id (Line bytes) p q sent next none h = absurd h
  seeks_still o name id (Sized blocks) p q sent next none h = absurd h
  seeks_still o name id (Listed slots) p q sent next none h = absurd h

  sought_still : (o : ℕ → VolumeOption) (text name : List ℕ) (p q : D) (sent : List ℕ) (next : Phase) → ((since : ℕ) → ((o since).holds && (o since).clones) ≡ false)
      → SeeksFor outline Calls o text name p sent next q → Still p q
  sought_still o text name p q sent next none (inl h) = looks_still (o 16777216) name p q sent next (none 16777216) h.looks
  sought_still o text name p q sent next none (inr h) = seeks_still o name h.id h.answer h.looked q sent next none h.seeks ∙ still p h.looked (NextId h.id) h.answer h.calls refl refl

  -- ---- what is let go, and held behind an option

  older_by : (b : Bool) (id : ℕ) (p q : D) → MatchBool b (Calls p (LetGo id) Done q) (q ≡ p) → Still p q
  older_by b id p q h = refused_size b id p q h

  own_by : (b : Bool) (volume : ℕ) (p q : D) → b ≡ false → MatchBool b (GivesUp outline Calls volume p q) (Calls p (LetGo volume) Done q) → Still p q
  own_by true volume p q none h = absurd cc
  own_by false volume p q none h = still p q (LetGo volume) Done h refl refl

  own_still : (phase : Phase) (p q : D) → has_clone phase ≡ false → LetsOwnGo outline Calls phase p q → Still p q
  own_still (Flags a) p q none h = same p q h
  own_still (Options z) p q none h = same p q h
  own_still (Transmission v n c) p q none h = own_by (manner_in c).is_clone v p q none h
  own_still Ended p q none h = same p q h

  pub lets_still : (phase : Phase) (p q : D) → has_clone phase ≡ false → LetsGo outline Calls phase p q → Still p q
  lets_still phase p q none h = own_still phase h.without_older q none h.lets_own_go ∙ older_by (nat_lt (older_in phase) 16777216) (older_in phase) p h.without_older h.lets_older_go

  ends_still : (last : List ℕ) (phase : Phase) (p q : D) (sent : List ℕ) (next : Phase) → has_clone phase ≡ false → Ends outline Calls last phase p sent next q → Still p q
  ends_still last phase p q sent next none h = lets_still phase p q none h.2

  holds_by : (b : Bool) (id : ℕ) (o : Outcome) (p q : D) (sent : List ℕ) (next : Phase) → MatchBool b (HoldsOlder outline Calls id o p sent next q) (Tells outline Calls o p sent next q) → Still p q
  holds_by true id o p q sent next h = still p q (Hold id) h.answer h.calls refl refl
  holds_by false id o p q sent next h = same p q h.2

  settles_by : (b : Bool) (id : ℕ) (o : Outcome) (p q : D) (sent : List ℕ) (next : Phase) → MatchBool b (Tells outline Calls o p sent next q) (Trades outline Calls id (older_in o.next) o p sent next q) → Still p q
  settles_by true id o p q sent next h = same p q h.2
  settles_by false id o p q sent next h =
      holds_by (nat_lt (older_in o.next) 16777216) (older_in o.next) o h.without_older q sent next h.holds ∙ older_by (nat_lt id 16777216) id p h.without_older h.lets_older_go

  -- ---- what is told of a volume

  compares_by : (b : Bool) (x : Manner) (unit from : ℕ) (r : Request) (slots : List (ℕ × ℕ)) (p q : D) (sent : List ℕ)
      → MatchBool b (Compares outline Calls x unit from r slots p sent q) (IsAllocation true unit r slots sent × (q ≡ p)) → Still p q
  compares_by true x unit from r slots p q sent h = still p q (Walk x.since from) h.answer h.calls refl refl
  compares_by false x unit from r slots p q sent h = same p q h.1

  described_still : (x : Manner) (unit from : ℕ) (r : Request) (answer : Answer) (p q : D) (sent : List ℕ) → IsDescribed outline Calls x unit from r answer p sent q → Still p q
  described_still x unit from r (Listed slots) p q sent h = compares_by (has_since x) x unit from r slots p q sent h
  described_still x unit from r (Refused reason) p q sent h = same p q h.1
  described_still x unit from r Done p q sent h = absurd h
  described_still x unit from r (Gave sectors) p q sent h = absurd h
  described_still x unit from r (Line bytes) p q sent h = absurd h
  described_still x unit from r (Found least) p q sent h = absurd h
  described_still x unit from r (Sized blocks) p q sent h = absurd h

  walks_by : (b : Bool) (x : Manner) (v : ℕ) (r : Request) (p q : D) (sent told : List ℕ) → MatchBool b (Walks outline Calls x v r p sent q) ((sent ≡ told) × (q ≡ p)) → Still p q
  walks_by true x v r p q sent told h = described_still x _ _ r h.answer h.walked q sent h.is_described ∙ still p h.walked (Walk v _) h.answer h.calls refl refl
  walks_by false x v r p q sent told h = same p q h.1

  holes_by : (b : Bool) (id unit : ℕ) (r : Request) (given sent told : List ℕ) (p q : D) → MatchBool b (SeeksHoles outline Calls id unit r given p sent q) ((sent ≡ told) × (q ≡ p)) → Still p q
  holes_by true id unit r given sent told p q h = still p q (Walk id (first_block unit r)) h.answer h.calls refl refl
  holes_by false id unit r given sent told p q h = same p q h.1

  blank_by : (b c : Bool) (id unit : ℕ) (r : Request) (given sent told : List ℕ) (p q : D)
      → MatchBool b (MatchBool c (SeeksHoles outline Calls id unit r given p sent q) ((sent ≡ told) × (q ≡ p))) ((sent ≡ told) × (q ≡ p)) → Still p q
  blank_by true c id unit r given sent told p q h = holes_by c id unit r given sent told p q h
  blank_by false c id unit r given sent told p q h = same p q h.1

  given_still : (id unit : ℕ) (r : Request) (answer : Answer) (sent : List ℕ) (p q : D) → IsGiven outline Calls id unit r answer p sent q → Still p q
  given_still id unit r (Gave sectors) sent p q h = blank_by (has_blank r (concat sectors)) (nat_lt (first_block unit r) 16777216) id unit r (concat sectors) sent _ p q h
  given_still id unit r Done sent p q h = same p q h.1
  given_still id unit r (Line bytes) sent p q h = same p q h.1
  given_still id unit r (Found least) sent p q h = same p q h.1
  given_still id unit r (Sized blocks) sent p q h = same p q h.1
  given_still id unit r (Listed slots) sent p q h = same p q h.1
  given_still id unit r (Refused reason) sent p q h = same p q h.1

  long_by : (b : Bool) (id : ℕ) (r : Request) (p q : D) (sent : List ℕ)
      → MatchBool b (ReadsLong outline Calls id r p sent q) (Performs outline Calls (Read id (r.offset / 512) (r.len / 512)) (chunk_to r) p sent q) → Still p q
  long_by true id r p q sent h = given_still id _ r h.answer sent h.asked q h.is_given ∙ still p h.asked (Read id (r.offset / 512) (r.len / 512)) h.answer h.calls refl refl
  long_by false id r p q sent h = still p q (Read id (r.offset / 512) (r.len / 512)) h.answer h.calls refl refl

  reads_by : (b c : Bool) (id : ℕ) (r : Request) (p q : D) (sent : List ℕ)
      → MatchBool b (MatchBool c (ReadsLong outline Calls id r p sent q) (Performs outline Calls (Read id (r.offset / 512) (r.len / 512)) (chunk_to r) p sent q))
      (Performs outline Calls (Read id (r.offset / 512) (r.len / 512)) (reply_to r.cookie) p sent q) → Still p q
  reads_by true c id r p q sent h = long_by c id r p q sent h
  reads_by false c id r p q sent h = still p q (Read id (r.offset / 512) (r.len / 512)) h.answer h.calls refl refl

  -- ---- options

  informs_by : (b : Bool) (option : ℕ) (o : VolumeOption) (z : Terms) (payload : List ℕ) (p q : D) (sent : List ℕ) (next : Phase) → (o.holds && o.clones) ≡ false
      → MatchBool b (Tells outline Calls (outcome [] Ended) p sent next q) (IsInvalid outline Calls option z payload p sent next q ⊎ IsValid outline Calls o payload p sent next q) → Still p q
  informs_by true option o z payload p q sent next none h = same p q h.2
  informs_by false option o z payload p q sent next none (inl h) = same p q h.tells.2
  informs_by false option o z payload p q sent next none (inr h) = looks_still o h.name p q sent next none h.looks

  exports_by : (b : Bool) (o : VolumeOption) (name : List ℕ) (p q : D) (sent : List ℕ) (next : Phase) → (o.holds && o.clones) ≡ false
      → MatchBool b (Tells outline Calls (outcome [] Ended) p sent next q) (LooksFor outline Calls o name p sent next q) → Still p q
  exports_by true o name p q sent next none h = same p q h.2
  exports_by false o name p q sent next none h = looks_still o name p q sent next none h

  none_still : (ids : List ℕ) (p q : D) → Finding outline Calls (IsRefused outline Calls) 0 ids p q ⊎ ((length ids ≡ 65537) × Finding outline Calls (IsEnough outline Calls) 0 ids p q) → Still p q
  none_still ids p q (inl f) = finding_still (IsRefused outline Calls) refused_still 0 ids p q f
  none_still ids p q (inr f) = finding_still (IsEnough outline Calls) (λ from a b h. same a b h) 0 ids p q f.1

  names_by : (b : Bool) (z : Terms) (p q : D) (sent : List ℕ) (next : Phase)
      → MatchBool b (NamesAll outline Calls z p sent next q ⊎ NamesNone outline Calls p sent next q) (Tells outline Calls (option_error OPTION_LIST Invalid z) p sent next q) → Still p q
  names_by true z p q sent next (inl h) = finding_still (IsLast outline Calls (limit_of z.profile)) (λ from a b e. last_by (nat_lt from (limit_of z.profile)) (limit_of z.profile) from a b e) 0 h.ids p q h.finding
  names_by true z p q sent next (inr h) = none_still h.ids p q h.finding
  names_by false z p q sent next h = same p q h.2

  lists_by : (b : Bool) (z : Terms) (payload : List ℕ) (p q : D) (sent : List ℕ) (next : Phase)
      → MatchBool b (Tells outline Calls (outcome [] Ended) p sent next q)
      (MatchBool (length payload == 0) (NamesAll outline Calls z p sent next q ⊎ NamesNone outline Calls p sent next q) (Tells outline Calls (option_error OPTION_LIST Invalid z) p sent next q)) → Still p q
  lists_by true z payload p q sent next h = same p q h.2
  lists_by false z payload p q sent next h = names_by (length payload == 0) z p q sent next h

  queries_by : (b c : Bool) (option : ℕ) (asks : List (List ℕ) → Bool) (o : Bool → ℕ → VolumeOption) (y : Terms) (payload : List ℕ) (p q : D) (sent : List ℕ) (next : Phase)
      → ((told : Bool) (since : ℕ) → ((o told since).holds && (o told since).clones) ≡ false)
      → MatchBool b (Tells outline Calls (outcome [] Ended) p sent next q)
      (MatchBool c (IsNoQuery outline Calls option y payload p sent next q ⊎ IsQueried outline Calls asks o payload p sent next q) (Tells outline Calls (option_error option Invalid y) p sent next q)) → Still p q
  queries_by true c option asks o y payload p q sent next none h = same p q h.2
  queries_by false true option asks o y payload p q sent next none (inl h) = same p q h.tells.2
  queries_by false true option asks o y payload p q sent next none (inr h) = sought_still (o (asks h.queries)) (since_of h.queries) h.name p q sent next (none (asks h.queries)) h.seeks
  queries_by false false option asks o y payload p q sent next none h = same p q h.2

  extends_by : (is_chunks is_list is_set : Bool) (z : Terms) (option : ℕ) (payload : List ℕ) (p q : D) (sent : List ℕ) (next : Phase)
      → MatchBool is_chunks (Tells outline Calls (structures z payload) p sent next q)
      (MatchBool is_list (Queries outline Calls OPTION_LIST_META_CONTEXT lists (list_context z) z z payload p sent next q)
      (MatchBool is_set (Queries outline Calls OPTION_SET_META_CONTEXT asks_for (set_context z) z (without_context z) payload p sent next q)
      (Tells outline Calls (option_error option Unsupported z) p sent next q))) → Still p q
  extends_by true is_list is_set z option payload p q sent next h = same p q h.2
  extends_by false true is_set z option payload p q sent next h =
      queries_by (is_failed (outline p).mode) z.is_structured OPTION_LIST_META_CONTEXT lists (list_context z) z payload p q sent next (λ told since. refl) h
  extends_by false false true z option payload p q sent next h =
      queries_by (is_failed (outline p).mode) z.is_structured OPTION_SET_META_CONTEXT asks_for (set_context z) (without_context z) payload p q sent next (λ told since. refl) h
  extends_by false false false z option payload p q sent next h = same p q h.2

  chosen_by : (is_go is_info is_export is_list is_abort is_long : Bool) (z : Terms) (option : ℕ) (payload : List ℕ) (p q : D) (sent : List ℕ) (next : Phase)
      → (has_clones z.profile && (is_go || is_export)) ≡ false
      → MatchBool is_go (Informs outline Calls OPTION_GO (go z) z payload p sent next q)
      (MatchBool is_info (Informs outline Calls OPTION_INFO (info z) z payload p sent next q)
      (MatchBool is_export (Exports outline Calls (export_name z) z payload p sent next q)
      (MatchBool is_list (Lists outline Calls z payload p sent next q)
      (MatchBool is_abort (Tells outline Calls (outcome (option_reply OPTION_ABORT Acknowledged []) Ended) p sent next q)
      (MatchBool is_long (Extends outline Calls z option payload p sent next q) (Tells outline Calls (option_error option Unsupported z) p sent next q)))))) → Still p q
  chosen_by true is_info is_export is_list is_abort is_long z option payload p q sent next none h =
      informs_by (is_failed (outline p).mode) OPTION_GO (go z) z payload p q sent next (and_true (has_clones z.profile) none) h
  chosen_by false true is_export is_list is_abort is_long z option payload p q sent next none h = informs_by (is_failed (outline p).mode) OPTION_INFO (info z) z payload p q sent next refl h
  chosen_by false false true is_list is_abort is_long z option payload p q sent next none h =
      exports_by (is_failed (outline p).mode) (export_name z) payload p q sent next (and_true (has_clones z.profile) none) h
  chosen_by false false false true is_abort is_long z option payload p q sent next none h = lists_by (is_failed (outline p).mode) z payload p q sent next h
  chosen_by false false false false true is_long z option payload p q sent next none h = same p q h.2
  chosen_by false false false false false true z option payload p q sent next none h =
      extends_by (option == OPTION_STRUCTURED_REPLY) (option == OPTION_LIST_META_CONTEXT) (option == OPTION_SET_META_CONTEXT) z option payload p q sent next h
  chosen_by false false false false false false z option payload p q sent next none h = same p q h.2

  option_still : (z : Terms) (option : ℕ) (payload : List ℕ) (p q : D) (sent : List ℕ) (next : Phase) → makes_clone z option ≡ false → AnswersOption outline Calls z option payload p sent next q → Still p q
  option_still z option payload p q sent next none h =
      settles_by (z.since == older_in h.chosen.next) z.since h.chosen h.answered q sent next h.settles
      ∙ chosen_by (option == OPTION_GO) (option == OPTION_INFO) (option == OPTION_EXPORT_NAME) (option == OPTION_LIST) (option == OPTION_ABORT) (is_extended z.profile) z option payload p h.answered h.chosen.sent h.chosen.next none h.chooses

module _ {D : Type 0} (view : View D) where
  abbrev Calls : D → Call → Answer → D → Type 0
  Calls = PoolCall view

  abbrev IsStill : D → D → Type 0
  IsStill p q = view.flushes q ≡ view.flushes p

  -- ---- calls

  call_still : (p q : D) (call : Call) (answer : Answer) → PoolCall view p call answer q → CommitsNone view p call → IsStill p q
  call_still p q call answer h (inl none) = let f = h.flushes in no_more (view.flushes p) (view.flushes q) _ f.no_fewer f.most none
  call_still p q call answer h (inr (s, shows, enough, none)) = let f = h.flushes in no_commit _ (view.flushes p) (view.flushes q) f.no_fewer (f.few s shows enough) none

  still : (p q : D) (call : Call) (answer : Answer) → PoolCall view p call answer q → may_reclaim call ≡ false → ends_in_commit call ≡ false → IsStill p q
  still p q call answer h a b = call_still p q call answer h (inl (never (view.outline p).mode call a b))

  pub flush_few : (p q : D) (answer : Result (Unit {0}) Refusal) → IsFlushed view p q answer → view.flushes q ≤ view.flushes p + 2
  flush_few p q (Ok done) h = let few = two_at_most (view.outline p).mode in let most = h.flushes.most in omega (arith, few, most)
  flush_few p q (Err reason) h = let few = two_at_most (view.outline p).mode in let most = h.flushes.most in omega (arith, few, most)

  pub message_few : (p q : D) (m : Order) (answer : Result (Unit {0}) Refusal) → IsMessageMade view p q m answer → view.flushes q ≤ view.flushes p + 4
  message_few p q m (Ok done) h = let few = four_at_most (view.outline p).mode (call_of m) in let most = h.flushes.most in omega (arith, few, most)
  message_few p q m (Err reason) h = let few = four_at_most (view.outline p).mode (call_of m) in let most = h.flushes.most in omega (arith, few, most)

  -- ---- requests

  begins_by : (b : Bool) (apart call : Call) (id size : ℕ) (manner : Manner) (r : Request) (p q : D) (sent : List ℕ) (next : Phase) → CommitsNone view p (if b then apart else call)
      → MatchBool b (Begins view.outline Calls apart id size manner r p sent next q) (Performs view.outline Calls call (reply_to r.cookie) p sent q × (next ≡ Transmission id size (Listens manner))) → IsStill p q
  begins_by true apart call id size manner r p q sent next none h = call_still p q apart h.answer h.calls none
  begins_by false apart call id size manner r p q sent next none h = call_still p q call h.0.answer h.0.calls none

  request_still : (d : Verdict) (id size : ℕ) (manner : Manner) (r : Request) (payload : List ℕ) (p q : D) (sent : List ℕ) (next : Phase) → IsQuietRequest view p d id manner r payload
      → Serves view.outline Calls d id size manner r payload p sent next q → IsStill p q
  request_still verdicts.Disconnect id size manner r payload p q sent next quiet h = lets_still view.outline Calls view.flushes still (Transmission id size (Listens manner)) p q quiet h.2
  request_still (verdicts.Refuse e) id size manner r payload p q sent next quiet h = ap view.flushes h.2
  request_still verdicts.Nothing id size manner r payload p q sent next quiet h = ap view.flushes h.2
  request_still verdicts.Read id size manner r payload p q sent next quiet h = reads_by view.outline Calls view.flushes still manner.is_structured (nat_le 65536 r.len) id r p q sent h.0
  request_still verdicts.Write id size manner r payload p q sent next quiet h = begins_by (is_kept_apart manner r) _ _ id size manner r p q sent next quiet h
  request_still verdicts.Trim id size manner r payload p q sent next quiet h = begins_by (is_kept_apart manner r) _ _ id size manner r p q sent next quiet h
  request_still verdicts.WriteZeroes id size manner r payload p q sent next quiet h = begins_by (is_kept_apart manner r) _ _ id size manner r p q sent next quiet h
  request_still verdicts.Flush id size manner r payload p q sent next quiet h = call_still p q _ h.0.answer h.0.calls quiet
  request_still verdicts.Status id size manner r payload p q sent next quiet h =
      walks_by view.outline Calls view.flushes still (nat_lt (first_block (unit_of (view.outline p).geometry) r) 16777216) manner id r p q sent _ h.0
  request_still verdicts.Long id size manner r payload p q sent next quiet h = ap view.flushes h.2

  -- ---- one step

  frame_still : (phase next : Phase) (m : Message) (p q : D) (sent : List ℕ) → IsQuietFrame view p phase m → Answers view.outline Calls phase m p sent next q → IsStill p q
  frame_still (Flags a) next (client_flags z) p q sent quiet h = ap view.flushes h.2
  frame_still (Flags a) next (client_option o b) p q sent quiet h = absurd h
  frame_still (Flags a) next (command r b) p q sent quiet h = absurd h
  frame_still (Flags a) next malformed p q sent quiet h = lets_still view.outline Calls view.flushes still (Flags a) p q quiet h.2
  frame_still (Options z) next (client_flags y) p q sent quiet h = absurd h
  frame_still (Options z) next (client_option o b) p q sent quiet h = option_still view.outline Calls view.flushes still z o b p q sent next quiet h
  frame_still (Options z) next (command r b) p q sent quiet h = absurd h
  frame_still (Options z) next malformed p q sent quiet h = lets_still view.outline Calls view.flushes still (Options z) p q quiet h.2
  frame_still (Transmission v n (Listens x)) next (client_flags y) p q sent quiet h = absurd h
  frame_still (Transmission v n (Listens x)) next (client_option o b) p q sent quiet h = absurd h
  frame_still (Transmission v n (Listens x)) next (command r b) p q sent quiet h = request_still (verdict_in x n r) v n x r b p q sent next quiet h
  frame_still (Transmission v n (Listens x)) next malformed p q sent quiet h = lets_still view.outline Calls view.flushes still (Transmission v n (Listens x)) p q quiet h.2
  frame_still (Transmission v n (Works x r)) next m p q sent quiet h = absurd h
  frame_still Ended next (client_flags y) p q sent quiet h = absurd h
  frame_still Ended next (client_option o b) p q sent quiet h = absurd h
  frame_still Ended next (command r b) p q sent quiet h = absurd h
  frame_still Ended next malformed p q sent quiet h = lets_still view.outline Calls view.flushes still Ended p q quiet h.2

  deaf_still : (phase : Phase) (from to : State) (p q : D) (piece sent : List ℕ) (taken : ℕ) (ended : Bool) → IsQuietPart view p phase → IsDeaf view.outline Calls phase from p piece taken sent ended to q → IsStill p q
  deaf_still (Transmission v n (Works x r)) from to p q piece sent taken ended quiet h = call_still p q _ h.part.answer h.part.calls quiet
  deaf_still Ended from to p q piece sent taken ended quiet h = ap view.flushes h.pool_is
  deaf_still (Flags a) from to p q piece sent taken ended quiet h = absurd h
  deaf_still (Options z) from to p q piece sent taken ended quiet h = absurd h
  deaf_still (Transmission v n (Listens x)) from to p q piece sent taken ended quiet h = absurd h

  step_by : (o : Option Kind) (from to : State) (p q : D) (piece sent : List ℕ) (taken : ℕ) (ended : Bool) → IsQuietPart view p from.phase
      → ((kind : Kind) (m : Message) → o ≡ Some kind → IsFrame kind m (from.held ++ take taken piece) → IsQuietFrame view p from.phase m)
      → MatchOption o (IsDeaf view.outline Calls from.phase from p piece taken sent ended to q)
      (λ kind. Waits view.outline Calls kind from p piece taken sent ended to q ⊎ TakesFrame view.outline Calls kind from p piece taken sent ended to q) → IsStill p q
  step_by None from to p q piece sent taken ended part frame h = deaf_still from.phase from to p q piece sent taken ended part h
  step_by (Some kind) from to p q piece sent taken ended part frame (inl h) = ap view.flushes h.pool_is
  step_by (Some kind) from to p q piece sent taken ended part frame (inr h) = frame_still from.phase to.phase h.message p q sent (frame kind h.message refl h.frame) h.answer

  turn_still : (at at' : Sessions) (p q : D) (turn : Turn) → IsQuiet view at p turn → TakesTurn view.outline Calls at p turn at' q → IsStill p q
  turn_still at at' p q (Opens n profile sent) quiet h = ap view.flushes h.0
  turn_still at at' p q (Hears n piece taken sent ended) quiet h = step_by (kind_of (at n).phase) (at n) (at' n) p q piece sent taken ended quiet.0 quiet.1 h.0
  turn_still at at' p q (Leaves n) quiet h = lets_still view.outline Calls view.flushes still (at n).phase p q quiet h.0
  turn_still at at' p q (Asks call answer) quiet h = call_still p q call answer h.0 quiet

  -- ---- runs

  turns_owed : (at : Sessions) (p : D) (hs : List (Happened D)) → AreTurns view.outline Calls at p hs → AreOwed view at p hs
  turns_owed at p [] are = tt
  turns_owed at p (h ∷ hs) are = (λ quiet. turn_still at h.sessions p h.pool h.turn quiet are.0, turns_owed h.sessions h.pool hs are.1)

  owed_join : (at : Sessions) (p : D) (hs is : List (Happened D)) → AreOwed view at p hs → AreOwed view (sessions_after at hs) (pool_after p hs) is → AreOwed view at p (hs ++ is)
  owed_join at p [] is a b = b
  owed_join at p (h ∷ hs) is a b = (a.0, owed_join h.sessions h.pool hs is a.1 b)

  served_owed : (at : Sessions) (p : D) (xs : List (Served D)) → AreServed view.outline Calls at p xs → AreOwed view at p (turns_in xs)
  served_owed at p [] are = tt
  served_owed at p (x ∷ xs) are = owed_join at p x.turns (turns_in xs) (turns_owed at p x.turns are.1) (served_owed (sessions_after at x.turns) (pool_after p x.turns) xs are.2)

  runs_owed : (old new : HubState D) (took : List Incoming) (answers : List Said) → HubRuns view old took answers new → RunsOwed view old took answers new
  runs_owed old new took answers h = record {
    before = h.0;
    after = h.1;
    runs = h.2;
    grows = h.3;
    owed = served_owed (sessions_of old.slots) old.pool h.2.served h.2.are;
  }

  -- an event that was asked by a run was asked by one in which each flush is owed
  pub asked_owed : (old new : HubState D) (event : Incoming) (events bytes : ℕ) (before after : Told) → IsAsked (λ took answers. HubRuns view old took answers new) event events bytes before after
      → IsAsked (λ took answers. RunsOwed view old took answers new) event events bytes before after
  asked_owed old new event events bytes before after a = record {
    answers = a.answers;
    did = runs_owed old new _ a.answers a.did;
    adds = a.adds;
    cut = a.cut;
    silent = a.silent;
    begun = a.begun;
  }

  pub asked_only : (old new : HubState D) (event : Incoming) (events bytes : ℕ) (before after : Told) → IsAsked (λ took answers. RunsOwed view old took answers new) event events bytes before after
      → IsAsked (λ took answers. HubRuns view old took answers new) event events bytes before after
  asked_only old new event events bytes before after a = record {
    answers = a.answers;
    did = (a.did.before, a.did.after, a.did.runs, a.did.grows);
    adds = a.adds;
    cut = a.cut;
    silent = a.silent;
    begun = a.begun;
  }
