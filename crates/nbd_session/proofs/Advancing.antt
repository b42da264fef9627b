-- A step over a pool is, from each state that the pool may have, a step over the plain pool.
use Rattle.std.proofs.Common.{◌≡◌, ◌≢◌, ℕ, zero, suc, ◌+◌, ◌-◌, ◌*◌, ◌/◌, ◌<◌, ◌≤◌, ◌⊎◌, Bool, true, false, List, [], ◌∷◌, ◌++◌, length, take, Option, Some, None, refl, sym, ap, subst, ◌∙◌, append_assoc, length-append, arith, inl, inr, true≢false}
use Rattle.std.specs.Prelude.{IfSome, MatchOption, MatchBool, ◌==◌, if◌then◌else◌, nat_le, nat_lt}
use Rattle.std.specs.List.{concat}
use Rattle.std.specs.Ordering.{nat_cmp}
use Rattle.std.specs.FinMap.{FinMap}
use Rattle.std.specs.Option.{option_map_or}
use Rattle.std.proofs.lemmas.Bool.{cases_eq, eq-eqb, eqb-false, eqb-true, lt-ltb}
use Rattle.tp_model.specs.declared.refusal.NbdError.{NbdError}
use Rattle.tp_model.specs.Requests.{form_error, is_flush, is_read, is_trim, is_write}
use Rattle.tp_model.specs.Geometry.{Geometry, sectors_of_volume}
use Rattle.tp_model.specs.Sectors.{sectors_of}
use Rattle.tp_model.specs.Pool.{PlainPool, Outline, hold_count, hold_total}
use Rattle.tp_model.specs.Calls.{Call, Answer, CreateSnap, Delete, Done, Gave, Line, Found, Refused, Sized, Listed, Hold, LetGo, NextId, Read, Trim, VolumeBlocks, Walk, Write, WriteZeroes, is_failed, holds_after}
use Rattle.tp_holders.specs.Holders.{counts_of}
use Rattle.nbd_wire.specs.declared.Kind.{Kind}
use Rattle.nbd_wire.specs.declared.Request.{Request}
use Rattle.nbd_wire.specs.declared.TheConstants.{COMMAND_DISC, OPTION_ABORT, OPTION_EXPORT_NAME, OPTION_GO, OPTION_INFO, OPTION_LIST, OPTION_LIST_META_CONTEXT, OPTION_SET_META_CONTEXT, OPTION_STRUCTURED_REPLY}
use Rattle.nbd_wire.specs.declared.writing.ReplyType.TheVariants.{Acknowledged, Invalid, Unsupported}
use Rattle.nbd_wire.specs.Chunks.{data_chunk}
use Rattle.nbd_wire.specs.Replies.{option_reply}
use Rattle.nbd_wire.specs.Grammar.{Message, client_flags, client_option, command, malformed}
use Rattle.nbd_session.specs.declared.phase.ContextOf.{ContextOf}
use Rattle.nbd_session.specs.declared.phase.ContextOf.TheVariants as contexts
use Rattle.nbd_session.specs.declared.phase.Course.{Course}
use Rattle.nbd_session.specs.declared.phase.Course.TheVariants.{Listens, Works}
use Rattle.nbd_session.specs.declared.phase.Terms.{Terms}
use Rattle.nbd_session.specs.declared.phase.Manner.{Manner}
use Rattle.nbd_session.specs.declared.phase.Phase.{Phase}
use Rattle.nbd_session.specs.declared.phase.Phase.TheVariants.{Flags, Options, Transmission, Ended}
use Rattle.nbd_session.specs.declared.request.Verdict.{Verdict}
use Rattle.nbd_session.specs.declared.request.Verdict.TheVariants as verdicts
use Rattle.nbd_session.specs.Requests.{bytes_of_blocks, form_of, has_no_hole, has_since, is_kept_apart, known_bytes, to_keep, verdict_in, verdict_on, wants_fua}
use Rattle.nbd_session.specs.declared.session.Answered.{Answered}
use Rattle.nbd_wire.specs.Contexts.{asks_for, lists, since_of}
use Rattle.nbd_session.specs.Buffers.{IsSound, wanted_in}
use Rattle.nbd_session.specs.Held.{Gathers}
use Rattle.nbd_session.specs.Holes.{has_blank}
use Rattle.nbd_session.specs.Status.{IsAllocation, first_block, unit_of}
use Rattle.nbd_session.specs.Session.{State, state, has_ended, Outcome, outcome, option_error, VolumeOption, clone_manner, export_name, go, has_clones, info, in_chunks, in_context, is_of_failure, is_of_none, is_there, is_at_work, is_extended, kind_of, left_in, ids_of, is_told_of, is_told_of_clone, limit_of, list_context, manner_by, manner_in, manner_of, older_in, own_in, volumes_in, of_clone, uncloned, set_context, structures, terms_of, transmission_flags, without_context, chunk_to, reply_to, Clones, FindsNone, GivesUp, IsCloneHeld, IsCloneSized, IsCloned, Passes, Snaps, AnswersOption, HoldsOlder, IsOlderHeld, LetsGo, LetsOlderGo, LetsOwnGo, Trades, Begins, Ends, Tells, Serves, IsMade, MakesPart, IsDeaf, IsSized, Sizes, IsHeld, Holds, Enters, Finds, AsksFor, LooksFor, IsInvalid, IsValid, Informs, Exports, Finding, IsEnough, IsLast, IsRefused, Lists, NamesAll, NamesNone, Answers, Waits, TakesFrame, Steps, Compares, Extends, IsDescribed, IsNoQuery, IsQueried, Queries, Seeks, SeeksFor, Walks, Chooses, IsGiven, Performs, ReadsLong, SeeksHoles}
use Rattle.tp_model.specs.Clauses.{Continues, HasTrace, PoolCall, Traced, TracedCall, View, ViewLaws, outline_of_traced}
use Rattle.tp_model.proofs.Running.{call_traced, goes_on, stays}
use Rattle.nbd_session.specs.Clauses.{IsReady, Follows, GoesBeyond, HoldsBeside, HoldsFollow, KeepsSizes, PlainCall, Advances, Leaves, IsCalm}
use Rattle.nbd_session.proofs.Counting.{few_older, held_again, held_before, held_here, held_less, held_more, less_other, more_other, older_gone, older_held, older_here, one_more, still_held, total_is}
use Rattle.nbd_session.proofs.Following.{steps_likewise, lets_go_likewise}
use Rattle.nbd_session.proofs.Stepping.{calm_gathered, calm_state, deaf_holds, sound_few, steps_deaf, steps_wait, wanted_at_start}

-- what a session knows of its volume that has entered transmission
abbrev Knows : Phase → Phase → Outline → (ℕ → ℕ) → Type 0
Knows (Options terms) (Transmission volume size course) p more = size ≡ known_bytes p.geometry more volume
Knows phase next p more = Unit {0}

-- the volume of a session that stays in transmission has the size that it had
size_stays : (p p' : Outline) (more more' : ℕ → ℕ) (v n : ℕ) → p'.geometry ≡ p.geometry → more' v ≡ more v → n ≡ known_bytes p.geometry more v → n ≡ known_bytes p'.geometry more' v
size_stays p p' more more' v n g m is =
    is ∙ (ap (λ (x : Geometry). known_bytes x more v) (sym g) ∙ ap (λ (x : ℕ). 512 * (sectors_of_volume p'.geometry + x)) (sym m))

-- what a session knows of its size, where it has a volume
abbrev KnowsSize : Phase → Outline → (ℕ → ℕ) → Type 0
KnowsSize (Flags a) p more = Unit {0}
KnowsSize (Options z) p more = Unit {0}
KnowsSize (Transmission v n c) p more = n ≡ known_bytes p.geometry more v
KnowsSize Ended p more = Unit {0}

ready_by : (phase : Phase) (p : Outline) (more : ℕ → ℕ) → HoldsBeside (volumes_in phase) p.holds → KnowsSize phase p more → IsReady phase p more
ready_by (Flags a) p more h k = h
ready_by (Options z) p more h k = h
ready_by (Transmission v n c) p more h k = (h, k)
ready_by Ended p more h k = tt

-- what others hold beside a session that has not ended
holds_of : (phase : Phase) (p : Outline) (more : ℕ → ℕ) → has_ended phase ≡ false → IsReady phase p more → HoldsBeside (volumes_in phase) p.holds
holds_of (Flags a) p more e h = h
holds_of (Options z) p more e h = h
holds_of (Transmission v n c) p more e h = h.0
holds_of Ended p more e h = absurd (true≢false e)

beside_next : (phase next : Phase) (h h' : FinMap nat_cmp ℕ) → HoldsFollow phase next h h' → HoldsBeside (volumes_in phase) h → HoldsBeside (volumes_in next) h'
beside_next phase next h h' f w = record { others = w.others; few = w.few; all = f w.others w.all }

few_own : (phase : Phase) → length (own_in phase) ≤ 1
few_own (Flags a) = omega arith
few_own (Options z) = omega arith
few_own (Transmission v n c) = omega arith
few_own Ended = omega arith

-- there is room for the volume of a session that has none
pub room_for_own : (id : ℕ) (h : FinMap nat_cmp ℕ) → HoldsBeside (ids_of id) h → hold_total h < 128
room_for_own id h w = omega (arith, total_is (ids_of id ++ w.others) h w.all, length-append (ids_of id) w.others, few_older (nat_lt id 16777216) id, w.few)

-- an older volume is held by its session
pub older_beside : (own : List ℕ) (id : ℕ) (h : FinMap nat_cmp ℕ) → HoldsBeside (own ++ ids_of id) h → id < 16777216 → 0 < hold_count h id
older_beside own id h w low = older_here (nat_lt id 16777216) id own w.others h (lt-ltb id 16777216 low) w.all

pub older_is_held : (phase : Phase) (p : Outline) (more : ℕ → ℕ) → IsReady phase p more → older_in phase < 16777216 → 0 < hold_count p.holds (older_in phase)
older_is_held (Flags a) p more ready low = absurd (omega (arith, low))
older_is_held (Options z) p more ready low = older_beside [] z.since p.holds ready low
older_is_held (Transmission v n c) p more ready low = older_beside (v ∷ []) (manner_in c).since p.holds ready.0 low
older_is_held Ended p more ready low = absurd (omega (arith, low))

-- the row of a session whose volume and older volume are these
row : (phase : Phase) (others : List ℕ) (h : FinMap nat_cmp ℕ) → h ≡ counts_of (volumes_in phase ++ others) → h ≡ counts_of (own_in phase ++ (ids_of (older_in phase) ++ others))
row phase others h is = is ∙ ap counts_of (append_assoc (own_in phase) (ids_of (older_in phase)) others)

row_back : (phase : Phase) (others : List ℕ) (h : FinMap nat_cmp ℕ) → h ≡ counts_of (own_in phase ++ (ids_of (older_in phase) ++ others)) → h ≡ counts_of (volumes_in phase ++ others)
row_back phase others h is = is ∙ sym (ap counts_of (append_assoc (own_in phase) (ids_of (older_in phase)) others))

-- What a frame makes of who holds what, aside from the older volume of a session. An option that ends the session may have held a volume before, whose size was refused: it was let go.
abbrev Moved : Phase → Phase → FinMap nat_cmp ℕ → FinMap nat_cmp ℕ → Type 0
Moved (Options z) (Transmission v n c) h h' = h' ≡ holds_after h (Hold v) Done
Moved (Options z) Ended h h' = (h' ≡ h) ⊎ ((v : ℕ) × (h' ≡ holds_after (holds_after h (Hold v) Done) (LetGo v) Done))
Moved (Transmission v n c) Ended h h' = ⊥
Moved phase next h h' = h' ≡ h

-- the volume that an option leads to comes to those that are held
own_moved : (z : Terms) (next : Phase) (h h' : FinMap nat_cmp ℕ) (rows : List ℕ) → Follows (Options z) next → Moved (Options z) next h h' → h ≡ counts_of rows → h' ≡ counts_of (own_in next ++ rows)
own_moved z (Flags a) h h' rows f e is = absurd f
own_moved z (Options y) h h' rows f e is = e ∙ is
own_moved z (Transmission v n c) h h' rows f e is = e ∙ held_more v rows h is
own_moved z Ended h h' rows f (inl e) is = e ∙ is
own_moved z Ended h h' rows f (inr (v, e)) is = e ∙ held_less v rows (holds_after h (Hold v) Done) (held_more v rows h is)

-- and what was held stays so
moved_keeps : (z : Terms) (next : Phase) (h h' : FinMap nat_cmp ℕ) (i : ℕ) → Follows (Options z) next → Moved (Options z) next h h' → 0 < hold_count h i → 0 < hold_count h' i
moved_keeps z (Flags a) h h' i f e some = absurd f
moved_keeps z (Options y) h h' i f e some = let same : hold_count h' i ≡ hold_count h i = ap (λ (m : FinMap nat_cmp ℕ). hold_count m i) e in omega (arith, same, some)
moved_keeps z (Transmission v n c) h h' i f e some = let P : FinMap nat_cmp ℕ → Type 0 = λ m. 0 < hold_count m i in subst P (sym e) (still_held h v i some)
moved_keeps z Ended h h' i f (inl e) some = let same : hold_count h' i ≡ hold_count h i = ap (λ (m : FinMap nat_cmp ℕ). hold_count m i) e in omega (arith, same, some)
moved_keeps z Ended h h' i f (inr (v, e)) some =
    let same : hold_count h' i ≡ hold_count h i = ap (λ (m : FinMap nat_cmp ℕ). hold_count m i) e ∙ held_again h v i in
    omega (arith, same, some)

-- a session that stays in transmission holds what it held
row_stays : (v n w o : ℕ) (c d : Course) (others : List ℕ) → v ≡ w → manner_in c ≡ manner_in d
    → counts_of (volumes_in (Transmission v n c) ++ others) ≡ counts_of (volumes_in (Transmission w o d) ++ others)
row_stays v n w o c d others e f =
    ap (λ (x : ℕ). counts_of ((x ∷ ids_of (manner_in c).since) ++ others)) e ∙ ap (λ (m : Manner). counts_of ((w ∷ ids_of m.since) ++ others)) f

works_held : (v n : ℕ) (c : Course) (next : Phase) (h h' : FinMap nat_cmp ℕ) → Follows (Transmission v n c) next → Moved (Transmission v n c) next h h' → HoldsFollow (Transmission v n c) next h h'
works_held v n c (Flags a) h h' f e = absurd f
works_held v n c (Options z) h h' f e = absurd f
works_held v n c (Transmission w o d) h h' f e = λ others is. e ∙ (is ∙ row_stays v n w o c d others f.0 f.2)
works_held v n c Ended h h' f e = absurd e

-- transmission begins with the older volume of the options, or with none
begins_with : (b : Bool) (since : ℕ) → (since == (if b then since else 16777216)) ≡ false → nat_lt (if b then since else 16777216) 16777216 ≡ true → ⊥
begins_with true since other low = true≢false (sym (eq-eqb since since refl) ∙ other)
begins_with false since other low = true≢false (sym low)

since_of_course : (z : Terms) (b clone : Bool) (c : Course) → c ≡ Listens (manner_by z b clone) → (manner_in c).since ≡ (if b then z.since else 16777216)
since_of_course z b clone c e = ap (λ (d : Course). (manner_in d).since) e

no_other : (z : Terms) (b clone : Bool) (c : Course) → c ≡ Listens (manner_by z b clone) → (z.since == (manner_in c).since) ≡ false → nat_lt (manner_in c).since 16777216 ≡ true → ⊥
no_other z b clone c e other low =
    let is = since_of_course z b clone c e in
    begins_with b z.since (ap (λ (n : ℕ). z.since == n) (sym is) ∙ other) (ap (λ (n : ℕ). nat_lt n 16777216) (sym is) ∙ low)

-- an option that asks for another older volume does not begin transmission
own_none : (z : Terms) (became : Phase) → Follows (Options z) became → (z.since == older_in became) ≡ false → nat_lt (older_in became) 16777216 ≡ true → own_in became ≡ []
own_none z (Flags a) f other low = absurd f
own_none z (Options y) f other low = refl
own_none z (Transmission v n c) (inl e) other low = absurd (no_other z (is_told_of z v) false c e other low)
own_none z (Transmission v n c) (inr (origin, on, least, most, e)) other low = absurd (no_other z (is_told_of_clone z origin) true c e other low)
own_none z Ended f other low = refl

-- ---- no request is long whose length is tested

chosen_not_long : (a b c d e : Bool) → (if a then verdicts.Flush else if b then verdicts.Nothing else if c then verdicts.Read else if d then verdicts.Write else if e then verdicts.Trim else verdicts.WriteZeroes) ≡ verdicts.Long → ⊥
chosen_not_long true b c d e h = absurd cc
chosen_not_long false true c d e h = absurd cc
chosen_not_long false false true d e h = absurd cc
chosen_not_long false false false true e h = absurd cc
chosen_not_long false false false false true h = absurd cc
chosen_not_long false false false false false h = absurd cc

tested_not_long : (o : Option NbdError) (v : Verdict) → (v ≡ verdicts.Long → ⊥) → option_map_or verdicts.Refuse o v ≡ verdicts.Long → ⊥
tested_not_long None v not_it h = not_it h
tested_not_long (Some e) v not_it h = absurd cc

asked_not_long : (b : Bool) (v : Verdict) → (v ≡ verdicts.Long → ⊥) → (if b then verdicts.Disconnect else v) ≡ verdicts.Long → ⊥
asked_not_long true v not_it h = absurd cc
asked_not_long false v not_it h = not_it h

never_long : (size : ℕ) (r : Request) → verdict_on size r ≡ verdicts.Long → ⊥
never_long size r h =
    asked_not_long (r.kind == COMMAND_DISC) _ (λ e.
    tested_not_long (form_error size (form_of r)) _ (λ g. chosen_not_long (is_flush (form_of r)) (r.len == 0) (is_read (form_of r)) (is_write (form_of r)) (is_trim (form_of r)) g) e) h

-- a session that makes parts of a request reads no frames
working_speaks_not : (phase : Phase) (kind : Kind) → kind_of phase ≡ Some kind → is_at_work phase ≡ true → ⊥
working_speaks_not (Flags a) kind e w = absurd cc
working_speaks_not (Options z) kind e w = absurd cc
working_speaks_not (Transmission v n (Listens x)) kind e w = absurd cc
working_speaks_not (Transmission v n (Works m r)) kind e w = absurd cc
working_speaks_not Ended kind e w = absurd cc

module _ {D : Type 0} (view : View D) (laws : ViewLaws view) where
  -- ---- what stands between a pool and the plain pool, or the traced one

  pub plain_call : (old new : D) (s : PlainPool) (call : Call) (answer : Answer) → view.shows old s → PoolCall view old call answer new → (s' : PlainPool) × PlainCall s call answer s' × view.shows new s'
  plain_call old new s call answer is_shown h = let m = h.called.meets s is_shown in (m.1, (m.0, m.2), m.3)

  -- A trace goes on from a place of it.
  module _ (from : D) (s : PlainPool) (start : D) (first : Traced) where
    abbrev pub GoesFrom : D → Traced → Type 0
    GoesFrom d t = HasTrace view from s d t × Continues view from s start first d t

    pub traced_outline : (d : D) (t : Traced) → GoesFrom d t → outline_of_traced t ≡ view.outline d
    traced_outline d t g = laws.shown d t.pool g.0.shown

    pub traced_call : (old new : D) (t : Traced) (call : Call) (answer : Answer) → GoesFrom old t → PoolCall view old call answer new
        → (t' : Traced) × TracedCall view.has_use t call answer t' × GoesFrom new t'
    traced_call old new t call answer g h =
        let m = call_traced view laws from s old new t call answer g.0 h in
        (m.0, m.1, (m.2, goes_on view laws from s start old new first t m.0 g.1 m.3))

  pub from_here : (from : D) (s : PlainPool) (d : D) (t : Traced) → HasTrace view from s d t → GoesFrom from s d t d t
  from_here from s d t has = (has, stays view laws from s d t has)

  -- ---- where a session goes, and who holds what

  record Moves (old new : D) (phase next : Phase) : Type 0 where
    geometry : (view.outline new).geometry ≡ (view.outline old).geometry
    holds : Moved phase next (view.outline old).holds (view.outline new).holds
    follows : Follows phase next
    more : KeepsSizes view old new
    knows : Knows phase next (view.outline new) (view.more new)

  moves_to : (old new : D) (phase next to : Phase) → next ≡ to → Moves old new phase to → Moves old new phase next
  moves_to old new phase next to e m = let P : Phase → Type 0 = λ n. Moves old new phase n in subst P (sym e) m

  same_sizes : (old new : D) → new ≡ old → KeepsSizes view old new
  same_sizes old new e i before after = ap (λ (d : D). view.more d i) e

  -- the pool is not called, and is called
  rests : (old new : D) (phase to : Phase) → new ≡ old → Moved phase to (view.outline old).holds (view.outline old).holds → Follows phase to → Knows phase to (view.outline new) (view.more new) → Moves old new phase to
  rests old new phase to e holds f knows = record {
    geometry = ap (λ (d : D). (view.outline d).geometry) e;
    holds = let P : D → Type 0 = λ d. Moved phase to (view.outline old).holds (view.outline d).holds in subst P (sym e) holds;
    follows = f;
    more = same_sizes old new e;
    knows = knows;
  }

  called : (old new : D) (phase to : Phase) (call : Call) (answer : Answer) → PoolCall view old call answer new → Moved phase to (view.outline old).holds (holds_after (view.outline old).holds call answer)
      → Follows phase to → Knows phase to (view.outline new) (view.more new) → Moves old new phase to
  called old new phase to call answer h holds f knows = record {
    geometry = h.geometry;
    holds = let P : FinMap nat_cmp ℕ → Type 0 = λ m. Moved phase to (view.outline old).holds m in subst P (sym h.holds) holds;
    follows = f;
    more = h.more;
    knows = knows;
  }

  -- terms that stay, and those of an extended session that change
  stays_so : (z : Terms) → GoesBeyond z z
  stays_so z = record { no_zeroes = refl; profile = refl; strict = λ e. refl; structured = λ e. e }

  asks_for_chunks : (z : Terms) → is_extended z.profile ≡ true → GoesBeyond z (in_chunks z)
  asks_for_chunks z ext = record { no_zeroes = refl; profile = refl; strict = λ e. absurd (true≢false (sym ext ∙ e)); structured = λ e. refl }

  asks_of : (z : Terms) (context : ContextOf) (tells : Bool) (since : ℕ) → is_extended z.profile ≡ true → GoesBeyond z (in_context z context tells since)
  asks_of z context tells since ext = record { no_zeroes = refl; profile = refl; strict = λ e. absurd (true≢false (sym ext ∙ e)); structured = λ e. e }

  -- a session that goes on to its options, or ends, where nothing is called
  to_terms : (old new : D) (z y : Terms) → GoesBeyond z y → new ≡ old → Moves old new (Options z) (Options y)
  to_terms old new z y f e = rests old new (Options z) (Options y) e refl f tt

  to_options : (old new : D) (z : Terms) → new ≡ old → Moves old new (Options z) (Options z)
  to_options old new z e = to_terms old new z z (stays_so z) e

  to_end : (old new : D) (z : Terms) → new ≡ old → Moves old new (Options z) Ended
  to_end old new z e = rests old new (Options z) Ended e (inl refl) tt tt

  -- a clone is let go and deleted, of which the second changes nothing of who holds what
  back : (old new : D) → (view.outline new).holds ≡ (view.outline old).holds → (i : ℕ) → 0 < hold_count (view.outline new).holds i → 0 < hold_count (view.outline old).holds i
  back old new e i some = let P : FinMap nat_cmp ℕ → Type 0 = λ m. 0 < hold_count m i in subst P e some

  over_back : (old mid new : D) → KeepsSizes view old mid → KeepsSizes view mid new → ((i : ℕ) → 0 < hold_count (view.outline new).holds i → 0 < hold_count (view.outline mid).holds i) → KeepsSizes view old new
  over_back old mid new first then_ there i before after = then_ i (there i after) after ∙ first i before (there i after)

  given_up : (old new : D) (v : ℕ) → GivesUp view.outline (PoolCall view) v old new
      → ((view.outline new).geometry ≡ (view.outline old).geometry) × ((view.outline new).holds ≡ holds_after (view.outline old).holds (LetGo v) Done) × KeepsSizes view old new
  given_up old new v h =
      (h.deletes.geometry ∙ h.lets_go.geometry, h.deletes.holds ∙ h.lets_go.holds, over_back old h.let_go new h.lets_go.more h.deletes.more (back h.let_go new h.deletes.holds))

  -- an older volume is let go, where there is one
  gone_so : (b : Bool) (id : ℕ) (old new : D) → MatchBool b (PoolCall view old (LetGo id) Done new) (new ≡ old)
      → ((view.outline new).geometry ≡ (view.outline old).geometry)
      × MatchBool b ((view.outline new).holds ≡ holds_after (view.outline old).holds (LetGo id) Done) ((view.outline new).holds ≡ (view.outline old).holds) × KeepsSizes view old new
  gone_so true id old new h = (h.geometry, h.holds, h.more)
  gone_so false id old new h = (ap (λ (d : D). (view.outline d).geometry) h, ap (λ (d : D). (view.outline d).holds) h, same_sizes old new h)

  -- and so is the volume that a session serves
  abbrev IsLetGo : List ℕ → D → D → Type 0
  IsLetGo own old new =
      ((view.outline new).geometry ≡ (view.outline old).geometry)
      × ((others : List ℕ) → (view.outline old).holds ≡ counts_of (own ++ others) → (view.outline new).holds ≡ counts_of others)
      × KeepsSizes view old new × ((i : ℕ) → 0 < hold_count (view.outline new).holds i → 0 < hold_count (view.outline old).holds i)

  fewer_held : (old new : D) (v i : ℕ) → (view.outline new).holds ≡ holds_after (view.outline old).holds (LetGo v) Done → 0 < hold_count (view.outline new).holds i → 0 < hold_count (view.outline old).holds i
  fewer_held old new v i e some = let P : FinMap nat_cmp ℕ → Type 0 = λ m. 0 < hold_count m i in held_before (view.outline old).holds v i (subst P e some)

  own_gone_by : (b : Bool) (v : ℕ) (old new : D) → MatchBool b (GivesUp view.outline (PoolCall view) v old new) (PoolCall view old (LetGo v) Done new) → IsLetGo (v ∷ []) old new
  own_gone_by true v old new h =
      let m = given_up old new v h in
      (m.0, λ others is. m.1 ∙ held_less v others (view.outline old).holds is, m.2, λ i some. fewer_held old new v i m.1 some)
  own_gone_by false v old new h = (h.geometry, λ others is. h.holds ∙ held_less v others (view.outline old).holds is, h.more, λ i some. fewer_held old new v i h.holds some)

  own_still : (old new : D) → new ≡ old → IsLetGo [] old new
  own_still old new e =
      let same : (view.outline new).holds ≡ (view.outline old).holds = ap (λ (d : D). (view.outline d).holds) e in
      (ap (λ (d : D). (view.outline d).geometry) e, λ others is. same ∙ is, same_sizes old new e, back old new same)

  own_gone : (phase : Phase) (old new : D) → LetsOwnGo view.outline (PoolCall view) phase old new → IsLetGo (own_in phase) old new
  own_gone (Flags a) old new h = own_still old new h
  own_gone (Options z) old new h = own_still old new h
  own_gone (Transmission v n c) old new h = own_gone_by (manner_in c).is_clone v old new h
  own_gone Ended old new h = own_still old new h

  -- all that a session holds is let go
  lets_go_all : (phase : Phase) (old new : D) → LetsGo view.outline (PoolCall view) phase old new
      → ((view.outline new).geometry ≡ (view.outline old).geometry) × HoldsFollow phase Ended (view.outline old).holds (view.outline new).holds × KeepsSizes view old new
  lets_go_all phase old new h =
      let low = nat_lt (older_in phase) 16777216 in
      let g = gone_so low (older_in phase) old h.without_older h.lets_older_go in
      let o = own_gone phase h.without_older new h.lets_own_go in (
        o.0 ∙ g.0,
        λ others is. o.1 others (older_gone low (older_in phase) (own_in phase) others (view.outline old).holds (view.outline h.without_older).holds (row phase others (view.outline old).holds is) g.1),
        over_back old h.without_older new g.2 o.2 o.3,
      )

  tells_move : (old new : D) (phase : Phase) (o : Outcome) (sent : List ℕ) (next : Phase) → Tells view.outline (PoolCall view) o old sent next new
      → Moves old new phase o.next → Moves old new phase next
  tells_move old new phase o sent next h m = moves_to old new phase next o.next h.1 m

  -- a request leaves a session where it is, or begins work
  stays_in : (old new : D) (v n : ℕ) (c d : Course) (call : Call) (answer : Answer) (next : Phase) → next ≡ Transmission v n d → manner_in c ≡ manner_in d → PoolCall view old call answer new
      → holds_after (view.outline old).holds call answer ≡ (view.outline old).holds → Moves old new (Transmission v n c) next
  stays_in old new v n c d call answer next at same h holds =
      moves_to old new (Transmission v n c) next (Transmission v n d) at (called old new (Transmission v n c) (Transmission v n d) call answer h holds (refl, refl, same) tt)

  not_asked : (old new : D) (v n : ℕ) (x : Manner) → new ≡ old → Moves old new (Transmission v n (Listens x)) (Transmission v n (Listens x))
  not_asked old new v n x e = rests old new (Transmission v n (Listens x)) (Transmission v n (Listens x)) e refl (refl, refl, refl) tt

  -- the geometry, who holds what, and the sizes stay
  record Stays (old new : D) : Type 0 where
    geometry : (view.outline new).geometry ≡ (view.outline old).geometry
    holds : (view.outline new).holds ≡ (view.outline old).holds
    more : KeepsSizes view old new

  still : (old new : D) → new ≡ old → Stays old new
  still old new e = record { geometry = ap (λ (d : D). (view.outline d).geometry) e; holds = ap (λ (d : D). (view.outline d).holds) e; more = same_sizes old new e }

  asked : (old new : D) (from : ℕ) (answer : Answer) → PoolCall view old (NextId from) answer new → Stays old new
  asked old new from answer h = record { geometry = h.geometry; holds = h.holds; more = h.more }

  -- sizes stay known over a pool in between, where all that is held before is held there
  over : (old mid new : D) → KeepsSizes view old mid → KeepsSizes view mid new → ((i : ℕ) → 0 < hold_count (view.outline old).holds i → 0 < hold_count (view.outline mid).holds i) → KeepsSizes view old new
  over old mid new first then_ there i before after = then_ i (there i before) after ∙ first i before (there i before)

  as_held : (old new : D) → (view.outline new).holds ≡ (view.outline old).holds → (i : ℕ) → 0 < hold_count (view.outline old).holds i → 0 < hold_count (view.outline new).holds i
  as_held old new e i some = let P : FinMap nat_cmp ℕ → Type 0 = λ m. 0 < hold_count m i in subst P (sym e) some

  walk_stays : (old new : D) (id from : ℕ) (answer : Answer) → PoolCall view old (Walk id from) answer new → Stays old new
  walk_stays old new id from answer h = record { geometry = h.geometry; holds = h.holds; more = h.more }

  -- what is told of a volume changes nothing of that
  compared_stays : (b : Bool) (x : Manner) (unit from : ℕ) (r : Request) (slots : List (ℕ × ℕ)) (old new : D) (sent : List ℕ)
      → MatchBool b (Compares view.outline (PoolCall view) x unit from r slots old sent new) (IsAllocation true unit r slots sent × (new ≡ old)) → Stays old new
  compared_stays true x unit from r slots old new sent h = walk_stays old new x.since from h.answer h.calls
  compared_stays false x unit from r slots old new sent h = still old new h.1

  described_stays : (x : Manner) (unit from : ℕ) (r : Request) (answer : Answer) (old new : D) (sent : List ℕ) → IsDescribed view.outline (PoolCall view) x unit from r answer old sent new → Stays old new
  described_stays x unit from r (Listed slots) old new sent h = compared_stays (has_since x) x unit from r slots old new sent h
  described_stays x unit from r (Refused reason) old new sent h = still old new h.1
  described_stays x unit from r Done old new sent h = absurd h
  described_stays x unit from r (Gave sectors) old new sent h = absurd h
  described_stays x unit from r (Line bytes) old new sent h = absurd h
  described_stays x unit from r (Found least) old new sent h = absurd h
  described_stays x unit from r (Sized blocks) old new sent h = absurd h

  both_stay : (old mid new : D) → Stays old mid → Stays mid new → Stays old new
  both_stay old mid new one two = record { geometry = two.geometry ∙ one.geometry; holds = two.holds ∙ one.holds; more = over old mid new one.more two.more (as_held old mid one.holds) }

  listens_on : (old new : D) (v n : ℕ) (x : Manner) → Stays old new → Moves old new (Transmission v n (Listens x)) (Transmission v n (Listens x))
  listens_on old new v n x h = record { geometry = h.geometry; holds = h.holds; follows = (refl, refl, refl); more = h.more; knows = tt }

  -- what is done behind a call that leaves all that
  behind_call : (old mid new : D) (phase next : Phase) → Stays old mid → Moves mid new phase next → Moves old new phase next
  behind_call old mid new phase next before m = record {
    geometry = m.geometry ∙ before.geometry;
    holds = let P : FinMap nat_cmp ℕ → Type 0 = λ x. Moved phase next x (view.outline new).holds in subst P before.holds m.holds;
    follows = m.follows;
    more = over old mid new before.more m.more (as_held old mid before.holds);
    knows = m.knows;
  }

  described_moves : (old new : D) (b : Bool) (v n : ℕ) (x : Manner) (r : Request) (sent told : List ℕ) (next : Phase) → next ≡ Transmission v n (Listens x)
      → MatchBool b (Walks view.outline (PoolCall view) x v r old sent new) ((sent ≡ told) × (new ≡ old)) → Moves old new (Transmission v n (Listens x)) next
  described_moves old new true v n x r sent told next at h =
      let unit : ℕ = unit_of (view.outline old).geometry in
      let from : ℕ = first_block unit r in
      moves_to old new (Transmission v n (Listens x)) next (Transmission v n (Listens x)) at
      (listens_on old new v n x (both_stay old h.walked new (walk_stays old h.walked v from h.answer h.calls) (described_stays x unit from r h.answer h.walked new sent h.is_described)))
  described_moves old new false v n x r sent told next at h = moves_to old new (Transmission v n (Listens x)) next (Transmission v n (Listens x)) at (not_asked old new v n x h.1)

  holes_move : (old new : D) (b : Bool) (v n unit : ℕ) (x : Manner) (r : Request) (given sent told : List ℕ) (next : Phase) → next ≡ Transmission v n (Listens x)
      → MatchBool b (SeeksHoles view.outline (PoolCall view) v unit r given old sent new) ((sent ≡ told) × (new ≡ old)) → Moves old new (Transmission v n (Listens x)) next
  holes_move old new true v n unit x r given sent told next at h = stays_in old new v n (Listens x) (Listens x) _ h.answer next at refl h.calls refl
  holes_move old new false v n unit x r given sent told next at h = moves_to old new (Transmission v n (Listens x)) next (Transmission v n (Listens x)) at (not_asked old new v n x h.1)

  told_moves_on : (old new : D) (b c : Bool) (v n unit : ℕ) (x : Manner) (r : Request) (given sent told : List ℕ) (next : Phase) → next ≡ Transmission v n (Listens x)
      → MatchBool b (MatchBool c (SeeksHoles view.outline (PoolCall view) v unit r given old sent new) ((sent ≡ told) × (new ≡ old))) ((sent ≡ told) × (new ≡ old))
      → Moves old new (Transmission v n (Listens x)) next
  told_moves_on old new true c v n unit x r given sent told next at h = holes_move old new c v n unit x r given sent told next at h
  told_moves_on old new false c v n unit x r given sent told next at h = moves_to old new (Transmission v n (Listens x)) next (Transmission v n (Listens x)) at (not_asked old new v n x h.1)

  given_moves : (old new : D) (v n unit : ℕ) (x : Manner) (r : Request) (answer : Answer) (sent : List ℕ) (next : Phase) → next ≡ Transmission v n (Listens x)
      → IsGiven view.outline (PoolCall view) v unit r answer old sent new → Moves old new (Transmission v n (Listens x)) next
  given_moves old new v n unit x r (Gave sectors) sent next at h =
      told_moves_on old new (has_blank r (concat sectors)) (nat_lt (first_block unit r) 16777216) v n unit x r (concat sectors) sent (data_chunk true r.cookie r.offset (concat sectors)) next at h
  given_moves old new v n unit x r Done sent next at h = moves_to old new (Transmission v n (Listens x)) next (Transmission v n (Listens x)) at (not_asked old new v n x h.1)
  given_moves old new v n unit x r (Line bytes) sent next at h = moves_to old new (Transmission v n (Listens x)) next (Transmission v n (Listens x)) at (not_asked old new v n x h.1)
  given_moves old new v n unit x r (Found least) sent next at h = moves_to old new (Transmission v n (Listens x)) next (Transmission v n (Listens x)) at (not_asked old new v n x h.1)
  given_moves old new v n unit x r (Sized blocks) sent next at h = moves_to old new (Transmission v n (Listens x)) next (Transmission v n (Listens x)) at (not_asked old new v n x h.1)
  given_moves old new v n unit x r (Listed slots) sent next at h = moves_to old new (Transmission v n (Listens x)) next (Transmission v n (Listens x)) at (not_asked old new v n x h.1)
  given_moves old new v n unit x r (Refused reason) sent next at h = moves_to old new (Transmission v n (Listens x)) next (Transmission v n (Listens x)) at (not_asked old new v n x h.1)

  was_read : (old new : D) (id sector count : ℕ) (answer : Answer) → PoolCall view old (Read id sector count) answer new → Stays old new
  was_read old new id sector count answer h = record { geometry = h.geometry; holds = h.holds; more = h.more }

  long_moves : (old new : D) (v n : ℕ) (x : Manner) (r : Request) (sent : List ℕ) (next : Phase) → next ≡ Transmission v n (Listens x)
      → ReadsLong view.outline (PoolCall view) v r old sent new → Moves old new (Transmission v n (Listens x)) next
  long_moves old new v n x r sent next at h =
      behind_call old h.asked new (Transmission v n (Listens x)) next (was_read old h.asked v (r.offset / 512) (r.len / 512) h.answer h.calls)
      (given_moves h.asked new v n (unit_of (view.outline old).geometry) x r h.answer sent next at h.is_given)

  reads_move : (old new : D) (b c : Bool) (v n : ℕ) (x : Manner) (r : Request) (sent : List ℕ) (next : Phase) → next ≡ Transmission v n (Listens x)
      → MatchBool b (MatchBool c (ReadsLong view.outline (PoolCall view) v r old sent new) (Performs view.outline (PoolCall view) (Read v (r.offset / 512) (r.len / 512)) (chunk_to r) old sent new))
      (Performs view.outline (PoolCall view) (Read v (r.offset / 512) (r.len / 512)) (reply_to r.cookie) old sent new) → Moves old new (Transmission v n (Listens x)) next
  reads_move old new true true v n x r sent next at h = long_moves old new v n x r sent next at h
  reads_move old new true false v n x r sent next at h = stays_in old new v n (Listens x) (Listens x) _ h.answer next at refl h.calls refl
  reads_move old new false c v n x r sent next at h = stays_in old new v n (Listens x) (Listens x) _ h.answer next at refl h.calls refl

  -- a part of one leaves it at work, or where it was
  made_next : (v n : ℕ) (m : Manner) (r rest : Request) (last : Bool) (answer : Answer) (sent : List ℕ) (next : Phase) → IsMade v n m r rest last answer sent next
      → (d : Course) × (next ≡ Transmission v n d) × (manner_in d ≡ m)
  made_next v n m r rest true Done sent next h = (Listens m, h.1, refl)
  made_next v n m r rest false Done sent next h = (Works m rest, h.1, refl)
  made_next v n m r rest last (Gave sectors) sent next h = (Listens m, h.1, refl)
  made_next v n m r rest last (Line bytes) sent next h = (Listens m, h.1, refl)
  made_next v n m r rest last (Found id) sent next h = (Listens m, h.1, refl)
  made_next v n m r rest last (Sized blocks) sent next h = (Listens m, h.1, refl)
  made_next v n m r rest last (Listed slots) sent next h = (Listens m, h.1, refl)
  made_next v n m r rest last (Refused reason) sent next h = (Listens m, h.1, refl)

  begun_moves : (old new : D) (call : Call) (v n : ℕ) (x : Manner) (r : Request) (sent : List ℕ) (next : Phase) → Begins view.outline (PoolCall view) call v n x r old sent next new
      → ((answer : Answer) (holds : FinMap nat_cmp ℕ) → holds_after holds call answer ≡ holds) → Moves old new (Transmission v n (Listens x)) next
  begun_moves old new call v n x r sent next h same =
      let to = made_next v n x r (to_keep r) false h.answer sent next h.is_begun in
      stays_in old new v n (Listens x) to.0 call h.answer next to.1 (sym to.2) h.calls (same h.answer (view.outline old).holds)

  written_moves : (old new : D) (b : Bool) (apart call : Call) (v n : ℕ) (x : Manner) (r : Request) (sent : List ℕ) (next : Phase)
      → MatchBool b (Begins view.outline (PoolCall view) apart v n x r old sent next new) (Performs view.outline (PoolCall view) call (reply_to r.cookie) old sent new × (next ≡ Transmission v n (Listens x)))
      → ((answer : Answer) (holds : FinMap nat_cmp ℕ) → holds_after holds apart answer ≡ holds) → ((answer : Answer) (holds : FinMap nat_cmp ℕ) → holds_after holds call answer ≡ holds)
      → Moves old new (Transmission v n (Listens x)) next
  written_moves old new true apart call v n x r sent next h first second = begun_moves old new apart v n x r sent next h first
  written_moves old new false apart call v n x r sent next h first second =
      stays_in old new v n (Listens x) (Listens x) call h.0.answer next h.1 refl h.0.calls (second h.0.answer (view.outline old).holds)

  part_holds : (a b : Bool) (keep trim zeroes : Call) (answer : Answer) (holds : FinMap nat_cmp ℕ) → holds_after holds keep answer ≡ holds → holds_after holds trim answer ≡ holds → holds_after holds zeroes answer ≡ holds
      → holds_after holds (if a then keep else (if b then trim else zeroes)) answer ≡ holds
  part_holds true b keep trim zeroes answer holds k t z = k
  part_holds false true keep trim zeroes answer holds k t z = t
  part_holds false false keep trim zeroes answer holds k t z = z

  part_moves : (old new : D) (v n : ℕ) (m : Manner) (r : Request) (sent : List ℕ) (next : Phase) → MakesPart view.outline (PoolCall view) v n m r old sent next new → Moves old new (Transmission v n (Works m r)) next
  part_moves old new v n m r sent next h =
      let to = made_next v n m r _ _ h.answer sent next h.is_made in
      stays_in old new v n (Works m r) to.0 _ h.answer next to.1 (sym to.2) h.calls (part_holds (is_flush (form_of r)) (is_trim (form_of r)) _ _ _ h.answer (view.outline old).holds refl refl refl)

  -- what is done behind a look-up, which leaves all that
  behind : (old mid new : D) (z : Terms) (next : Phase) → Stays old mid → Moves mid new (Options z) next → Moves old new (Options z) next
  behind old mid new z next before m = behind_call old mid new (Options z) next before m

  -- Where an option leads that tells of a volume: into transmission, where it holds the volume, or on to options.
  abbrev LeadsTo : Terms → Bool → ℕ → ℕ → Phase → Type 0
  LeadsTo z true id size next = next ≡ Transmission id size (Listens (manner_of z id))
  LeadsTo z false id size next = (y : Terms) × (next ≡ Options y) × GoesBeyond z y

  -- the same of a clone
  abbrev LeadsToClone : Terms → Bool → ℕ → ℕ → ℕ → Phase → Type 0
  LeadsToClone z true origin id size next = next ≡ Transmission id size (Listens (clone_manner z origin))
  LeadsToClone z false origin id size next = (y : Terms) × (next ≡ Options y) × GoesBeyond z y

  -- Where an option goes that looks for a volume.
  record Lands (z : Terms) (o : VolumeOption) : Type 0 where
    clones : o.clones ≡ has_clones z.profile
    found : (id size flags : ℕ) → LeadsTo z o.holds id size (o.found id size flags).next
    cloned : (origin id size flags : ℕ) → LeadsToClone z o.holds origin id size (o.cloned origin id size flags).next
    missing : (old new : D) → new ≡ old → Moves old new (Options z) o.missing.next
    refused : (old new : D) → new ≡ old → Moves old new (Options z) o.refused.next

  go_lands : (z : Terms) → Lands z (go z)
  go_lands z = record {
    clones = refl;
    found = λ id size flags. refl;
    cloned = λ origin id size flags. refl;
    missing = λ old new e. to_options old new z e;
    refused = λ old new e. to_options old new z e;
  }

  info_lands : (z : Terms) → Lands z (info z)
  info_lands z = record {
    clones = refl;
    found = λ id size flags. (z, refl, stays_so z);
    cloned = λ origin id size flags. (z, refl, stays_so z);
    missing = λ old new e. to_options old new z e;
    refused = λ old new e. to_options old new z e;
  }

  list_lands : (z : Terms) (b : Bool) (since : ℕ) → Lands z (list_context z b since)
  list_lands z b since = record {
    clones = refl;
    found = λ id size flags. (z, refl, stays_so z);
    cloned = λ origin id size flags. (z, refl, stays_so z);
    missing = λ old new e. to_options old new z e;
    refused = λ old new e. to_options old new z e;
  }

  set_lands : (z : Terms) → is_extended z.profile ≡ true → (b : Bool) (since : ℕ) → Lands z (set_context z b since)
  set_lands z ext b since = record {
    clones = refl;
    found = λ id size flags. (in_context z (contexts.Volume id) b since, refl, asks_of z (contexts.Volume id) b since ext);
    cloned = λ origin id size flags. (in_context z (contexts.Clones origin) b since, refl, asks_of z (contexts.Clones origin) b since ext);
    missing = λ old new e. to_terms old new z (without_context z) (asks_of z contexts.Nothing false 16777216 ext) e;
    refused = λ old new e. to_terms old new z (without_context z) (asks_of z contexts.Nothing false 16777216 ext) e;
  }

  export_lands : (z : Terms) → Lands z (export_name z)
  export_lands z = record {
    clones = refl;
    found = λ id size flags. refl;
    cloned = λ origin id size flags. refl;
    missing = λ old new e. to_end old new z e;
    refused = λ old new e. to_end old new z e;
  }

  -- one that holds nothing, of a clone
  clone_lands : (z : Terms) (o : VolumeOption) → Lands z o → o.holds ≡ false → (origin : ℕ) → Lands z (of_clone o origin)
  clone_lands z o lands is origin = record {
    clones = lands.clones;
    found = λ id size flags.
        subst (λ (x : Bool). LeadsTo z x id size (o.cloned origin id size flags).next) (sym is)
        (subst (λ (x : Bool). LeadsToClone z x origin id size (o.cloned origin id size flags).next) is (lands.cloned origin id size flags));
    cloned = lands.cloned;
    missing = lands.missing;
    refused = lands.refused;
  }

  -- snapshots that are asked for change nothing of who holds what
  snap_stays : (old new : D) (id origin : ℕ) (answer : Answer) → PoolCall view old (CreateSnap id origin) answer new → Stays old new
  snap_stays old new id origin answer h = record { geometry = h.geometry; holds = h.holds; more = h.more }

  delete_stays : (old new : D) (id : ℕ) (answer : Answer) → PoolCall view old (Delete id) answer new → Stays old new
  delete_stays old new id answer h = record { geometry = h.geometry; holds = h.holds; more = h.more }

  passes_stay : (origin id n : ℕ) (old new : D) → Passes view.outline (PoolCall view) origin id n old new → Stays old new
  passes_stay origin id zero old new h = still old new h
  passes_stay origin id (suc n) old new h = both_stay old h.1 new (snap_stays old h.1 id origin h.0 h.3) (passes_stay origin (id + 1) n h.1 new h.4)

  snaps_stay : (origin id : ℕ) (answer : Answer) (old new : D) → Snaps view.outline (PoolCall view) origin id answer old new → Stays old new
  snaps_stay origin id answer old new h = both_stay old h.tried new (passes_stay origin 8388608 h.passed old h.tried h.passes) (snap_stays h.tried new id origin answer h.calls)

  module _ (z : Terms) (o : VolumeOption) (lands : Lands z o) (g : Geometry) (flags : ℕ) where
    abbrev found_so : ℕ → ℕ → Outcome
    found_so id blocks = o.found id (bytes_of_blocks g blocks) flags

    found_next : (b : Bool) (id blocks : ℕ) → o.holds ≡ b → LeadsTo z b id (bytes_of_blocks g blocks) (found_so id blocks).next
    found_next b id blocks is = subst (λ (x : Bool). LeadsTo z x id (bytes_of_blocks g blocks) (found_so id blocks).next) is (lands.found id (bytes_of_blocks g blocks) flags)

    -- of a clone
    abbrev cloned_so : ℕ → ℕ → ℕ → Outcome
    cloned_so origin id blocks = o.cloned origin id (bytes_of_blocks g blocks) flags

    cloned_next : (b : Bool) (origin id blocks : ℕ) → o.holds ≡ b → LeadsToClone z b origin id (bytes_of_blocks g blocks) (cloned_so origin id blocks).next
    cloned_next b origin id blocks is =
        subst (λ (x : Bool). LeadsToClone z x origin id (bytes_of_blocks g blocks) (cloned_so origin id blocks).next) is (lands.cloned origin id (bytes_of_blocks g blocks) flags)

    -- of a volume that is not held
    told_moves : (old asked new : D) (id : ℕ) (answer : Answer) (sent : List ℕ) (next : Phase) → o.holds ≡ false → PoolCall view old (VolumeBlocks id) answer asked
        → IsSized view.outline (PoolCall view) false (found_so id) id answer asked sent next new → Moves old new (Options z) next
    told_moves old asked new id (Sized blocks) sent next is call h =
        behind old asked new z next (record { geometry = call.geometry; holds = call.holds; more = call.more })
        (let to = found_next false id blocks is in moves_to asked new (Options z) next (Options to.0) (h.1 ∙ to.1) (to_terms asked new z to.0 to.2 h.2))
    told_moves old asked new id (Refused reason) sent next is call h =
        behind old asked new z next (record { geometry = call.geometry; holds = call.holds; more = call.more })
        (moves_to asked new (Options z) next Ended h.1 (to_end asked new z h.2))
    told_moves old asked new id Done sent next is call h = absurd h
    told_moves old asked new id (Gave sectors) sent next is call h = absurd h
    told_moves old asked new id (Line bytes) sent next is call h = absurd h
    told_moves old asked new id (Found least) sent next is call h = absurd h
    told_moves old asked new id (Listed slots) sent next is call h = absurd h

    -- of one that is held from now on
    module _ (old held : D) (id : ℕ) (same : g ≡ (view.outline old).geometry) (hold : PoolCall view old (Hold id) Done held) where
      stays_held : (i : ℕ) → 0 < hold_count (view.outline old).holds i → 0 < hold_count (view.outline held).holds i
      stays_held i some = let P : FinMap nat_cmp ℕ → Type 0 = λ m. 0 < hold_count m i in subst P (sym hold.holds) (still_held (view.outline old).holds id i some)

      is_held : 0 < hold_count (view.outline held).holds id
      is_held =
          let here : hold_count (view.outline held).holds id ≡ hold_count (view.outline old).holds id + 1 = ap (λ (m : FinMap nat_cmp ℕ). hold_count m id) hold.holds ∙ one_more (view.outline old).holds id in
          omega (arith, here)

      -- the size that is told is the one that is known
      known : (asked : D) (blocks : ℕ) → PoolCall view held (VolumeBlocks id) (Sized blocks) asked → bytes_of_blocks g blocks ≡ known_bytes (view.outline asked).geometry (view.more asked) id
      known asked blocks call =
          let told = call.told id blocks refl refl is_held in
          let bytes : bytes_of_blocks g blocks ≡ known_bytes (view.outline held).geometry (view.more held) id =
          ap (λ (x : Geometry). bytes_of_blocks x blocks) (same ∙ sym hold.geometry) ∙ ap (λ (n : ℕ). 512 * n) told in
          size_stays (view.outline held) (view.outline asked) (view.more held) (view.more asked) id (bytes_of_blocks g blocks) call.geometry (call.more id is_held (as_held held asked call.holds id is_held)) bytes

      sized_moves : (asked new : D) (answer : Answer) (sent : List ℕ) (next : Phase) → o.holds ≡ true → PoolCall view held (VolumeBlocks id) answer asked
          → IsSized view.outline (PoolCall view) true (found_so id) id answer asked sent next new → Moves old new (Options z) next
      sized_moves asked new (Sized blocks) sent next is call h =
          let to : Phase = Transmission id (bytes_of_blocks g blocks) (Listens (manner_of z id)) in
          let P : D → Type 0 = λ d. Moves old d (Options z) to in
          moves_to old new (Options z) next to (h.1 ∙ found_next true id blocks is) (subst P (sym h.2) (record {
            geometry = call.geometry ∙ hold.geometry;
            holds = call.holds ∙ hold.holds;
            follows = inl refl;
            more = over old held asked hold.more call.more stays_held;
            knows = known asked blocks call;
          }))
      sized_moves asked new (Refused reason) sent next is call h =
          moves_to old new (Options z) next Ended h.1 (record {
            geometry = h.2.geometry ∙ (call.geometry ∙ hold.geometry);
            holds = inr (id, h.2.holds ∙ ap (λ (m : FinMap nat_cmp ℕ). holds_after m (LetGo id) Done) (call.holds ∙ hold.holds));
            follows = tt;
            more = over old held new hold.more (over held asked new call.more h.2.more (as_held held asked call.holds)) stays_held;
            knows = tt;
          })
      sized_moves asked new Done sent next is call h = absurd h
      sized_moves asked new (Gave sectors) sent next is call h = absurd h
      sized_moves asked new (Line bytes) sent next is call h = absurd h
      sized_moves asked new (Found least) sent next is call h = absurd h
      sized_moves asked new (Listed slots) sent next is call h = absurd h

      clone_sized_moves : (asked new : D) (origin : ℕ) (answer : Answer) (sent : List ℕ) (next : Phase) → o.holds ≡ true → o.clones ≡ true → 8388608 ≤ id → id < 8388672
          → PoolCall view held (VolumeBlocks id) answer asked → IsCloneSized view.outline (PoolCall view) (cloned_so origin id) id answer asked sent next new → Moves old new (Options z) next
      clone_sized_moves asked new origin (Sized blocks) sent next is on low high call h =
          let to : Phase = Transmission id (bytes_of_blocks g blocks) (Listens (clone_manner z origin)) in
          let P : D → Type 0 = λ d. Moves old d (Options z) to in
          moves_to old new (Options z) next to (h.1 ∙ cloned_next true origin id blocks is) (subst P (sym h.2) (record {
            geometry = call.geometry ∙ hold.geometry;
            holds = call.holds ∙ hold.holds;
            follows = inr (origin, sym lands.clones ∙ on, low, high, refl);
            more = over old held asked hold.more call.more stays_held;
            knows = known asked blocks call;
          }))
      clone_sized_moves asked new origin (Refused reason) sent next is on low high call h =
          let gone = given_up asked new id h.2 in
          moves_to old new (Options z) next Ended h.1 (record {
            geometry = gone.0 ∙ (call.geometry ∙ hold.geometry);
            holds = inr (id, gone.1 ∙ ap (λ (m : FinMap nat_cmp ℕ). holds_after m (LetGo id) Done) (call.holds ∙ hold.holds));
            follows = tt;
            more = over old held new hold.more (over held asked new call.more gone.2 (as_held held asked call.holds)) stays_held;
            knows = tt;
          })
      clone_sized_moves asked new origin Done sent next is on low high call h = absurd h
      clone_sized_moves asked new origin (Gave sectors) sent next is on low high call h = absurd h
      clone_sized_moves asked new origin (Line bytes) sent next is on low high call h = absurd h
      clone_sized_moves asked new origin (Found least) sent next is on low high call h = absurd h
      clone_sized_moves asked new origin (Listed slots) sent next is on low high call h = absurd h

    held_moves : (old held new : D) (id : ℕ) (answer : Answer) (sent : List ℕ) (next : Phase) → g ≡ (view.outline old).geometry → o.holds ≡ true → PoolCall view old (Hold id) answer held
        → IsHeld view.outline (PoolCall view) (found_so id) id answer held sent next new → Moves old new (Options z) next
    held_moves old held new id Done sent next same is call h = sized_moves old held id same call h.asked new h.answer sent next is h.calls h.is_sized
    held_moves old held new id (Refused reason) sent next same is call h =
        behind old held new z next (record { geometry = call.geometry; holds = call.holds; more = call.more }) (moves_to held new (Options z) next Ended h.1 (to_end held new z h.2))
    held_moves old held new id (Gave sectors) sent next same is call h = absurd h
    held_moves old held new id (Line bytes) sent next same is call h = absurd h
    held_moves old held new id (Found least) sent next same is call h = absurd h
    held_moves old held new id (Sized blocks) sent next same is call h = absurd h
    held_moves old held new id (Listed slots) sent next same is call h = absurd h

    -- of a clone that was made, or was not
    clone_held_moves : (old held new : D) (origin id : ℕ) (answer : Answer) (sent : List ℕ) (next : Phase) → g ≡ (view.outline old).geometry → o.holds ≡ true → o.clones ≡ true → 8388608 ≤ id → id < 8388672
        → PoolCall view old (Hold id) answer held → IsCloneHeld view.outline (PoolCall view) (cloned_so origin id) id answer held sent next new → Moves old new (Options z) next
    clone_held_moves old held new origin id Done sent next same is on low high call h = clone_sized_moves old held id same call h.asked new origin h.answer sent next is on low high h.calls h.is_sized
    clone_held_moves old held new origin id (Refused reason) sent next same is on low high call h =
        let m = delete_stays held new id h.answer h.calls in
        behind old held new z next (record { geometry = call.geometry; holds = call.holds; more = call.more })
        (moves_to held new (Options z) next Ended h.next_is (record { geometry = m.geometry; holds = inl m.holds; follows = tt; more = m.more; knows = tt }))
    clone_held_moves old held new origin id (Gave sectors) sent next same is on low high call h = absurd h
    clone_held_moves old held new origin id (Line bytes) sent next same is on low high call h = absurd h
    clone_held_moves old held new origin id (Found least) sent next same is on low high call h = absurd h
    clone_held_moves old held new origin id (Sized blocks) sent next same is on low high call h = absurd h
    clone_held_moves old held new origin id (Listed slots) sent next same is on low high call h = absurd h

    uncloned_moves : (none failure : Bool) (old new : D) → new ≡ old → Moves old new (Options z) (if none then o.missing else (if failure then outcome [] Ended else o.refused)).next
    uncloned_moves true failure old new e = lands.missing old new e
    uncloned_moves false true old new e = to_end old new z e
    uncloned_moves false false old new e = lands.refused old new e

    cloned_moves : (old new : D) (origin id : ℕ) (answer : Answer) (sent : List ℕ) (next : Phase) → g ≡ (view.outline old).geometry → o.holds ≡ true → o.clones ≡ true → 8388608 ≤ id → id < 8388672
        → IsCloned view.outline (PoolCall view) o (cloned_so origin id) id answer old sent next new → Moves old new (Options z) next
    cloned_moves old new origin id Done sent next same is on low high h = clone_held_moves old h.held new origin id h.answer sent next same is on low high h.calls h.is_held
    cloned_moves old new origin id (Refused reason) sent next same is on low high h =
        tells_move old new (Options z) (uncloned o reason) sent next h (uncloned_moves (is_of_none reason) (is_of_failure reason) old new h.2)
    cloned_moves old new origin id (Gave sectors) sent next same is on low high h = absurd h
    cloned_moves old new origin id (Line bytes) sent next same is on low high h = absurd h
    cloned_moves old new origin id (Found least) sent next same is on low high h = absurd h
    cloned_moves old new origin id (Sized blocks) sent next same is on low high h = absurd h
    cloned_moves old new origin id (Listed slots) sent next same is on low high h = absurd h

    enters_moves : (b : Bool) (old new : D) (id : ℕ) (sent : List ℕ) (next : Phase) → g ≡ (view.outline old).geometry → o.holds ≡ b
        → MatchBool b (Holds view.outline (PoolCall view) (found_so id) id old sent next new) (Sizes view.outline (PoolCall view) false (found_so id) id old sent next new) → Moves old new (Options z) next
    enters_moves true old new id sent next same is h = held_moves old h.held new id h.answer sent next same is h.calls h.is_held
    enters_moves false old new id sent next same is h = told_moves old h.asked new id h.answer sent next is h.calls h.is_sized

    there_moves : (b : Bool) (old new : D) (id : ℕ) (sent : List ℕ) (next : Phase) → g ≡ (view.outline old).geometry
        → MatchBool b (Enters view.outline (PoolCall view) o.holds (found_so id) id old sent next new) (Tells view.outline (PoolCall view) o.missing old sent next new)
        → Moves old new (Options z) next
    there_moves true old new id sent next same h = enters_moves o.holds old new id sent next same refl h
    there_moves false old new id sent next same h = tells_move old new (Options z) o.missing sent next h (lands.missing old new h.2)

    finds_moves : (old new : D) (id : ℕ) (answer : Answer) (sent : List ℕ) (next : Phase) → g ≡ (view.outline old).geometry
        → Finds view.outline (PoolCall view) o (found_so id) id answer old sent next new → Moves old new (Options z) next
    finds_moves old new id (Found least) sent next same h = there_moves (is_there id least) old new id sent next same h
    finds_moves old new id (Refused reason) sent next same h = tells_move old new (Options z) (outcome [] Ended) sent next h (to_end old new z h.2)
    finds_moves old new id Done sent next same h = absurd h
    finds_moves old new id (Gave sectors) sent next same h = absurd h
    finds_moves old new id (Line bytes) sent next same h = absurd h
    finds_moves old new id (Sized blocks) sent next same h = absurd h
    finds_moves old new id (Listed slots) sent next same h = absurd h

  module _ (old new : D) (z : Terms) (o : VolumeOption) (lands : Lands z o) where
    asks_move : (id : ℕ) (sent : List ℕ) (next : Phase) → AsksFor view.outline (PoolCall view) o id old sent next new → Moves old new (Options z) next
    asks_move id sent next h =
        let before = asked old h.looked id h.answer h.calls in
        behind old h.looked new z next before (finds_moves z o lands (view.outline old).geometry (transmission_flags (view.outline old)) h.looked new id h.answer sent next (sym h.calls.geometry) h.finds)

    clones_move : (origin : ℕ) (sent : List ℕ) (next : Phase) → o.holds ≡ true → o.clones ≡ true → Clones view.outline (PoolCall view) o origin old sent next new → Moves old new (Options z) next
    clones_move origin sent next is on h =
        let before = snaps_stay origin h.id h.answer old h.made h.snaps in
        let at = h.snaps.id_is in
        let few = h.snaps.few in
        behind old h.made new z next before
        (cloned_moves z o lands (view.outline old).geometry (transmission_flags (view.outline old)) h.made new origin h.id h.answer sent next (sym before.geometry) is on (omega (arith, at)) (omega (arith, at, few)) h.is_cloned)

  -- a name that means a clone, by whether that is to be held
  clone_moves : (b : Bool) (old new : D) (z : Terms) (o : VolumeOption) → Lands z o → (origin : ℕ) (sent : List ℕ) (next : Phase) → o.holds ≡ b → o.clones ≡ true
      → MatchBool b (Clones view.outline (PoolCall view) o origin old sent next new) (AsksFor view.outline (PoolCall view) (of_clone o origin) origin old sent next new) → Moves old new (Options z) next
  clone_moves true old new z o lands origin sent next is on h = clones_move old new z o lands origin sent next is on h
  clone_moves false old new z o lands origin sent next is on h = asks_move old new z (of_clone o origin) (clone_lands z o lands is origin) origin sent next h

  module _ (old new : D) (z : Terms) (o : VolumeOption) (lands : Lands z o) where
    looks_move : (name sent : List ℕ) (next : Phase) → LooksFor view.outline (PoolCall view) o name old sent next new → Moves old new (Options z) next
    looks_move name sent next (inl h) = tells_move old new (Options z) o.missing sent next h.tells (lands.missing old new h.tells.2)
    looks_move name sent next (inr (inl h)) = asks_move old new z o lands h.id sent next h.asks
    looks_move name sent next (inr (inr h)) = clone_moves o.holds old new z o lands h.origin sent next refl h.name_is.0 h.asks

    informs_move : (b : Bool) (option : ℕ) (payload sent : List ℕ) (next : Phase)
        → MatchBool b (Tells view.outline (PoolCall view) (outcome [] Ended) old sent next new)
        (IsInvalid view.outline (PoolCall view) option z payload old sent next new ⊎ IsValid view.outline (PoolCall view) o payload old sent next new)
        → Moves old new (Options z) next
    informs_move true option payload sent next h = tells_move old new (Options z) (outcome [] Ended) sent next h (to_end old new z h.2)
    informs_move false option payload sent next (inl h) = tells_move old new (Options z) _ sent next h.tells (to_options old new z h.tells.2)
    informs_move false option payload sent next (inr h) = looks_move h.name sent next h.looks

    exports_move : (b : Bool) (name sent : List ℕ) (next : Phase)
        → MatchBool b (Tells view.outline (PoolCall view) (outcome [] Ended) old sent next new) (LooksFor view.outline (PoolCall view) o name old sent next new)
        → Moves old new (Options z) next
    exports_move true name sent next h = tells_move old new (Options z) (outcome [] Ended) sent next h (to_end old new z h.2)
    exports_move false name sent next h = looks_move name sent next h

  -- an older volume is looked for first
  sought_moves : (old new : D) (z : Terms) (o : ℕ → VolumeOption) → ((since : ℕ) → Lands z (o since)) → (name : List ℕ) (id : ℕ) (answer : Answer) (sent : List ℕ) (next : Phase)
      → Seeks view.outline (PoolCall view) o name id answer old sent next new → Moves old new (Options z) next
  sought_moves old new z o lands name id (Found least) sent next h =
      let since : ℕ = if is_there id least then id else 16777216 in
      looks_move old new z (o since) (lands since) name sent next h
  sought_moves old new z o lands name id (Refused reason) sent next h = tells_move old new (Options z) (outcome [] Ended) sent next h (to_end old new z h.2)
  sought_moves old new z o lands name id Done sent next h = absurd h
  sought_moves old new z o lands name id (Gave sectors) sent next h = absurd h
  sought_moves old new z o lands name id (Line bytes) sent next h = absurd h
  sought_moves old new z o lands name id (Sized blocks) sent next h = absurd h
  sought_moves old new z o lands name id (Listed slots) sent next h = absurd h

  seeks_move : (old new : D) (z : Terms) (o : ℕ → VolumeOption) → ((since : ℕ) → Lands z (o since)) → (text name sent : List ℕ) (next : Phase)
      → SeeksFor view.outline (PoolCall view) o text name old sent next new → Moves old new (Options z) next
  seeks_move old new z o lands text name sent next (inl h) = looks_move old new z (o 16777216) (lands 16777216) name sent next h.looks
  seeks_move old new z o lands text name sent next (inr h) =
      behind old h.looked new z next (asked old h.looked h.id h.answer h.calls) (sought_moves h.looked new z o lands name h.id h.answer sent next h.seeks)

  -- ---- LIST

  finding_stays : (End : ℕ → D → D → Type 0) → ((from : ℕ) (old new : D) → End from old new → Stays old new) → (from : ℕ) (ids : List ℕ) (old new : D)
      → Finding view.outline (PoolCall view) End from ids old new → Stays old new
  finding_stays End ends from [] old new h = ends from old new h
  finding_stays End ends from (id ∷ ids) old new h =
      let one = asked old h.0 from (Found (Some id)) h.1 in
      let rest = finding_stays End ends (id + 1) ids h.0 new h.2 in
      record { geometry = rest.geometry ∙ one.geometry; holds = rest.holds ∙ one.holds; more = over old h.0 new one.more rest.more (as_held old h.0 one.holds) }

  last_stays : (b : Bool) (limit from : ℕ) (old new : D) → MatchBool b (FindsNone view.outline (PoolCall view) limit from old new) (new ≡ old) → Stays old new
  last_stays true limit from old new h = asked old new from (Found h.found) h.calls
  last_stays false limit from old new h = still old new h

  names_move : (old new : D) (b : Bool) (z : Terms) (sent : List ℕ) (next : Phase)
      → MatchBool b (NamesAll view.outline (PoolCall view) z old sent next new ⊎ NamesNone view.outline (PoolCall view) old sent next new) (Tells view.outline (PoolCall view) (option_error OPTION_LIST Invalid z) old sent next new)
      → Moves old new (Options z) next
  names_move old new true z sent next (inl h) =
      let limit : ℕ = limit_of z.profile in
      let m = finding_stays (IsLast view.outline (PoolCall view) limit) (λ from d d' e. last_stays (nat_lt from limit) limit from d d' e) 0 h.ids old new h.finding in
      moves_to old new (Options z) next (Options z) h.next_is (record { geometry = m.geometry; holds = m.holds; follows = stays_so z; more = m.more; knows = tt })
  names_move old new true z sent next (inr h) = none h.finding where
    goes : Stays old new → Moves old new (Options z) next
    goes m = moves_to old new (Options z) next Ended h.next_is (record { geometry = m.geometry; holds = inl m.holds; follows = tt; more = m.more; knows = tt })

    none : Finding view.outline (PoolCall view) (IsRefused view.outline (PoolCall view)) 0 h.ids old new ⊎ ((length h.ids ≡ 65537) × Finding view.outline (PoolCall view) (IsEnough view.outline (PoolCall view)) 0 h.ids old new)
        → Moves old new (Options z) next
    none (inl f) = goes (finding_stays (IsRefused view.outline (PoolCall view)) (λ from d d' e. asked d d' from (Refused e.0) e.1) 0 h.ids old new f)
    none (inr f) = goes (finding_stays (IsEnough view.outline (PoolCall view)) (λ from d d' e. still d d' e) 0 h.ids old new f.1)
  names_move old new false z sent next h = tells_move old new (Options z) (option_error OPTION_LIST Invalid z) sent next h (to_options old new z h.2)

  lists_move : (old new : D) (b : Bool) (z : Terms) (payload sent : List ℕ) (next : Phase)
      → MatchBool b (Tells view.outline (PoolCall view) (outcome [] Ended) old sent next new)
      (MatchBool (length payload == 0) (NamesAll view.outline (PoolCall view) z old sent next new ⊎ NamesNone view.outline (PoolCall view) old sent next new) (Tells view.outline (PoolCall view) (option_error OPTION_LIST Invalid z) old sent next new))
      → Moves old new (Options z) next
  lists_move old new true z payload sent next h = tells_move old new (Options z) (outcome [] Ended) sent next h (to_end old new z h.2)
  lists_move old new false z payload sent next h = names_move old new (length payload == 0) z sent next h

  structured_moves : (old new : D) (b : Bool) (z : Terms) (sent : List ℕ) (next : Phase) → is_extended z.profile ≡ true
      → Tells view.outline (PoolCall view) (if b then outcome (option_reply OPTION_STRUCTURED_REPLY Acknowledged []) (Options (in_chunks z)) else option_error OPTION_STRUCTURED_REPLY Invalid z) old sent next new
      → Moves old new (Options z) next
  structured_moves old new true z sent next ext h =
      tells_move old new (Options z) (outcome (option_reply OPTION_STRUCTURED_REPLY Acknowledged []) (Options (in_chunks z))) sent next h (to_terms old new z (in_chunks z) (asks_for_chunks z ext) h.2)
  structured_moves old new false z sent next ext h = tells_move old new (Options z) (option_error OPTION_STRUCTURED_REPLY Invalid z) sent next h (to_options old new z h.2)

  queries_move : (old new : D) (b c : Bool) (option : ℕ) (asks : List (List ℕ) → Bool) (o : Bool → ℕ → VolumeOption) (z y : Terms) (payload sent : List ℕ) (next : Phase)
      → ((x : Bool) (since : ℕ) → Lands z (o x since)) → GoesBeyond z y
      → MatchBool b (Tells view.outline (PoolCall view) (outcome [] Ended) old sent next new)
      (MatchBool c (IsNoQuery view.outline (PoolCall view) option y payload old sent next new ⊎ IsQueried view.outline (PoolCall view) asks o payload old sent next new)
      (Tells view.outline (PoolCall view) (option_error option Invalid y) old sent next new))
      → Moves old new (Options z) next
  queries_move old new true c option asks o z y payload sent next lands f h = tells_move old new (Options z) (outcome [] Ended) sent next h (to_end old new z h.2)
  queries_move old new false true option asks o z y payload sent next lands f (inl h) = tells_move old new (Options z) (option_error option Invalid y) sent next h.tells (to_terms old new z y f h.tells.2)
  queries_move old new false true option asks o z y payload sent next lands f (inr h) =
      seeks_move old new z (o (asks h.queries)) (lands (asks h.queries)) (since_of h.queries) h.name sent next h.seeks
  queries_move old new false false option asks o z y payload sent next lands f h = tells_move old new (Options z) (option_error option Invalid y) sent next h (to_terms old new z y f h.2)

  extended_moves : (old new : D) (is_chunks is_list is_set : Bool) (z : Terms) (option : ℕ) (payload sent : List ℕ) (next : Phase) → is_extended z.profile ≡ true
      → MatchBool is_chunks (Tells view.outline (PoolCall view) (structures z payload) old sent next new)
      (MatchBool is_list (Queries view.outline (PoolCall view) OPTION_LIST_META_CONTEXT lists (list_context z) z z payload old sent next new)
      (MatchBool is_set (Queries view.outline (PoolCall view) OPTION_SET_META_CONTEXT asks_for (set_context z) z (without_context z) payload old sent next new)
      (Tells view.outline (PoolCall view) (option_error option Unsupported z) old sent next new)))
      → Moves old new (Options z) next
  extended_moves old new true is_list is_set z option payload sent next ext h = structured_moves old new (length payload == 0) z sent next ext h
  extended_moves old new false true is_set z option payload sent next ext h =
      queries_move old new (is_failed (view.outline old).mode) z.is_structured OPTION_LIST_META_CONTEXT lists (list_context z) z z payload sent next (list_lands z) (stays_so z) h
  extended_moves old new false false true z option payload sent next ext h =
      queries_move old new (is_failed (view.outline old).mode) z.is_structured OPTION_SET_META_CONTEXT asks_for (set_context z) z (without_context z) payload sent next (set_lands z ext)
      (asks_of z contexts.Nothing false 16777216 ext) h
  extended_moves old new false false false z option payload sent next ext h = tells_move old new (Options z) (option_error option Unsupported z) sent next h (to_options old new z h.2)

  chosen_moves : (old new : D) (is_go is_info is_export is_list is_abort is_long : Bool) (z : Terms) (option : ℕ) (payload sent : List ℕ) (next : Phase) → is_extended z.profile ≡ is_long
      → MatchBool is_go (Informs view.outline (PoolCall view) OPTION_GO (go z) z payload old sent next new)
      (MatchBool is_info (Informs view.outline (PoolCall view) OPTION_INFO (info z) z payload old sent next new)
      (MatchBool is_export (Exports view.outline (PoolCall view) (export_name z) z payload old sent next new)
      (MatchBool is_list (Lists view.outline (PoolCall view) z payload old sent next new)
      (MatchBool is_abort (Tells view.outline (PoolCall view) (outcome (option_reply OPTION_ABORT Acknowledged []) Ended) old sent next new)
      (MatchBool is_long (Extends view.outline (PoolCall view) z option payload old sent next new) (Tells view.outline (PoolCall view) (option_error option Unsupported z) old sent next new))))))
      → Moves old new (Options z) next
  chosen_moves old new true is_info is_export is_list is_abort is_long z option payload sent next ext h = informs_move old new z (go z) (go_lands z) (is_failed (view.outline old).mode) OPTION_GO payload sent next h
  chosen_moves old new false true is_export is_list is_abort is_long z option payload sent next ext h = informs_move old new z (info z) (info_lands z) (is_failed (view.outline old).mode) OPTION_INFO payload sent next h
  chosen_moves old new false false true is_list is_abort is_long z option payload sent next ext h = exports_move old new z (export_name z) (export_lands z) (is_failed (view.outline old).mode) payload sent next h
  chosen_moves old new false false false true is_abort is_long z option payload sent next ext h = lists_move old new (is_failed (view.outline old).mode) z payload sent next h
  chosen_moves old new false false false false true is_long z option payload sent next ext h =
      tells_move old new (Options z) (outcome (option_reply OPTION_ABORT Acknowledged []) Ended) sent next h (to_end old new z h.2)
  chosen_moves old new false false false false false true z option payload sent next ext h =
      extended_moves old new (option == OPTION_STRUCTURED_REPLY) (option == OPTION_LIST_META_CONTEXT) (option == OPTION_SET_META_CONTEXT) z option payload sent next ext h
  chosen_moves old new false false false false false false z option payload sent next ext h = tells_move old new (Options z) (option_error option Unsupported z) sent next h (to_options old new z h.2)

  sound_by : (z : Terms) (next : Phase) → Follows (Options z) next → IsSound next
  sound_by z (Flags a) f = tt
  sound_by z (Options y) f = tt
  sound_by z (Transmission v n (Listens x)) f = tt
  sound_by z (Transmission v n (Works x r)) (inl e) = absurd cc
  sound_by z (Transmission v n (Works x r)) (inr (origin, on, low, high, e)) = absurd cc
  sound_by z Ended f = tt

  -- what a step leaves
  record Stands (old new : D) (phase next : Phase) : Type 0 where
    geometry : (view.outline new).geometry ≡ (view.outline old).geometry
    holds : HoldsFollow phase next (view.outline old).holds (view.outline new).holds
    ready : IsReady next (view.outline new) (view.more new)
    follows : Follows phase next
    more : KeepsSizes view old new

  -- a session that goes on, where the pool is not called
  at_once : (old new : D) (phase next to : Phase) → next ≡ to → new ≡ old → Stands old old phase to → Stands old new phase next
  at_once old new phase next to at e h =
      let P : Phase → Type 0 = λ n. Stands old new phase n in
      let Q : D → Type 0 = λ d. Stands old d phase to in
      subst P (sym at) (subst Q (sym e) h)

  same_phase : (phase : Phase) → Follows phase phase
  same_phase (Flags a) = refl
  same_phase (Options z) = stays_so z
  same_phase (Transmission v n c) = (refl, refl, refl)
  same_phase Ended = tt

  -- one that stays where it is
  stays_there : (old new : D) (phase next : Phase) → next ≡ phase → new ≡ old → IsReady phase (view.outline old) (view.more old) → Stands old new phase next
  stays_there old new phase next at e ready =
      at_once old new phase next phase at e (record { geometry = refl; holds = λ others is. is; ready = ready; follows = same_phase phase; more = same_sizes old old refl })

  -- one that ends
  ends_follow : (phase : Phase) → Follows phase Ended
  ends_follow (Flags a) = tt
  ends_follow (Options z) = tt
  ends_follow (Transmission v n c) = tt
  ends_follow Ended = tt

  ends_stand : (old new : D) (last : List ℕ) (phase next : Phase) (sent : List ℕ) → Ends view.outline (PoolCall view) last phase old sent next new → Stands old new phase next
  ends_stand old new last phase next sent h =
      let all = lets_go_all phase old new h.2 in
      let P : Phase → Type 0 = λ n. Stands old new phase n in
      subst P (sym h.1) (record { geometry = all.0; holds = all.1; ready = tt; follows = ends_follow phase; more = all.2 })

  -- one that goes on in transmission
  size_next : (old new : D) (v n : ℕ) (c : Course) (next : Phase) → IsReady (Transmission v n c) (view.outline old) (view.more old) → Moves old new (Transmission v n c) next → Follows (Transmission v n c) next
      → Moved (Transmission v n c) next (view.outline old).holds (view.outline new).holds → KnowsSize next (view.outline new) (view.more new)
  size_next old new v n c (Flags a) ready m f e = tt
  size_next old new v n c (Options z) ready m f e = tt
  size_next old new v n c (Transmission w o d) ready m f e =
      let R : ℕ → Type 0 = λ i. o ≡ known_bytes (view.outline new).geometry (view.more new) i in
      let before : 0 < hold_count (view.outline old).holds v = held_here v (ids_of (manner_in c).since ++ ready.0.others) (view.outline old).holds ready.0.all in
      let P : FinMap nat_cmp ℕ → Type 0 = λ x. 0 < hold_count x v in
      subst R f.0 (sym f.1 ∙ size_stays (view.outline old) (view.outline new) (view.more old) (view.more new) v n m.geometry (m.more v before (subst P (sym e) before)) ready.1)
  size_next old new v n c Ended ready m f e = tt

  works_on : (old new : D) (v n : ℕ) (c : Course) (next : Phase) → IsReady (Transmission v n c) (view.outline old) (view.more old) → Moves old new (Transmission v n c) next → Stands old new (Transmission v n c) next
  works_on old new v n c next ready m =
      let holds : HoldsFollow (Transmission v n c) next (view.outline old).holds (view.outline new).holds = works_held v n c next (view.outline old).holds (view.outline new).holds m.follows m.holds in
      record {
        geometry = m.geometry;
        holds = holds;
        ready = ready_by next (view.outline new) (view.more new) (beside_next (Transmission v n c) next (view.outline old).holds (view.outline new).holds holds ready.0) (size_next old new v n c next ready m m.follows m.holds);
        follows = m.follows;
        more = m.more;
      }

  serves_stand : (old new : D) (d : Verdict) (v n : ℕ) (x : Manner) (r : Request) (payload sent : List ℕ) (next : Phase) → IsReady (Transmission v n (Listens x)) (view.outline old) (view.more old)
      → Serves view.outline (PoolCall view) d v n x r payload old sent next new → Stands old new (Transmission v n (Listens x)) next
  serves_stand old new verdicts.Disconnect v n x r payload sent next ready h = ends_stand old new [] (Transmission v n (Listens x)) next sent h
  serves_stand old new (verdicts.Refuse e) v n x r payload sent next ready h =
      works_on old new v n (Listens x) next ready (tells_move old new (Transmission v n (Listens x)) _ sent next h (not_asked old new v n x h.2))
  serves_stand old new verdicts.Nothing v n x r payload sent next ready h =
      works_on old new v n (Listens x) next ready (tells_move old new (Transmission v n (Listens x)) _ sent next h (not_asked old new v n x h.2))
  serves_stand old new verdicts.Read v n x r payload sent next ready h =
      works_on old new v n (Listens x) next ready (reads_move old new x.is_structured (nat_le 65536 r.len) v n x r sent next h.1 h.0)
  serves_stand old new verdicts.Write v n x r payload sent next ready h =
      works_on old new v n (Listens x) next ready (
      written_moves old new (is_kept_apart x r) (Write v (r.offset / 512) (sectors_of payload) false) (Write v (r.offset / 512) (sectors_of payload) (wants_fua x r)) v n x r sent next h
      (λ answer holds. refl) (λ answer holds. refl))
  serves_stand old new verdicts.Trim v n x r payload sent next ready h =
      works_on old new v n (Listens x) next ready (
      written_moves old new (is_kept_apart x r) (Trim v (r.offset / 512) (r.len / 512) false) (Trim v (r.offset / 512) (r.len / 512) (wants_fua x r)) v n x r sent next h
      (λ answer holds. refl) (λ answer holds. refl))
  serves_stand old new verdicts.WriteZeroes v n x r payload sent next ready h =
      works_on old new v n (Listens x) next ready (
      written_moves old new (is_kept_apart x r) (WriteZeroes v (r.offset / 512) (r.len / 512) (has_no_hole r) false) (WriteZeroes v (r.offset / 512) (r.len / 512) (has_no_hole r) (wants_fua x r)) v n x r sent next h
      (λ answer holds. refl) (λ answer holds. refl))
  serves_stand old new verdicts.Flush v n x r payload sent next ready h =
      works_on old new v n (Listens x) next ready (stays_in old new v n (Listens x) (Listens x) _ h.0.answer next h.1 refl h.0.calls refl)
  serves_stand old new verdicts.Status v n x r payload sent next ready h =
      works_on old new v n (Listens x) next ready (described_moves old new (nat_lt (first_block (unit_of (view.outline old).geometry) r) 16777216) v n x r sent _ next h.1 h.0)
  serves_stand old new verdicts.Long v n x r payload sent next ready h =
      works_on old new v n (Listens x) next ready (
      moves_to old new (Transmission v n (Listens x)) next (Transmission v n (Works x r)) h.1 (rests old new (Transmission v n (Listens x)) (Transmission v n (Works x r)) h.2 refl (refl, refl, refl) tt))

  -- ---- an option, and the older volume that is held behind it

  -- what is known of the size of a volume on which transmission begins
  knows_size : (z : Terms) (became : Phase) (p : Outline) (more : ℕ → ℕ) → Knows (Options z) became p more → KnowsSize became p more
  knows_size z (Flags a) p more k = tt
  knows_size z (Options y) p more k = tt
  knows_size z (Transmission v n c) p more k = k
  knows_size z Ended p more k = tt

  knows_on : (became : Phase) (old new : D) → KnowsSize became (view.outline old) (view.more old) → (view.outline new).geometry ≡ (view.outline old).geometry
      → ((v : ℕ) → own_in became ≡ v ∷ [] → view.more new v ≡ view.more old v) → KnowsSize became (view.outline new) (view.more new)
  knows_on (Flags a) old new k g e = tt
  knows_on (Options y) old new k g e = tt
  knows_on (Transmission v n c) old new k g e = size_stays (view.outline old) (view.outline new) (view.more old) (view.more new) v n g (e v refl) k
  knows_on Ended old new k g e = tt

  -- the session goes where the option led it, or it ends
  held_next : (o : Outcome) (answer : Answer) (sent : List ℕ) (next : Phase) → IsOlderHeld view.outline (PoolCall view) o answer sent next → (next ≡ o.next) ⊎ (next ≡ Ended)
  held_next o Done sent next h = inl h.1
  held_next o (Refused reason) sent next h = inr h.1
  held_next o (Gave sectors) sent next h = absurd h
  held_next o (Line bytes) sent next h = absurd h
  held_next o (Found least) sent next h = absurd h
  held_next o (Sized blocks) sent next h = absurd h
  held_next o (Listed slots) sent next h = absurd h

  holds_next : (b : Bool) (other : ℕ) (o : Outcome) (old new : D) (sent : List ℕ) (next : Phase)
      → MatchBool b (HoldsOlder view.outline (PoolCall view) other o old sent next new) (Tells view.outline (PoolCall view) o old sent next new) → (next ≡ o.next) ⊎ (next ≡ Ended)
  holds_next true other o old new sent next h = held_next o h.answer sent next h.is_held
  holds_next false other o old new sent next h = inl h.1

  settled_next : (b : Bool) (id : ℕ) (o : Outcome) (old new : D) (sent : List ℕ) (next : Phase)
      → MatchBool b (Tells view.outline (PoolCall view) o old sent next new) (Trades view.outline (PoolCall view) id (older_in o.next) o old sent next new) → (next ≡ o.next) ⊎ (next ≡ Ended)
  settled_next true id o old new sent next h = inl h.1
  settled_next false id o old new sent next h = holds_next (nat_lt (older_in o.next) 16777216) (older_in o.next) o h.without_older new sent next h.holds

  chooses_move : (old new : D) (z : Terms) (option : ℕ) (payload sent : List ℕ) (next : Phase) → Chooses view.outline (PoolCall view) z option payload old sent next new → Moves old new (Options z) next
  chooses_move old new z o q sent next h = chosen_moves old new (o == OPTION_GO) (o == OPTION_INFO) (o == OPTION_EXPORT_NAME) (o == OPTION_LIST) (o == OPTION_ABORT) (is_extended z.profile) z o q sent next refl h

  option_follows : (old new : D) (z : Terms) (option : ℕ) (payload sent : List ℕ) (next : Phase) → AnswersOption view.outline (PoolCall view) z option payload old sent next new → Follows (Options z) next
  option_follows old new z option payload sent next h =
      let P : Phase → Type 0 = λ n. Follows (Options z) n in
      elim (settled_next (z.since == older_in h.chosen.next) z.since h.chosen h.answered new sent next h.settles) [
        | inl e ↦ subst P (sym e) (chooses_move old h.answered z option payload h.chosen.sent h.chosen.next h.chooses).follows
        | inr e ↦ subst P (sym e) tt
      ]

  -- no option begins a long request
  pub option_sound : (old new : D) (z : Terms) (option : ℕ) (payload sent : List ℕ) (next : Phase) → AnswersOption view.outline (PoolCall view) z option payload old sent next new → IsSound next
  option_sound old new z option payload sent next h = sound_by z next (option_follows old new z option payload sent next h)

  -- behind an option all that is held is held by others, by the older volume of the session, and by the volume that it is to serve
  pub chosen_row : (old mid : D) (z : Terms) (option : ℕ) (payload sent : List ℕ) (became : Phase) → Chooses view.outline (PoolCall view) z option payload old sent became mid
      → (w : HoldsBeside (ids_of z.since) (view.outline old).holds) → (view.outline mid).holds ≡ counts_of (own_in became ++ (ids_of z.since ++ w.others))
  chosen_row old mid z option payload sent became h w =
      let m = chooses_move old mid z option payload sent became h in
      own_moved z became (view.outline old).holds (view.outline mid).holds (ids_of z.since ++ w.others) m.follows m.holds w.all

  pub chosen_beside : (old mid : D) (z : Terms) (option : ℕ) (payload sent : List ℕ) (became : Phase) → Chooses view.outline (PoolCall view) z option payload old sent became mid
      → HoldsBeside (ids_of z.since) (view.outline old).holds → HoldsBeside (own_in became ++ ids_of z.since) (view.outline mid).holds
  chosen_beside old mid z option payload sent became h w = record {
    others = w.others;
    few = w.few;
    all = chosen_row old mid z option payload sent became h w ∙ sym (ap counts_of (append_assoc (own_in became) (ids_of z.since) w.others));
  }

  -- there is room for another one where an older volume was let go
  pub room_left : (old mid : D) (id : ℕ) (phase : Phase) → HoldsBeside (own_in phase ++ ids_of id) (view.outline old).holds → LetsOlderGo view.outline (PoolCall view) id old mid → hold_total (view.outline mid).holds < 128
  room_left old mid id phase w gone =
      let low = nat_lt id 16777216 in
      let rows : (view.outline mid).holds ≡ counts_of (own_in phase ++ w.others) =
      older_gone low id (own_in phase) w.others (view.outline old).holds (view.outline mid).holds (w.all ∙ ap counts_of (append_assoc (own_in phase) (ids_of id) w.others)) (gone_so low id old mid gone).1 in
      omega (arith, total_is (own_in phase ++ w.others) (view.outline mid).holds rows, length-append (own_in phase) w.others, few_own phase, w.few)

  -- the volume that a session serves is held still where its older one was let go
  pub own_held : (phase : Phase) (old mid : D) (v : ℕ) → IsReady phase (view.outline old) (view.more old) → LetsOlderGo view.outline (PoolCall view) (older_in phase) old mid → own_in phase ≡ v ∷ []
      → 0 < hold_count (view.outline mid).holds v
  own_held (Flags a) old mid v ready gone own = absurd cc
  own_held (Options z) old mid v ready gone own = absurd cc
  own_held (Transmission u n c) old mid v ready gone own =
      let low = nat_lt (manner_in c).since 16777216 in
      let rows : (view.outline mid).holds ≡ counts_of ((u ∷ []) ++ ready.0.others) =
      older_gone low (manner_in c).since (u ∷ []) ready.0.others (view.outline old).holds (view.outline mid).holds ready.0.all (gone_so low (manner_in c).since old mid gone).1 in
      held_here v ready.0.others (view.outline mid).holds (rows ∙ ap (λ (l : List ℕ). counts_of (l ++ ready.0.others)) own)
  own_held Ended old mid v ready gone own = absurd cc

  module _ (old mid new : D) (z : Terms) (o : Outcome) (sent : List ℕ) (next : Phase) (m : Moves old mid (Options z) o.next) (w : HoldsBeside (ids_of z.since) (view.outline old).holds) where
    abbrev other : ℕ
    other = older_in o.next

    mid_row : (others : List ℕ) → (view.outline old).holds ≡ counts_of (ids_of z.since ++ others) → (view.outline mid).holds ≡ counts_of (own_in o.next ++ (ids_of z.since ++ others))
    mid_row others is = own_moved z o.next (view.outline old).holds (view.outline mid).holds (ids_of z.since ++ others) m.follows m.holds is

    mid_keeps : (i : ℕ) → 0 < hold_count (view.outline old).holds i → 0 < hold_count (view.outline mid).holds i
    mid_keeps i some = moved_keeps z o.next (view.outline old).holds (view.outline mid).holds i m.follows m.holds some

    settled : (to : Phase) → next ≡ to → Follows (Options z) to → (view.outline new).geometry ≡ (view.outline old).geometry → HoldsFollow (Options z) to (view.outline old).holds (view.outline new).holds
        → KeepsSizes view old new → KnowsSize to (view.outline new) (view.more new) → Stands old new (Options z) next
    settled to at f g holds more knows =
        let P : Phase → Type 0 = λ n. Stands old new (Options z) n in
        subst P (sym at) (record {
          geometry = g;
          holds = holds;
          ready = ready_by to (view.outline new) (view.more new) (beside_next (Options z) to (view.outline old).holds (view.outline new).holds holds w) knows;
          follows = f;
          more = more;
        })

    -- the same older volume is held
    as_before : (z.since == other) ≡ true → Tells view.outline (PoolCall view) o mid sent next new → Stands old new (Options z) next
    as_before same h =
        let is : z.since ≡ other = eqb-true z.since other same in
        let kept : (view.outline new).holds ≡ (view.outline mid).holds = ap (λ (d : D). (view.outline d).holds) h.2 in
        let geometry : (view.outline new).geometry ≡ (view.outline mid).geometry = ap (λ (d : D). (view.outline d).geometry) h.2 in
        settled o.next h.1 m.follows (geometry ∙ m.geometry)
        (λ others all. row_back o.next others (view.outline new).holds (kept ∙ (mid_row others all ∙ ap (λ (n : ℕ). counts_of (own_in o.next ++ (ids_of n ++ others))) is)))
        (λ i before after. ap (λ (d : D). view.more d i) h.2 ∙ m.more i before (mid_keeps i before))
        (knows_on o.next mid new (knows_size z o.next (view.outline mid) (view.more mid) m.knows) geometry (λ v own. ap (λ (d : D). view.more d v) h.2))

    -- another one, or none
    module _ (left : D) (apart : (z.since == other) ≡ false) (gone : LetsOlderGo view.outline (PoolCall view) z.since mid left) where
      g : ((view.outline left).geometry ≡ (view.outline mid).geometry)
          × MatchBool (nat_lt z.since 16777216) ((view.outline left).holds ≡ holds_after (view.outline mid).holds (LetGo z.since) Done) ((view.outline left).holds ≡ (view.outline mid).holds) × KeepsSizes view mid left
      g = gone_so (nat_lt z.since 16777216) z.since mid left gone

      left_row : (others : List ℕ) → (view.outline old).holds ≡ counts_of (ids_of z.since ++ others) → (view.outline left).holds ≡ counts_of (own_in o.next ++ others)
      left_row others is = older_gone (nat_lt z.since 16777216) z.since (own_in o.next) others (view.outline mid).holds (view.outline left).holds (mid_row others is) g.1

      still_left : (b : Bool) (i : ℕ) → MatchBool b ((view.outline left).holds ≡ holds_after (view.outline mid).holds (LetGo z.since) Done) ((view.outline left).holds ≡ (view.outline mid).holds) → i ≢ z.since
          → 0 < hold_count (view.outline mid).holds i → 0 < hold_count (view.outline left).holds i
      still_left true i e ne some =
          let same : hold_count (view.outline left).holds i ≡ hold_count (view.outline mid).holds i = ap (λ (x : FinMap nat_cmp ℕ). hold_count x i) e ∙ less_other (view.outline mid).holds z.since i ne in
          omega (arith, same, some)
      still_left false i e ne some =
          let same : hold_count (view.outline left).holds i ≡ hold_count (view.outline mid).holds i = ap (λ (x : FinMap nat_cmp ℕ). hold_count x i) e in
          omega (arith, same, some)

      -- what is held before and behind both is held in between
      between : (b : Bool) (i : ℕ) → MatchBool b ((view.outline new).holds ≡ holds_after (view.outline left).holds (Hold other) Done) ((view.outline new).holds ≡ (view.outline left).holds)
          → 0 < hold_count (view.outline mid).holds i → 0 < hold_count (view.outline new).holds i → 0 < hold_count (view.outline left).holds i
      between true i e before after = elim (cases_eq i other) [
        | inl is ↦ still_left (nat_lt z.since 16777216) i g.1 (λ own. eqb-false z.since other apart (sym own ∙ is)) before
        | inr ne ↦
            let same : hold_count (view.outline new).holds i ≡ hold_count (view.outline left).holds i = ap (λ (x : FinMap nat_cmp ℕ). hold_count x i) e ∙ more_other (view.outline left).holds other i ne in
            omega (arith, same, after)
      ]
      between false i e before after =
          let same : hold_count (view.outline new).holds i ≡ hold_count (view.outline left).holds i = ap (λ (x : FinMap nat_cmp ℕ). hold_count x i) e in
          omega (arith, same, after)

      sizes : (b : Bool) → MatchBool b ((view.outline new).holds ≡ holds_after (view.outline left).holds (Hold other) Done) ((view.outline new).holds ≡ (view.outline left).holds) → KeepsSizes view left new
          → KeepsSizes view mid new
      sizes b e more i before after = let there = between b i e before after in more i there after ∙ g.2 i before there

      own_here : (v : ℕ) (rows : List ℕ) (h : FinMap nat_cmp ℕ) → own_in o.next ≡ v ∷ [] → h ≡ counts_of (own_in o.next ++ rows) → 0 < hold_count h v
      own_here v rows h own is = held_here v rows h (is ∙ ap (λ (l : List ℕ). counts_of (l ++ rows)) own)

      -- it is held, where there is one
      goes_there : next ≡ o.next → (view.outline new).geometry ≡ (view.outline left).geometry
          → MatchBool (nat_lt other 16777216) ((view.outline new).holds ≡ holds_after (view.outline left).holds (Hold other) Done) ((view.outline new).holds ≡ (view.outline left).holds) → KeepsSizes view left new
          → Stands old new (Options z) next
      goes_there at geometry e more =
          let low = nat_lt other 16777216 in
          let new_row : (others : List ℕ) → (view.outline old).holds ≡ counts_of (ids_of z.since ++ others) → (view.outline new).holds ≡ counts_of (own_in o.next ++ (ids_of other ++ others)) =
          λ others is. older_held low other (own_in o.next) others (view.outline left).holds (view.outline new).holds (left_row others is) e in
          settled o.next at m.follows (geometry ∙ (g.0 ∙ m.geometry)) (λ others is. row_back o.next others (view.outline new).holds (new_row others is))
          (λ i before after. sizes low e more i (mid_keeps i before) after ∙ m.more i before (mid_keeps i before))
          (knows_on o.next mid new (knows_size z o.next (view.outline mid) (view.more mid) m.knows) (geometry ∙ g.0) (λ v own.
          sizes low e more v (own_here v (ids_of z.since ++ w.others) (view.outline mid).holds own (mid_row w.others w.all)) (own_here v (ids_of other ++ w.others) (view.outline new).holds own (new_row w.others w.all))))

      -- it cannot be held, and the session ends
      goes_nowhere : next ≡ Ended → nat_lt other 16777216 ≡ true → (view.outline new).geometry ≡ (view.outline left).geometry → (view.outline new).holds ≡ (view.outline left).holds → KeepsSizes view left new
          → Stands old new (Options z) next
      goes_nowhere at low geometry e more =
          settled Ended at tt (geometry ∙ (g.0 ∙ m.geometry))
          (λ others is. e ∙ (left_row others is ∙ ap (λ (l : List ℕ). counts_of (l ++ others)) (own_none z o.next m.follows apart low)))
          (λ i before after. sizes false e more i (mid_keeps i before) after ∙ m.more i before (mid_keeps i before)) tt

      held_stands : (answer : Answer) → nat_lt other 16777216 ≡ true → PoolCall view left (Hold other) answer new → IsOlderHeld view.outline (PoolCall view) o answer sent next → Stands old new (Options z) next
      held_stands Done low call h =
          goes_there h.1 call.geometry
          (subst (λ (b : Bool). MatchBool b ((view.outline new).holds ≡ holds_after (view.outline left).holds (Hold other) Done) ((view.outline new).holds ≡ (view.outline left).holds)) (sym low) call.holds) call.more
      held_stands (Refused reason) low call h = goes_nowhere h.1 low call.geometry call.holds call.more
      held_stands (Gave sectors) low call h = absurd h
      held_stands (Line bytes) low call h = absurd h
      held_stands (Found least) low call h = absurd h
      held_stands (Sized blocks) low call h = absurd h
      held_stands (Listed slots) low call h = absurd h

      holds_stand : (b : Bool) → nat_lt other 16777216 ≡ b → MatchBool b (HoldsOlder view.outline (PoolCall view) other o left sent next new) (Tells view.outline (PoolCall view) o left sent next new)
          → Stands old new (Options z) next
      holds_stand true low h = held_stands h.answer low h.calls h.is_held
      holds_stand false low h =
          goes_there h.1 (ap (λ (d : D). (view.outline d).geometry) h.2)
          (subst (λ (b : Bool). MatchBool b ((view.outline new).holds ≡ holds_after (view.outline left).holds (Hold other) Done) ((view.outline new).holds ≡ (view.outline left).holds)) (sym low)
          (ap (λ (d : D). (view.outline d).holds) h.2)) (same_sizes left new h.2)

    settles_stand : (b : Bool) → (z.since == other) ≡ b → MatchBool b (Tells view.outline (PoolCall view) o mid sent next new) (Trades view.outline (PoolCall view) z.since other o mid sent next new)
        → Stands old new (Options z) next
    settles_stand true same h = as_before same h
    settles_stand false apart h = holds_stand h.without_older apart h.lets_older_go (nat_lt other 16777216) refl h.holds

  option_stands : (old new : D) (z : Terms) (option : ℕ) (payload sent : List ℕ) (next : Phase) → IsReady (Options z) (view.outline old) (view.more old)
      → AnswersOption view.outline (PoolCall view) z option payload old sent next new → Stands old new (Options z) next
  option_stands old new z option payload sent next ready h =
      settles_stand old h.answered new z h.chosen sent next (chooses_move old h.answered z option payload h.chosen.sent h.chosen.next h.chooses) ready (z.since == older_in h.chosen.next) refl h.settles

  answers_stand : (old new : D) (phase next : Phase) (m : Message) (sent : List ℕ) → IsReady phase (view.outline old) (view.more old) → Answers view.outline (PoolCall view) phase m old sent next new → Stands old new phase next
  answers_stand old new (Flags a) next (client_flags y) sent ready h =
      at_once old new (Flags a) next (Options (terms_of a y)) h.1 h.2 (record { geometry = refl; holds = λ others is. is; ready = ready; follows = refl; more = same_sizes old old refl })
  answers_stand old new (Flags a) next (client_option o q) sent ready h = absurd h
  answers_stand old new (Flags a) next (command r q) sent ready h = absurd h
  answers_stand old new (Flags a) next malformed sent ready h = ends_stand old new [] (Flags a) next sent h
  answers_stand old new (Options z) next (client_flags y) sent ready h = absurd h
  answers_stand old new (Options z) next (client_option o q) sent ready h = option_stands old new z o q sent next ready h
  answers_stand old new (Options z) next (command r q) sent ready h = absurd h
  answers_stand old new (Options z) next malformed sent ready h = ends_stand old new [] (Options z) next sent h
  answers_stand old new (Transmission v n (Listens x)) next (client_flags y) sent ready h = absurd h
  answers_stand old new (Transmission v n (Listens x)) next (client_option o q) sent ready h = absurd h
  answers_stand old new (Transmission v n (Listens x)) next (command r q) sent ready h = serves_stand old new (verdict_in x n r) v n x r q sent next ready h
  answers_stand old new (Transmission v n (Listens x)) next malformed sent ready h = ends_stand old new [] (Transmission v n (Listens x)) next sent h
  answers_stand old new (Transmission v n (Works x r)) next m sent ready h = absurd h
  answers_stand old new Ended next (client_flags y) sent ready h = absurd h
  answers_stand old new Ended next (client_option o q) sent ready h = absurd h
  answers_stand old new Ended next (command r q) sent ready h = absurd h
  answers_stand old new Ended next malformed sent ready h = ends_stand old new [] Ended next sent h

  deaf_stands : (phase : Phase) (old new : D) (from to : State) (piece sent : List ℕ) (taken : ℕ) (ended : Bool) → from.phase ≡ phase
      → IsDeaf view.outline (PoolCall view) phase from old piece taken sent ended to new → IsReady phase (view.outline old) (view.more old) → Stands old new phase to.phase
  deaf_stands (Transmission v n (Works m r)) old new from to piece sent taken ended e h ready = works_on old new v n (Works m r) to.phase ready (part_moves old new v n m r sent to.phase h.part)
  deaf_stands Ended old new from to piece sent taken ended e h ready = stays_there old new Ended to.phase (h.phase_is ∙ e) h.pool_is ready
  deaf_stands (Flags a) old new from to piece sent taken ended e h ready = absurd h
  deaf_stands (Options z) old new from to piece sent taken ended e h ready = absurd h
  deaf_stands (Transmission v n (Listens x)) old new from to piece sent taken ended e h ready = absurd h

  stands_by : (o : Option Kind) (old new : D) (from to : State) (piece sent : List ℕ) (taken : ℕ) (ended : Bool)
      → MatchOption o (IsDeaf view.outline (PoolCall view) from.phase from old piece taken sent ended to new)
      (λ kind. Waits view.outline (PoolCall view) kind from old piece taken sent ended to new ⊎ TakesFrame view.outline (PoolCall view) kind from old piece taken sent ended to new)
      → IsReady from.phase (view.outline old) (view.more old) → Stands old new from.phase to.phase
  stands_by None old new from to piece sent taken ended h ready = deaf_stands from.phase old new from to piece sent taken ended refl h ready
  stands_by (Some kind) old new from to piece sent taken ended (inl h) ready = stays_there old new from.phase to.phase h.phase_is h.pool_is ready
  stands_by (Some kind) old new from to piece sent taken ended (inr h) ready = answers_stand old new from.phase to.phase h.message sent ready h.answer

  -- how much is taken
  deaf_taken : (phase : Phase) (old new : D) (from to : State) (piece sent : List ℕ) (taken : ℕ) (ended : Bool)
      → IsDeaf view.outline (PoolCall view) phase from old piece taken sent ended to new → (0 < length piece → is_at_work phase ≡ false → 0 < taken) × (taken ≤ length piece)
  deaf_taken (Transmission v n (Works m r)) old new from to piece sent taken ended h = let e = h.taken_is in ((λ lt w. absurd cc), omega arith)
  deaf_taken Ended old new from to piece sent taken ended h = let e = h.taken_is in ((λ lt w. omega arith), omega arith)
  deaf_taken (Flags a) old new from to piece sent taken ended h = absurd h
  deaf_taken (Options z) old new from to piece sent taken ended h = absurd h
  deaf_taken (Transmission v n (Listens x)) old new from to piece sent taken ended h = absurd h

  taken_by : (o : Option Kind) (old new : D) (from to : State) (piece sent : List ℕ) (taken : ℕ) (ended : Bool)
      → MatchOption o (IsDeaf view.outline (PoolCall view) from.phase from old piece taken sent ended to new)
      (λ kind. Waits view.outline (PoolCall view) kind from old piece taken sent ended to new ⊎ TakesFrame view.outline (PoolCall view) kind from old piece taken sent ended to new)
      → (0 < length piece → is_at_work from.phase ≡ false → 0 < taken) × (taken ≤ length piece)
  taken_by None old new from to piece sent taken ended h = deaf_taken from.phase old new from to piece sent taken ended h
  taken_by (Some kind) old new from to piece sent taken ended (inl h) = let e = h.taken_is in ((λ lt w. omega arith), omega arith)
  taken_by (Some kind) old new from to piece sent taken ended (inr h) = ((λ lt w. h.some), h.inside)

  -- ---- nothing is sent where parts of a request are left

  elsewhere : (next to : Phase) → next ≡ to → is_at_work to ≡ false → is_at_work next ≡ true → ⊥
  elsewhere next to e idle w = let same : is_at_work next ≡ is_at_work to = ap is_at_work e in absurd cc

  made_quiet : (v n : ℕ) (m : Manner) (r rest : Request) (last : Bool) (answer : Answer) (sent : List ℕ) (next : Phase) → IsMade v n m r rest last answer sent next → is_at_work next ≡ true → sent ≡ []
  made_quiet v n m r rest true Done sent next h w = absurd (elsewhere next (Transmission v n (Listens m)) h.1 refl w)
  made_quiet v n m r rest false Done sent next h w = h.0
  made_quiet v n m r rest last (Gave sectors) sent next h w = absurd (elsewhere next (Transmission v n (Listens m)) h.1 refl w)
  made_quiet v n m r rest last (Line bytes) sent next h w = absurd (elsewhere next (Transmission v n (Listens m)) h.1 refl w)
  made_quiet v n m r rest last (Found id) sent next h w = absurd (elsewhere next (Transmission v n (Listens m)) h.1 refl w)
  made_quiet v n m r rest last (Sized blocks) sent next h w = absurd (elsewhere next (Transmission v n (Listens m)) h.1 refl w)
  made_quiet v n m r rest last (Listed slots) sent next h w = absurd (elsewhere next (Transmission v n (Listens m)) h.1 refl w)
  made_quiet v n m r rest last (Refused reason) sent next h w = absurd (elsewhere next (Transmission v n (Listens m)) h.1 refl w)

  written_quiet : (old new : D) (b : Bool) (apart call : Call) (v n : ℕ) (x : Manner) (r : Request) (sent : List ℕ) (next : Phase)
      → MatchBool b (Begins view.outline (PoolCall view) apart v n x r old sent next new) (Performs view.outline (PoolCall view) call (reply_to r.cookie) old sent new × (next ≡ Transmission v n (Listens x)))
      → is_at_work next ≡ true → sent ≡ []
  written_quiet old new true apart call v n x r sent next h w = made_quiet v n x r (to_keep r) false h.answer sent next h.is_begun w
  written_quiet old new false apart call v n x r sent next h w = absurd (elsewhere next (Transmission v n (Listens x)) h.1 refl w)

  serves_quiet : (old new : D) (d : Verdict) (v n : ℕ) (x : Manner) (r : Request) (payload sent : List ℕ) (next : Phase)
      → Serves view.outline (PoolCall view) d v n x r payload old sent next new → is_at_work next ≡ true → sent ≡ []
  serves_quiet old new verdicts.Disconnect v n x r payload sent next h w = absurd (elsewhere next Ended h.1 refl w)
  serves_quiet old new (verdicts.Refuse e) v n x r payload sent next h w = absurd (elsewhere next (Transmission v n (Listens x)) h.1 refl w)
  serves_quiet old new verdicts.Nothing v n x r payload sent next h w = absurd (elsewhere next (Transmission v n (Listens x)) h.1 refl w)
  serves_quiet old new verdicts.Read v n x r payload sent next h w = absurd (elsewhere next (Transmission v n (Listens x)) h.1 refl w)
  serves_quiet old new verdicts.Write v n x r payload sent next h w = written_quiet old new (is_kept_apart x r) _ _ v n x r sent next h w
  serves_quiet old new verdicts.Trim v n x r payload sent next h w = written_quiet old new (is_kept_apart x r) _ _ v n x r sent next h w
  serves_quiet old new verdicts.WriteZeroes v n x r payload sent next h w = written_quiet old new (is_kept_apart x r) _ _ v n x r sent next h w
  serves_quiet old new verdicts.Flush v n x r payload sent next h w = absurd (elsewhere next (Transmission v n (Listens x)) h.1 refl w)
  serves_quiet old new verdicts.Status v n x r payload sent next h w = absurd (elsewhere next (Transmission v n (Listens x)) h.1 refl w)
  serves_quiet old new verdicts.Long v n x r payload sent next h w = h.0

  options_idle : (z : Terms) (next : Phase) → Follows (Options z) next → is_at_work next ≡ true → ⊥
  options_idle z (Flags a) f w = f
  options_idle z (Options y) f w = absurd cc
  options_idle z (Transmission v n c) (inl e) w = elsewhere (Transmission v n c) (Transmission v n (Listens (manner_of z v))) (ap (λ (d : Course). Transmission v n d) e) refl w
  options_idle z (Transmission v n c) (inr (origin, on, low, high, e)) w =
      elsewhere (Transmission v n c) (Transmission v n (Listens (clone_manner z origin))) (ap (λ (d : Course). Transmission v n d) e) refl w
  options_idle z Ended f w = absurd cc

  answers_quiet : (old new : D) (phase next : Phase) (m : Message) (sent : List ℕ) → Answers view.outline (PoolCall view) phase m old sent next new → is_at_work next ≡ true → sent ≡ []
  answers_quiet old new (Flags a) next (client_flags y) sent h w = absurd (elsewhere next (Options (terms_of a y)) h.1 refl w)
  answers_quiet old new (Flags a) next (client_option o q) sent h w = absurd h
  answers_quiet old new (Flags a) next (command r q) sent h w = absurd h
  answers_quiet old new (Flags a) next malformed sent h w = h.0
  answers_quiet old new (Options z) next (client_flags y) sent h w = absurd h
  answers_quiet old new (Options z) next (client_option o q) sent h w = absurd (options_idle z next (option_follows old new z o q sent next h) w)
  answers_quiet old new (Options z) next (command r q) sent h w = absurd h
  answers_quiet old new (Options z) next malformed sent h w = h.0
  answers_quiet old new (Transmission v n (Listens x)) next (client_flags y) sent h w = absurd h
  answers_quiet old new (Transmission v n (Listens x)) next (client_option o q) sent h w = absurd h
  answers_quiet old new (Transmission v n (Listens x)) next (command r q) sent h w = serves_quiet old new (verdict_in x n r) v n x r q sent next h w
  answers_quiet old new (Transmission v n (Listens x)) next malformed sent h w = h.0
  answers_quiet old new (Transmission v n (Works x r)) next m sent h w = absurd h
  answers_quiet old new Ended next (client_flags y) sent h w = absurd h
  answers_quiet old new Ended next (client_option o q) sent h w = absurd h
  answers_quiet old new Ended next (command r q) sent h w = absurd h
  answers_quiet old new Ended next malformed sent h w = h.0

  deaf_quiet : (phase : Phase) (old new : D) (from to : State) (piece sent : List ℕ) (taken : ℕ) (ended : Bool)
      → IsDeaf view.outline (PoolCall view) phase from old piece taken sent ended to new → is_at_work to.phase ≡ true → sent ≡ []
  deaf_quiet (Transmission v n (Works m r)) old new from to piece sent taken ended h w = made_quiet v n m r _ _ h.part.answer sent to.phase h.part.is_made w
  deaf_quiet Ended old new from to piece sent taken ended h w = h.sent_is
  deaf_quiet (Flags a) old new from to piece sent taken ended h w = absurd h
  deaf_quiet (Options z) old new from to piece sent taken ended h w = absurd h
  deaf_quiet (Transmission v n (Listens x)) old new from to piece sent taken ended h w = absurd h

  quiet_by : (o : Option Kind) (old new : D) (from to : State) (piece sent : List ℕ) (taken : ℕ) (ended : Bool)
      → MatchOption o (IsDeaf view.outline (PoolCall view) from.phase from old piece taken sent ended to new)
      (λ kind. Waits view.outline (PoolCall view) kind from old piece taken sent ended to new ⊎ TakesFrame view.outline (PoolCall view) kind from old piece taken sent ended to new)
      → is_at_work to.phase ≡ true → sent ≡ []
  quiet_by None old new from to piece sent taken ended h w = deaf_quiet from.phase old new from to piece sent taken ended h w
  quiet_by (Some kind) old new from to piece sent taken ended (inl h) w = h.sent_is
  quiet_by (Some kind) old new from to piece sent taken ended (inr h) w = answers_quiet old new from.phase to.phase h.message sent h.answer w

  -- parts of a request end no session
  deaf_open : (phase : Phase) (old new : D) (from to : State) (piece sent : List ℕ) (taken : ℕ) (ended : Bool)
      → IsDeaf view.outline (PoolCall view) phase from old piece taken sent ended to new → is_at_work phase ≡ true → has_ended to.phase ≡ false
  deaf_open (Transmission v n (Works m r)) old new from to piece sent taken ended h w =
      let next = made_next v n m r _ _ h.part.answer sent to.phase h.part.is_made in
      ap has_ended next.1
  deaf_open Ended old new from to piece sent taken ended h w = absurd cc
  deaf_open (Flags a) old new from to piece sent taken ended h w = absurd h
  deaf_open (Options z) old new from to piece sent taken ended h w = absurd h
  deaf_open (Transmission v n (Listens x)) old new from to piece sent taken ended h w = absurd h

  open_by : (o : Option Kind) (old new : D) (from to : State) (piece sent : List ℕ) (taken : ℕ) (ended : Bool) → kind_of from.phase ≡ o
      → MatchOption o (IsDeaf view.outline (PoolCall view) from.phase from old piece taken sent ended to new)
      (λ kind. Waits view.outline (PoolCall view) kind from old piece taken sent ended to new ⊎ TakesFrame view.outline (PoolCall view) kind from old piece taken sent ended to new)
      → is_at_work from.phase ≡ true → has_ended to.phase ≡ false
  open_by None old new from to piece sent taken ended e h w = deaf_open from.phase old new from to piece sent taken ended h w
  open_by (Some kind) old new from to piece sent taken ended e h w = absurd (working_speaks_not from.phase kind e w)

  pub advances : (old new : D) (from to : State) (piece sent : List ℕ) (taken : ℕ) (ended : Bool) → IsReady from.phase (view.outline old) (view.more old) → IsCalm to
      → left_in to.phase < 4294967296 → (is_at_work from.phase ≡ true → left_in to.phase < left_in from.phase)
      → Steps view.outline (PoolCall view) from old piece taken sent ended to new → Advances view from old piece taken sent ended to new
  advances old new from to piece sent taken ended ready calm few works h =
      let m = stands_by (kind_of from.phase) old new from to piece sent taken ended h ready in
      let t = taken_by (kind_of from.phase) old new from to piece sent taken ended h in
      record {
        steps = h;
        traced = λ root s t has.
            let x = steps_likewise view.outline (PoolCall view) outline_of_traced (TracedCall view.has_use) (GoesFrom root s old t) (traced_outline root s old t) (traced_call root s old t) old new t (from_here root s old t has) from to piece sent taken ended h in
            (x.0, x.1, x.2.0, x.2.1);
        moves = t.0;
        silent = quiet_by (kind_of from.phase) old new from to piece sent taken ended h;
        works = works;
        few = few;
        goes_on = open_by (kind_of from.phase) old new from to piece sent taken ended refl h;
        inside = t.1;
        calm = calm;
        ready = m.ready;
        follows = m.follows;
        holds = m.holds;
        geometry = m.geometry;
        more = m.more;
      }

  -- a step without a frame
  pub advances_deaf : (old new : D) (phase next : Phase) (filled left : ℕ) (input piece sent : List ℕ) (taken : ℕ) (ended : Bool) → IsReady phase (view.outline old) (view.more old) → IsSound next
      → kind_of phase ≡ None → filled < wanted_in phase (take filled input) → left ≡ 0 → (is_at_work phase ≡ true → left_in next < left_in phase)
      → IsDeaf view.outline (PoolCall view) phase (state phase []) old piece taken sent ended (state next []) new
      → Advances view (state phase (take filled input)) old piece taken sent ended (state next (take left input)) new
  advances_deaf old new phase next filled left input piece sent taken ended ready sound deaf wants none works h =
      let held : take left input ≡ [] = ap (λ (n : ℕ). take n input) none in
      subst (λ (t : List ℕ). Advances view (state phase (take filled input)) old piece taken sent ended (state next t) new) (sym held)
      (advances old new (state phase (take filled input)) (state next []) piece sent taken ended ready (calm_state next 0 [] (omega arith) (wanted_at_start next)) (sound_few next sound) works
      (steps_deaf view.outline (PoolCall view) phase (take filled input) (state next []) old new piece sent taken ended deaf (deaf_holds phase filled input deaf wants) h))

  -- one that takes the last byte of a frame
  pub advances_frame : (old new : D) (phase next : Phase) (kind : Kind) (held piece sent : List ℕ) (taken : ℕ) (ended : Bool) → IsReady phase (view.outline old) (view.more old) → IsSound next
      → kind_of phase ≡ Some kind → Steps view.outline (PoolCall view) (state phase held) old piece taken sent ended (state next []) new
      → Advances view (state phase held) old piece taken sent ended (state next []) new
  advances_frame old new phase next kind held piece sent taken ended ready sound speaks h =
      advances old new (state phase held) (state next []) piece sent taken ended ready (calm_state next 0 [] (omega arith) (wanted_at_start next)) (sound_few next sound)
      (λ w. absurd (working_speaks_not phase kind speaks w)) h

  -- one behind which a frame is not whole yet
  pub advances_waiting : (pool : D) (phase : Phase) (kind : Kind) (held now piece : List ℕ) (filled end : ℕ) (whole : Bool) → IsReady phase (view.outline pool) (view.more pool) → IsSound phase
      → kind_of phase ≡ Some kind → whole ≡ false → length held ≡ filled → Gathers kind (held ++ piece) filled end whole now
      → Advances view (state phase held) pool piece (end - filled) [] (has_ended phase) (state phase now) pool
  advances_waiting pool phase kind held now piece filled end whole ready sound speaks part len g =
      advances pool pool (state phase held) (state phase now) piece [] (end - filled) (has_ended phase) ready (calm_gathered phase kind (held ++ piece) now filled end whole speaks part g) (sound_few phase sound)
      (λ w. absurd (working_speaks_not phase kind speaks w)) (steps_wait view.outline (PoolCall view) phase kind speaks held pool pool piece filled end now whole part len refl g)

  -- a step, where there is one, of a session that holds nothing, and after which it and the pool are as before
  pub advances_still : (o : Option Answered) (at : State) (phase : Phase) (filled : ℕ) (input : List ℕ) (pool : D) (piece : List ℕ) (sent : ℕ → List ℕ) → state phase (take filled input) ≡ at → filled ≤ 0
      → left_in phase < 4294967296 → IfSome o (λ a. is_at_work phase ≡ false)
      → IsReady at.phase (view.outline pool) (view.more pool) → IfSome o (λ a. Steps view.outline (PoolCall view) (state phase []) pool piece a.taken (sent a.sent) a.ended (state phase []) pool)
      → IfSome o (λ a. Advances view at pool piece a.taken (sent a.sent) a.ended at pool)
  advances_still None at phase filled input pool piece sent is none few idle ready h = tt
  advances_still (Some a) at phase filled input pool piece sent is none few idle ready h =
      let e : filled ≡ 0 = omega (arith, none) in
      let at_is : state phase [] ≡ at = ap (λ (n : ℕ). state phase (take n input)) (sym e) ∙ is in
      let P : State → Type 0 = λ s. Steps view.outline (PoolCall view) s pool piece a.taken (sent a.sent) a.ended s pool in
      let Q : State → Type 0 = λ s. left_in s.phase < 4294967296 in
      let W : State → Type 0 = λ s. is_at_work s.phase ≡ true → left_in s.phase < left_in s.phase in
      let calm : IsCalm (state phase []) = calm_state phase 0 [] (omega arith) (wanted_at_start phase) in
      advances pool pool at at piece (sent a.sent) a.taken a.ended ready (subst IsCalm at_is calm) (subst Q at_is few) (subst W at_is (λ w. absurd cc)) (subst P at_is h)

  pub leaves : (phase : Phase) (old new : D) → LetsGo view.outline (PoolCall view) phase old new → Leaves view phase old new
  leaves phase old new h =
      let all = lets_go_all phase old new h in
      record {
        lets_go = h;
        traced = λ root s t has.
            let x = lets_go_likewise view.outline (PoolCall view) outline_of_traced (TracedCall view.has_use) (GoesFrom root s old t) (traced_outline root s old t) (traced_call root s old t) old new t (from_here root s old t has) phase h in
            (x.0, x.1, x.2.0, x.2.1);
        holds = all.1;
        geometry = all.0;
        more = all.2;
      }
