-- Turns of sessions over one pool are turns over the traced plain pool, through any number of stops.
use Rattle.std.proofs.Common.{◌≡◌, ℕ, Bool, List, [], ◌∷◌, ◌++◌, Option, None, Some, refl, sym, ap, subst, ◌∙◌}
use Rattle.tp_model.specs.Pool.{PlainPool, Outline, outline_of}
use Rattle.tp_model.specs.Calls.{Call, Answer}
use Rattle.tp_model.specs.PoolStops.{MayReopen, Nothing}
use Rattle.tp_model.specs.Clauses.{Continues, HasTrace, PoolCall, Traced, TracedCall, View, ViewLaws, events_of, found_now, outline_of_traced, traced}
use Rattle.tp_model.proofs.PoolStopLaws.{MayBeLeftSince-none, MayBeLeftSince-settled}
use Rattle.tp_model.proofs.Running.{starts}
use Rattle.nbd_session.specs.declared.phase.Phase.{Phase}
use Rattle.nbd_session.specs.Session.{State, LetsGo, Steps}
use Rattle.nbd_session.specs.Clauses.{PlainCall}
use Rattle.nbd_session.specs.Talk.{Converses, Talks, goes, over, stops, waits, works}
use Rattle.nbd_session.specs.Turns.{AreLives, AreRuns, AreSame, AreTurns, Asks, Happened, Hears, IsFoundIn, Leaves, Life, Opens, Sessions, StopsIn, TakesTurn, Turn, closed, pool_after, sent_in, sent_to, sessions_after}
use Rattle.nbd_session.proofs.Following.{answers_likewise, lets_go_likewise, part_likewise, steps_likewise}
use Rattle.nbd_session.proofs.Advancing.{GoesFrom, from_here, plain_call, traced_call, traced_outline}

module _ {D B : Type 0} (outline : D → Outline) (Calls : D → Call → Answer → D → Type 0) (outline' : B → Outline) (Calls' : B → Call → Answer → B → Type 0) (R : D → B → Type 0)
    (same : (d : D) (b : B) → R d b → outline' b ≡ outline d)
    (call_follows : (d d' : D) (b : B) (call : Call) (answer : Answer) → R d b → Calls d call answer d' → (b' : B) × Calls' b call answer b' × R d' b') where
  -- a conversation is followed by a conversation
  pub talks_likewise : {phase : Phase} {text sent : List ℕ} {p p' : D} {new : State} (b : B) → R p b → Talks outline Calls phase text p sent new p'
      → (b' : B) × Talks outline' Calls' phase text b sent new b' × R p' b'
  talks_likewise b r (waits kind k partial) = (b, waits kind k partial, r)
  talks_likewise b r over = (b, over, r)
  talks_likewise b r stops = (b, stops, r)
  talks_likewise {phase} {text} {sent} {p} b r (works v n m q first others mid at part talk all) =
      let x = part_likewise outline Calls outline' Calls' R same call_follows p at b r v n m q first mid part in
      let y = talks_likewise x.0 x.2 talk in
      (y.0, works v n m q first others mid x.0 x.1 y.1 all, y.2)
  talks_likewise {phase} {text} {sent} {p} b r (goes kind message frame rest first others mid q k whole cut answer talks all) =
      let x = answers_likewise outline Calls outline' Calls' R same call_follows p q b r phase mid message first answer in
      let y = talks_likewise x.0 x.2 talks in
      (y.0, goes kind message frame rest first others mid x.0 k whole cut x.1 y.1 all, y.2)

  -- a turn is followed by a turn
  pub turn_follows : (at at' : Sessions) (old new : D) (b : B) (turn : Turn) → R old b → TakesTurn outline Calls at old turn at' new
      → (b' : B) × TakesTurn outline' Calls' at b turn at' b' × R new b'
  turn_follows at at' old new b (Opens n profile sent) r h = (b, (refl, h.1, h.2, h.3, h.4), subst (λ (d : D). R d b) (sym h.0) r)
  turn_follows at at' old new b (Hears n piece taken sent ended) r h =
      let x = steps_likewise outline Calls outline' Calls' R same call_follows old new b r (at n) (at' n) piece sent taken ended h.0 in
      (x.0, (x.1, h.1), x.2)
  turn_follows at at' old new b (Leaves n) r h =
      let x = lets_go_likewise outline Calls outline' Calls' R same call_follows old new b r (at n).phase h.0 in
      (x.0, (x.1, h.1, h.2), x.2)
  turn_follows at at' old new b (Asks call answer) r h =
      let x = call_follows old new b call answer r h.0 in
      (x.0, (x.1, h.1), x.2)

module _ {D : Type 0} (view : View D) (laws : ViewLaws view) where
  -- ---- over a pool that shows a plain pool

  pub step_plain : (old new : State) (pool after : D) (s : PlainPool) (piece sent : List ℕ) (taken : ℕ) (ended : Bool) → view.shows pool s
      → Steps view.outline (PoolCall view) old pool piece taken sent ended new after → (s' : PlainPool) × Steps outline_of PlainCall old s piece taken sent ended new s' × view.shows after s'
  step_plain old new pool after s piece sent taken ended is_shown h =
      steps_likewise view.outline (PoolCall view) outline_of PlainCall view.shows laws.shown (plain_call view laws) pool after s is_shown old new piece sent taken ended h

  pub talk_plain : (old new : State) (pool after : D) (s : PlainPool) (piece before sent : List ℕ) → view.shows pool s
      → Converses view.outline (PoolCall view) old piece pool before sent new after → (s' : PlainPool) × Converses outline_of PlainCall old piece s before sent new s' × view.shows after s'
  talk_plain old new pool after s piece before sent is_shown h =
      let x = talks_likewise view.outline (PoolCall view) outline_of PlainCall view.shows laws.shown (plain_call view laws) s is_shown h.2 in
      (x.0, (h.0, h.1, x.1), x.2)

  pub end_plain : (phase : Phase) (pool after : D) (s : PlainPool) → view.shows pool s
      → LetsGo view.outline (PoolCall view) phase pool after → (s' : PlainPool) × LetsGo outline_of PlainCall phase s s' × view.shows after s'
  end_plain phase pool after s is_shown h = lets_go_likewise view.outline (PoolCall view) outline_of PlainCall view.shows laws.shown (plain_call view laws) pool after s is_shown phase h

  -- ---- over one that has a trace

  module _ (from : D) (s : PlainPool) where
    pub turn_traced : (at at' : Sessions) (old new : D) (t : Traced) (turn : Turn) → HasTrace view from s old t → TakesTurn view.outline (PoolCall view) at old turn at' new
        → (t' : Traced) × TakesTurn outline_of_traced (TracedCall view.has_use) at t turn at' t' × HasTrace view from s new t' × Continues view from s old t new t'
    turn_traced at at' old new t turn has h =
        let x = turn_follows view.outline (PoolCall view) outline_of_traced (TracedCall view.has_use) (GoesFrom view laws from s old t) (traced_outline view laws from s old t) (traced_call view laws from s old t) at at' old new t turn
        (from_here view laws from s old t has) h in
        (x.0, x.1, x.2.0, x.2.1)

    pub talks_traced : (from_state to : State) (piece before sent : List ℕ) (old new : D) (t : Traced) → HasTrace view from s old t → Converses view.outline (PoolCall view) from_state piece old before sent to new
        → (t' : Traced) × Converses outline_of_traced (TracedCall view.has_use) from_state piece t before sent to t' × HasTrace view from s new t' × Continues view from s old t new t'
    talks_traced from_state to piece before sent old new t has h =
        let x = talks_likewise view.outline (PoolCall view) outline_of_traced (TracedCall view.has_use) (GoesFrom view laws from s old t) (traced_outline view laws from s old t) (traced_call view laws from s old t) t
        (from_here view laws from s old t has) h.2 in
        (x.0, (h.0, h.1, x.1), x.2.0, x.2.1)

    pub turns_traced : (at : Sessions) (d : D) (t : Traced) (hs : List (Happened D)) → HasTrace view from s d t → AreTurns view.outline (PoolCall view) at d hs
        → (ks : List (Happened Traced)) × AreTurns outline_of_traced (TracedCall view.has_use) at t ks × AreSame view from s d t hs ks
    turns_traced at d t [] has are = ([], tt, tt)
    turns_traced at d t (h ∷ hs) has are =
        let x = turn_traced at h.sessions d h.pool t h.turn has are.0 in
        let rest = turns_traced h.sessions h.pool x.0 hs x.2 are.1 in
        (record { turn = h.turn; sessions = h.sessions; pool = x.0 } ∷ rest.0, (x.1, rest.1), (refl, refl, x.2, x.3, rest.2))

    -- after the last turn
    pub last_traced : (d : D) (t : Traced) (hs : List (Happened D)) (ks : List (Happened Traced)) → HasTrace view from s d t → AreSame view from s d t hs ks → HasTrace view from s (pool_after d hs) (pool_after t ks)
    last_traced d t [] [] has are = has
    last_traced d t (h ∷ hs) (k ∷ ks) has are = last_traced h.pool k.pool hs ks are.2 are.4
    last_traced d t [] (k ∷ ks) has are = absurd are
    last_traced d t (h ∷ hs) [] has are = absurd are

    pub same_sessions : (at : Sessions) (d : D) (t : Traced) (hs : List (Happened D)) (ks : List (Happened Traced)) → AreSame view from s d t hs ks → sessions_after at hs ≡ sessions_after at ks
    same_sessions at d t [] [] are = refl
    same_sessions at d t (h ∷ hs) (k ∷ ks) are = ap (λ (a : Sessions). sessions_after a hs) (sym are.1) ∙ same_sessions k.sessions h.pool k.pool hs ks are.4
    same_sessions at d t [] (k ∷ ks) are = absurd are
    same_sessions at d t (h ∷ hs) [] are = absurd are

    -- each client is sent the same
    pub same_sent : (n : ℕ) (d : D) (t : Traced) (hs : List (Happened D)) (ks : List (Happened Traced)) → AreSame view from s d t hs ks → sent_to n hs ≡ sent_to n ks
    same_sent n d t [] [] are = refl
    same_sent n d t (h ∷ hs) (k ∷ ks) are = ap (λ (turn : Turn). sent_in n turn ++ sent_to n hs) (sym are.0) ∙ ap (λ (bytes : List ℕ). sent_in n k.turn ++ bytes) (same_sent n h.pool k.pool hs ks are.4)
    same_sent n d t [] (k ∷ ks) are = absurd are
    same_sent n d t (h ∷ hs) [] are = absurd are

    -- what the stop left is opened as what may be found
    pub found_in : ((S : PlainPool) → found_now view from S → MayReopen s Nothing S) → (at : Sessions) (d : D) (t : Traced) (current : Option (Happened D)) (image : view.Image) → HasTrace view from s d t
        → StopsIn view at d current image → (P : PlainPool) × view.stands_for image P × IsFoundIn view s at t current P
    found_in settled at d t None image has stop =
        let P = has.opens image (laws.at_now d image stop) in (
          P.0,
          P.1,
          MayBeLeftSince-settled (found_now view from) s (events_of t.trace) [] P.0 settled
              (MayBeLeftSince-none (found_now view from) s (events_of t.trace) P.0 (has.left P.0 (image, stop, P.1))),
        )
    found_in settled at d t (Some h) image has stop =
        let x = turn_traced at h.sessions d h.pool t h.turn has stop.0 in
        let goes = x.3 in
        let P = goes.opens image stop.1 in (
          P.0,
          P.1,
          (
            x.0,
            goes.since,
            x.1,
            goes.trace_is,
            MayBeLeftSince-settled (found_now view from) s (events_of t.trace) (events_of goes.since) P.0 settled (goes.left P.0 (image, stop.1, P.1)),
          ),
        )

  pub lives_are_runs : (image : view.Image) (s : PlainPool) (lives : List (Life D view.Image)) → view.stands_for image s → AreLives view image lives → AreRuns view s lives
  lives_are_runs image s [] is are = tt
  lives_are_runs image s (l ∷ ls) is are =
      let life = are.0 in
      let first = starts view laws l.opened s (life.opening.shows s is) (life.opening.opens s is) in
      let ks = turns_traced l.opened s closed l.opened (traced s []) l.turns first life.turning in
      let last = last_traced l.opened s l.opened (traced s []) l.turns ks.0 first ks.2 in
      let at = same_sessions l.opened s closed l.opened (traced s []) l.turns ks.0 ks.2 in
      let found = found_in l.opened s (λ S left. life.opening.left s S is left) (sessions_after closed ks.0) (pool_after l.opened l.turns) (pool_after (traced s []) ks.0) l.current l.image last
      (subst (λ (a : Sessions). StopsIn view a (pool_after l.opened l.turns) l.current l.image) at life.stop) in
      record {
        plainly = ks.0;
        turning = ks.1;
        same = ks.2;
        found = found.0;
        stands_for = found.1;
        left = found.2;
        goes_on = lives_are_runs l.image found.0 ls found.1 are.1;
      }
