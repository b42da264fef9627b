-- Trusted reading: the clauses of a session over a pool, of whose volumes nothing may be known.
use Rattle.std.specs.Prelude.{◌≡◌, ℕ, ◌<◌, ◌≤◌, ◌⊎◌, Bool, true, false, List, [], ◌++◌, length, MatchOption}
use Rattle.std.specs.Ordering.{nat_cmp}
use Rattle.std.specs.FinMap.{FinMap}
use Rattle.tp_model.specs.Pool.{PlainPool, Outline, hold_count}
use Rattle.tp_model.specs.Calls.{Call, Answer, Takes}
use Rattle.tp_model.specs.Clauses.{Continues, HasTrace, PoolCall, Traced, TracedCall, View, outline_of_traced}
use Rattle.tp_holders.specs.Holders.{counts_of}
use Rattle.nbd_wire.specs.Grammar.{Message, client_flags, client_option, command, malformed, payload_len, IsPartial}
use Rattle.nbd_session.specs.declared.phase.Course.{Course}
use Rattle.nbd_session.specs.declared.phase.Course.TheVariants.{Listens, Works}
use Rattle.nbd_session.specs.declared.phase.Phase.{Phase}
use Rattle.nbd_session.specs.declared.phase.Phase.TheVariants.{Flags, Options, Transmission, Ended}
use Rattle.nbd_session.specs.declared.phase.Terms.{Terms}
use Rattle.nbd_session.specs.Requests.{known_bytes}
use Rattle.nbd_session.specs.Session.{State, clone_manner, kind_of, has_clones, has_ended, is_at_work, is_extended, left_in, manner_in, manner_of, terms_of, volumes_in, LetsGo, Steps}
use Rattle.nbd_session.specs.Talk.{Converses}

-- a frame that may come in the phase
abbrev pub IsOf : Phase → Message → Type 0
IsOf (Flags profile) (client_flags no_zeroes) = Unit {0}
IsOf (Options terms) (client_option option payload) = Unit {0}
IsOf (Transmission volume size (Listens manner)) (command r payload) = length payload ≡ payload_len r
IsOf (Transmission volume size (Works manner rest)) message = ⊥
IsOf Ended malformed = ⊥
IsOf phase malformed = Unit {0}
IsOf phase _ = ⊥

-- All that is held of the pool is what a session holds, and what others hold: of that there is so little that the session may hold two volumes.
pub record HoldsBeside (own : List ℕ) (holds : FinMap nat_cmp ℕ) : Type 0 where
  pub others : List ℕ
  pub few : length others ≤ 126
  pub all : holds ≡ counts_of (own ++ others)

-- A session holds the volume that it serves, and the older one that its client compares that with. In transmission the volume has the size that was told when it began: `more` is how
-- many sectors beyond the pool's own size a volume is known to have.
abbrev pub IsReady : Phase → Outline → (ℕ → ℕ) → Type 0
IsReady (Flags profile) p more = HoldsBeside [] p.holds
IsReady (Options terms) p more = HoldsBeside (volumes_in (Options terms)) p.holds
IsReady (Transmission volume size course) p more = HoldsBeside (volumes_in (Transmission volume size course)) p.holds × (size ≡ known_bytes p.geometry more volume)
IsReady Ended p more = Unit {0}

-- Of what is held the session's part changes with its phase: it holds the volumes of the new one. What others hold they hold as before.
abbrev pub HoldsFollow : Phase → Phase → FinMap nat_cmp ℕ → FinMap nat_cmp ℕ → Type 0
HoldsFollow old new holds holds' = (others : List ℕ) → holds ≡ counts_of (volumes_in old ++ others) → holds' ≡ counts_of (volumes_in new ++ others)

-- Options of an extended session may change what is asked for beside the volume, and nothing else; structured replies stay asked for. Those of a strict one
-- change nothing.
pub record GoesBeyond (old new : Terms) : Type 0 where
  pub no_zeroes : new.no_zeroes ≡ old.no_zeroes
  pub profile : new.profile ≡ old.profile
  pub strict : is_extended old.profile ≡ false → new ≡ old
  pub structured : old.is_structured ≡ true → new.is_structured ≡ true

-- Transmission begins with a volume, or, where there are clones, with a clone of one. Its id is one of the 64 that clones have, and no name.
abbrev pub BeginsWith : Terms → ℕ → Course → Type 0
BeginsWith terms volume course =
    (course ≡ Listens (manner_of terms volume))
    ⊎ ((origin : ℕ) × (has_clones terms.profile ≡ true) × (8388608 ≤ volume) × (volume < 8388672) × (course ≡ Listens (clone_manner terms origin)))

-- Where a session may go by one frame, or one part of a request: it keeps its profile and its flags, and its volume with its size and its manner.
abbrev pub Follows : Phase → Phase → Type 0
Follows (Flags profile) (Flags same) = profile ≡ same
Follows (Flags profile) (Options terms) = terms ≡ terms_of profile terms.no_zeroes
Follows (Options terms) (Options same) = GoesBeyond terms same
Follows (Options terms) (Transmission volume size course) = BeginsWith terms volume course
Follows (Transmission volume size course) (Transmission same also next) = (volume ≡ same) × (size ≡ also) × (manner_in course ≡ manner_in next)
Follows phase Ended = Unit {0}
Follows phase _ = ⊥

-- a call of the plain pool
abbrev pub PlainCall : PlainPool → Call → Answer → PlainPool → Type 0
PlainCall s call answer s' = (made : PlainPool) × Takes s call answer made s'

-- No frame of the phase begins what is held. After its end, and while parts of a request are left, a session holds nothing.
abbrev pub IsCalm : State → Type 0
IsCalm s = MatchOption (kind_of s.phase) (s.held ≡ []) (λ kind. IsPartial kind s.held)

module _ {D : Type 0} (view : View D) where
  -- From each trace that the pool has, the traced plain pool does the same (`Likewise`), and what it comes to is a trace of the pool afterwards: as
  -- many calls of the disk failed as failed in its events, and what a stop left at any moment in between is what may be found there.
  abbrev pub GoesWithTrace : D → D → (Traced → Traced → Type 0) → Type 0
  GoesWithTrace pool after Likewise =
      (from : D) (s : PlainPool) (t : Traced) → HasTrace view from s pool t →
      (t' : Traced) × Likewise t t' × HasTrace view from s after t' × Continues view from s pool t after t'

  -- the size of a volume that is held before and after stays known
  abbrev pub KeepsSizes : D → D → Type 0
  KeepsSizes old new = (id : ℕ) → 0 < hold_count (view.outline old).holds id → 0 < hold_count (view.outline new).holds id → view.more new id ≡ view.more old id

  -- Others hold what they held, and the size of a volume that others hold stays known.
  pub record SparesOthers (old : Phase) (pool : D) (new : Phase) (after : D) : Type 0 where
    pub held : HoldsFollow old new (view.outline pool).holds (view.outline after).holds
    pub more : (others : List ℕ) → (view.outline pool).holds ≡ counts_of (volumes_in old ++ others) → (id : ℕ) → 0 < hold_count (counts_of others) id → view.more after id ≡ view.more pool id

  -- One step. What is sent is the answer to the frame that ends in what was taken, as the pool answered the calls that the frame makes of it:
  -- those of NextId for LIST, one of NextId, Hold and VolumeBlocks each at most for another option (two of NextId where it names an older volume; for one that makes a clone up to
  -- 64 of CreateSnap in the place of NextId), two of Walk at most
  -- for BLOCK_STATUS, one at most for another frame, and Walk behind Read for a long READ in chunks. Behind an option an older volume is let go by LetGo, and another one held by Hold, where the
  -- next phase names another. Where the session ends, what it holds is let go, and behind that there is one of Delete where it had a clone. A session that has parts of a request left makes one, and takes nothing.
  pub record Advances (old : State) (pool : D) (piece : List ℕ) (taken : ℕ) (sent : List ℕ) (ended : Bool) (new : State) (after : D) : Type 0 where
    pub steps : Steps view.outline (PoolCall view) old pool piece taken sent ended new after
    pub traced : GoesWithTrace pool after (λ t t'. Steps outline_of_traced (TracedCall view.has_use) old t piece taken sent ended new t')
    pub moves : 0 < length piece → is_at_work old.phase ≡ false → 0 < taken
    pub silent : is_at_work new.phase ≡ true → sent ≡ []
    pub works : is_at_work old.phase ≡ true → left_in new.phase < left_in old.phase
    pub few : left_in new.phase < 4294967296
    pub goes_on : is_at_work old.phase ≡ true → has_ended new.phase ≡ false
    pub inside : taken ≤ length piece
    pub calm : IsCalm new
    pub ready : IsReady new.phase (view.outline after) (view.more after)
    pub follows : Follows old.phase new.phase
    pub holds : HoldsFollow old.phase new.phase (view.outline pool).holds (view.outline after).holds
    pub geometry : (view.outline after).geometry ≡ (view.outline pool).geometry
    pub more : KeepsSizes pool after

  -- A session ends in some phase: the volumes that it holds are let go, its own is deleted where it is a clone, and nothing else is done.
  pub record Leaves (phase : Phase) (pool : D) (after : D) : Type 0 where
    pub lets_go : LetsGo view.outline (PoolCall view) phase pool after
    pub traced : GoesWithTrace pool after (λ t t'. LetsGo outline_of_traced (TracedCall view.has_use) phase t t')
    pub holds : HoldsFollow phase Ended (view.outline pool).holds (view.outline after).holds
    pub geometry : (view.outline after).geometry ≡ (view.outline pool).geometry
    pub more : KeepsSizes pool after

  -- Steps to the end of a piece, and what they sent added to what was sent before.
  pub record Feeds (old : State) (pool : D) (piece before sent : List ℕ) (new : State) (after : D) : Type 0 where
    pub talks : Converses view.outline (PoolCall view) old piece pool before sent new after
    pub traced : GoesWithTrace pool after (λ t t'. Converses outline_of_traced (TracedCall view.has_use) old piece t before sent new t')
    pub calm : IsCalm new
    pub ready : IsReady new.phase (view.outline after) (view.more after)
    pub geometry : (view.outline after).geometry ≡ (view.outline pool).geometry
    pub others : SparesOthers old.phase pool new.phase after
