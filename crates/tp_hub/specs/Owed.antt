-- Trusted reading: which turns of a hub commit nothing, so that no disk is flushed in them (own).
use Rattle.std.specs.Prelude.{◌≡◌, ℕ, ◌/◌, ◌⊎◌, Bool, false, ◌&&◌, ◌||◌, ◌==◌, IsSome, List, [], ◌∷◌, ◌++◌, Some, if◌then◌else◌, take}
use Rattle.tp_model.specs.Pool.{PlainPool}
use Rattle.tp_model.specs.Calls.{Call, Flush, Trim, Write, WriteZeroes, commits, most_flushes, refusal_of}
use Rattle.tp_model.specs.Clauses.{PoolCall, View}
use Rattle.tp_model.specs.Sectors.{sectors_of}
use Rattle.nbd_wire.specs.declared.Kind.{Kind}
use Rattle.nbd_wire.specs.declared.Request.{Request}
use Rattle.nbd_wire.specs.declared.TheConstants.{OPTION_EXPORT_NAME, OPTION_GO}
use Rattle.nbd_wire.specs.Grammar.{IsFrame, Message, client_option, command, malformed}
use Rattle.nbd_session.specs.declared.phase.Course.TheVariants.{Listens, Works}
use Rattle.nbd_session.specs.declared.phase.Manner.{Manner}
use Rattle.nbd_session.specs.declared.phase.Phase.{Phase}
use Rattle.nbd_session.specs.declared.phase.Phase.TheVariants.{Ended, Flags, Options, Transmission}
use Rattle.nbd_session.specs.declared.phase.Terms.{Terms}
use Rattle.nbd_session.specs.declared.request.Verdict.{Verdict}
use Rattle.nbd_session.specs.declared.request.Verdict.TheVariants as verdicts
use Rattle.nbd_session.specs.Requests.{has_no_hole, is_kept_apart, part_call, verdict_in, wants_fua}
use Rattle.nbd_session.specs.Session.{State, has_clones, kind_of, manner_in}
use Rattle.nbd_session.specs.Turns.{Asks, Happened, Hears, Leaves, Opens, Sessions, Turn}
use Rattle.tp_hub.specs.Told.{Answer, Grows, Told}
use Rattle.tp_hub.specs.Runs.{Incoming, Runs, turns_in}
use Rattle.tp_hub.specs.Serving.{HubState, sessions_of}

-- an option by which a session makes a clone of a volume: it holds one, where there are clones
abbrev pub makes_clone : Terms → ℕ → Bool
makes_clone terms option = has_clones terms.profile && (option == OPTION_GO || option == OPTION_EXPORT_NAME)

-- A session serves a clone, which is deleted at its end.
abbrev pub has_clone : Phase → Bool
has_clone (Flags profile) = false
has_clone (Options terms) = false
has_clone (Transmission volume size course) = (manner_in course).is_clone
has_clone Ended = false

module _ {D : Type 0} (view : View D) where
  -- A call of this pool commits nothing: in the pool's mode it never flushes the disk; or enough blocks are free for it, or a test refuses it, and no commit ends it.
  abbrev pub CommitsNone : D → Call → Type 0
  CommitsNone p call =
      (most_flushes (view.outline p).mode call ≡ 0)
      ⊎ ((s : PlainPool) × view.shows p s × ((view.lacks p call → ⊥) ⊎ IsSome (refusal_of s call)) × (commits s call ≡ false))

  -- A request commits nothing, by what its tests came to. A long one is made later, and one with FUA that is kept apart is made without it.
  abbrev pub IsQuietRequest : D → Verdict → ℕ → Manner → Request → List ℕ → Type 0
  IsQuietRequest p (verdicts.Refuse e) id manner r payload = Unit {0}
  IsQuietRequest p verdicts.Nothing id manner r payload = Unit {0}
  IsQuietRequest p verdicts.Read id manner r payload = Unit {0}
  IsQuietRequest p verdicts.Status id manner r payload = Unit {0}
  IsQuietRequest p verdicts.Long id manner r payload = Unit {0}
  IsQuietRequest p verdicts.Disconnect id manner r payload = manner.is_clone ≡ false
  IsQuietRequest p verdicts.Flush id manner r payload = CommitsNone p Flush
  IsQuietRequest p verdicts.Write id manner r payload =
      CommitsNone p (if is_kept_apart manner r then Write id (r.offset / 512) (sectors_of payload) false else Write id (r.offset / 512) (sectors_of payload) (wants_fua manner r))
  IsQuietRequest p verdicts.Trim id manner r payload =
      CommitsNone p (if is_kept_apart manner r then Trim id (r.offset / 512) (r.len / 512) false else Trim id (r.offset / 512) (r.len / 512) (wants_fua manner r))
  IsQuietRequest p verdicts.WriteZeroes id manner r payload =
      CommitsNone p (if is_kept_apart manner r then WriteZeroes id (r.offset / 512) (r.len / 512) (has_no_hole r) false else WriteZeroes id (r.offset / 512) (r.len / 512) (has_no_hole r) (wants_fua manner r))

  -- A frame commits nothing: an option but one that makes a clone, and such a request. One that is malformed ends its session.
  abbrev pub IsQuietFrame : D → Phase → Message → Type 0
  IsQuietFrame p (Options terms) (client_option option payload) = makes_clone terms option ≡ false
  IsQuietFrame p (Transmission id size (Listens manner)) (command r payload) = IsQuietRequest p (verdict_in manner size r) id manner r payload
  IsQuietFrame p phase malformed = has_clone phase ≡ false
  IsQuietFrame p phase _ = Unit {0}

  -- the next part of a request, if any is left
  abbrev pub IsQuietPart : D → Phase → Type 0
  IsQuietPart p (Transmission id size (Works manner r)) = CommitsNone p (part_call manner id (view.outline p).geometry r)
  IsQuietPart p phase = Unit {0}

  -- A step of a session commits nothing: the part that it makes does not, nor the frame that this text is.
  abbrev pub IsQuietStep : D → State → List ℕ → Type 0
  IsQuietStep p s text = IsQuietPart p s.phase × ((kind : Kind) (message : Message) → kind_of s.phase ≡ Some kind → IsFrame kind message text → IsQuietFrame p s.phase message)

  abbrev pub IsQuiet : Sessions → D → Turn → Type 0
  IsQuiet at p (Opens n profile sent) = Unit {0}
  IsQuiet at p (Hears n piece taken sent ended) = IsQuietStep p (at n) ((at n).held ++ take taken piece)
  IsQuiet at p (Leaves n) = has_clone (at n).phase ≡ false
  IsQuiet at p (Asks call answer) = CommitsNone p call

  -- Turns one after another: each that is quiet flushes no disk.
  abbrev pub AreOwed : Sessions → D → List (Happened D) → Type 0
  AreOwed at p [] = Unit {0}
  AreOwed at p (h ∷ hs) = (IsQuiet at p h.turn → view.flushes h.pool ≡ view.flushes p) × AreOwed h.sessions h.pool hs

  -- A run of a hub, with these answers, in which each flush of the disk is owed.
  pub record RunsOwed (old : HubState D) (took : List Incoming) (answers : List Answer) (new : HubState D) : Type 0 where
    pub before : Told
    pub after : Told
    pub runs : Runs view.outline (PoolCall view) (sessions_of old.slots) old.pool took before after (sessions_of new.slots) new.pool
    pub grows : Grows before after answers
    pub owed : AreOwed (sessions_of old.slots) old.pool (turns_in runs.served)
