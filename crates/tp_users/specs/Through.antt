-- Trusted reading: what is found after a crash of a WRITE that was answered to a client whose profile
-- writes through (own).
use Rattle.std.specs.Prelude.{◌≡◌, ◌+◌, ◌/◌, ℕ, List, [], ◌∷◌, ◌++◌, Some, slice_get}
use Rattle.tp_model.specs.Sectors.{Sector, sectors_of}
use Rattle.tp_model.specs.Pool.{PlainPool}
use Rattle.tp_model.specs.Clauses.{Traced, View, traced}
use Rattle.nbd_wire.specs.Replies.{simple_reply}
use Rattle.nbd_session.specs.Turns.{Happened, closed, pool_after, sent_to, sessions_after}
use Rattle.tp_hub.specs.Covered.{AreOffered, IsKeptThere, IsWriteTaken}
use Rattle.tp_hub.specs.Lives.{HubLife, IsPlainLife}
use Rattle.tp_hub.specs.Runs.{turns_in}

module _ {D : Type 0} (view : View D) (s : PlainPool) (l : HubLife D view.Image) where
  -- If a session took a WRITE in these turns, and was then sent the reply that it is done and nothing
  -- else, then each sector of it that the volume has is found, or a newer one.
  abbrev pub FindsAnswered : List (Happened Traced) → PlainPool → Type 0
  FindsAnswered turns found =
      (first more behind : List (Happened Traced)) (write : Happened Traced) → turns ≡ first ++ write ∷ (more ++ behind)
      → (w : IsWriteTaken (sessions_after closed first) write) → AreOffered w.session first → sent_to w.session (write ∷ more) ≡ simple_reply 0 w.request.cookie []
      → (k : ℕ) (x : Sector) → slice_get (sectors_of w.payload) k ≡ Some x
      → IsKeptThere view write.pool (sessions_after closed turns) (pool_after (traced s []) turns) l.current w.volume (w.request.offset / 512 + k) x found

  -- The life is one of the plain hub, and what the crash at its end left is opened as this pool.
  pub record LosesNoAnswered : Type 0 where
    pub life : IsPlainLife view s l (λ P. Unit {0})
    pub finds : FindsAnswered (turns_in life.plainly ++ life.behind) life.found
