-- Trusted reading: a pool through any number of stops: its lives, each from an opening to a stop, and what they are of plain pools (own).
use Rattle.std.specs.Prelude.{◌≡◌, ⊤, ℕ, Bool, List, [], ◌∷◌, Option, None, Some}
use Rattle.tp_model.specs.Geometry.{Geometry}
use Rattle.tp_model.specs.Sectors.{Sector}
use Rattle.tp_model.specs.Pool.{PlainPool}
use Rattle.tp_model.specs.Calls.{Answer, Call}
use Rattle.tp_model.specs.PoolStops.{MayBeLeftSince}
use Rattle.tp_model.specs.Clauses.{AreCalls, AreTraced, Asked, Meets, Traced, TracedCall, events_of, last_of, traced}
use Rattle.tp_model.specs.Disk.{DiskState, IsSettled, seen}
use Rattle.tp_model.specs.DiskStops.{AfterStop, StoppedSince}
use Rattle.tp_image.specs.Stands.{StandsFor}
use Rattle.tp_stored.specs.Contents.{Contents}
use Rattle.tp_pool.specs.Flushes.{served}
use Rattle.tp_pool.specs.Held.{Held, IsPool, moment_of, shows}

-- ---- what happens

-- A pool as it was opened, calls of it with their answers and the pool after each, one call more that may be in progress, and an
-- image that a stop since the last answer left.
pub record Life (M : Type 0) : Type 0 where
  pub opened : Held M
  pub calls : List (Asked (Held M))
  pub current : Option (Asked (Held M))
  pub image : List Sector

-- geometry, stands and the others: of the metadata.
module _ {M : Type 0} (geometry : M → Geometry) (stands : M → DiskState → Contents → Contents → Type 0) where
  -- The pool was opened from a settled disk with this image. Where that is the image of a commit, it shows each pool that the image
  -- stands for.
  pub record IsReopenedFrom (image : List Sector) (h : Held M) : Type 0 where
    pub settled : IsSettled h.disk.cells
    pub image_is : seen h.disk.cells ≡ image
    pub shows_it : (g : Geometry) (s : PlainPool) → IsPool g image → StandsFor image s → shows geometry stands h s

module _ {M : Type 0} (geometry : M → Geometry) (stands : M → DiskState → Contents → Contents → Type 0) (marks : M → List Bool) (room : M → ℕ) (changed : M → Bool) where
  abbrev pub OneCall : Held M → Call → Answer → Held M → Type 0
  OneCall old call answer new = Meets (served geometry stands marks room changed) old new call answer

  -- a stop after the last answer leaves the image, or one in the call in progress
  abbrev pub StopsIn : Held M → Option (Asked (Held M)) → List Sector → Type 0
  StopsIn last None image = AfterStop last.disk.cells image
  StopsIn last (Some c) image = OneCall last c.call c.answer c.after × StoppedSince (moment_of last) c.after.disk image

  -- a life that begins with this image
  pub record IsLife (image : List Sector) (l : Life M) : Type 0 where
    pub opening : IsReopenedFrom geometry stands image l.opened
    pub calling : AreCalls OneCall l.opened l.calls
    pub stop : StopsIn (last_of l.opened l.calls) l.current l.image

  -- lives, the first of which begins with this image, and each further one with the image that the one before left
  abbrev pub AreLives : List Sector → List (Life M) → Type 0
  AreLives image [] = ⊤
  AreLives image (l ∷ ls) = IsLife image l × AreLives l.image ls

  -- ---- what that is of plain pools

  -- P may be found after the events of the trace, and in the call in progress.
  abbrev pub IsFoundIn : PlainPool → Traced → Option (Asked (Held M)) → PlainPool → Type 0
  IsFoundIn s t None P = MayBeLeftSince (λ S. ⊥) s (events_of t.trace) [] P
  IsFoundIn s t (Some c) P =
      (t' : Traced) × (is : TracedCall (served geometry stands marks room changed).has_use t c.call c.answer t')
      × MayBeLeftSince (λ S. ⊥) s (events_of t.trace) (is.entry.event ∷ []) P

  -- A life from a plain pool s is a trace from s. The stop leaves a pool that may be found after a stop there, and life goes on
  -- from that one.
  pub record IsRun (s : PlainPool) (l : Life M) (GoesOn : PlainPool → Type 0) : Type 0 where
    pub plainly : List (Asked Traced)
    pub is_traced : AreTraced (served geometry stands marks room changed) l.opened s l.opened (traced s []) l.calls plainly
    -- what the stop left is the image of a commit, so it can be opened
    pub is_pool : (g : Geometry) × IsPool g l.image
    pub found : PlainPool
    pub stands_for : StandsFor l.image found
    pub left : IsFoundIn s (last_of (traced s []) plainly) l.current found
    pub goes_on : GoesOn found

  abbrev pub AreRuns : PlainPool → List (Life M) → Type 0
  AreRuns s [] = ⊤
  AreRuns s (l ∷ ls) = IsRun s l (λ P. AreRuns P ls)
