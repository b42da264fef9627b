-- Trusted reading: the plain pool for which the image of a name stands, from one command to the next (own).
use Rattle.std.specs.Prelude.{◌≡◌, ◌+◌, ◌≤◌, ℕ, IsTrue, List, ◌∷◌, ◌++◌, None, Option, Some, Ok, Err, codes}
use Rattle.tp_model.specs.declared.refusal.Refusal.{Refusal}
use Rattle.tp_model.specs.Sectors.{Sector}
use Rattle.tp_model.specs.Geometry.{Geometry, fixed_part}
use Rattle.tp_model.specs.Pool.{PlainPool}
use Rattle.tp_model.specs.Calls.{Call, Done, Makes, after_refusal, refusal_of, reply}
use Rattle.tp_model.specs.PoolStops.{reopened}
use Rattle.tp_model.specs.Status.{pool_line}
use Rattle.tp_model.specs.Disk.{DiskState}
use Rattle.tp_model.specs.DiskStops.{AfterStop}
use Rattle.tp_msg.specs.Messages.{reading}
use Rattle.tp_hub.specs.Desks.{Exchange}
use Rattle.nbd_session.specs.Turns.{closed}
use Rattle.tp_hub.specs.Serving.{Slots, sessions_of}
use Rattle.tp_hub.specs.Streams.{StreamCall}
use Rattle.tp_images.specs.Deeds.{Closes, Deed, Opens, left_at}
use Rattle.tp_images.specs.declared.way.Way.{Way}
use Rattle.tp_image.specs.Fresh.{empty_pool}
use Rattle.tp_commands.specs.First.{first_pool}
use Rattle.tp_commands.specs.Lives.{IsFoundAs, IsPlainLife}
use Rattle.tp_commands.specs.Printing.{IsTextOf, Prints, newline, status_call}

-- The image of a name stands for this plain pool: it was last closed as an honest disk, and whatever a stop leaves of that is opened as this pool, and as no other.
pub record KeepsPool (name : List ℕ) (deeds : List Deed) (s : PlainPool) : Type 0 where
  pub closed : DiskState
  pub last : left_at name deeds ≡ Some closed
  pub honest : IsTrue closed.is_honest
  pub found : (image : List Sector) → AfterStop closed.cells image → IsFoundAs (λ P. P ≡ s) image

-- the image was made as an honest disk, or a device opened as one, and closed
abbrev pub IsMadeHonest : List ℕ → List Deed → List Deed → Type 0
IsMadeHonest name old new = (way : Way) (disk after : DiskState) → new ≡ Closes name after ∷ Opens way name disk ∷ old → IsTrue disk.is_honest

-- A call of the pool for which an image stands: no test of the plain pool refuses it, its text is printed on a line, and the image stands for the pool that it makes, opened again.
pub record IsAccepted (name : List ℕ) (new : List Deed) (s : PlainPool) (call : Call) (calls calls' : List StreamCall) : Type 0 where
  pub passes : refusal_of s call ≡ None
  pub made : PlainPool
  pub makes : Makes s call made
  pub text : List ℕ
  pub text_is : IsTextOf (reply s call) text
  pub prints : Prints calls calls' (text ++ newline) (Ok (tt {0}))
  pub keeps : KeepsPool name new (reopened made)

-- A test of the plain pool refuses the call: nothing is printed, and the image stands for what the refusal leaves of the pool, opened again.
pub record IsTurnedDown (name : List ℕ) (new : List Deed) (s : PlainPool) (call : Call) (reason : Refusal) (calls calls' : List StreamCall) : Type 0 where
  pub fails : refusal_of s call ≡ Some reason
  pub unprinted : calls' ≡ calls
  pub keeps : KeepsPool name new (reopened (after_refusal reason s))

-- A line is no message: nothing is printed, and the image stands for the pool still.
pub record IsUnread (name line : List ℕ) (new : List Deed) (s : PlainPool) (reason : Refusal) (calls calls' : List StreamCall) : Type 0 where
  pub unread : reading line ≡ Err reason
  pub unprinted : calls' ≡ calls
  pub keeps : KeepsPool name new s

-- What was asked of the pool for which an image stands is a life of that plain pool, from a hub without sessions to the disk as which the image was closed; and the image stands for the pool
-- at its end, opened again.
pub record IsLivedOn (name : List ℕ) (new : List Deed) (s : PlainPool) (asks : List Exchange) : Type 0 where
  pub begun : Slots
  pub ended : Slots
  pub before : DiskState
  pub after : DiskState
  pub no_session : sessions_of begun ≡ closed
  pub last : left_at name new ≡ Some after
  pub life : IsPlainLife s begun ended asks (Some Done) before after
  pub keeps : KeepsPool name new (reopened life.over.pool)

-- A pool of these sizes was made, and then in it a volume of id 0, and both were told. used: so many metadata blocks are in use then.
pub record IsFirstMade (g : Geometry) (used : ℕ) (calls calls' : List StreamCall) : Type 0 where
  pub few : used ≤ fixed_part g + 9
  pub between : List StreamCall
  pub formatted : Prints calls between (pool_line (empty_pool g) ++ newline) (Ok (tt {0}))
  pub given : Prints between calls' (codes "ok" ++ newline) (Ok (tt {0}))

-- The same, and then the line of that pool was told, or of its volume; the image of the name stands for it still.
pub record IsFirstTold (name : List ℕ) (new : List Deed) (g : Geometry) (id : Option ℕ) (calls calls' : List StreamCall) : Type 0 where
  pub used : ℕ
  pub between : List StreamCall
  pub made : IsFirstMade g used calls between
  pub told : IsAccepted name new (first_pool g used) (status_call id) between calls'
