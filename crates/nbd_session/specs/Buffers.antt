-- Internal: the buffers of a session, and how much of the first is filled.
use Rattle.std.specs.Prelude.{ℕ, ◌<◌, ◌≤◌, List, length, take}
use Rattle.nbd_wire.specs.declared.Kind.TheVariants as kinds
use Rattle.nbd_wire.specs.Reading.{wanted}
use Rattle.nbd_session.specs.declared.phase.Course.TheVariants.{Listens, Works}
use Rattle.nbd_session.specs.declared.phase.Phase.{Phase}
use Rattle.nbd_session.specs.Requests.{IsLeft}
use Rattle.nbd_session.specs.declared.phase.Phase.TheVariants.{Flags, Options, Transmission, Ended}

-- how many bytes must have come before the session goes on
abbrev pub wanted_in : Phase → List ℕ → ℕ
wanted_in (Flags profile) text = wanted kinds.Flags text
wanted_in (Options terms) text = wanted kinds.Options text
wanted_in (Transmission volume size (Listens manner)) text = wanted kinds.Requests text
wanted_in (Transmission volume size (Works manner rest)) text = 1
wanted_in Ended text = 1

-- what is left of a request lies in the volume
abbrev pub IsSound : Phase → Type 0
IsSound (Flags profile) = Unit {0}
IsSound (Options terms) = Unit {0}
IsSound (Transmission volume size (Listens manner)) = Unit {0}
IsSound (Transmission volume size (Works manner rest)) = IsLeft size rest
IsSound Ended = Unit {0}

-- `room_in` and `room_out` are the bytes for which the buffers have memory
pub record AreBuffers (phase : Phase) (filled : ℕ) (input output : List ℕ) (room_in room_out : ℕ) : Type 0 where
  pub input_room : 1048604 ≤ room_in
  pub output_room : 2097172 ≤ room_out
  pub greeted : 18 ≤ length output
  pub output_len : length output ≤ 2097172
  pub in_range : filled ≤ length input
  pub partial : filled < wanted_in phase (take filled input)
  pub sound : IsSound phase
