-- Trusted reading: who is at a number of a hub (own).
use Rattle.std.specs.Prelude.{ℕ, Option, Some, None}
use Rattle.nbd_session.specs.declared.phase.Phase.{Phase}
use Rattle.nbd_session.specs.declared.phase.Phase.TheVariants.{Flags, Options, Transmission, Ended}
use Rattle.nbd_session.specs.Session.{State}
use Rattle.tp_hub.specs.declared.seat.Seat.{Seat}
use Rattle.tp_hub.specs.declared.seat.Seat.TheVariants.{Free, Waits, Holds}
use Rattle.tp_hub.specs.Serving.{Slots, slot_at}

-- whose session is in this phase
abbrev pub seat_in : Phase → Seat
seat_in (Flags profile) = Waits
seat_in (Options terms) = Waits
seat_in (Transmission volume size course) = Holds volume
seat_in Ended = Free

-- who has this place
abbrev pub seat_of : Option State → Seat
seat_of None = Free
seat_of (Some s) = seat_in s.phase

abbrev pub seat_at : Slots → ℕ → Seat
seat_at slots n = seat_of (slot_at slots n)
