-- Internal: who is served, as a line of text (own).
use Rattle.std.specs.Prelude.{◌≡◌, ℕ, ◌+◌, ◌<◌, Bool, true, false, if◌then◌else◌, List, [], ◌∷◌, ◌++◌, codes, length, slice_index_or, IsPermutation, IsSorted}
use Rattle.std.specs.Fmt.{decimal}
use Rattle.std.specs.Ordering.{nat_cmp}
use Rattle.tp_hub.specs.declared.seat.Seat.{Seat}
use Rattle.tp_hub.specs.declared.seat.Seat.TheVariants.{Free, Waits, Holds}
use Rattle.tp_hub.specs.Seats.{seat_at}
use Rattle.tp_hub.specs.Serving.{Slots}

-- who is at each of 64 numbers
pub record AreSeats (slots : Slots) (seats : List Seat) : Type 0 where
  pub count : length seats ≡ 64
  pub each : (k : ℕ) → k < 64 → slice_index_or seats k Free ≡ seat_at slots k

abbrev pub is_there : Seat → Bool
is_there Free = false
is_there Waits = true
is_there (Holds id) = true

-- how many are there
abbrev pub there_in : List Seat → ℕ
there_in [] = 0
there_in (seat ∷ seats) = (if is_there seat then 1 else 0) + there_in seats

abbrev pub held_of : Seat → List ℕ
held_of Free = []
held_of Waits = []
held_of (Holds id) = id ∷ []

-- what they hold: an id for each who has a volume
abbrev pub held_in : List Seat → List ℕ
held_in [] = []
held_in (seat ∷ seats) = held_of seat ++ held_in seats

-- the same ids, in ascending order
abbrev pub AreInOrder : List ℕ → List ℕ → Type 0
AreInOrder held ids = IsPermutation held ids × IsSorted nat_cmp ids

-- each behind a space
abbrev pub ids_text : List ℕ → List ℕ
ids_text [] = []
ids_text (id ∷ ids) = 32 ∷ (decimal id ++ ids_text ids)

-- how many are there, and what they hold
abbrev pub IsCensus : List Seat → List ℕ → Type 0
IsCensus seats line = (ids : List ℕ) × AreInOrder (held_in seats) ids × (line ≡ (decimal (there_in seats) ++ codes " of 64:") ++ ids_text ids)
