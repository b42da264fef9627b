-- Trusted reading: how the bytes of a client fall into frames, one byte after another (own).
use Rattle.std.specs.Prelude.{ℕ, zero, suc, ◌+◌, ◌-◌, Bool, false, List, [], ◌∷◌, ◌++◌, length, take, nat_lt, ◌==◌, ◌||◌, if◌then◌else◌}
use Rattle.nbd_wire.specs.declared.Kind.{Kind}
use Rattle.nbd_wire.specs.declared.Kind.TheVariants.{Flags, Options, Requests}
use Rattle.nbd_wire.specs.Reading.{fixed_len, wanted}
use Rattle.tp_hub.specs.declared.stream.Received.{Received}
use Rattle.tp_hub.specs.declared.stream.Received.TheVariants.{Got, NotNow, End, Broken}
use Rattle.tp_hub.specs.Streams.{Flushes, Gave, GaveAgain, GaveEnd, GaveNone, StreamCall, Took, TookAgain, TookNone}

-- Where a client stands: of which kind the frame is that has begun, or comes next, which bytes of its fixed part have come, and how many bytes of its data are
-- missing.
pub record Framed : Type 0 where
  pub kind : Kind
  pub head : List ℕ
  pub left : ℕ

abbrev pub framed : Kind → List ℕ → ℕ → Framed
framed kind head left = record { kind = kind; head = head; left = left }

-- A frame behind the options is a request where it begins with the first byte of one, which no option has.
abbrev pub first_kind : Kind → ℕ → Kind
first_kind Flags first = Flags
first_kind Options first = if first == 37 then Requests else Options
first_kind Requests first = Requests

-- what comes behind a frame
abbrev pub kind_behind : Kind → Kind
kind_behind Flags = Options
kind_behind Options = Options
kind_behind Requests = Requests

-- these bytes of a fixed part have come: where that is all of it, its data is missing
abbrev pub head_come : Kind → List ℕ → Framed
head_come kind head = if nat_lt (length head) (fixed_len kind) then framed kind head 0 else framed (kind_behind kind) [] (wanted kind head - fixed_len kind)

-- of which kind a frame is of which these bytes and this one have come
abbrev pub kind_at : Kind → List ℕ → ℕ → Kind
kind_at kind [] byte = first_kind kind byte
kind_at kind (h ∷ head) byte = kind

-- one byte more
abbrev pub next_at : Kind → List ℕ → ℕ → ℕ → Framed
next_at kind head (suc n) byte = framed kind head n
next_at kind head zero byte = head_come (kind_at kind head byte) (head ++ byte ∷ [])

abbrev pub next : Framed → ℕ → Framed
next f byte = next_at f.kind f.head f.left byte

-- more bytes, one after another
abbrev pub passed : Framed → List ℕ → Framed
passed f [] = f
passed f (byte ∷ bytes) = passed (next f byte) bytes

-- how many bytes are missing of a frame that has begun, as far as its fixed part tells; 0 between frames
abbrev pub missing_at : Kind → List ℕ → ℕ → ℕ
missing_at kind head (suc n) = suc n
missing_at kind [] zero = 0
missing_at kind (h ∷ head) zero = fixed_len kind - length (h ∷ head)

abbrev pub missing_of : Framed → ℕ
missing_of f = missing_at f.kind f.head f.left

abbrev pub is_between : Framed → Bool
is_between f = missing_of f == 0

-- a frame ends in these bytes
abbrev pub ends_in : Framed → List ℕ → Bool
ends_in f [] = false
ends_in f (byte ∷ bytes) = is_between (next f byte) || ends_in (next f byte) bytes

-- what a read brought
abbrev pub given : Received → List ℕ → List ℕ
given (Got count) buffer = take count buffer
given NotNow buffer = []
given End buffer = []
given Broken buffer = []

-- all that reads gave
abbrev pub bytes_of : StreamCall → List ℕ
bytes_of (Gave bytes) = bytes
bytes_of GaveAgain = []
bytes_of GaveEnd = []
bytes_of GaveNone = []
bytes_of (Took bytes) = []
bytes_of TookAgain = []
bytes_of TookNone = []
bytes_of (Flushes done) = []

abbrev pub given_in : List StreamCall → List ℕ
given_in [] = []
given_in (call ∷ calls) = bytes_of call ++ given_in calls

-- of a client of whom nothing was read
abbrev pub at_first : Framed
at_first = framed Flags [] 0

-- ---- who was refused

-- how many of these are set
abbrev pub set_in : List Bool → ℕ
set_in [] = 0
set_in (flag ∷ flags) = (if flag then 1 else 0) + set_in flags
