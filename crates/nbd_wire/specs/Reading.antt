-- Trusted reading: how a frame is read from its front (own).
use Rattle.std.specs.Borrow.{Bor}
use Rattle.std.specs.Option.{option_map}
use Rattle.std.specs.Prelude.{◌≡◌, ℕ, zero, suc, ◌+◌, ◌*◌, ◌≤◌, Option, Some, None, Bool, true, false, List, take, drop, length, nat_le, nat_lt, ◌==◌, ◌&&◌, ◌||◌, bytes_eq, if◌then◌else◌}
use Rattle.nbd_wire.specs.declared.Kind.{Kind}
use Rattle.nbd_wire.specs.declared.Kind.TheVariants.{Flags, Options, Requests}
use Rattle.nbd_wire.specs.declared.Request.{Request}
use Rattle.nbd_wire.specs.declared.Frame.{Frame}
use Rattle.nbd_wire.specs.declared.Frame.TheVariants.{ClientFlags, ClientOption, Command, Malformed}
use Rattle.nbd_wire.specs.declared.TheConstants.{OPTION_MAGIC, REQUEST_MAGIC, MAX_OPTION, MAX_REQUEST}
use Rattle.nbd_wire.specs.Numbers.{number}
use Rattle.nbd_wire.specs.declared.contexts.Said.{Said}
use Rattle.nbd_wire.specs.Contexts.{allocation, base, since_or}
use Rattle.nbd_wire.specs.Grammar.{Message, client_flags, client_option, command, malformed, payload_len}

-- the bytes of the fixed part
abbrev pub fixed_len : Kind → ℕ
fixed_len Flags = 4
fixed_len Options = 16
fixed_len Requests = 28

-- the fixed part of an option
pub record Head : Type 0 where
  pub magic : ℕ
  pub option : ℕ
  pub len : ℕ

unfoldable pub option_at : List ℕ → Head
option_at text =
    let a = drop 8 text in
    let b = drop 4 a in
    record { magic = number 8 text; option = number 4 a; len = number 4 b }

unfoldable pub request_at : List ℕ → Request
request_at text =
    let a = drop 4 text in
    let b = drop 2 a in
    let c = drop 2 b in
    let d = drop 8 c in
    let e = drop 8 d in
    record { flags = number 2 a; kind = number 2 b; cookie = number 8 c; offset = number 8 d; len = number 4 e }

abbrev pub is_good_option : Head → Bool
is_good_option h = h.magic == OPTION_MAGIC && nat_le h.len MAX_OPTION

abbrev pub is_good_request : ℕ → Request → Bool
is_good_request magic r = magic == REQUEST_MAGIC && nat_le (payload_len r) MAX_REQUEST

abbrev pub message_of_flags : ℕ → Message
message_of_flags flags = if flags == 1 then client_flags false else if flags == 3 then client_flags true else malformed

-- how long the frame is whose fixed part stands at the front
unfoldable pub whole_len : Kind → List ℕ → ℕ
whole_len Flags text = 4
whole_len Options text = if is_good_option (option_at text) then 16 + (option_at text).len else 16
whole_len Requests text = if is_good_request (number 4 text) (request_at text) then 28 + payload_len (request_at text) else 28

-- what the frame at the front says
unfoldable pub message_at : Kind → List ℕ → Message
message_at Flags text = message_of_flags (number 4 text)
message_at Options text =
    if is_good_option (option_at text) then client_option (option_at text).option (take (option_at text).len (drop 16 text)) else malformed
message_at Requests text =
    if is_good_request (number 4 text) (request_at text) then command (request_at text) (take (payload_len (request_at text)) (drop 28 text)) else malformed

-- the whole first frame has come
abbrev pub IsWhole : Kind → List ℕ → Type 0
IsWhole kind text = (fixed_len kind ≤ length text) × (whole_len kind text ≤ length text)

-- what a frame of the program says
abbrev pub message_of : Frame → Message
message_of (ClientFlags no_zeroes) = client_flags no_zeroes
message_of (ClientOption option payload) = client_option option payload.now
message_of (Command request payload) = command request payload.now
message_of Malformed = malformed

-- how many bytes must have come before the first frame can be read: the fixed part, and then all of it
unfoldable pub wanted : Kind → List ℕ → ℕ
wanted kind text = if nat_lt (length text) (fixed_len kind) then fixed_len kind else whole_len kind text

-- the name in the data of INFO and GO, where the data is exactly a name and as many types as it says
unfoldable pub name_in : List ℕ → Option (List ℕ)
name_in text =
    let n = number 4 text in
    let a = drop 4 text in
    let b = drop n a in
    let k = number 2 b in
    if nat_lt (length text) 4 then None else if nat_lt (length a) n then None else if nat_lt (length b) 2 then None
    else if length (drop 2 b) == 2 * k then Some (take n a) else None

-- a text stands at the front, behind its length
unfoldable pub has_string : List ℕ → Bool
has_string text = nat_le 4 (length text) && nat_le (number 4 text) (length (drop 4 text))

unfoldable pub string_at : List ℕ → List ℕ
string_at text = take (number 4 text) (drop 4 text)

unfoldable pub behind_string : List ℕ → List ℕ
behind_string text = drop (number 4 text) (drop 4 text)

-- Whether a text is exactly so many queries; and if so, whether one of them, or of those before, is the name of base:allocation, whether one is its namespace,
-- and what stands behind thinpool:since: in the last one that begins so.
abbrev pub told_by : ℕ → List ℕ → Bool → Bool → List ℕ → Option (Bool × Bool × List ℕ)
told_by zero text asks all since = if length text == 0 then Some (asks, all, since) else None
told_by (suc n) text asks all since =
    if has_string text then told_by n (behind_string text) (asks || bytes_eq (string_at text) allocation) (all || bytes_eq (string_at text) base) (since_or (string_at text) since)
    else None

-- the same that the program found, or none
abbrev pub said : Said → Bool × Bool × List ℕ
said s = (s.asks, s.all, s.since.now)

abbrev pub SaidIs : Option Said → Option (Bool × Bool × List ℕ) → Type 0
SaidIs found told = option_map said found ≡ told

-- a name that the program found, or none
abbrev pub NameIs : Option (Bor (List ℕ)) → Option (List ℕ) → Type 0
NameIs found name = option_map (λ r. r.now) found ≡ name
