-- Trusted reading: what a client may send, phase by phase, by cases on whole texts (NBD's proto.md, "Newstyle negotiation", "Client
-- flags", "Request message"; the limits and where a connection ends are own).
use Rattle.std.specs.Prelude.{◌≡◌, ◌≢◌, ℕ, ◌<◌, ◌≤◌, ◌^◌, ◌⊎◌, Bool, true, false, List, [], ◌++◌, length, ◌==◌, if◌then◌else◌}
use Rattle.nbd_wire.specs.declared.Kind.{Kind}
use Rattle.nbd_wire.specs.declared.Kind.TheVariants.{Flags, Options, Requests}
use Rattle.nbd_wire.specs.declared.Request.{Request}
use Rattle.nbd_wire.specs.declared.TheConstants.{OPTION_MAGIC, REQUEST_MAGIC, MAX_OPTION, MAX_REQUEST, COMMAND_WRITE}
use Rattle.nbd_wire.specs.Numbers.{bytes}

-- what a frame says, without where it lies in memory
pub data Message : Type 0 where
  client_flags : (no_zeroes : Bool) → Message
  client_option : (option : ℕ) (payload : List ℕ) → Message
  command : (request : Request) (payload : List ℕ) → Message
  malformed : Message

-- the client flags FIXED_NEWSTYLE, and NO_ZEROES where it is set
abbrev pub flags_value : Bool → ℕ
flags_value false = 1
flags_value true = 3

-- magic, option, length, and what follows
unfoldable pub option_text : ℕ → ℕ → ℕ → List ℕ → List ℕ
option_text magic option len after = bytes 8 magic ++ (bytes 4 option ++ (bytes 4 len ++ after))

-- magic, command flags, type, cookie, offset, length, and what follows
unfoldable pub request_text : ℕ → Request → List ℕ → List ℕ
request_text magic r after =
    bytes 4 magic ++ (bytes 2 r.flags ++ (bytes 2 r.kind ++ (bytes 8 r.cookie ++ (bytes 8 r.offset ++ (bytes 4 r.len ++ after)))))

-- how many bytes follow the fixed part of a request
abbrev pub payload_len : Request → ℕ
payload_len r = if r.kind == COMMAND_WRITE then r.len else 0

pub record FitsRequest (r : Request) : Type 0 where
  pub flags : r.flags < 2 ^ 16
  pub kind : r.kind < 2 ^ 16
  pub cookie : r.cookie < 2 ^ 64
  pub offset : r.offset < 2 ^ 64
  pub len : r.len < 2 ^ 32

-- an option whose fixed part ends the connection: a wrong magic, or too many bytes of data
pub record IsBadOption (text : List ℕ) (magic option len : ℕ) : Type 0 where
  pub magic_fits : magic < 2 ^ 64
  pub option_fits : option < 2 ^ 32
  pub len_fits : len < 2 ^ 32
  pub wrong : (magic ≢ OPTION_MAGIC) ⊎ (MAX_OPTION < len)
  pub text_is : text ≡ option_text magic option len []

-- a request whose fixed part ends the connection: a wrong magic, or a WRITE of too many bytes
pub record IsBadRequest (text : List ℕ) (magic : ℕ) (r : Request) : Type 0 where
  pub magic_fits : magic < 2 ^ 32
  pub request_fits : FitsRequest r
  pub wrong : (magic ≢ REQUEST_MAGIC) ⊎ (MAX_REQUEST < payload_len r)
  pub text_is : text ≡ request_text magic r []

pub record IsOption (text : List ℕ) (option : ℕ) (payload : List ℕ) : Type 0 where
  pub option_fits : option < 2 ^ 32
  pub short : length payload ≤ MAX_OPTION
  pub text_is : text ≡ option_text OPTION_MAGIC option (length payload) payload

pub record IsRequest (text : List ℕ) (r : Request) (payload : List ℕ) : Type 0 where
  pub request_fits : FitsRequest r
  pub whole : length payload ≡ payload_len r
  pub short : payload_len r ≤ MAX_REQUEST
  pub text_is : text ≡ request_text REQUEST_MAGIC r payload

-- The whole text is this frame of this phase, or a fixed part that ends the connection.
abbrev pub IsFrame : Kind → Message → List ℕ → Type 0
IsFrame Flags (client_flags no_zeroes) text = text ≡ bytes 4 (flags_value no_zeroes)
IsFrame Flags malformed text = (flags : ℕ) × (flags < 2 ^ 32) × (flags ≢ 1) × (flags ≢ 3) × (text ≡ bytes 4 flags)
IsFrame Flags (client_option option payload) text = ⊥
IsFrame Flags (command r payload) text = ⊥
IsFrame Options (client_option option payload) text = IsOption text option payload
IsFrame Options malformed text = (magic option len : ℕ) × IsBadOption text magic option len
IsFrame Options (client_flags no_zeroes) text = ⊥
IsFrame Options (command r payload) text = ⊥
IsFrame Requests (command r payload) text = IsRequest text r payload
IsFrame Requests malformed text = (magic : ℕ) × (r : Request) × IsBadRequest text magic r
IsFrame Requests (client_flags no_zeroes) text = ⊥
IsFrame Requests (client_option option payload) text = ⊥

-- no frame of the phase begins the text: less than one came
abbrev pub IsPartial : Kind → List ℕ → Type 0
IsPartial kind text = (m : Message) (frame rest : List ℕ) → IsFrame kind m frame → text ≡ frame ++ rest → ⊥
