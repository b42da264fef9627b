-- Trusted reading: what the server sends, as functions of what it says (NBD's proto.md, "Fixed newstyle negotiation",
-- "Option reply types", "Simple reply message").
use Rattle.std.specs.Prelude.{◌≡◌, ℕ, ◌+◌, ◌<◌, ◌^◌, Bool, if◌then◌else◌, List, [], ◌++◌, length, take, drop, replicate}
use Rattle.std.specs.List.{flat_map}
use Rattle.nbd_wire.specs.declared.writing.ReplyType.{ReplyType}
use Rattle.nbd_wire.specs.declared.writing.ReplyType.TheVariants.{Acknowledged, Server, Information, Context, Unsupported, Policy, Invalid, Unknown}
use Rattle.nbd_wire.specs.declared.TheConstants.{GREETING_MAGIC, OPTION_MAGIC, REPLY_MAGIC, SIMPLE_REPLY_MAGIC, HANDSHAKE_FLAGS, INFO_EXPORT, INFO_BLOCK_SIZE}
use Rattle.nbd_wire.specs.Numbers.{bytes}

-- the greeting: two magics and the handshake flags
unfoldable pub greeting : List ℕ
greeting = bytes 8 GREETING_MAGIC ++ bytes 8 OPTION_MAGIC ++ bytes 2 HANDSHAKE_FLAGS

-- the number of each type of option reply; an error has the highest bit set
abbrev pub reply_code : ReplyType → ℕ
reply_code Acknowledged = 1
reply_code Server = 2
reply_code Information = 3
reply_code Context = 4
reply_code Unsupported = 0x80000001
reply_code Policy = 0x80000002
reply_code Invalid = 0x80000003
reply_code Unknown = 0x80000006

-- the fixed part of an option reply: magic, option, type, length
unfoldable pub option_reply_head : ℕ → ReplyType → ℕ → List ℕ
option_reply_head option reply len = bytes 8 REPLY_MAGIC ++ bytes 4 option ++ bytes 4 (reply_code reply) ++ bytes 4 len

abbrev pub option_reply : ℕ → ReplyType → List ℕ → List ℕ
option_reply option reply payload = option_reply_head option reply (length payload) ++ payload

-- the information INFO_EXPORT: the size of the volume in bytes, and the transmission flags
unfoldable pub export_info : ℕ → ℕ → List ℕ
export_info size flags = bytes 2 INFO_EXPORT ++ bytes 8 size ++ bytes 2 flags

-- the information INFO_BLOCK_SIZE: the least, preferred and greatest block in bytes
unfoldable pub block_size_info : ℕ → ℕ → ℕ → List ℕ
block_size_info least preferred most = bytes 2 INFO_BLOCK_SIZE ++ bytes 4 least ++ bytes 4 preferred ++ bytes 4 most

-- the data of a reply SERVER: a name behind its length
unfoldable pub server_data : List ℕ → List ℕ
server_data name = bytes 4 (length name) ++ name

-- what follows the answer to EXPORT_NAME, where the client did not say that it wants none
unfoldable pub padding : Bool → List ℕ
padding no_zeroes = if no_zeroes then [] else replicate 124 0

-- the answer to EXPORT_NAME: the size of the volume in bytes, the transmission flags, and zeroes
unfoldable pub export_reply : ℕ → ℕ → Bool → List ℕ
export_reply size flags no_zeroes = bytes 8 size ++ bytes 2 flags ++ padding no_zeroes

-- the fixed part of a simple reply: magic, error, cookie
unfoldable pub simple_reply_head : ℕ → ℕ → List ℕ
simple_reply_head error cookie = bytes 4 SIMPLE_REPLY_MAGIC ++ bytes 4 error ++ bytes 8 cookie

abbrev pub simple_reply : ℕ → ℕ → List ℕ → List ℕ
simple_reply error cookie payload = simple_reply_head error cookie ++ payload

-- the data of INFO and GO: a name, and the types that are asked for
unfoldable pub info_text : List ℕ → List ℕ → List ℕ
info_text name types = bytes 4 (length name) ++ (name ++ (bytes 2 (length types) ++ flat_map (bytes 2) types))

pub record IsInfo (text name types : List ℕ) : Type 0 where
  pub name_fits : length name < 2 ^ 32
  pub count_fits : length types < 2 ^ 16
  pub text_is : text ≡ info_text name types

-- new has the front of old up to a place, then these bytes, and then what old has there
pub record Puts (old : List ℕ) (place : ℕ) (added : List ℕ) (new : List ℕ) (end : ℕ) : Type 0 where
  pub front : take end new ≡ take place old ++ added
  pub rest : drop end new ≡ drop end old
  pub ends : end ≡ place + length added
  pub len : length new ≡ length old
