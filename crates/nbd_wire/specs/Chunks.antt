-- Trusted reading: the chunks of structured replies, as functions of what they say (NBD's proto.md, "Structured reply chunk message",
-- "Structured reply types"). A reply is one chunk or several, of which the last alone says that it is.
use Rattle.std.specs.Prelude.{ℕ, ◌+◌, Bool, true, if◌then◌else◌, List, ◌++◌, length}
use Rattle.nbd_wire.specs.declared.chunks.ChunkType.{ChunkType}
use Rattle.nbd_wire.specs.declared.chunks.ChunkType.TheVariants.{Done, Data, Hole, Status, Error}
use Rattle.nbd_wire.specs.declared.TheConstants.{CHUNK_MAGIC}
use Rattle.nbd_wire.specs.Numbers.{bytes}

-- the number of each type; an error has the highest bit set
abbrev pub chunk_code : ChunkType → ℕ
chunk_code Done = 0
chunk_code Data = 1
chunk_code Hole = 2
chunk_code Status = 5
chunk_code Error = 0x8001

-- the flags of a chunk: DONE, of the last one
abbrev pub done_flag : Bool → ℕ
done_flag is_last = if is_last then 1 else 0

-- the fixed part of a chunk: magic, flags, type, cookie, length
unfoldable pub chunk_head : Bool → ChunkType → ℕ → ℕ → List ℕ
chunk_head is_last kind cookie len = bytes 4 CHUNK_MAGIC ++ bytes 2 (done_flag is_last) ++ bytes 2 (chunk_code kind) ++ bytes 8 cookie ++ bytes 4 len

abbrev pub chunk : Bool → ChunkType → ℕ → List ℕ → List ℕ
chunk is_last kind cookie payload = chunk_head is_last kind cookie (length payload) ++ payload

-- what stands before so many bytes of a READ: the fixed part, and the place in the volume where they begin
unfoldable pub data_head : Bool → ℕ → ℕ → ℕ → List ℕ
data_head is_last cookie offset len = chunk_head is_last Data cookie (8 + len) ++ bytes 8 offset

-- bytes that a READ is answered, which begin at this place
abbrev pub data_chunk : Bool → ℕ → ℕ → List ℕ → List ℕ
data_chunk is_last cookie offset given = data_head is_last cookie offset (length given) ++ given

-- so many bytes from this place on are zero, and are not sent
unfoldable pub hole_chunk : Bool → ℕ → ℕ → ℕ → List ℕ
hole_chunk is_last cookie offset len = chunk_head is_last Hole cookie 12 ++ bytes 8 offset ++ bytes 4 len

-- an error, whose text has no bytes
unfoldable pub error_chunk : ℕ → ℕ → List ℕ
error_chunk error cookie = chunk_head true Error cookie 6 ++ bytes 4 error ++ bytes 2 0

-- the request is done
unfoldable pub done_chunk : ℕ → List ℕ
done_chunk cookie = chunk_head true Done cookie 0
