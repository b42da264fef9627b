-- Internal: reading from its front a chunk that the server sends, and its data.
use Rattle.std.specs.Borrow.{Bor}
use Rattle.std.specs.Option.{option_map}
use Rattle.std.specs.Prelude.{◌≡◌, ℕ, Option, Some, None, Bool, List, take, drop, length, nat_lt, ◌==◌, if◌then◌else◌}
use Rattle.nbd_wire.specs.declared.chunk_reading.Chunk.{Chunk}
use Rattle.nbd_wire.specs.declared.chunks.ChunkType.{ChunkType}
use Rattle.nbd_wire.specs.declared.chunks.ChunkType.TheVariants.{Done, Data, Hole, Status, Error}
use Rattle.nbd_wire.specs.declared.contexts.MetaContext.{MetaContext}
use Rattle.nbd_wire.specs.declared.contexts.MetaContext.TheVariants.{Allocation, Since}
use Rattle.nbd_wire.specs.declared.TheConstants.{ALLOCATION_CONTEXT, CHUNK_MAGIC, SINCE_CONTEXT}
use Rattle.nbd_wire.specs.Numbers.{number}

-- the type that a number is of
unfoldable pub chunk_type_of : ℕ → Option ChunkType
chunk_type_of code =
    if code == 0 then Some Done else if code == 1 then Some Data else if code == 2 then Some Hole else if code == 5 then Some Status
    else if code == 0x8001 then Some Error else None

abbrev pub ChunkIs : Option (Chunk × Bor (List ℕ)) → Option (Bool × ChunkType × ℕ × List ℕ × List ℕ) → Type 0
ChunkIs found told = option_map (λ r. (r.0.is_last, r.0.kind, r.0.cookie, r.0.payload.now, r.1.now)) found ≡ told

unfoldable pub chunk_in : List ℕ → Option (Bool × ChunkType × ℕ × List ℕ × List ℕ)
chunk_in text =
    let a = drop 4 text in
    let b = drop 2 a in
    let c = drop 2 b in
    let d = drop 8 c in
    let behind = drop 20 text in
    let len = number 4 d in
    if nat_lt (length text) 20 then None
    else if number 4 text == CHUNK_MAGIC then
    if nat_lt 1 (number 2 a) then None
    else if nat_lt (length behind) len then None
    else option_map (λ kind. (number 2 a == 1, kind, number 8 c, take len behind, drop len behind)) (chunk_type_of (number 2 b)) else None

-- the data of the types
unfoldable pub data_in : List ℕ → Option (ℕ × List ℕ)
data_in text = if nat_lt (length text) 8 then None else Some (number 8 text, drop 8 text)

unfoldable pub hole_in : List ℕ → Option (ℕ × ℕ)
hole_in text = if length text == 12 then Some (number 8 text, number 4 (drop 8 text)) else None

unfoldable pub error_in : List ℕ → Option ℕ
error_in text = if length text == 6 then if number 2 (drop 4 text) == 0 then Some (number 4 text) else None else None

-- the context that a number is of
unfoldable pub context_of : ℕ → Option MetaContext
context_of code = if code == ALLOCATION_CONTEXT then Some Allocation else if code == SINCE_CONTEXT then Some Since else None

unfoldable pub status_in : List ℕ → Option (MetaContext × List ℕ)
status_in text = if nat_lt (length text) 4 then None else option_map (λ context. (context, drop 4 text)) (context_of (number 4 text))

unfoldable pub extent_in : List ℕ → Option ((ℕ × ℕ) × List ℕ)
extent_in text = if nat_lt (length text) 8 then None else Some ((number 4 text, number 4 (drop 4 text)), drop 8 text)

unfoldable pub context_data_in : List ℕ → Option (ℕ × List ℕ)
context_data_in text = if nat_lt (length text) 4 then None else Some (number 4 text, drop 4 text)
