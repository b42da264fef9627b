-- Trusted reading: what a long READ is answered in chunks, where blocks of it may have no data block (NBD's proto.md, "Structured reply types":
-- NBD_REPLY_TYPE_OFFSET_HOLE; where holes are looked for, and how far one answer tells them, is own).
use Rattle.std.specs.Prelude.{◌≡◌, ℕ, zero, suc, ◌+◌, ◌-◌, ◌*◌, ◌/◌, ◌%◌, ◌==◌, Bool, true, false, not, ◌&&◌, ◌||◌, nat_le, nat_lt, min, if◌then◌else◌, List, [], ◌∷◌, ◌++◌, length, take, drop, replicate}
use Rattle.std.specs.List.{concat, list_all}
use Rattle.tp_model.specs.Pool.{PlainPool, volume_sectors}
use Rattle.tp_listings.specs.declared.extent.Extent.{Extent}
use Rattle.tp_listings.specs.Pages.{AreOrdered, IsPage}
use Rattle.nbd_wire.specs.declared.Request.{Request}
use Rattle.nbd_wire.specs.declared.contexts.MetaContext.TheVariants.{Allocation}
use Rattle.nbd_wire.specs.Chunks.{data_chunk, hole_chunk}
use Rattle.nbd_session.specs.Status.{AreTold, between, blocks_to, bytes_of, extents_in, first_block}

-- ---- where holes are looked for

-- some bytes, which are all zero
abbrev pub is_blank : List ℕ → Bool
is_blank bytes = nat_lt 0 (length bytes) && list_all (λ (b : ℕ). b == 0) bytes

-- one of so many pieces of some bytes is: the first has so many bytes, each other as many as the least block, and the last what is left
unfoldable pub any_blank : ℕ → ℕ → List ℕ → Bool
any_blank zero part bytes = false
any_blank (suc n) part bytes = is_blank (take (min part (length bytes)) bytes) || any_blank n 65536 (drop (min part (length bytes)) bytes)

-- Of what was read, between multiples of 64 KiB, a piece is all zero. Where none is, each block that it lies in has a data block, since others read zero.
abbrev pub has_blank : Request → List ℕ → Bool
has_blank r given = any_blank 17 (65536 - r.offset % 65536) given

-- ---- what is sent

-- so many bytes of data (0) up to another place, if there are some
abbrev pub data_to : ℕ → ℕ → List (ℕ × ℕ)
data_to at to = if nat_lt at to then (to - at, 0) ∷ [] else []

-- All bytes of a READ in extents, by a page of the blocks that are mapped, as BLOCK_STATUS has them: what lies behind the page is data.
abbrev pub read_extents : ℕ → Request → List Extent → ℕ → List (ℕ × ℕ)
read_extents unit r runs blocks =
    extents_in Allocation unit r.offset (between r.offset (r.offset + r.len) (unit * blocks)) runs ++ data_to (between r.offset (r.offset + r.len) (unit * blocks)) (r.offset + r.len)

-- An extent as a chunk: its bytes, which stand in front of what is given, or that they are a hole. How many bytes that has.
abbrev pub content_text : ℕ → Bool → ℕ → ℕ × ℕ → List ℕ → List ℕ
content_text cookie is_last at x given = if x.1 == 0 then data_chunk is_last cookie at (take x.0 given) else hole_chunk is_last cookie at x.0

abbrev pub content_len : ℕ × ℕ → ℕ
content_len x = if x.1 == 0 then 28 + x.0 else 32

-- each extent as a chunk, from this byte of the volume on; the last one says that it is
abbrev pub contents_text : ℕ → ℕ → List (ℕ × ℕ) → List ℕ → List ℕ
contents_text cookie at [] given = []
contents_text cookie at (x ∷ xs) given = content_text cookie (length xs == 0) at x given ++ contents_text cookie (at + x.0) xs (drop x.0 given)

abbrev pub contents_len : List (ℕ × ℕ) → ℕ
contents_len [] = 0
contents_len (x ∷ xs) = content_len x + contents_len xs

-- a READ with the flag DF, the third, is answered in one chunk
abbrev pub wants_one_chunk : Request → Bool
wants_one_chunk r = r.flags / 4 % 2 == 1

-- Chunks are sent where they have no more bytes than are read, which is where there is a hole; else the bytes in one chunk.
abbrev pub shorter_text : Request → List (ℕ × ℕ) → List ℕ → List ℕ
shorter_text r extents given = if nat_le (contents_len extents) r.len then contents_text r.cookie r.offset extents given else data_chunk true r.cookie r.offset given

abbrev pub may_be_cut : Request → List (ℕ × ℕ) → Bool
may_be_cut r extents = not (wants_one_chunk r) || length extents == 1

abbrev pub read_text : Request → List (ℕ × ℕ) → List ℕ → List ℕ
read_text r extents given = if may_be_cut r extents then shorter_text r extents given else data_chunk true r.cookie r.offset given

-- What was read is told by a page of the blocks that are mapped, by what a walk from the request's first block on listed.
pub record IsHoled (unit : ℕ) (r : Request) (given : List ℕ) (slots : List (ℕ × ℕ)) (sent : List ℕ) : Type 0 where
  pub runs : List Extent
  pub blocks : ℕ
  pub page : AreOrdered slots → IsPage [] slots (first_block unit r) (blocks_to unit r) runs blocks
  pub sent_is : sent ≡ read_text r (read_extents unit r runs blocks) given

-- ---- what such an answer tells of a plain volume

-- the bytes of a READ
abbrev pub bytes_in : PlainPool → ℕ → Request → List ℕ
bytes_in s id r = concat (take (r.len / 512) (drop (r.offset / 512) (volume_sectors s id)))

abbrev pub Anything : ℕ → Type 0
Anything k = Unit {0}

-- what a client has who puts the chunks of these extents over its buffer: the bytes of data, and zeros where a hole is
abbrev pub filled : List (ℕ × ℕ) → List ℕ → List ℕ
filled [] given = []
filled (x ∷ xs) given = (if x.1 == 0 then take x.0 given else replicate x.0 0) ++ filled xs (drop x.0 given)

-- What is sent is chunks, one for each extent, of all bytes of the request; each hole is one.
pub record TellsHoles (Hole : ℕ → Type 0) (r : Request) (given sent : List ℕ) : Type 0 where
  pub extents : List (ℕ × ℕ)
  pub sent_is : sent ≡ contents_text r.cookie r.offset extents given
  pub told : AreTold Allocation Anything Hole r.offset extents
  pub all : bytes_of extents ≡ r.len
