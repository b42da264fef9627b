-- Trusted reading: what becomes of a request of transmission before a pool is asked.
use Rattle.std.specs.Prelude.{◌≡◌, ℕ, ◌+◌, ◌-◌, ◌*◌, ◌/◌, ◌%◌, ◌<◌, ◌≤◌, Bool, false, not, ◌&&◌, ◌||◌, List, [], ◌∷◌, ◌++◌, ◌==◌, if◌then◌else◌, ◌⊎◌, Option, IsTrue, nat_lt}
use Rattle.std.specs.Option.{option_map_or}
use Rattle.tp_model.specs.Geometry.{Geometry, sectors_of_volume}
use Rattle.tp_model.specs.Requests as forms
use Rattle.tp_model.specs.declared.refusal.NbdError.{NbdError}
use Rattle.tp_model.specs.declared.refusal.NbdError.TheVariants.{Invalid, NoSpace}
use Rattle.tp_model.specs.Calls.{Call, Flush, Trim, WriteZeroes, first_failed}
use Rattle.nbd_wire.specs.declared.Request.{Request}
use Rattle.nbd_wire.specs.declared.TheConstants.{COMMAND_READ, COMMAND_WRITE, COMMAND_DISC, COMMAND_FLUSH, COMMAND_TRIM, COMMAND_WRITE_ZEROES, COMMAND_BLOCK_STATUS}
use Rattle.nbd_wire.specs.Grammar.{Message, client_flags, client_option, command, malformed, IsRequest}
use Rattle.nbd_session.specs.declared.phase.Manner.{Manner}
use Rattle.nbd_session.specs.declared.batch.PieceKind.{PieceKind}
use Rattle.nbd_session.specs.declared.batch.PieceKind.TheVariants as kinds
use Rattle.nbd_session.specs.declared.request.Verdict.{Verdict}
use Rattle.nbd_session.specs.declared.request.Verdict.TheVariants as verdicts

-- the bytes of so many blocks
abbrev pub bytes_of_blocks : Geometry → ℕ → ℕ
bytes_of_blocks g n = 512 * (n * g.block_sectors)

-- the bytes of a volume that is held, by how many sectors it is known to have beyond the pool's own size
abbrev pub known_bytes : Geometry → (ℕ → ℕ) → ℕ → ℕ
known_bytes g more id = 512 * (sectors_of_volume g + more id)

-- a request as its tests take it
abbrev pub form_of : Request → forms.Request
form_of r = record { kind = r.kind; flags = r.flags; offset = r.offset; bytes = r.len }

-- FUA is the lowest flag, NO_HOLE the next
abbrev pub has_fua : Request → Bool
has_fua r = r.flags % 2 == 1

abbrev pub has_no_hole : Request → Bool
has_no_hole r = r.flags / 2 % 2 == 1

-- What a request does must be durable before its reply: it has FUA, or its session writes through.
abbrev pub wants_fua : Manner → Request → Bool
wants_fua manner r = manner.writes_through || has_fua r

-- DISC is not tested at all. A request of length 0 has nothing to do.
abbrev pub verdict_on : ℕ → Request → Verdict
verdict_on size r =
    if r.kind == COMMAND_DISC then verdicts.Disconnect
    else option_map_or verdicts.Refuse (forms.form_error size (form_of r))
    (if forms.is_flush (form_of r) then verdicts.Flush
    else if r.len == 0 then verdicts.Nothing
    else if forms.is_read (form_of r) then verdicts.Read
    else if forms.is_write (form_of r) then verdicts.Write
    else if forms.is_trim (form_of r) then verdicts.Trim else verdicts.WriteZeroes)

-- ---- long requests

-- one without data, of more than a MiB
abbrev pub is_long : Request → Bool
is_long r = nat_lt 1048576 r.len && (forms.is_trim (form_of r) || forms.is_write_zeroes (form_of r))

-- The error of the first test of it that fails: the tests of a TRIM or WRITE_ZEROES (`form_error`), but for that of the length.
abbrev pub long_error : ℕ → forms.Request → Option NbdError
long_error size r = first_failed (
    (not (forms.has_good_flags r), Invalid)
    ∷ (not (r.offset % 512 == 0 && r.bytes % 512 == 0), Invalid)
    ∷ (nat_lt size (r.offset + r.bytes), if forms.is_write_zeroes r then NoSpace else Invalid) ∷ [])

-- ---- structured replies

-- A READ is answered in chunks where that was asked for.
abbrev pub reads_in_chunks : Manner → Request → Bool
reads_in_chunks manner r = manner.is_structured && r.kind == COMMAND_READ

-- They, and BLOCK_STATUS, are answered in chunks then, also where they are refused.
abbrev pub is_chunked : Manner → Request → Bool
is_chunked manner r = manner.is_structured && (r.kind == COMMAND_READ || r.kind == COMMAND_BLOCK_STATUS)

-- A context of the volume was asked for: where it has data, or since which older one it is to be told of, where the number is an id.
abbrev pub has_since : Manner → Bool
has_since manner = nat_lt manner.since 16777216

abbrev pub has_context : Manner → Bool
has_context manner = manner.tells_blocks || has_since manner

-- BLOCK_STATUS is answered then.
abbrev pub is_status : Manner → Request → Bool
is_status manner r = has_context manner && r.kind == COMMAND_BLOCK_STATUS

-- The error of the first test of a BLOCK_STATUS that fails: it may have FUA, which has no effect, and REQ_ONE, and asks for some sectors of the volume.
abbrev pub has_status_flags : ℕ → Bool
has_status_flags flags = nat_lt (flags % 8) 2 && nat_lt flags 16

abbrev pub status_error : ℕ → Request → Option NbdError
status_error size r = first_failed (
    (not (has_status_flags r.flags), Invalid)
    ∷ (not (r.offset % 512 == 0 && r.len % 512 == 0), Invalid)
    ∷ (r.len == 0, Invalid)
    ∷ (nat_lt size (r.offset + r.len), Invalid) ∷ [])

-- Such a READ may have the flag DF, the third: its data are to come in one chunk.
abbrev pub without_df : ℕ → ℕ
without_df flags = if flags / 4 % 2 == 1 then flags - 4 else flags

abbrev pub plainly : Manner → Request → Request
plainly manner r =
    if reads_in_chunks manner r then record { flags = without_df r.flags; kind = r.kind; cookie = r.cookie; offset = r.offset; len = r.len } else r

-- An extended session takes requests of any length that have no data.
abbrev pub verdict_in : Manner → ℕ → Request → Verdict
verdict_in manner size r =
    if is_status manner r then option_map_or verdicts.Refuse (status_error size r) verdicts.Status
    else if manner.is_extended && is_long r then option_map_or verdicts.Refuse (long_error size (form_of r)) verdicts.Long
    else verdict_on size (plainly manner r)

-- the bytes of the most whole blocks that 2048 sectors have
abbrev pub part_bytes : Geometry → ℕ
part_bytes g = 512 * (2048 / g.block_sectors * g.block_sectors)

-- Parts end at multiples of that, and with the request, so each but the first begins with a block, and each but the last ends with one.
abbrev pub up_to_cut : Geometry → Request → ℕ
up_to_cut g r = part_bytes g - r.offset % part_bytes g

abbrev pub is_last : Geometry → Request → Bool
is_last g r = nat_lt r.len (up_to_cut g r + 1)

-- how many bytes the next part has
abbrev pub len_of_part : Geometry → Request → ℕ
len_of_part g r = if is_last g r then r.len else up_to_cut g r

-- what is left behind so many bytes, and behind the next part
abbrev pub behind : Request → ℕ → Request
behind r n = record { flags = r.flags; kind = r.kind; cookie = r.cookie; offset = r.offset + n; len = r.len - n }

abbrev pub rest_of : Geometry → Request → Request
rest_of g r = behind r (up_to_cut g r)

-- ---- requests that are kept apart

-- A WRITE, TRIM or WRITE_ZEROES of an extended session that has FUA, or whose session writes through,
-- is made without FUA, and a FLUSH is left of it then. A long one is not.
abbrev pub is_kept_apart : Manner → Request → Bool
is_kept_apart manner r = manner.is_extended && wants_fua manner r

-- That FLUSH: it counts as one sector, so it is the last part.
abbrev pub to_keep : Request → Request
to_keep r = record { flags = r.flags; kind = COMMAND_FLUSH; cookie = r.cookie; offset = r.offset; len = 512 }

-- the call of the next part of a long request, of which the last one alone has FUA
abbrev pub long_call : Manner → ℕ → Geometry → Request → Call
long_call manner id g r =
    if forms.is_trim (form_of r) then Trim id (r.offset / 512) (len_of_part g r / 512) (wants_fua manner r && is_last g r)
    else WriteZeroes id (r.offset / 512) (len_of_part g r / 512) (has_no_hole r) (wants_fua manner r && is_last g r)

-- the call of what is made next of a request
abbrev pub part_call : Manner → ℕ → Geometry → Request → Call
part_call manner id g r = if forms.is_flush (form_of r) then Flush else long_call manner id g r

-- what is left of a request whose tests held, for a volume of so many bytes
pub record IsLeft (size : ℕ) (r : Request) : Type 0 where
  pub some : 0 < r.len
  pub few : r.len < 4294967296
  pub offset : r.offset % 512 ≡ 0
  pub len : r.len % 512 ≡ 0
  pub inside : r.offset + r.len ≤ size

-- what its tests have shown of a request for some sectors
pub record IsWhole (size : ℕ) (r : Request) : Type 0 where
  pub offset : r.offset % 512 ≡ 0
  pub len : r.len % 512 ≡ 0
  pub most : r.len ≤ 1048576
  pub inside : r.offset + r.len ≤ size

-- it reads, writes, trims or zeroes sectors
abbrev pub IsForSectors : Request → Type 0
IsForSectors r = (r.kind ≡ COMMAND_READ) ⊎ ((r.kind ≡ COMMAND_WRITE) ⊎ ((r.kind ≡ COMMAND_TRIM) ⊎ (r.kind ≡ COMMAND_WRITE_ZEROES)))

-- what they have shown of any request
abbrev pub IsTested : Verdict → ℕ → Request → Type 0
IsTested (verdicts.Refuse e) size r = Unit {0}
IsTested verdicts.Nothing size r = Unit {0}
IsTested verdicts.Read size r = IsWhole size r × (r.kind ≡ COMMAND_READ)
IsTested verdicts.Write size r = IsWhole size r × (r.kind ≡ COMMAND_WRITE) × (0 < r.len)
IsTested verdicts.Trim size r = IsWhole size r × (0 < r.len)
IsTested verdicts.WriteZeroes size r = IsWhole size r × (0 < r.len)
IsTested verdicts.Flush size r = Unit {0}
IsTested verdicts.Disconnect size r = Unit {0}
IsTested verdicts.Long size r = IsLeft size r
IsTested verdicts.Status size r = IsLeft size r

-- it looks at its volume and changes nothing: it reads sectors, or asks where data is
abbrev pub is_look : Request → Bool
is_look r = r.kind == COMMAND_READ || r.kind == COMMAND_BLOCK_STATUS

abbrev pub is_flush_request : Request → Bool
is_flush_request r = r.kind == COMMAND_FLUSH

-- a request of which this is so stands whole at the front of a text
pub record BeginsWith (Such : Request → Bool) (text : List ℕ) : Type 0 where
  pub request : Request
  pub payload : List ℕ
  pub frame : List ℕ
  pub rest : List ℕ
  pub kind : IsTrue (Such request)
  pub is_frame : IsRequest frame request payload
  pub text_is : text ≡ frame ++ rest

-- of which kind the request is that stands whole at the front of a text
abbrev pub IsKindOf : List ℕ → PieceKind → Type 0
IsKindOf text kinds.Look = BeginsWith is_look text
IsKindOf text kinds.Flush = BeginsWith is_flush_request text
IsKindOf text kinds.Other = (BeginsWith is_look text → ⊥) × (BeginsWith is_flush_request text → ⊥)

abbrev pub kind_of_request : Request → PieceKind
kind_of_request r = if is_look r then kinds.Look else if is_flush_request r then kinds.Flush else kinds.Other

abbrev pub kind_of_message : Message → PieceKind
kind_of_message (client_flags no_zeroes) = kinds.Other
kind_of_message (client_option option payload) = kinds.Other
kind_of_message (command request payload) = kind_of_request request
kind_of_message malformed = kinds.Other
