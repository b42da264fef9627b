-- Trusted reading: what a session answers to one frame, and to one piece of what its client sends (NBD's proto.md, "Option types",
-- "Request types", "Terminating the transmission phase"; the choices that it leaves are own).
use Rattle.std.specs.Prelude.{◌≡◌, ℕ, zero, suc, ◌/◌, ◌<◌, ◌≤◌, Bool, true, false, ◌&&◌, List, [], ◌∷◌, ◌+◌, ◌++◌, All, bytes_eq, codes, length, take, drop, nat_le, nat_lt, Option, Some, None, MatchOption, MatchBool, ◌==◌, if◌then◌else◌, ◌⊎◌}
use Rattle.std.specs.List.{concat, flat_map}
use Rattle.std.specs.Fmt.{decimal}
use Rattle.tp_model.specs.declared.refusal.NbdError.{NbdError}
use Rattle.tp_model.specs.declared.refusal.NbdError.TheVariants as errors
use Rattle.tp_model.specs.declared.refusal.Refusal.{Refusal}
use Rattle.tp_model.specs.declared.refusal.Refusal.TheVariants as refusals
use Rattle.tp_model.specs.Refusals.{nbd_code, nbd_error}
use Rattle.tp_model.specs.Requests.{is_flush}
use Rattle.tp_model.specs.Sectors.{sectors_of}
use Rattle.tp_model.specs.Pool.{Outline}
use Rattle.tp_model.specs.Calls.{Call, Answer, Done, Gave, Line, Found, Refused, Sized, Listed, CreateSnap, Delete, Hold, LetGo, NextId, VolumeBlocks, Read, Write, Trim, Walk, WriteZeroes, Flush, is_failed, is_read_only}
use Rattle.nbd_wire.specs.declared.Kind.{Kind}
use Rattle.nbd_wire.specs.declared.Kind.TheVariants as kinds
use Rattle.nbd_wire.specs.declared.Request.{Request}
use Rattle.nbd_wire.specs.declared.TheConstants.{OPTION_ABORT, OPTION_EXPORT_NAME, OPTION_GO, OPTION_INFO, OPTION_LIST, OPTION_LIST_META_CONTEXT, OPTION_SET_META_CONTEXT, OPTION_STRUCTURED_REPLY, ALLOCATION_CONTEXT, SINCE_CONTEXT}
use Rattle.nbd_wire.specs.declared.writing.ReplyType.{ReplyType}
use Rattle.nbd_wire.specs.declared.writing.ReplyType.TheVariants.{Acknowledged, Context, Server, Information, Unsupported, Policy, Invalid, Unknown}
use Rattle.nbd_wire.specs.Chunks.{data_chunk, done_chunk, error_chunk}
use Rattle.nbd_wire.specs.Contexts.{IsQuery, allocation, asks_for, context_data, lists, since_name, since_of}
use Rattle.nbd_wire.specs.Grammar.{Message, client_flags, client_option, command, malformed, IsFrame, IsPartial}
use Rattle.nbd_wire.specs.Replies.{simple_reply, option_reply, export_info, export_reply, block_size_info, server_data, IsInfo}
use Rattle.nbd_session.specs.declared.phase.ContextOf.{ContextOf}
use Rattle.nbd_session.specs.declared.phase.ContextOf.TheVariants as contexts
use Rattle.nbd_session.specs.declared.phase.Course.{Course}
use Rattle.nbd_session.specs.declared.phase.Course.TheVariants.{Listens, Works}
use Rattle.nbd_session.specs.declared.phase.Manner.{Manner}
use Rattle.nbd_session.specs.declared.phase.Phase.{Phase}
use Rattle.nbd_session.specs.declared.phase.Phase.TheVariants.{Flags, Options, Transmission, Ended}
use Rattle.nbd_session.specs.declared.phase.Profile.{Profile}
use Rattle.nbd_session.specs.declared.phase.Profile.TheVariants.{Strict, Extended, WithDefault, Cloning, WritingThrough}
use Rattle.nbd_session.specs.declared.phase.Terms.{Terms}
use Rattle.nbd_session.specs.declared.request.Verdict.{Verdict}
use Rattle.nbd_session.specs.declared.request.Verdict.TheVariants as verdicts
use Rattle.nbd_session.specs.Status.{IsAllocation, TellsSince, first_block, unit_of}
use Rattle.nbd_session.specs.Holes.{IsHoled, has_blank}
use Rattle.nbd_session.specs.Requests.{bytes_of_blocks, form_of, has_no_hole, has_since, is_chunked, is_kept_apart, is_last, part_call, rest_of, to_keep, verdict_in, wants_fua}

-- what a session shows: its phase, and the bytes that it holds of an unfinished frame
pub record State : Type 0 where
  pub phase : Phase
  pub held : List ℕ

abbrev pub state : Phase → List ℕ → State
state phase held = record { phase = phase; held = held }

-- which frames a session reads: none after its end, and none while parts of a request are left
abbrev pub kind_of : Phase → Option Kind
kind_of (Flags profile) = Some kinds.Flags
kind_of (Options terms) = Some kinds.Options
kind_of (Transmission volume size (Listens manner)) = Some kinds.Requests
kind_of (Transmission volume size (Works manner rest)) = None
kind_of Ended = None

abbrev pub has_ended : Phase → Bool
has_ended (Flags profile) = false
has_ended (Options terms) = false
has_ended (Transmission volume size course) = false
has_ended Ended = true

-- parts of a request are left
abbrev pub is_at_work : Phase → Bool
is_at_work (Flags profile) = false
is_at_work (Options terms) = false
is_at_work (Transmission volume size (Listens manner)) = false
is_at_work (Transmission volume size (Works manner rest)) = true
is_at_work Ended = false

-- and nothing is left of it but a FLUSH
abbrev pub is_to_flush : Phase → Bool
is_to_flush (Flags profile) = false
is_to_flush (Options terms) = false
is_to_flush (Transmission volume size (Listens manner)) = false
is_to_flush (Transmission volume size (Works manner rest)) = is_flush (form_of rest)
is_to_flush Ended = false

-- one that is told since an older volume
abbrev pub has_older : Phase → Bool
has_older (Flags profile) = false
has_older (Options terms) = false
has_older (Transmission volume size (Listens manner)) = has_since manner
has_older (Transmission volume size (Works manner rest)) = has_since manner
has_older Ended = false

-- how it takes and answers requests
abbrev pub manner_in : Course → Manner
manner_in (Listens manner) = manner
manner_in (Works manner rest) = manner

-- The older volume that a session holds from the SET_META_CONTEXT on that named it, so that none of this number is made anew meanwhile. None where the number is no id.
abbrev pub older_in : Phase → ℕ
older_in (Flags profile) = 16777216
older_in (Options terms) = terms.since
older_in (Transmission volume size course) = (manner_in course).since
older_in Ended = 16777216

-- the volume that it serves
abbrev pub own_in : Phase → List ℕ
own_in (Flags profile) = []
own_in (Options terms) = []
own_in (Transmission volume size course) = volume ∷ []
own_in Ended = []

-- a number, where it is an id
abbrev pub ids_of : ℕ → List ℕ
ids_of id = if nat_lt id 16777216 then id ∷ [] else []

-- the volumes that a session holds
abbrev pub volumes_in : Phase → List ℕ
volumes_in phase = own_in phase ++ ids_of (older_in phase)

-- how many bytes of a request are left
abbrev pub left_in : Phase → ℕ
left_in (Flags profile) = 0
left_in (Options terms) = 0
left_in (Transmission volume size (Listens manner)) = 0
left_in (Transmission volume size (Works manner rest)) = rest.len
left_in Ended = 0

-- ---- what is offered

abbrev pub terms_of : Profile → Bool → Terms
terms_of profile no_zeroes = record { no_zeroes = no_zeroes; profile = profile; is_structured = false; context = contexts.Nothing; tells_blocks = false; since = 16777216 }

-- the same where READs are to be answered in chunks
abbrev pub in_chunks : Terms → Terms
in_chunks terms = record { no_zeroes = terms.no_zeroes; profile = terms.profile; is_structured = true; context = terms.context; tells_blocks = terms.tells_blocks; since = terms.since }

-- The same where of this volume, or of these clones, is to be told: where it has data, if that is asked for, and where it may differ from an older one, if that number is an id.
abbrev pub in_context : Terms → ContextOf → Bool → ℕ → Terms
in_context terms context tells_blocks since =
    record { no_zeroes = terms.no_zeroes; profile = terms.profile; is_structured = terms.is_structured; context = context; tells_blocks = tells_blocks; since = since }

-- the same where of no volume is to be told
abbrev pub without_context : Terms → Terms
without_context terms = in_context terms contexts.Nothing false 16777216

abbrev pub is_extended : Profile → Bool
is_extended Strict = false
is_extended Extended = true
is_extended (WithDefault volume) = true
is_extended (Cloning volume) = true
is_extended (WritingThrough volume clones) = true

-- each WRITE, TRIM and WRITE_ZEROES is made as with FUA
abbrev pub writes_through : Profile → Bool
writes_through Strict = false
writes_through Extended = false
writes_through (WithDefault volume) = false
writes_through (Cloning volume) = false
writes_through (WritingThrough volume clones) = true

-- a client may have a clone of a volume
abbrev pub has_clones : Profile → Bool
has_clones Strict = false
has_clones Extended = false
has_clones (WithDefault volume) = false
has_clones (Cloning volume) = true
has_clones (WritingThrough volume clones) = clones

-- The first number that names no volume. Where there are clones, ids from 8388608 on are theirs, and nobody names or lists one.
abbrev pub limit_of : Profile → ℕ
limit_of Strict = 16777216
limit_of Extended = 16777216
limit_of (WithDefault volume) = 16777216
limit_of (Cloning volume) = 8388608
limit_of (WritingThrough volume clones) = if clones then 8388608 else 16777216

-- a number, if there is one and it is below the limit
abbrev pub below : ℕ → Option ℕ → Option ℕ
below limit None = None
below limit (Some id) = if nat_lt id limit then Some id else None

-- the volume of the empty name, if there is one
abbrev pub default_of : Profile → Option ℕ
default_of Strict = None
default_of Extended = None
default_of (WithDefault volume) = if nat_lt volume 16777216 then Some volume else None
default_of (Cloning volume) = if nat_lt volume 8388608 then Some volume else None
default_of (WritingThrough volume clones) = if nat_lt volume (if clones then 8388608 else 16777216) then Some volume else None

-- A session that is extended tells CAN_MULTI_CONN too, and one that answers READs in chunks SEND_DF.
abbrev pub flags_in : Terms → ℕ → ℕ
flags_in terms flags = (if is_extended terms.profile then 0x100 else 0) + ((if terms.is_structured then 0x80 else 0) + flags)

-- A clone is that of one connection, so of one CAN_MULTI_CONN is not told.
abbrev pub clone_flags : Terms → ℕ → ℕ
clone_flags terms flags = (if terms.is_structured then 0x80 else 0) + flags

-- the contexts that were asked for are those of this volume, and those of the clones of this one
abbrev pub is_of_volume : ContextOf → ℕ → Bool
is_of_volume contexts.Nothing id = false
is_of_volume (contexts.Volume selected) id = selected == id
is_of_volume (contexts.Clones origin) id = false

abbrev pub is_of_clones : ContextOf → ℕ → Bool
is_of_clones contexts.Nothing id = false
is_of_clones (contexts.Volume selected) id = false
is_of_clones (contexts.Clones origin) id = origin == id

-- a client of this volume, or of a clone of this one, is told of it
abbrev pub is_told_of : Terms → ℕ → Bool
is_told_of terms id = terms.is_structured && is_of_volume terms.context id

abbrev pub is_told_of_clone : Terms → ℕ → Bool
is_told_of_clone terms origin = terms.is_structured && is_of_clones terms.context origin

-- how requests are taken and answered of a volume, or a clone, of which is told or not
abbrev pub manner_by : Terms → Bool → Bool → Manner
manner_by terms is_told is_clone = record {
  is_extended = is_extended terms.profile;
  is_structured = terms.is_structured;
  tells_blocks = is_told && terms.tells_blocks;
  since = if is_told then terms.since else 16777216;
  is_clone = is_clone;
  writes_through = writes_through terms.profile;
}

abbrev pub manner_of : Terms → ℕ → Manner
manner_of terms id = manner_by terms (is_told_of terms id) false

-- that of a clone of a volume
abbrev pub clone_manner : Terms → ℕ → Manner
clone_manner terms origin = manner_by terms (is_told_of_clone terms origin) true

-- transmission begins so, and so that of a clone
abbrev pub begun : Terms → ℕ → ℕ → Phase
begun terms id size = Transmission id size (Listens (manner_of terms id))

abbrev pub begun_clone : Terms → ℕ → ℕ → ℕ → Phase
begun_clone terms origin id size = Transmission id size (Listens (clone_manner terms origin))

-- ---- what is sent

-- the reply to a request that the pool answered
abbrev pub reply_to : ℕ → Answer → List ℕ
reply_to cookie Done = simple_reply 0 cookie []
reply_to cookie (Gave sectors) = simple_reply 0 cookie (concat sectors)
reply_to cookie (Line bytes) = simple_reply 0 cookie []
reply_to cookie (Found id) = simple_reply 0 cookie []
reply_to cookie (Sized blocks) = simple_reply 0 cookie []
reply_to cookie (Listed slots) = simple_reply 0 cookie []
reply_to cookie (Refused reason) = simple_reply (nbd_code (nbd_error reason)) cookie []

-- the reply to a READ as one chunk, which tells where its bytes begin
abbrev pub chunk_to : Request → Answer → List ℕ
chunk_to r (Gave sectors) = data_chunk true r.cookie r.offset (concat sectors)
chunk_to r (Refused reason) = error_chunk (nbd_code (nbd_error reason)) r.cookie
chunk_to r _ = done_chunk r.cookie

-- the reply to a request that fails before the pool is asked, and to one of no bytes
abbrev pub error_reply : Manner → Request → NbdError → List ℕ
error_reply manner r e = if is_chunked manner r then error_chunk (nbd_code e) r.cookie else simple_reply (nbd_code e) r.cookie []

abbrev pub empty_reply : Manner → Request → List ℕ
empty_reply manner r = if is_chunked manner r then done_chunk r.cookie else simple_reply 0 r.cookie []

-- HAS_FLAGS, SEND_FLUSH, SEND_FUA, SEND_TRIM and SEND_WRITE_ZEROES, and READ_ONLY where the pool is so
abbrev pub transmission_flags : Outline → ℕ
transmission_flags p = if is_read_only p.mode then 0x6f else 0x6d

-- the answer that tells of a volume: its size in bytes and the flags, the block sizes, and ACK
unfoldable pub info_reply : ℕ → ℕ → ℕ → List ℕ
info_reply option size flags =
    option_reply option Information (export_info size flags) ++ option_reply option Information (block_size_info 512 4096 1048576) ++ option_reply option Acknowledged []

-- the answer to LIST that names these volumes: each in decimal, and ACK
unfoldable pub name_reply : ℕ → List ℕ
name_reply id = option_reply OPTION_LIST Server (server_data (decimal id))

unfoldable pub list_reply : List ℕ → List ℕ
list_reply ids = flat_map name_reply ids ++ option_reply OPTION_LIST Acknowledged []

-- ---- one frame

-- the name is the id of a volume: in decimal, without leading zeros
abbrev pub IsNameOf : List ℕ → ℕ → Type 0
IsNameOf name id = (id < 16777216) × (name ≡ decimal id)

-- A name means the volume of an id: it is that id, which is below the limit, or it is empty, and the id is the default.
abbrev pub Means : Option ℕ → ℕ → List ℕ → ℕ → Type 0
Means default limit name id = (IsNameOf name id × (id < limit)) ⊎ ((name ≡ []) × (default ≡ Some id))

-- It means a clone of a volume, where there are clones: behind "clone:" it is the id of that volume, which is none itself.
abbrev pub clone_prefix : List ℕ
clone_prefix = codes "clone:"

abbrev pub MeansClone : Bool → List ℕ → ℕ → Type 0
MeansClone clones name origin = (clones ≡ true) × (bytes_eq (take 6 name) clone_prefix ≡ true) × IsNameOf (drop 6 name) origin × (origin < 8388608)

-- whether a volume is there, by the least id of a volume from its own on
abbrev pub is_there : ℕ → Option ℕ → Bool
is_there id None = false
is_there id (Some least) = least == id

-- what is sent for a frame, and the phase after it
pub record Outcome : Type 0 where
  pub sent : List ℕ
  pub next : Phase

abbrev pub outcome : List ℕ → Phase → Outcome
outcome sent next = record { sent = sent; next = next }

abbrev pub IsOutcome : Outcome → List ℕ → Phase → Type 0
IsOutcome o sent next = (sent ≡ o.sent) × (next ≡ o.next)

-- an option is answered an error, and others may follow it
abbrev pub option_error : ℕ → ReplyType → Terms → Outcome
option_error option reply terms = outcome (option_reply option reply []) (Options terms)

-- STRUCTURED_REPLY, which has no data: READs are answered in chunks from now on.
abbrev pub structures : Terms → List ℕ → Outcome
structures terms payload =
    if length payload == 0 then outcome (option_reply OPTION_STRUCTURED_REPLY Acknowledged []) (Options (in_chunks terms))
    else option_error OPTION_STRUCTURED_REPLY Invalid terms

-- what an option does that looks for a volume
pub record VolumeOption : Type 0 where
  pub default : Option ℕ  -- the volume of the empty name
  pub limit : ℕ  -- the first number that names none
  pub clones : Bool  -- whether names may mean clones
  pub holds : Bool  -- whether the volume is to be held where it is there
  pub found : ℕ → ℕ → ℕ → Outcome  -- what is done then, by its id, its size in bytes and the transmission flags
  pub cloned : ℕ → ℕ → ℕ → ℕ → Outcome  -- what is done of a clone, by the id of its origin, its own id, its size in bytes and the transmission flags
  pub missing : Outcome  -- what is done where it is not there, or the name means none
  pub refused : Outcome  -- what is done where it is there, and no clone of it is made

-- Of a clone that is not made an option does what it does of the volume itself, but that it tells of a clone.
abbrev pub of_clone : VolumeOption → ℕ → VolumeOption
of_clone o origin = record o { found = o.cloned origin }

-- why no clone was made: there is no such volume, or the pool or its disk has failed
abbrev pub is_of_none : Refusal → Bool
is_of_none refusals.NoSuchDevice = true
is_of_none reason = false

abbrev pub is_of_failure : Refusal → Bool
is_of_failure refusals.Failed = true
is_of_failure refusals.Fault = true
is_of_failure refusals.Damaged = true
is_of_failure reason = false

-- what is done then: for any other reason a clone is not allowed
abbrev pub uncloned : VolumeOption → Refusal → Outcome
uncloned o reason = if is_of_none reason then o.missing else (if is_of_failure reason then outcome [] Ended else o.refused)

-- GO holds the volume, tells of it and enters transmission.
abbrev pub go : Terms → VolumeOption
go terms = record {
  default = default_of terms.profile;
  limit = limit_of terms.profile;
  clones = has_clones terms.profile;
  holds = true;
  found = λ id size flags. outcome (info_reply OPTION_GO size (flags_in terms flags)) (begun terms id size);
  cloned = λ origin id size flags. outcome (info_reply OPTION_GO size (clone_flags terms flags)) (begun_clone terms origin id size);
  missing = option_error OPTION_GO Unknown terms;
  refused = option_error OPTION_GO Policy terms;
}

-- INFO tells the same and holds nothing. Other options may follow it.
abbrev pub info : Terms → VolumeOption
info terms = record {
  default = default_of terms.profile;
  limit = limit_of terms.profile;
  clones = has_clones terms.profile;
  holds = false;
  found = λ id size flags. outcome (info_reply OPTION_INFO size (flags_in terms flags)) (Options terms);
  cloned = λ origin id size flags. outcome (info_reply OPTION_INFO size (clone_flags terms flags)) (Options terms);
  missing = option_error OPTION_INFO Unknown terms;
  refused = option_error OPTION_INFO Policy terms;
}

-- the reply that tells base:allocation under a number, where it is asked for, and the one that tells since which older volume, where that is an id
abbrev pub allocation_reply : ℕ → ℕ → Bool → List ℕ
allocation_reply option code is_asked = if is_asked then option_reply option Context (context_data code allocation) else []

abbrev pub since_reply : ℕ → ℕ → ℕ → List ℕ
since_reply option code since = if nat_lt since 16777216 then option_reply option Context (context_data code (since_name since)) else []

-- the answer to an option that looks for contexts: a reply for each that is asked for, under its number, and ACK
unfoldable pub context_reply : ℕ → ℕ → ℕ → Bool → ℕ → List ℕ
context_reply option first second is_asked since = allocation_reply option first is_asked ++ since_reply option second since ++ option_reply option Acknowledged []

-- LIST_META_CONTEXT tells base:allocation where a query fits it, or none was made, and the other where a query is its whole name, under no number (0). It changes nothing.
abbrev pub list_context : Terms → Bool → ℕ → VolumeOption
list_context terms is_listed since = record {
  default = default_of terms.profile;
  limit = limit_of terms.profile;
  clones = has_clones terms.profile;
  holds = false;
  found = λ id size flags. outcome (context_reply OPTION_LIST_META_CONTEXT 0 0 is_listed since) (Options terms);
  cloned = λ origin id size flags. outcome (context_reply OPTION_LIST_META_CONTEXT 0 0 is_listed since) (Options terms);
  missing = option_error OPTION_LIST_META_CONTEXT Unknown terms;
  refused = option_error OPTION_LIST_META_CONTEXT Policy terms;
}

-- SET_META_CONTEXT has the volume told of in the contexts that are asked for by their names, in place of what was asked for before: also where it fails.
abbrev pub set_context : Terms → Bool → ℕ → VolumeOption
set_context terms is_asked since = record {
  default = default_of terms.profile;
  limit = limit_of terms.profile;
  clones = has_clones terms.profile;
  holds = false;
  found = λ id size flags. outcome (context_reply OPTION_SET_META_CONTEXT ALLOCATION_CONTEXT SINCE_CONTEXT is_asked since) (Options (in_context terms (contexts.Volume id) is_asked since));
  cloned = λ origin id size flags.
      outcome (context_reply OPTION_SET_META_CONTEXT ALLOCATION_CONTEXT SINCE_CONTEXT is_asked since) (Options (in_context terms (contexts.Clones origin) is_asked since));
  missing = option_error OPTION_SET_META_CONTEXT Unknown (without_context terms);
  refused = option_error OPTION_SET_META_CONTEXT Policy (without_context terms);
}

-- EXPORT_NAME holds the volume, tells its size and the flags, and enters transmission. It has no errors: a name that is
-- not known ends the session.
abbrev pub export_name : Terms → VolumeOption
export_name terms = record {
  default = default_of terms.profile;
  limit = limit_of terms.profile;
  clones = has_clones terms.profile;
  holds = true;
  found = λ id size flags. outcome (export_reply size (flags_in terms flags) terms.no_zeroes) (begun terms id size);
  cloned = λ origin id size flags. outcome (export_reply size (clone_flags terms flags) terms.no_zeroes) (begun_clone terms origin id size);
  missing = outcome [] Ended;
  refused = outcome [] Ended;
}

-- The next part of a request was made, and answered so: where that part is done and others are left, the session goes on with these, and else the
-- request is answered as the part was.
abbrev pub IsMade : ℕ → ℕ → Manner → Request → Request → Bool → Answer → List ℕ → Phase → Type 0
IsMade id size manner r rest last Done sent next =
    MatchBool last (IsOutcome (outcome (reply_to r.cookie Done) (Transmission id size (Listens manner))) sent next)
    (IsOutcome (outcome [] (Transmission id size (Works manner rest))) sent next)
IsMade id size manner r rest last answer sent next = IsOutcome (outcome (reply_to r.cookie answer) (Transmission id size (Listens manner))) sent next

-- What a walk over an older volume told for a BLOCK_STATUS of a volume that has these slots. A refusal is the answer.
abbrev pub IsCompared : Manner → ℕ → Request → List (ℕ × ℕ) → Answer → List ℕ → Type 0
IsCompared manner unit r slots (Listed old) sent = TellsSince manner.tells_blocks unit r old slots sent
IsCompared manner unit r slots (Refused reason) sent = sent ≡ error_chunk (nbd_code (nbd_error reason)) r.cookie
IsCompared manner unit r slots answer sent = ⊥

-- a volume has the id under which a snapshot was asked for
abbrev pub is_of_other : Refusal → Bool
is_of_other refusals.Exists = true
is_of_other reason = false

abbrev pub is_taken : Answer → Bool
is_taken (Refused reason) = is_of_other reason
is_taken answer = false

-- no volume was found below this number
abbrev pub IsBehind : ℕ → Option ℕ → Type 0
IsBehind limit None = Unit {0}
IsBehind limit (Some id) = limit ≤ id

-- what a walk over a volume told for the bytes of a READ: where it is refused, they are sent as they are
abbrev pub IsReadWith : ℕ → Request → List ℕ → Answer → List ℕ → Type 0
IsReadWith unit r given (Listed slots) sent = IsHoled unit r given slots sent
IsReadWith unit r given (Refused reason) sent = sent ≡ data_chunk true r.cookie r.offset given
IsReadWith unit r given answer sent = ⊥

-- S: pools. outline: a pool's geometry, mode and holds. Calls: that a call of a pool is given an answer, and leaves another pool.
module _ {S : Type 0} (outline : S → Outline) (Calls : S → Call → Answer → S → Type 0) where
  -- the pool is not asked
  abbrev pub Tells : Outcome → S → List ℕ → Phase → S → Type 0
  Tells o p sent next p' = (sent ≡ o.sent) × (next ≡ o.next) × (p' ≡ p)

  -- A clone is let go, and then the pool is asked to delete it. Nobody is told what it answers.
  pub record GivesUp (id : ℕ) (p p' : S) : Type 0 where
    pub let_go : S
    pub lets_go : Calls p (LetGo id) Done let_go
    pub answer : Answer
    pub deletes : Calls let_go (Delete id) answer p'

  -- an older volume is let go, where there is one
  abbrev pub LetsOlderGo : ℕ → S → S → Type 0
  LetsOlderGo id p p' = MatchBool (nat_lt id 16777216) (Calls p (LetGo id) Done p') (p' ≡ p)

  -- and so is the volume that a session serves; where that is a clone the pool is asked to delete it too
  abbrev pub LetsOwnGo : Phase → S → S → Type 0
  LetsOwnGo (Flags profile) p p' = p' ≡ p
  LetsOwnGo (Options terms) p p' = p' ≡ p
  LetsOwnGo (Transmission volume size course) p p' = MatchBool (manner_in course).is_clone (GivesUp volume p p') (Calls p (LetGo volume) Done p')
  LetsOwnGo Ended p p' = p' ≡ p

  -- the end of a session lets the older volume go that it holds, and then the volume that it serves
  pub record LetsGo (phase : Phase) (p p' : S) : Type 0 where
    pub without_older : S
    pub lets_older_go : LetsOlderGo (older_in phase) p without_older
    pub lets_own_go : LetsOwnGo phase without_older p'

  -- the session ends, and these are its last bytes
  abbrev pub Ends : List ℕ → Phase → S → List ℕ → Phase → S → Type 0
  Ends last phase p sent next p' = (sent ≡ last) × (next ≡ Ended) × LetsGo phase p p'

  -- An older volume is to be held before this is sent, and was, or was not: then the session ends, and nothing is sent.
  abbrev pub IsOlderHeld : Outcome → Answer → List ℕ → Phase → Type 0
  IsOlderHeld o Done sent next = IsOutcome o sent next
  IsOlderHeld o (Refused reason) sent next = IsOutcome (outcome [] Ended) sent next
  IsOlderHeld o answer sent next = ⊥

  pub record HoldsOlder (id : ℕ) (o : Outcome) (p : S) (sent : List ℕ) (next : Phase) (p' : S) : Type 0 where
    pub answer : Answer
    pub calls : Calls p (Hold id) answer p'
    pub is_held : IsOlderHeld o answer sent next

  -- In the place of one older volume the session holds another one from now on, where there is one.
  pub record Trades (id other : ℕ) (o : Outcome) (p : S) (sent : List ℕ) (next : Phase) (p' : S) : Type 0 where
    pub without_older : S
    pub lets_older_go : LetsOlderGo id p without_older
    pub holds : MatchBool (nat_lt other 16777216) (HoldsOlder other o without_older sent next p') (Tells o without_older sent next p')

  -- Behind an option the session holds the older volume that its next phase names, and no other one.
  abbrev pub Settles : ℕ → Outcome → S → List ℕ → Phase → S → Type 0
  Settles id o p sent next p' = MatchBool (id == older_in o.next) (Tells o p sent next p') (Trades id (older_in o.next) o p sent next p')

  -- a request that the pool is asked, and how its answer is told
  pub record Performs (call : Call) (reply : Answer → List ℕ) (p : S) (sent : List ℕ) (p' : S) : Type 0 where
    pub answer : Answer
    pub calls : Calls p call answer p'
    pub sent_is : sent ≡ reply answer

  -- a request that the pool is asked, of which a FLUSH is left where it is done, and which is answered where it is refused
  pub record Begins (call : Call) (id size : ℕ) (manner : Manner) (r : Request) (p : S) (sent : List ℕ) (next : Phase) (p' : S) : Type 0 where
    pub answer : Answer
    pub calls : Calls p call answer p'
    pub is_begun : IsMade id size manner r (to_keep r) false answer sent next

  -- behind a walk over the volume, which listed these slots, one over the older volume from the same block on
  pub record Compares (manner : Manner) (unit from : ℕ) (r : Request) (slots : List (ℕ × ℕ)) (p : S) (sent : List ℕ) (p' : S) : Type 0 where
    pub answer : Answer
    pub calls : Calls p (Walk manner.since from) answer p'
    pub is_compared : IsCompared manner unit r slots answer sent

  -- what a walk over a volume told for a BLOCK_STATUS
  abbrev pub IsDescribed : Manner → ℕ → ℕ → Request → Answer → S → List ℕ → S → Type 0
  IsDescribed manner unit from r (Listed slots) p sent p' =
      MatchBool (has_since manner) (Compares manner unit from r slots p sent p') (IsAllocation true unit r slots sent × (p' ≡ p))
  IsDescribed manner unit from r (Refused reason) p sent p' = (sent ≡ error_chunk (nbd_code (nbd_error reason)) r.cookie) × (p' ≡ p)
  IsDescribed manner unit from r answer p sent p' = ⊥

  -- BLOCK_STATUS asks for one walk, from the block in which it begins, and for another where it is to tell since an older volume. One that begins behind the last block
  -- that a volume may have is refused.
  pub record Walks (manner : Manner) (id : ℕ) (r : Request) (p : S) (sent : List ℕ) (p' : S) : Type 0 where
    pub answer : Answer
    pub walked : S
    pub calls : Calls p (Walk id (first_block (unit_of (outline p).geometry) r)) answer walked
    pub is_described : IsDescribed manner (unit_of (outline p).geometry) (first_block (unit_of (outline p).geometry) r) r answer walked sent p'

  abbrev pub Describes : Manner → ℕ → Request → S → List ℕ → S → Type 0
  Describes manner id r p sent p' =
      MatchBool (nat_lt (first_block (unit_of (outline p).geometry) r) 16777216) (Walks manner id r p sent p')
      ((sent ≡ error_chunk (nbd_code errors.Invalid) r.cookie) × (p' ≡ p))

  -- The bytes of a READ are told by one walk, from the block in which it begins.
  pub record SeeksHoles (id unit : ℕ) (r : Request) (given : List ℕ) (p : S) (sent : List ℕ) (p' : S) : Type 0 where
    pub answer : Answer
    pub calls : Calls p (Walk id (first_block unit r)) answer p'
    pub is_sought : IsReadWith unit r given answer sent

  -- None is asked for behind the last block that a volume may have.
  abbrev pub SeeksFrom : ℕ → ℕ → Request → List ℕ → S → List ℕ → S → Type 0
  SeeksFrom id unit r given p sent p' =
      MatchBool (nat_lt (first_block unit r) 16777216) (SeeksHoles id unit r given p sent p') ((sent ≡ data_chunk true r.cookie r.offset given) × (p' ≡ p))

  -- One is asked for only where a piece of what was read is all zero.
  abbrev pub TellsGiven : ℕ → ℕ → Request → List ℕ → S → List ℕ → S → Type 0
  TellsGiven id unit r given p sent p' = MatchBool (has_blank r given) (SeeksFrom id unit r given p sent p') ((sent ≡ data_chunk true r.cookie r.offset given) × (p' ≡ p))

  abbrev pub IsGiven : ℕ → ℕ → Request → Answer → S → List ℕ → S → Type 0
  IsGiven id unit r (Gave sectors) p sent p' = TellsGiven id unit r (concat sectors) p sent p'
  IsGiven id unit r answer p sent p' = (sent ≡ chunk_to r answer) × (p' ≡ p)

  -- a READ in chunks of as many bytes as the least block has, which may tell holes
  pub record ReadsLong (id : ℕ) (r : Request) (p : S) (sent : List ℕ) (p' : S) : Type 0 where
    pub answer : Answer
    pub asked : S
    pub calls : Calls p (Read id (r.offset / 512) (r.len / 512)) answer asked
    pub is_given : IsGiven id (unit_of (outline p).geometry) r answer asked sent p'

  abbrev pub ReadsInChunks : ℕ → Request → S → List ℕ → S → Type 0
  ReadsInChunks id r p sent p' = MatchBool (nat_le 65536 r.len) (ReadsLong id r p sent p') (Performs (Read id (r.offset / 512) (r.len / 512)) (chunk_to r) p sent p')

  -- A READ is answered in chunks where that was asked for.
  abbrev pub AnswersRead : ℕ → Manner → Request → S → List ℕ → S → Type 0
  AnswersRead id manner r p sent p' = MatchBool manner.is_structured (ReadsInChunks id r p sent p') (Performs (Read id (r.offset / 512) (r.len / 512)) (reply_to r.cookie) p sent p')

  -- A request that changes sectors: by the call without FUA if it is kept apart, otherwise by the
  -- call with the FUA that it wants.
  abbrev pub Changes : Call → Call → ℕ → ℕ → Manner → Request → S → List ℕ → Phase → S → Type 0
  Changes apart call id size manner r p sent next p' =
      MatchBool (is_kept_apart manner r) (Begins apart id size manner r p sent next p')
      (Performs call (reply_to r.cookie) p sent p' × (next ≡ Transmission id size (Listens manner)))

  -- A request of a volume of this size, whose tests had this outcome. Of a long one nothing is made yet, and all of it is left.
  abbrev pub Serves : Verdict → ℕ → ℕ → Manner → Request → List ℕ → S → List ℕ → Phase → S → Type 0
  Serves verdicts.Disconnect id size manner r payload p sent next p' = Ends [] (Transmission id size (Listens manner)) p sent next p'
  Serves (verdicts.Refuse e) id size manner r payload p sent next p' =
      Tells (outcome (error_reply manner r e) (Transmission id size (Listens manner))) p sent next p'
  Serves verdicts.Nothing id size manner r payload p sent next p' = Tells (outcome (empty_reply manner r) (Transmission id size (Listens manner))) p sent next p'
  Serves verdicts.Read id size manner r payload p sent next p' = AnswersRead id manner r p sent p' × (next ≡ Transmission id size (Listens manner))
  Serves verdicts.Write id size manner r payload p sent next p' =
      Changes (Write id (r.offset / 512) (sectors_of payload) false) (Write id (r.offset / 512) (sectors_of payload) (wants_fua manner r)) id size manner r p sent next p'
  Serves verdicts.Trim id size manner r payload p sent next p' =
      Changes (Trim id (r.offset / 512) (r.len / 512) false) (Trim id (r.offset / 512) (r.len / 512) (wants_fua manner r)) id size manner r p sent next p'
  Serves verdicts.WriteZeroes id size manner r payload p sent next p' =
      Changes (WriteZeroes id (r.offset / 512) (r.len / 512) (has_no_hole r) false) (WriteZeroes id (r.offset / 512) (r.len / 512) (has_no_hole r) (wants_fua manner r))
      id size manner r p sent next p'
  Serves verdicts.Flush id size manner r payload p sent next p' = Performs Flush (reply_to r.cookie) p sent p' × (next ≡ Transmission id size (Listens manner))
  Serves verdicts.Status id size manner r payload p sent next p' = Describes manner id r p sent p' × (next ≡ Transmission id size (Listens manner))
  Serves verdicts.Long id size manner r payload p sent next p' = Tells (outcome [] (Transmission id size (Works manner r))) p sent next p'

  -- the next part of a request of which so much is left
  pub record MakesPart (id size : ℕ) (manner : Manner) (r : Request) (p : S) (sent : List ℕ) (next : Phase) (p' : S) : Type 0 where
    pub answer : Answer
    pub calls : Calls p (part_call manner id (outline p).geometry r) answer p'
    pub is_made : IsMade id size manner r (rest_of (outline p).geometry r) (is_last (outline p).geometry r) answer sent next

  -- The pool was asked how many blocks a volume has, and answered so. A refusal ends the session, which lets the volume go where it holds it.
  abbrev pub IsSized : Bool → (ℕ → Outcome) → ℕ → Answer → S → List ℕ → Phase → S → Type 0
  IsSized held found id (Sized blocks) p sent next p' = Tells (found blocks) p sent next p'
  IsSized held found id (Refused reason) p sent next p' = (sent ≡ []) × (next ≡ Ended) × MatchBool held (Calls p (LetGo id) Done p') (p' ≡ p)
  IsSized held found id answer p sent next p' = ⊥

  -- the size of a volume that was found is to be told
  pub record Sizes (held : Bool) (found : ℕ → Outcome) (id : ℕ) (p : S) (sent : List ℕ) (next : Phase) (p' : S) : Type 0 where
    pub answer : Answer
    pub asked : S
    pub calls : Calls p (VolumeBlocks id) answer asked
    pub is_sized : IsSized held found id answer asked sent next p'

  -- The pool was asked to hold a volume that was found, and answered so. A refusal ends the session.
  abbrev pub IsHeld : (ℕ → Outcome) → ℕ → Answer → S → List ℕ → Phase → S → Type 0
  IsHeld found id Done p sent next p' = Sizes true found id p sent next p'
  IsHeld found id (Refused reason) p sent next p' = Tells (outcome [] Ended) p sent next p'
  IsHeld found id answer p sent next p' = ⊥

  -- A volume that was found is to be held. Its size is asked for then, so that the size that is told is that of the volume that is held.
  pub record Holds (found : ℕ → Outcome) (id : ℕ) (p : S) (sent : List ℕ) (next : Phase) (p' : S) : Type 0 where
    pub answer : Answer
    pub held : S
    pub calls : Calls p (Hold id) answer held
    pub is_held : IsHeld found id answer held sent next p'

  -- a volume was found
  abbrev pub Enters : Bool → (ℕ → Outcome) → ℕ → S → List ℕ → Phase → S → Type 0
  Enters holds found id p sent next p' = MatchBool holds (Holds found id p sent next p') (Sizes false found id p sent next p')

  -- The pool was asked for the least id from this one on, and answered so. A refusal ends the session.
  abbrev pub Finds : VolumeOption → (ℕ → Outcome) → ℕ → Answer → S → List ℕ → Phase → S → Type 0
  Finds o found id (Found least) p sent next p' = MatchBool (is_there id least) (Enters o.holds found id p sent next p') (Tells o.missing p sent next p')
  Finds o found id (Refused reason) p sent next p' = Tells (outcome [] Ended) p sent next p'
  Finds o found id answer p sent next p' = ⊥

  -- an option asks for the volume of an id
  pub record AsksFor (o : VolumeOption) (id : ℕ) (p : S) (sent : List ℕ) (next : Phase) (p' : S) : Type 0 where
    pub answer : Answer
    pub looked : S
    pub calls : Calls p (NextId id) answer looked
    pub finds : Finds o (λ blocks. o.found id (bytes_of_blocks (outline p).geometry blocks) (transmission_flags (outline p))) id answer looked sent next p'

  -- ---- a clone that is made

  -- The pool was asked how many blocks a clone has that is held. A refusal ends the session, and the clone is given up.
  abbrev pub IsCloneSized : (ℕ → Outcome) → ℕ → Answer → S → List ℕ → Phase → S → Type 0
  IsCloneSized found id (Sized blocks) p sent next p' = Tells (found blocks) p sent next p'
  IsCloneSized found id (Refused reason) p sent next p' = (sent ≡ []) × (next ≡ Ended) × GivesUp id p p'
  IsCloneSized found id answer p sent next p' = ⊥

  -- its size is to be told
  pub record SizesClone (found : ℕ → Outcome) (id : ℕ) (p : S) (sent : List ℕ) (next : Phase) (p' : S) : Type 0 where
    pub answer : Answer
    pub asked : S
    pub calls : Calls p (VolumeBlocks id) answer asked
    pub is_sized : IsCloneSized found id answer asked sent next p'

  -- it cannot be held: the pool is asked to delete it, and the session ends
  pub record Deletes (id : ℕ) (p : S) (sent : List ℕ) (next : Phase) (p' : S) : Type 0 where
    pub answer : Answer
    pub calls : Calls p (Delete id) answer p'
    pub sent_is : sent ≡ []
    pub next_is : next ≡ Ended

  abbrev pub IsCloneHeld : (ℕ → Outcome) → ℕ → Answer → S → List ℕ → Phase → S → Type 0
  IsCloneHeld found id Done p sent next p' = SizesClone found id p sent next p'
  IsCloneHeld found id (Refused reason) p sent next p' = Deletes id p sent next p'
  IsCloneHeld found id answer p sent next p' = ⊥

  -- a clone that was made is held
  pub record HoldsClone (found : ℕ → Outcome) (id : ℕ) (p : S) (sent : List ℕ) (next : Phase) (p' : S) : Type 0 where
    pub answer : Answer
    pub held : S
    pub calls : Calls p (Hold id) answer held
    pub is_held : IsCloneHeld found id answer held sent next p'

  -- The pool was asked for a snapshot under this id, and answered so.
  abbrev pub IsCloned : VolumeOption → (ℕ → Outcome) → ℕ → Answer → S → List ℕ → Phase → S → Type 0
  IsCloned o found id Done p sent next p' = HoldsClone found id p sent next p'
  IsCloned o found id (Refused reason) p sent next p' = Tells (uncloned o reason) p sent next p'
  IsCloned o found id answer p sent next p' = ⊥

  -- Volumes have so many ids from this one on: the pool was asked for a snapshot under each, one behind the other, and answered so.
  abbrev pub Passes : ℕ → ℕ → ℕ → S → S → Type 0
  Passes origin id zero p p' = p' ≡ p
  Passes origin id (suc n) p p' = (answer : Answer) × (q : S) × (is_taken answer ≡ true) × Calls p (CreateSnap id origin) answer q × Passes origin (id + 1) n q p'

  -- The pool was asked for a snapshot of a volume under the least id from 8388608 on that no volume has, and answered so. 64 are tried, since no more sessions have a clone.
  pub record Snaps (origin id : ℕ) (answer : Answer) (p p' : S) : Type 0 where
    pub passed : ℕ
    pub few : passed < 64
    pub id_is : id ≡ 8388608 + passed
    pub tried : S
    pub passes : Passes origin 8388608 passed p tried
    pub calls : Calls tried (CreateSnap id origin) answer p'
    pub all : is_taken answer ≡ true → passed ≡ 63

  -- a clone of a volume is to be made
  pub record Clones (o : VolumeOption) (origin : ℕ) (p : S) (sent : List ℕ) (next : Phase) (p' : S) : Type 0 where
    pub id : ℕ
    pub answer : Answer
    pub made : S
    pub snaps : Snaps origin id answer p made
    pub is_cloned : IsCloned o (λ blocks. o.cloned origin id (bytes_of_blocks (outline p).geometry blocks) (transmission_flags (outline p))) id answer made sent next p'

  -- an option with a name that means no volume, and no clone of one
  pub record IsNameless (o : VolumeOption) (name : List ℕ) (p : S) (sent : List ℕ) (next : Phase) (p' : S) : Type 0 where
    pub no_id : (id : ℕ) → Means o.default o.limit name id → ⊥
    pub no_clone : (origin : ℕ) → MeansClone o.clones name origin → ⊥
    pub tells : Tells o.missing p sent next p'

  -- an option with a name that means one
  pub record IsNamed (o : VolumeOption) (name : List ℕ) (p : S) (sent : List ℕ) (next : Phase) (p' : S) : Type 0 where
    pub id : ℕ
    pub name_is : Means o.default o.limit name id
    pub asks : AsksFor o id p sent next p'

  -- An option with a name that means a clone of one: where that is to be held it is made, and else the volume itself is looked for.
  pub record IsCloneNamed (o : VolumeOption) (name : List ℕ) (p : S) (sent : List ℕ) (next : Phase) (p' : S) : Type 0 where
    pub origin : ℕ
    pub name_is : MeansClone o.clones name origin
    pub asks : MatchBool o.holds (Clones o origin p sent next p') (AsksFor (of_clone o origin) origin p sent next p')

  -- an option that looks for the volume of a name
  abbrev pub LooksFor : VolumeOption → List ℕ → S → List ℕ → Phase → S → Type 0
  LooksFor o name p sent next p' = IsNameless o name p sent next p' ⊎ (IsNamed o name p sent next p' ⊎ IsCloneNamed o name p sent next p')

  -- an option whose data is no name with a list of types
  pub record IsInvalid (option : ℕ) (terms : Terms) (payload : List ℕ) (p : S) (sent : List ℕ) (next : Phase) (p' : S) : Type 0 where
    pub no_info : (name types : List ℕ) → IsInfo payload name types → ⊥
    pub tells : Tells (option_error option Invalid terms) p sent next p'

  -- an option whose data is one
  pub record IsValid (o : VolumeOption) (payload : List ℕ) (p : S) (sent : List ℕ) (next : Phase) (p' : S) : Type 0 where
    pub name : List ℕ
    pub types : List ℕ
    pub info : IsInfo payload name types
    pub looks : LooksFor o name p sent next p'

  -- An option of this number that looks for a volume and tells of it. In a failed pool it ends the session, whatever its data.
  abbrev pub Informs : ℕ → VolumeOption → Terms → List ℕ → S → List ℕ → Phase → S → Type 0
  Informs option o terms payload p sent next p' =
      MatchBool (is_failed (outline p).mode)
      (Tells (outcome [] Ended) p sent next p')
      (IsInvalid option terms payload p sent next p' ⊎ IsValid o payload p sent next p')

  -- The same of an option whose data is the name, whatever it is.
  abbrev pub Exports : VolumeOption → Terms → List ℕ → S → List ℕ → Phase → S → Type 0
  Exports o terms name p sent next p' =
      MatchBool (is_failed (outline p).mode)
      (Tells (outcome [] Ended) p sent next p')
      (LooksFor o name p sent next p')

  -- Calls of NextId one after another, each for what follows the id that the one before it found: from an id on they found these, and ended so.
  abbrev pub Finding : (ℕ → S → S → Type 0) → ℕ → List ℕ → S → S → Type 0
  Finding End from [] p p' = End from p p'
  Finding End from (id ∷ ids) p p' = (q : S) × Calls p (NextId from) (Found (Some id)) q × Finding End (id + 1) ids q p'

  -- the least id from this one on is none below the limit
  pub record FindsNone (limit from : ℕ) (p p' : S) : Type 0 where
    pub found : Option ℕ
    pub behind : IsBehind limit found
    pub calls : Calls p (NextId from) (Found found) p'

  -- no volume is left below the limit, and none is asked for behind it
  abbrev pub IsLast : ℕ → ℕ → S → S → Type 0
  IsLast limit from p p' = MatchBool (nat_lt from limit) (FindsNone limit from p p') (p' ≡ p)

  -- the pool refuses to look for another
  abbrev pub IsRefused : ℕ → S → S → Type 0
  IsRefused from p p' = (reason : Refusal) × Calls p (NextId from) (Refused reason) p'

  -- no more are asked for
  abbrev pub IsEnough : ℕ → S → S → Type 0
  IsEnough from p p' = p' ≡ p

  -- all volumes were found whose ids are names, and are named
  pub record NamesAll (terms : Terms) (p : S) (sent : List ℕ) (next : Phase) (p' : S) : Type 0 where
    pub ids : List ℕ
    pub few : length ids ≤ 65536
    pub below : All (λ id. id < limit_of terms.profile) ids
    pub finding : Finding (IsLast (limit_of terms.profile)) 0 ids p p'
    pub sent_is : sent ≡ list_reply ids
    pub next_is : next ≡ Options terms

  -- a call was refused, or one volume more was found than there may be: that ends the session
  pub record NamesNone (p : S) (sent : List ℕ) (next : Phase) (p' : S) : Type 0 where
    pub ids : List ℕ
    pub few : length ids ≤ 65537
    pub finding : Finding IsRefused 0 ids p p' ⊎ ((length ids ≡ 65537) × Finding IsEnough 0 ids p p')
    pub sent_is : sent ≡ []
    pub next_is : next ≡ Ended

  -- LIST, which has no data, names each volume that a name may mean, in the order of the ids. In a failed pool it ends the session, whatever its data.
  abbrev pub Lists : Terms → List ℕ → S → List ℕ → Phase → S → Type 0
  Lists terms payload p sent next p' =
      MatchBool (is_failed (outline p).mode)
      (Tells (outcome [] Ended) p sent next p')
      (MatchBool (length payload == 0)
      (NamesAll terms p sent next p' ⊎ NamesNone p sent next p')
      (Tells (option_error OPTION_LIST Invalid terms) p sent next p'))

  -- an option whose data is no name with queries
  pub record IsNoQuery (option : ℕ) (terms : Terms) (payload : List ℕ) (p : S) (sent : List ℕ) (next : Phase) (p' : S) : Type 0 where
    pub no_query : (name : List ℕ) (queries : List (List ℕ)) → IsQuery payload name queries → ⊥
    pub tells : Tells (option_error option Invalid terms) p sent next p'

  -- The pool was asked for the least id from that of an older volume on, and answered so. Where that one is there the option is done with its id, and else with a number that is none. A refusal
  -- ends the session.
  abbrev pub Seeks : (ℕ → VolumeOption) → List ℕ → ℕ → Answer → S → List ℕ → Phase → S → Type 0
  Seeks o name id (Found least) p sent next p' = LooksFor (o (if is_there id least then id else 16777216)) name p sent next p'
  Seeks o name id (Refused reason) p sent next p' = Tells (outcome [] Ended) p sent next p'
  Seeks o name id answer p sent next p' = ⊥

  -- what a query said is the id of no volume that a name may mean
  pub record IsUnsought (o : ℕ → VolumeOption) (text name : List ℕ) (p : S) (sent : List ℕ) (next : Phase) (p' : S) : Type 0 where
    pub no_id : (id : ℕ) → IsNameOf text id → id < (o 16777216).limit → ⊥
    pub looks : LooksFor (o 16777216) name p sent next p'

  -- it is that of one, an older volume, which is looked for before the volume itself is
  pub record IsSought (o : ℕ → VolumeOption) (text name : List ℕ) (p : S) (sent : List ℕ) (next : Phase) (p' : S) : Type 0 where
    pub id : ℕ
    pub text_is : IsNameOf text id
    pub below : id < (o 16777216).limit
    pub answer : Answer
    pub looked : S
    pub calls : Calls p (NextId id) answer looked
    pub seeks : Seeks o name id answer looked sent next p'

  abbrev pub SeeksFor : (ℕ → VolumeOption) → List ℕ → List ℕ → S → List ℕ → Phase → S → Type 0
  SeeksFor o text name p sent next p' = IsUnsought o text name p sent next p' ⊎ IsSought o text name p sent next p'

  -- an option whose data is one
  pub record IsQueried (asks : List (List ℕ) → Bool) (o : Bool → ℕ → VolumeOption) (payload : List ℕ) (p : S) (sent : List ℕ) (next : Phase) (p' : S) : Type 0 where
    pub name : List ℕ
    pub queries : List (List ℕ)
    pub query : IsQuery payload name queries
    pub seeks : SeeksFor (o (asks queries)) (since_of queries) name p sent next p'

  -- An option of this number that asks for contexts, which takes structured replies. In a failed pool it ends the session, whatever its data. refused: the terms behind an error.
  abbrev pub Queries : ℕ → (List (List ℕ) → Bool) → (Bool → ℕ → VolumeOption) → Terms → Terms → List ℕ → S → List ℕ → Phase → S → Type 0
  Queries option asks o terms refused payload p sent next p' =
      MatchBool (is_failed (outline p).mode)
      (Tells (outcome [] Ended) p sent next p')
      (MatchBool terms.is_structured
      (IsNoQuery option refused payload p sent next p' ⊎ IsQueried asks o payload p sent next p')
      (Tells (option_error option Invalid refused) p sent next p'))

  -- the options of an extended session alone
  abbrev pub Extends : Terms → ℕ → List ℕ → S → List ℕ → Phase → S → Type 0
  Extends terms option payload p sent next p' =
      MatchBool (option == OPTION_STRUCTURED_REPLY) (Tells (structures terms payload) p sent next p')
      (MatchBool (option == OPTION_LIST_META_CONTEXT) (Queries OPTION_LIST_META_CONTEXT lists (list_context terms) terms terms payload p sent next p')
      (MatchBool (option == OPTION_SET_META_CONTEXT) (Queries OPTION_SET_META_CONTEXT asks_for (set_context terms) terms (without_context terms) payload p sent next p')
      (Tells (option_error option Unsupported terms) p sent next p')))

  -- an option, by its number: ABORT is acknowledged and ends the session, whatever its data
  abbrev pub Chooses : Terms → ℕ → List ℕ → S → List ℕ → Phase → S → Type 0
  Chooses terms option payload p sent next p' =
      MatchBool (option == OPTION_GO) (Informs OPTION_GO (go terms) terms payload p sent next p')
      (MatchBool (option == OPTION_INFO) (Informs OPTION_INFO (info terms) terms payload p sent next p')
      (MatchBool (option == OPTION_EXPORT_NAME) (Exports (export_name terms) terms payload p sent next p')
      (MatchBool (option == OPTION_LIST) (Lists terms payload p sent next p')
      (MatchBool (option == OPTION_ABORT) (Tells (outcome (option_reply OPTION_ABORT Acknowledged []) Ended) p sent next p')
      (MatchBool (is_extended terms.profile) (Extends terms option payload p sent next p')
      (Tells (option_error option Unsupported terms) p sent next p'))))))

  -- an option, and what is held behind it
  pub record AnswersOption (terms : Terms) (option : ℕ) (payload : List ℕ) (p : S) (sent : List ℕ) (next : Phase) (p' : S) : Type 0 where
    pub chosen : Outcome
    pub answered : S
    pub chooses : Chooses terms option payload p chosen.sent chosen.next answered
    pub settles : Settles terms.since chosen answered sent next p'

  -- One frame: what is sent for it, the next phase, and the pool after it.
  abbrev pub Answers : Phase → Message → S → List ℕ → Phase → S → Type 0
  Answers (Flags profile) (client_flags no_zeroes) p sent next p' = Tells (outcome [] (Options (terms_of profile no_zeroes))) p sent next p'
  Answers (Options terms) (client_option option payload) p sent next p' = AnswersOption terms option payload p sent next p'
  Answers (Transmission volume size (Listens manner)) (command r payload) p sent next p' = Serves (verdict_in manner size r) volume size manner r payload p sent next p'
  Answers (Transmission volume size (Works manner rest)) message p sent next p' = ⊥
  Answers phase malformed p sent next p' = Ends [] phase p sent next p'
  Answers phase _ p sent next p' = ⊥

  -- ---- one piece

  -- the text begins with no whole frame: all of the piece is taken and held
  pub record Waits (kind : Kind) (old : State) (p : S) (piece : List ℕ) (taken : ℕ) (sent : List ℕ) (ended : Bool) (new : State) (p' : S) : Type 0 where
    pub partial : IsPartial kind (old.held ++ piece)
    pub taken_is : taken ≡ length piece
    pub sent_is : sent ≡ []
    pub ended_is : ended ≡ false
    pub phase_is : new.phase ≡ old.phase
    pub held_is : new.held ≡ old.held ++ piece
    pub pool_is : p' ≡ p

  -- the first frame of the text ends inside the piece, and is answered there
  pub record TakesFrame (kind : Kind) (old : State) (p : S) (piece : List ℕ) (taken : ℕ) (sent : List ℕ) (ended : Bool) (new : State) (p' : S) : Type 0 where
    pub message : Message
    pub some : 0 < taken
    pub inside : taken ≤ length piece
    pub frame : IsFrame kind message (old.held ++ take taken piece)
    pub answer : Answers old.phase message p sent new.phase p'
    pub ended_is : ended ≡ has_ended new.phase
    pub held_is : new.held ≡ []

  -- after its end a session drops what comes, and sends nothing
  pub record IsOver (old : State) (p : S) (piece : List ℕ) (taken : ℕ) (sent : List ℕ) (ended : Bool) (new : State) (p' : S) : Type 0 where
    pub taken_is : taken ≡ length piece
    pub sent_is : sent ≡ []
    pub ended_is : ended ≡ true
    pub phase_is : new.phase ≡ old.phase
    pub held_is : new.held ≡ []
    pub pool_is : p' ≡ p

  -- A session whose request has parts left makes the next one, and takes nothing of the piece.
  pub record GoesOn (volume size : ℕ) (manner : Manner) (r : Request) (old : State) (p : S) (taken : ℕ) (sent : List ℕ) (ended : Bool) (new : State) (p' : S) : Type 0 where
    pub part : MakesPart volume size manner r p sent new.phase p'
    pub none : old.held ≡ []
    pub taken_is : taken ≡ 0
    pub ended_is : ended ≡ has_ended new.phase
    pub held_is : new.held ≡ []

  -- one that reads no frames
  abbrev pub IsDeaf : Phase → State → S → List ℕ → ℕ → List ℕ → Bool → State → S → Type 0
  IsDeaf (Transmission volume size (Works manner r)) old p piece taken sent ended new p' = GoesOn volume size manner r old p taken sent ended new p'
  IsDeaf Ended old p piece taken sent ended new p' = IsOver old p piece taken sent ended new p'
  IsDeaf phase old p piece taken sent ended new p' = ⊥

  -- One step of a session on a piece.
  abbrev pub Steps : State → S → List ℕ → ℕ → List ℕ → Bool → State → S → Type 0
  Steps old p piece taken sent ended new p' =
      MatchOption (kind_of old.phase) (IsDeaf old.phase old p piece taken sent ended new p')
      (λ kind. Waits kind old p piece taken sent ended new p' ⊎ TakesFrame kind old p piece taken sent ended new p')

  -- a text is one frame of the phase, and this is sent for it
  pub record AnswersText (kind : Kind) (phase : Phase) (text : List ℕ) (p : S) (sent : List ℕ) (next : Phase) (p' : S) : Type 0 where
    pub message : Message
    pub frame : IsFrame kind message text
    pub answer : Answers phase message p sent next p'
