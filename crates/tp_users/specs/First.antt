-- Trusted reading: a first session: a volume is chosen, a sector of it is written and read, and all is flushed (own).
use Rattle.std.specs.Prelude.{◌≡◌, ◌<◌, ℕ, true, List, [], ◌∷◌, ◌++◌, length}
use Rattle.tp_model.specs.declared.refusal.Refusal.TheVariants.{Fault}
use Rattle.tp_model.specs.Refusals.{nbd_code, nbd_error}
use Rattle.tp_model.specs.Pool.{PlainPool, Outline, outline_of}
use Rattle.tp_model.specs.Calls.{Answer, Call, HasCause}
use Rattle.nbd_wire.specs.declared.Request.{Request}
use Rattle.nbd_wire.specs.declared.TheConstants.{OPTION_GO, OPTION_MAGIC, REQUEST_MAGIC, COMMAND_READ, COMMAND_WRITE, COMMAND_DISC, COMMAND_FLUSH}
use Rattle.nbd_wire.specs.Numbers.{bytes}
use Rattle.nbd_wire.specs.Grammar.{flags_value, option_text, request_text}
use Rattle.nbd_wire.specs.Replies.{info_text, simple_reply}
use Rattle.nbd_session.specs.declared.phase.Phase.TheVariants.{Flags}
use Rattle.nbd_session.specs.declared.phase.Profile.TheVariants.{Strict}
use Rattle.nbd_session.specs.Session.{State, info_reply}
use Rattle.nbd_session.specs.Clauses.{PlainCall}
use Rattle.nbd_session.specs.Talk.{Talks}
use Rattle.tp_pool.specs.Held.{HasUse}
use Rattle.tp_users.specs.Users.{IsBlank}

-- the name "0", and no types
abbrev pub go_data : List ℕ
go_data = info_text (48 ∷ []) []

abbrev pub request : ℕ → ℕ → ℕ → Request
request kind cookie len = record { flags = 0; kind = kind; cookie = cookie; offset = 0; len = len }

abbrev pub flags_text : List ℕ
flags_text = bytes 4 (flags_value true)

abbrev pub go_text : List ℕ
go_text = option_text OPTION_MAGIC OPTION_GO (length go_data) go_data

abbrev pub write_text : List ℕ → List ℕ
write_text payload = request_text REQUEST_MAGIC (request COMMAND_WRITE 1 512) payload

abbrev pub read_text : List ℕ
read_text = request_text REQUEST_MAGIC (request COMMAND_READ 2 512) []

abbrev pub flush_text : List ℕ
flush_text = request_text REQUEST_MAGIC (request COMMAND_FLUSH 3 0) []

abbrev pub disc_text : List ℕ
disc_text = request_text REQUEST_MAGIC (request COMMAND_DISC 4 0) []

-- all that the client sends
abbrev pub first_text : List ℕ → List ℕ
first_text payload = flags_text ++ (go_text ++ (write_text payload ++ (read_text ++ (flush_text ++ disc_text))))

-- a volume of 1048576 bytes, which may be written
abbrev pub go_answer : List ℕ
go_answer = info_reply OPTION_GO 1048576 0x6d

-- all that it is sent behind the greeting
abbrev pub first_answer : List ℕ → List ℕ
first_answer payload = go_answer ++ (simple_reply 0 1 [] ++ (simple_reply 0 2 payload ++ simple_reply 0 3 []))

-- What the client may be sent: the whole answer, or the beginning of it up to a call that was refused, of which it is told. fails: that the disk
-- failed in the meantime.
pub data IsFirstAnswer (payload : List ℕ) (fails : Type 0) (sent : List ℕ) : Type 0 where
  whole : sent ≡ first_answer payload → IsFirstAnswer payload fails sent
  -- the disk failed where the volume was looked up, or its size: the session ended
  no_volume : fails → sent ≡ [] → IsFirstAnswer payload fails sent
  -- the disk failed in the write
  not_written : fails → (rest : List ℕ) → sent ≡ go_answer ++ (simple_reply (nbd_code (nbd_error Fault)) 1 [] ++ rest) → IsFirstAnswer payload fails sent
  -- the disk failed in the read
  not_read : fails → (rest : List ℕ) → sent ≡ go_answer ++ (simple_reply 0 1 [] ++ (simple_reply (nbd_code (nbd_error Fault)) 2 [] ++ rest)) → IsFirstAnswer payload fails sent
  -- the disk failed in the flush
  not_flushed : fails → sent ≡ go_answer ++ (simple_reply 0 1 [] ++ (simple_reply 0 2 payload ++ simple_reply (nbd_code (nbd_error Fault)) 3 [])) → IsFirstAnswer payload fails sent

-- a plain pool, with how often its disk has failed
pub record Counted : Type 0 where
  pub pool : PlainPool
  pub failures : ℕ

abbrev pub counted : PlainPool → ℕ → Counted
counted pool failures = record { pool = pool; failures = failures }

abbrev pub outline_of_counted : Counted → Outline
outline_of_counted c = outline_of c.pool

-- a call of it: a fault is answered where the disk failed, and nowhere else
abbrev pub CountedCall : Counted → Call → Answer → Counted → Type 0
CountedCall c call answer c' = PlainCall c.pool call answer c'.pool × HasCause c.failures answer c'.failures

-- Over a blank pool whose volume is 0, and which uses as many metadata blocks as it may, the first session is answered so.
abbrev pub FirstIsAnswered : Type 0
FirstIsAnswered =
    (payload sent : List ℕ) (c c' : Counted) (new : State) → length payload ≡ 512 → IsBlank 0 c.pool → HasUse c.pool
    → Talks outline_of_counted CountedCall (Flags Strict) (first_text payload) c sent new c' → IsFirstAnswer payload (c.failures < c'.failures) sent
