-- Trusted reading: that the next frame of a session is a FLUSH (NBD's proto.md, "Request types").
use Rattle.std.specs.Prelude.{◌≡◌, ℕ, Bool, true, false, List, [], ◌++◌, Option, None, Some, Result, Ok, Err, if◌then◌else◌}
use Rattle.tp_model.specs.declared.refusal.Refusal.{Refusal}
use Rattle.tp_model.specs.Calls.{Answer, Done, Refused}
use Rattle.nbd_wire.specs.declared.Request.{Request}
use Rattle.nbd_wire.specs.Grammar.{Message, client_flags, client_option, command, malformed, IsRequest}
use Rattle.nbd_session.specs.declared.phase.Course.TheVariants.{Listens}
use Rattle.nbd_session.specs.declared.phase.Manner.{Manner}
use Rattle.nbd_session.specs.declared.phase.Phase.TheVariants.{Transmission}
use Rattle.nbd_session.specs.declared.request.Verdict.{Verdict}
use Rattle.nbd_session.specs.declared.request.Verdict.TheVariants as verdicts
use Rattle.nbd_session.specs.Requests.{verdict_in}
use Rattle.nbd_session.specs.Session.{State}

-- A FLUSH stands whole at the front of a text. It passes the tests of a session of this manner,
-- whose volume has so many bytes.
pub record BeginsWithFlush (size : ℕ) (manner : Manner) (text : List ℕ) : Type 0 where
  pub request : Request
  pub payload : List ℕ
  pub frame : List ℕ
  pub rest : List ℕ
  pub verdict : verdict_in manner size request ≡ verdicts.Flush
  pub is_frame : IsRequest frame request payload
  pub text_is : text ≡ frame ++ rest

-- The next frame of a session is such a FLUSH: the session is in transmission, holds no part of a
-- frame, and has no part of a request left.
pub record IsAtFlush (session : State) (piece : List ℕ) : Type 0 where
  pub volume : ℕ
  pub size : ℕ
  pub manner : Manner
  pub phase_is : session.phase ≡ Transmission volume size (Listens manner)
  pub held_is : session.held ≡ []
  pub begins : BeginsWithFlush size manner piece

-- a request of this verdict is a FLUSH that passes its tests
abbrev pub is_flush_verdict : Verdict → Bool
is_flush_verdict (verdicts.Refuse e) = false
is_flush_verdict verdicts.Nothing = false
is_flush_verdict verdicts.Read = false
is_flush_verdict verdicts.Write = false
is_flush_verdict verdicts.Trim = false
is_flush_verdict verdicts.WriteZeroes = false
is_flush_verdict verdicts.Flush = true
is_flush_verdict verdicts.Disconnect = false
is_flush_verdict verdicts.Long = false
is_flush_verdict verdicts.Status = false

-- the cookie of such a request, if a message is one
abbrev pub flush_cookie : ℕ → Manner → Message → Option ℕ
flush_cookie size manner (client_flags no_zeroes) = None
flush_cookie size manner (client_option option payload) = None
flush_cookie size manner (command request payload) = if is_flush_verdict (verdict_in manner size request) then Some request.cookie else None
flush_cookie size manner malformed = None

-- the answer of a flush, by its result
abbrev pub answer_of : Result (Unit {0}) Refusal → Answer
answer_of (Ok done) = Done
answer_of (Err reason) = Refused reason
