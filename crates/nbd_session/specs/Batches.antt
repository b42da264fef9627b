-- Trusted reading: how much of what a client sends is taken before others may have the pool (own).
use Rattle.std.specs.Prelude.{◌≡◌, ℕ, zero, suc, ◌+◌, ◌<◌, ◌≤◌, Bool, false, List, [], ◌∷◌, ◌++◌, length, drop, nat_lt, if◌then◌else◌, ◌==◌, IsTrue, IfSome}
use Rattle.nbd_wire.specs.declared.Kind.{Kind}
use Rattle.nbd_wire.specs.declared.TheConstants.{OPTION_LIST}
use Rattle.nbd_wire.specs.Grammar.{Message, client_flags, client_option, command, malformed, IsFrame}
use Rattle.nbd_wire.specs.Reading.{wanted}
use Rattle.nbd_session.specs.Requests.{is_flush_request}
use Rattle.nbd_session.specs.Session.{State, kind_of}

-- the bytes of the first frame of a text, as far as it goes
abbrev pub front_len : Kind → List ℕ → ℕ
front_len kind text = if nat_lt (length text) (wanted kind text) then length text else wanted kind text

-- the end of so many frames
unfoldable pub frames_end : Kind → ℕ → List ℕ → ℕ
frames_end kind zero text = 0
frames_end kind (suc n) text = frames_end kind n text + front_len kind (drop (frames_end kind n text) text)

-- LIST, which tells of all volumes, and FLUSH, which waits for the disk, are taken alone.
abbrev pub is_alone : Message → Bool
is_alone (client_flags no_zeroes) = false
is_alone (client_option option payload) = option == OPTION_LIST
is_alone (command request payload) = is_flush_request request
is_alone malformed = false

-- such a frame stands whole at the front of a text
pub record BeginsAlone (kind : Kind) (text : List ℕ) : Type 0 where
  pub message : Message
  pub frame : List ℕ
  pub rest : List ℕ
  pub alone : IsTrue (is_alone message)
  pub is_frame : IsFrame kind message frame
  pub text_is : text ≡ frame ++ rest

-- So many bytes are some frames, 16 at most. One that is taken alone is the only one.
pub record IsBatch (kind : Kind) (text : List ℕ) (len : ℕ) : Type 0 where
  pub frames : ℕ
  pub few : frames ≤ 16
  pub len_is : len ≡ frames_end kind frames text
  pub alone : (n : ℕ) → n < frames → BeginsAlone kind (drop (frames_end kind n text) text) → frames ≡ 1

-- Where a part of a frame is held, they are no more than what that frame is known to want.
abbrev pub IsNext : Kind → List ℕ → List ℕ → ℕ → Type 0
IsNext kind [] text len = IsBatch kind text len
IsNext kind (byte ∷ held) text len = length (byte ∷ held) + len ≤ wanted kind (byte ∷ held)

-- so many bytes of a text are what a session takes before others may have the pool; one that has ended drops all
abbrev pub IsBatchOf : State → List ℕ → ℕ → Type 0
IsBatchOf s text len = IfSome (kind_of s.phase) (λ kind. IsNext kind s.held text len)
