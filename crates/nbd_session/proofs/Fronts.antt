-- A READ or a BLOCK_STATUS at the front of a text.
use Rattle.std.proofs.Common.{◌≡◌, ℕ, Bool, true, false, List, [], ◌++◌, length, take, drop, Option, Some, None, true≢false, inl, inr, refl, sym, ap, subst, ◌∙◌, append_assoc}
use Rattle.std.specs.Prelude.{◌==◌, ◌||◌, IfSome, IsTrue, if◌then◌else◌}
use Rattle.std.proofs.lemmas.List.{append-nil, take-append-drop}
use Rattle.std.proofs.lemmas.Option.{IfSome_then}
use Rattle.nbd_wire.specs.declared.Kind.TheVariants.{Requests}
use Rattle.nbd_wire.specs.declared.Request.{Request}
use Rattle.nbd_wire.specs.declared.TheConstants.{COMMAND_BLOCK_STATUS, COMMAND_READ}
use Rattle.nbd_wire.specs.Grammar.{Message, client_flags, client_option, command, malformed, IsFrame, IsRequest}
use Rattle.nbd_wire.specs.Reading.{whole_len}
use Rattle.nbd_wire.proofs.Frames.{one_frame}
use Rattle.nbd_session.specs.declared.batch.PieceKind.TheVariants as kinds
use Rattle.nbd_session.specs.Requests.{BeginsWith, IsKindOf, is_flush_request, is_look, kind_of_message}
use Rattle.nbd_session.proofs.Serving.{frame_of_text}

-- requests of both kinds, also beside what was made of one
read_looks : (r : Request) → r.kind ≡ COMMAND_READ → is_look r ≡ true
read_looks r is = ap (λ (n : ℕ). n == COMMAND_READ || n == COMMAND_BLOCK_STATUS) is

status_looks : (r : Request) → r.kind ≡ COMMAND_BLOCK_STATUS → is_look r ≡ true
status_looks r is = ap (λ (n : ℕ). n == COMMAND_READ || n == COMMAND_BLOCK_STATUS) is

looks_so : (o : Option ℕ) (r : Request) → is_look r ≡ true → IfSome o (λ n. IsTrue (is_look r))
looks_so None r is = tt
looks_so (Some n) r is = is

pub read_so : (o : Option ℕ) (r : Request) → r.kind ≡ COMMAND_READ → IfSome o (λ n. IsTrue (is_look r))
read_so o r is = looks_so o r (read_looks r is)

pub status_so : (o : Option ℕ) (r : Request) → r.kind ≡ COMMAND_BLOCK_STATUS → IfSome o (λ n. IsTrue (is_look r))
status_so o r is = looks_so o r (status_looks r is)

begins_with : (Such : Request → Bool) (r : Request) (payload text frame rest : List ℕ) → Such r ≡ true → IsRequest frame r payload → text ≡ frame ++ rest → BeginsWith Such text
begins_with Such r payload text frame rest kind h e = record { request = r; payload = payload; frame = frame; rest = rest; kind = kind; is_frame = h; text_is = e }

-- what the first frame is of is what the text begins with
begins_not : (Such : Request → Bool) (m : Message) (text frame rest : List ℕ) → ((r : Request) (payload : List ℕ) → m ≡ command r payload → Such r ≡ false) → IsFrame Requests m frame → text ≡ frame ++ rest → BeginsWith Such text → ⊥
begins_not Such m text frame rest not h e b =
    let same : m ≡ command b.request b.payload = (one_frame Requests m (command b.request b.payload) frame b.frame rest b.rest h b.is_frame (sym e ∙ b.text_is)).1 in
    absurd (true≢false (sym b.kind ∙ not b.request b.payload same))

same_request : (r other : Request) (p q : List ℕ) → command r p ≡ command other q → r ≡ other
same_request r other p q e = cc

none_begins : (m : Message) (text frame rest : List ℕ) → ((r : Request) (payload : List ℕ) → m ≡ command r payload → ⊥) → IsFrame Requests m frame → text ≡ frame ++ rest → IsKindOf text kinds.Other
none_begins m text frame rest none h e = (begins_not is_look m text frame rest (λ r p is. absurd (none r p is)) h e, begins_not is_flush_request m text frame rest (λ r p is. absurd (none r p is)) h e)

kind_so : (r : Request) (p text frame rest : List ℕ) (looks flushes : Bool) → is_look r ≡ looks → is_flush_request r ≡ flushes → IsRequest frame r p → text ≡ frame ++ rest
    → IsKindOf text (if looks then kinds.Look else if flushes then kinds.Flush else kinds.Other)
kind_so r p text frame rest true flushes look flush h e = begins_with is_look r p text frame rest look h e
kind_so r p text frame rest false true look flush h e = begins_with is_flush_request r p text frame rest flush h e
kind_so r p text frame rest false false look flush h e = (
  begins_not is_look (command r p) text frame rest (λ other q same. ap is_look (sym (same_request r other p q same)) ∙ look) h e,
  begins_not is_flush_request (command r p) text frame rest (λ other q same. ap is_flush_request (sym (same_request r other p q same)) ∙ flush) h e,
)

-- what a text begins with, by its first frame
pub kind_begins : (m : Message) (text frame rest : List ℕ) → IsFrame Requests m frame → text ≡ frame ++ rest → IsKindOf text (kind_of_message m)
kind_begins (client_flags z) text frame rest h e = none_begins (client_flags z) text frame rest (λ r p is. absurd cc) h e
kind_begins (client_option o q) text frame rest h e = none_begins (client_option o q) text frame rest (λ r p is. absurd cc) h e
kind_begins (command r p) text frame rest h e = kind_so r p text frame rest (is_look r) (is_flush_request r) refl refl h e
kind_begins malformed text frame rest h e = none_begins malformed text frame rest (λ r p is. absurd cc) h e

-- a text that is one, and one that begins with it
pub is_one : (o : Option ℕ) (r : Request) (payload text : List ℕ) → whole_len Requests text ≡ length text → IsRequest (take (whole_len Requests text) text) r payload
    → IfSome o (λ n. IsTrue (is_look r)) → IfSome o (λ n. BeginsWith is_look text)
is_one o r payload text whole is h = IfSome_then o h (λ n kind. begins_with is_look r payload text text [] kind (frame_of_text Requests (command r payload) text whole is) (sym (append-nil text)))

pub begins_longer : (n : ℕ) (text : List ℕ) → BeginsWith is_look (take n text) → BeginsWith is_look text
begins_longer n text b = record {
  request = b.request;
  payload = b.payload;
  frame = b.frame;
  rest = b.rest ++ drop n text;
  kind = b.kind;
  is_frame = b.is_frame;
  text_is = sym (take-append-drop n text) ∙ (ap (λ (l : List ℕ). l ++ drop n text) b.text_is ∙ append_assoc b.frame b.rest (drop n text));
}
