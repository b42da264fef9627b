-- A request that is no READ is tested as it is, and its error is told by a simple reply. What is described is a BLOCK_STATUS.
use Rattle.std.proofs.Common.{◌≡◌, ℕ, Bool, true, false, ◌&&◌, [], Option, Some, None, refl, ap, ap₂, ◌∙◌}
use Rattle.std.specs.Prelude.{◌==◌, ◌||◌, if◌then◌else◌}
use Rattle.std.specs.Option.{option_map_or}
use Rattle.std.proofs.lemmas.Bool.{and_parts, eqb-true}
use Rattle.tp_model.specs.declared.refusal.NbdError.{NbdError}
use Rattle.tp_model.specs.Refusals.{nbd_code}
use Rattle.tp_model.specs.Requests.{form_error, is_flush, is_read, is_trim, is_write}
use Rattle.nbd_wire.specs.declared.Request.{Request}
use Rattle.nbd_wire.specs.declared.TheConstants.{COMMAND_BLOCK_STATUS, COMMAND_DISC, COMMAND_READ}
use Rattle.nbd_wire.specs.Chunks.{error_chunk}
use Rattle.nbd_wire.specs.Replies.{simple_reply}
use Rattle.nbd_session.specs.declared.phase.Manner.{Manner}
use Rattle.nbd_session.specs.declared.request.Verdict.{Verdict}
use Rattle.nbd_session.specs.declared.request.Verdict.TheVariants as verdicts
use Rattle.nbd_session.specs.Requests.{IsLeft, IsTested, IsWhole, form_of, has_context, is_chunked, is_long, is_status, long_error, plainly, reads_in_chunks, status_error, verdict_in, verdict_on, without_df}
use Rattle.nbd_session.specs.Session.{error_reply}

and_none : (b : Bool) → (b && false) ≡ false
and_none true = refl
and_none false = refl

pub plainly_other : (m : Manner) (r : Request) → (r.kind == COMMAND_READ) ≡ false → plainly m r ≡ r
plainly_other m r other =
    let none : (m.is_structured && r.kind == COMMAND_READ) ≡ false = ap (λ (b : Bool). m.is_structured && b) other ∙ and_none m.is_structured in
    ap (λ (b : Bool). if b then record { flags = without_df r.flags; kind = r.kind; cookie = r.cookie; offset = r.offset; len = r.len } else r) none

-- the tests do not look at DF
abbrev cut_flags : Request → Request
cut_flags r = record { flags = without_df r.flags; kind = r.kind; cookie = r.cookie; offset = r.offset; len = r.len }

whole_by : (size : ℕ) (r : Request) → IsWhole size (cut_flags r) → IsWhole size r
whole_by size r w = record { offset = w.offset; len = w.len; most = w.most; inside = w.inside }

left_by : (size : ℕ) (r : Request) → IsLeft size (cut_flags r) → IsLeft size r
left_by size r w = record { some = w.some; few = w.few; offset = w.offset; len = w.len; inside = w.inside }

tested_by : (b : Bool) (v : Verdict) (size : ℕ) (r : Request) → IsTested v size (if b then cut_flags r else r) → IsTested v size r
tested_by false v size r t = t
tested_by true (verdicts.Refuse e) size r t = t
tested_by true verdicts.Nothing size r t = t
tested_by true verdicts.Read size r t = (whole_by size r t.0, t.1)
tested_by true verdicts.Write size r t = (whole_by size r t.0, t.1, t.2)
tested_by true verdicts.Trim size r t = (whole_by size r t.0, t.1)
tested_by true verdicts.WriteZeroes size r t = (whole_by size r t.0, t.1)
tested_by true verdicts.Flush size r t = t
tested_by true verdicts.Disconnect size r t = t
tested_by true verdicts.Long size r t = left_by size r t
tested_by true verdicts.Status size r t = left_by size r t

pub tested_plainly : (m : Manner) (v : Verdict) (size : ℕ) (r : Request) → IsTested v size (plainly m r) → IsTested v size r
tested_plainly m v size r t = tested_by (reads_in_chunks m r) v size r t

-- no BLOCK_STATUS is answered as one
pub status_other : (m : Manner) (r : Request) → (r.kind == COMMAND_BLOCK_STATUS) ≡ false → is_status m r ≡ false
status_other m r other = ap (λ (b : Bool). has_context m && b) other ∙ and_none (has_context m)

pub error_other : (m : Manner) (r : Request) (e : NbdError) → (r.kind == COMMAND_READ) ≡ false → (r.kind == COMMAND_BLOCK_STATUS) ≡ false → error_reply m r e ≡ simple_reply (nbd_code e) r.cookie []
error_other m r e reads tells =
    let none : is_chunked m r ≡ false = ap₂ (λ (a b : Bool). m.is_structured && (a || b)) reads tells ∙ and_none m.is_structured in
    ap (λ (b : Bool). if b then error_chunk (nbd_code e) r.cookie else simple_reply (nbd_code e) r.cookie []) none

-- ---- no other request is described

chosen_not_status : (a b c d e : Bool) → (if a then verdicts.Flush else if b then verdicts.Nothing else if c then verdicts.Read else if d then verdicts.Write else if e then verdicts.Trim else verdicts.WriteZeroes) ≡ verdicts.Status → ⊥
chosen_not_status true b c d e h = absurd cc
chosen_not_status false true c d e h = absurd cc
chosen_not_status false false true d e h = absurd cc
chosen_not_status false false false true e h = absurd cc
chosen_not_status false false false false true h = absurd cc
chosen_not_status false false false false false h = absurd cc

tested_not_status : (o : Option NbdError) (v : Verdict) → (v ≡ verdicts.Status → ⊥) → option_map_or verdicts.Refuse o v ≡ verdicts.Status → ⊥
tested_not_status None v not_it h = not_it h
tested_not_status (Some e) v not_it h = absurd cc

asked_not_status : (b : Bool) (v : Verdict) → (v ≡ verdicts.Status → ⊥) → (if b then verdicts.Disconnect else v) ≡ verdicts.Status → ⊥
asked_not_status true v not_it h = absurd cc
asked_not_status false v not_it h = not_it h

never_status : (size : ℕ) (r : Request) → verdict_on size r ≡ verdicts.Status → ⊥
never_status size r h =
    asked_not_status (r.kind == COMMAND_DISC) _ (λ e.
    tested_not_status (form_error size (form_of r)) _ (λ g. chosen_not_status (is_flush (form_of r)) (r.len == 0) (is_read (form_of r)) (is_write (form_of r)) (is_trim (form_of r)) g) e) h

status_by : (a b : Bool) (o p : Option NbdError) (v : Verdict) → (v ≡ verdicts.Status → ⊥)
    → (if a then option_map_or verdicts.Refuse o verdicts.Status else if b then option_map_or verdicts.Refuse p verdicts.Long else v) ≡ verdicts.Status → a ≡ true
status_by true b o p v not_it h = refl
status_by false true o None v not_it h = absurd cc
status_by false true o (Some e) v not_it h = absurd cc
status_by false false o p v not_it h = absurd (not_it h)

pub status_kind : (m : Manner) (size : ℕ) (r : Request) → verdict_in m size r ≡ verdicts.Status → r.kind ≡ COMMAND_BLOCK_STATUS
status_kind m size r h =
    let asked : is_status m r ≡ true =
    status_by (is_status m r) (m.is_extended && is_long r) (status_error size r) (long_error size (form_of r)) (verdict_on size (plainly m r)) (never_status size (plainly m r)) h in
    eqb-true r.kind COMMAND_BLOCK_STATUS (and_parts (has_context m) (r.kind == COMMAND_BLOCK_STATUS) asked).1
