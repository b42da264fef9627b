use Rattle.std.proofs.Common.{◌≡◌, List, None, Some, ℕ, subst, take}
use Rattle.std.specs.Prelude.{Err, Ok}
use Rattle.tp_hub.specs.Streams.{Gave, GaveAgain, GaveEnd, GaveNone}
use Rattle.tp_lines.specs.ReadLines.{Leads, left_from}
use Rattle.tp_lines.specs.declared.control.Lost.TheVariants.{Input}
use Rattle.tp_lines.proofs.Doing.{leads_call, leads_once}
use Rattle.tp_lines.proofs.Controlling.{DoneSo, OnceSo, gave_again, gave_end, gave_last, gave_none, gave_on}
use Rattle.tp_lines.proofs.control.answer_read.Goals as goal

pub returns-in-Ok-clause-read : goal.returns-in-Ok-clause-read
returns-in-Ok-clause-read g c =
    leads_call g.D.Desk.asks (DoneSo c.args.line.now (take c.in-Got.count c.receive.new.buffer.items) (Ok (tt {0}))) (OnceSo c.args.line.now c.answer_bytes.new.line None) (Gave (take c.in-Got.count c.receive.new.buffer.items)) c.args.desk.now c.answer_bytes.new.desk (g.S.Stream.calls c.args.stream.now) (g.S.Stream.calls c.receive.new.self) (g.S.Stream.calls c.answer_bytes.new.stream) c.in-Got.ensures.calls
    (subst (λ (bytes : List ℕ). Leads g.D.Desk.asks (DoneSo c.args.line.now (take c.in-Got.count bytes) (Ok (tt {0}))) c.args.desk.now c.answer_bytes.new.desk (g.S.Stream.calls c.receive.new.self) (g.S.Stream.calls c.answer_bytes.new.stream)) c.deref.ensures.value c.in-Ok.ensures.answered)
    (λ xs ds p. gave_on c.args.line.now c.answer_bytes.new.line (take c.in-Got.count c.receive.new.buffer.items) xs ds (subst (λ (bytes : List ℕ). c.answer_bytes.new.line ≡ left_from c.args.line.now (take c.in-Got.count bytes)) c.deref.ensures.value c.in-Ok.ensures.left) p)

pub returns-in-Err-clause-read : goal.returns-in-Err-clause-read
returns-in-Err-clause-read g c =
    leads_call g.D.Desk.asks (DoneSo c.args.line.now (take c.in-Got.count c.receive.new.buffer.items) (Err c.in-Err.why)) (OnceSo c.args.line.now c.answer_bytes.new.line (Some (Err c.in-Err.why))) (Gave (take c.in-Got.count c.receive.new.buffer.items)) c.args.desk.now c.answer_bytes.new.desk (g.S.Stream.calls c.args.stream.now) (g.S.Stream.calls c.receive.new.self) (g.S.Stream.calls c.answer_bytes.new.stream) c.in-Got.ensures.calls
    (subst (λ (bytes : List ℕ). Leads g.D.Desk.asks (DoneSo c.args.line.now (take c.in-Got.count bytes) (Err c.in-Err.why)) c.args.desk.now c.answer_bytes.new.desk (g.S.Stream.calls c.receive.new.self) (g.S.Stream.calls c.answer_bytes.new.stream)) c.deref.ensures.value c.in-Err.ensures.answered)
    (λ xs ds p. gave_last c.args.line.now c.answer_bytes.new.line (take c.in-Got.count c.receive.new.buffer.items) c.in-Err.why xs ds p)

pub returns-in-NotNow-clause-read : goal.returns-in-NotNow-clause-read
returns-in-NotNow-clause-read g c = leads_once g.D.Desk.asks (OnceSo c.args.line.now c.args.line.now None) GaveAgain c.args.desk.now (g.S.Stream.calls c.args.stream.now) (g.S.Stream.calls c.receive.new.self) c.in-NotNow.ensures.calls (gave_again c.args.line.now)

pub returns-in-End-clause-read : goal.returns-in-End-clause-read
returns-in-End-clause-read g c = leads_once g.D.Desk.asks (OnceSo c.args.line.now c.args.line.now (Some (Ok (tt {0})))) GaveEnd c.args.desk.now (g.S.Stream.calls c.args.stream.now) (g.S.Stream.calls c.receive.new.self) c.in-End.ensures.calls (gave_end c.args.line.now c.args.line.now)

pub returns-in-Broken-clause-read : goal.returns-in-Broken-clause-read
returns-in-Broken-clause-read g c = leads_once g.D.Desk.asks (OnceSo c.args.line.now c.args.line.now (Some (Err Input))) GaveNone c.args.desk.now (g.S.Stream.calls c.args.stream.now) (g.S.Stream.calls c.receive.new.self) c.in-Broken.ensures.calls (gave_none c.args.line.now c.args.line.now)
