use Rattle.std.proofs.Common.{◌≡◌, List, None, Some, ℕ, subst, take}
use Rattle.std.specs.Prelude.{Err, Ok}
use Rattle.tp_hub.specs.Streams.{Gave, GaveAgain, GaveEnd, GaveNone}
use Rattle.tp_lines.specs.Plays.{PlaysLine, ends_last}
use Rattle.tp_lines.specs.ReadLines.{AreDone, IsReadOnce, Leads, left_from, lines_from}
use Rattle.tp_lines.specs.declared.play.Stopped.TheVariants.{Script}
use Rattle.tp_lines.proofs.Doing.{leads_call, leads_once}
use Rattle.tp_lines.proofs.Playing.{played_again, played_end, played_last, played_none, played_on}
use Rattle.tp_lines.proofs.play.play_read.Goals as goal

pub returns-in-Ok-clause-read : goal.returns-in-Ok-clause-read
returns-in-Ok-clause-read g c =
    leads_call g.D.Desk.asks (λ asks did. AreDone (PlaysLine c.args.profile.now) (lines_from c.args.place.now.line (take c.in-Got.count c.receive.new.buffer.items)) c.args.place.now.played asks did c.play_bytes.new.place.played (Ok (tt {0}))) (λ asks did. IsReadOnce (PlaysLine c.args.profile.now) Script ends_last c.args.place.now.line c.args.place.now.played asks did c.play_bytes.new.place.line c.play_bytes.new.place.played None) (Gave (take c.in-Got.count c.receive.new.buffer.items)) c.args.desk.now c.play_bytes.new.desk (g.S.Stream.calls c.args.stream.now) (g.S.Stream.calls c.receive.new.self) (g.S.Stream.calls c.play_bytes.new.stream) c.in-Got.ensures.calls
    (subst (λ (bytes : List ℕ). Leads g.D.Desk.asks (λ asks did. AreDone (PlaysLine c.args.profile.now) (lines_from c.args.place.now.line (take c.in-Got.count bytes)) c.args.place.now.played asks did c.play_bytes.new.place.played (Ok (tt {0}))) c.args.desk.now c.play_bytes.new.desk (g.S.Stream.calls c.receive.new.self) (g.S.Stream.calls c.play_bytes.new.stream)) c.deref.ensures.value c.in-Ok.ensures.played)
    (λ xs ds p. played_on c.args.profile.now c.args.place.now.line c.play_bytes.new.place.line (take c.in-Got.count c.receive.new.buffer.items) c.args.place.now.played c.play_bytes.new.place.played xs ds (subst (λ (bytes : List ℕ). c.play_bytes.new.place.line ≡ left_from c.args.place.now.line (take c.in-Got.count bytes)) c.deref.ensures.value c.in-Ok.ensures.left) p)

pub returns-in-Err-clause-read : goal.returns-in-Err-clause-read
returns-in-Err-clause-read g c =
    leads_call g.D.Desk.asks (λ asks did. AreDone (PlaysLine c.args.profile.now) (lines_from c.args.place.now.line (take c.in-Got.count c.receive.new.buffer.items)) c.args.place.now.played asks did c.play_bytes.new.place.played (Err c.in-Err.why)) (λ asks did. IsReadOnce (PlaysLine c.args.profile.now) Script ends_last c.args.place.now.line c.args.place.now.played asks did c.play_bytes.new.place.line c.play_bytes.new.place.played (Some (Err c.in-Err.why))) (Gave (take c.in-Got.count c.receive.new.buffer.items)) c.args.desk.now c.play_bytes.new.desk (g.S.Stream.calls c.args.stream.now) (g.S.Stream.calls c.receive.new.self) (g.S.Stream.calls c.play_bytes.new.stream) c.in-Got.ensures.calls
    (subst (λ (bytes : List ℕ). Leads g.D.Desk.asks (λ asks did. AreDone (PlaysLine c.args.profile.now) (lines_from c.args.place.now.line (take c.in-Got.count bytes)) c.args.place.now.played asks did c.play_bytes.new.place.played (Err c.in-Err.why)) c.args.desk.now c.play_bytes.new.desk (g.S.Stream.calls c.receive.new.self) (g.S.Stream.calls c.play_bytes.new.stream)) c.deref.ensures.value c.in-Err.ensures.played)
    (λ xs ds p. played_last c.args.profile.now c.args.place.now.line c.play_bytes.new.place.line (take c.in-Got.count c.receive.new.buffer.items) c.args.place.now.played c.play_bytes.new.place.played c.in-Err.why xs ds p)

pub returns-in-NotNow-clause-read : goal.returns-in-NotNow-clause-read
returns-in-NotNow-clause-read g c = leads_once g.D.Desk.asks (λ asks did. IsReadOnce (PlaysLine c.args.profile.now) Script ends_last c.args.place.now.line c.args.place.now.played asks did c.args.place.now.line c.args.place.now.played None) GaveAgain c.args.desk.now (g.S.Stream.calls c.args.stream.now) (g.S.Stream.calls c.receive.new.self) c.in-NotNow.ensures.calls (played_again c.args.profile.now c.args.place.now.line c.args.place.now.played)

pub returns-in-End-clause-read : goal.returns-in-End-clause-read
returns-in-End-clause-read g c =
    leads_call g.D.Desk.asks (λ asks did. PlaysLine c.args.profile.now c.args.place.now.line asks did c.end_line.result) (λ asks did. IsReadOnce (PlaysLine c.args.profile.now) Script ends_last c.args.place.now.line c.args.place.now.played asks did c.end_line.new.place.line c.end_line.new.place.played (Some c.end_line.result)) GaveEnd c.args.desk.now c.end_line.new.desk (g.S.Stream.calls c.args.stream.now) (g.S.Stream.calls c.receive.new.self) (g.S.Stream.calls c.end_line.new.stream) c.in-End.ensures.calls c.end_line.ensures.played
    (played_end c.args.profile.now c.args.place.now.line c.end_line.new.place.line c.args.place.now.played c.end_line.new.place.played c.end_line.result c.end_line.ensures.count c.end_line.ensures.same)

pub returns-in-Broken-clause-read : goal.returns-in-Broken-clause-read
returns-in-Broken-clause-read g c = leads_once g.D.Desk.asks (λ asks did. IsReadOnce (PlaysLine c.args.profile.now) Script ends_last c.args.place.now.line c.args.place.now.played asks did c.args.place.now.line c.args.place.now.played (Some (Err Script))) GaveNone c.args.desk.now (g.S.Stream.calls c.args.stream.now) (g.S.Stream.calls c.receive.new.self) c.in-Broken.ensures.calls (played_none c.args.profile.now c.args.place.now.line c.args.place.now.line c.args.place.now.played)
