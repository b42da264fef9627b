use Rattle.std.proofs.Common.{◌≡◌, ◌∙◌, ◌<◌, List, ap, length, subst, sym, false, true, arith}
use Rattle.tp_hub.specs.Told.{Answer, told}
use Rattle.tp_lines.specs.Texts.{text_in}
use Rattle.tp_hub.specs.Streams.{Writes}
use Rattle.tp_lines.proofs.Telling.{is_none, is_some, said_all, said_lost, said_none}
use Rattle.tp_lines.proofs.text.tell.Goals as goal

pub returns-then-is_empty : goal.returns-then-is_empty
returns-then-is_empty g c = said_none (g.S.Stream.calls c.args.stream.now) c.args.answers.now.list (sym c.marks-marks.ensures.count ∙ is_none (length c.marks-marks.result.now) (sym c.is_empty.ensures ∙ c.if-is_empty.true))

pub returns-then-not-tell_marks : goal.returns-then-not-tell_marks
returns-then-not-tell_marks g c =
    let count = c.marks-marks.ensures.count in
    let some : 0 < length c.args.answers.now.list = omega (arith, count, is_some (length c.marks-marks.result.now) (sym c.is_empty.ensures ∙ c.if-is_empty.false)) in
    let same : told c.marks-marks.result.now c.bytes.result.now ≡ c.args.answers.now.list = ap (told c.marks-marks.result.now) c.bytes.ensures.all ∙ c.marks-marks.ensures.says in
    said_lost (g.S.Stream.calls c.args.stream.now) (g.S.Stream.calls c.tell_marks.new.stream) c.args.answers.now.list some
    (subst (λ (l : List Answer). Writes (g.S.Stream.calls c.args.stream.now) (g.S.Stream.calls c.tell_marks.new.stream) (text_in l) false) same c.if-not-tell_marks.ensures)

pub returns : goal.returns
returns g c =
    let count = c.marks-marks.ensures.count in
    let some : 0 < length c.args.answers.now.list = omega (arith, count, is_some (length c.marks-marks.result.now) (sym c.is_empty.ensures ∙ c.if-is_empty.false)) in
    let same : told c.marks-marks.result.now c.bytes.result.now ≡ c.args.answers.now.list = ap (told c.marks-marks.result.now) c.bytes.ensures.all ∙ c.marks-marks.ensures.says in
    said_all (g.S.Stream.calls c.args.stream.now) (g.S.Stream.calls c.tell_marks.new.stream) (g.S.Stream.calls c.flush.new.self) c.args.answers.now.list c.flush.result some
    (subst (λ (l : List Answer). Writes (g.S.Stream.calls c.args.stream.now) (g.S.Stream.calls c.tell_marks.new.stream) (text_in l) true) same c.if-not-tell_marks.ensures) c.flush.ensures
