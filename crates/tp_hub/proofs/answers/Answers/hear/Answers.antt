use Rattle.std.proofs.Common.{◌≡◌, ◌∙◌, ◌+◌, ◌++◌, ap, length, arith, append_assoc, length-append}
use Rattle.nbd_session.specs.declared.answer.TheConstants.{MAX_ANSWER}
use Rattle.tp_hub.specs.Told.{end_mark, sent_mark}
use Rattle.tp_hub.proofs.Telling.{adds, has_bytes, has_places, sent_length, step_told, step_total, still_fits}
use Rattle.tp_hub.proofs.answers.Answers.hear.Goals as goal

pub step_in-step-requires-clause-room : goal.step_in-step-requires-clause-room
step_in-step-requires-clause-room g c = has_bytes c.args.self.now c.self.inside.marks.items c.self.inside.used c.self.inside.bytes.items _ _ _ MAX_ANSWER c.self.view_is c.self.invariant c.requires.room.bytes

pub tell_sent-requires : goal.tell_sent-requires
tell_sent-requires g c = let p = has_places c.args.self.now c.self.inside.marks.items c.self.inside.used c.self.inside.bytes.items _ _ 2 c.self.view_is c.requires.room.marks in omega (arith, p, c.self.inside.marks.ok.0)

pub tell_end-requires : goal.tell_end-requires
tell_end-requires g c =
    let p = has_places c.args.self.now c.self.inside.marks.items c.self.inside.used c.self.inside.bytes.items _ _ 2 c.self.view_is c.requires.room.marks in
    let n : length c.tell_sent.new.marks.items ≡ length c.self.inside.marks.items + length (sent_mark c.args.number c.step_in-step.result.sent) =
    ap length c.tell_sent.ensures.items ∙ length-append c.self.inside.marks.items (sent_mark c.args.number c.step_in-step.result.sent) in
    omega (arith, p, n, sent_length c.args.number c.step_in-step.result.sent, c.tell_sent.new.marks.ok.0, c.tell_sent.ensures.capacity)

pub invariant_of-self : goal.invariant_of-self
invariant_of-self g c =
    let sent = sent_mark c.args.number c.step_in-step.result.sent in
    let ended = end_mark c.args.number c.step_in-step.result.ended in
    let step = c.step_in-step.ensures in
    still_fits c.self.inside.marks.items (sent ++ ended) c.tell_end.new.marks.items c.self.inside.used (c.self.inside.used + c.step_in-step.result.sent) c.self.inside.bytes.items c.step_in-step.new.bytes.items _ _ _ c.self.invariant
    (c.tell_end.ensures.items ∙ (ap (λ l. l ++ ended) c.tell_sent.ensures.items ∙ append_assoc c.self.inside.marks.items sent ended)) (omega (arith, step_total c.args.number c.step_in-step.result.sent c.step_in-step.result.ended)) step.fits step.most step.capacity

pub returns : goal.returns
returns g c =
    let sent = sent_mark c.args.number c.step_in-step.result.sent in
    let ended = end_mark c.args.number c.step_in-step.result.ended in
    let did = c.step_in-step.ensures.steps in (
      did.0,
      did.3,
      adds c.args.self.now c.self.inside.marks.items (sent ++ ended) c.tell_end.new.marks.items c.self.inside.used (c.self.inside.used + c.step_in-step.result.sent) c.self.inside.bytes.items c.step_in-step.new.bytes.items did.0 _ _ _ _ _ c.self.view_is c.self.invariant
          (c.tell_end.ensures.items ∙ (ap (λ l. l ++ ended) c.tell_sent.ensures.items ∙ append_assoc c.self.inside.marks.items sent ended)) did.2 (omega (arith, c.tell_sent.ensures.capacity, c.tell_end.ensures.capacity))
          (step_told c.args.number c.step_in-step.result.sent did.0 c.step_in-step.result.ended did.1),
    )
