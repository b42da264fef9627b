use Rattle.std.proofs.Common.{◌∙◌, ◌+◌, ◌++◌, ap, sym, false, arith, append-nil}
use Rattle.nbd_session.specs.declared.answer.TheConstants.{MAX_ANSWER}
use Rattle.tp_hub.specs.Told.{end_mark, sent_mark}
use Rattle.tp_hub.proofs.Telling.{adds, has_bytes, has_places, step_told, step_total, still_fits, still_inside}
use Rattle.tp_hub.proofs.answers.Answers.end_flush.Goals as goal

pub end_in-requires-clause-capacity : goal.end_in-requires-clause-capacity
end_in-requires-clause-capacity g c =
    let b = has_bytes c.args.self.now c.self.inside.marks.items c.self.inside.used c.self.inside.bytes.items _ _ _ MAX_ANSWER c.self.view_is c.self.invariant c.requires.room.bytes in
    omega (arith, b, c.self.invariant.4)

pub invariant_of-self : goal.invariant_of-self
invariant_of-self g c =
    let b = has_bytes c.args.self.now c.self.inside.marks.items c.self.inside.used c.self.inside.bytes.items _ _ _ MAX_ANSWER c.self.view_is c.self.invariant c.requires.room.bytes in
    let e = c.end_in.ensures in
    still_inside c.self.inside.marks.items c.self.inside.used c.self.inside.bytes.items c.end_in.new.bytes.items _ _ _ c.self.invariant e.inside (e.most c.self.inside.room c.self.invariant.2 (omega (arith, b))) (omega (arith, e.capacity, c.self.invariant.4))

pub tell_sent-requires : goal.tell_sent-requires
tell_sent-requires g c = let p = has_places c.args.self.now c.self.inside.marks.items c.self.inside.used c.self.inside.bytes.items _ _ 2 c.self.view_is c.requires.room.marks in omega (arith, p, c.self.inside.marks.ok.0)

pub invariant_of-self-in-Some : goal.invariant_of-self-in-Some
invariant_of-self-in-Some g c =
    let sent = sent_mark c.args.number c.in-Some.end.sent in
    let none = end_mark c.args.number false in
    let b = has_bytes c.args.self.now c.self.inside.marks.items c.self.inside.used c.self.inside.bytes.items _ _ _ MAX_ANSWER c.self.view_is c.self.invariant c.requires.room.bytes in
    let e = c.end_in.ensures in
    still_fits c.self.inside.marks.items (sent ++ none) c.tell_sent.new.marks.items c.self.inside.used (c.self.inside.used + c.in-Some.end.sent) c.self.inside.bytes.items c.end_in.new.bytes.items _ _ _ c.self.invariant
    (c.tell_sent.ensures.items ∙ ap (λ l. c.self.inside.marks.items ++ l) (sym (append-nil sent))) (omega (arith, step_total c.args.number c.in-Some.end.sent false)) c.in-Some.ensures.fits
    (e.most c.self.inside.room c.self.invariant.2 (omega (arith, b))) (omega (arith, e.capacity, c.self.invariant.4))

pub returns-in-Some-clause-ended : goal.returns-in-Some-clause-ended
returns-in-Some-clause-ended g c =
    let sent = sent_mark c.args.number c.in-Some.end.sent in
    let none = end_mark c.args.number false in
    let did = c.in-Some.ensures.ended in (
      did.0,
      did.3,
      adds c.args.self.now c.self.inside.marks.items (sent ++ none) c.tell_sent.new.marks.items c.self.inside.used (c.self.inside.used + c.in-Some.end.sent) c.self.inside.bytes.items c.end_in.new.bytes.items did.0 _ _ _ _ _ c.self.view_is c.self.invariant
          (c.tell_sent.ensures.items ∙ ap (λ l. c.self.inside.marks.items ++ l) (sym (append-nil sent))) did.2 c.tell_sent.ensures.capacity
          (step_told c.args.number c.in-Some.end.sent did.0 false did.1),
    )
