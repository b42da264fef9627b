use Rattle.std.proofs.Common.{◌∙◌, ◌+◌, ◌++◌, ap, sym, false, arith, append-nil}
use Rattle.nbd_session.specs.declared.answer.TheConstants.{MAX_ANSWER}
use Rattle.tp_hub.specs.Told.{end_mark, sent_mark}
use Rattle.tp_hub.proofs.Telling.{adds, has_bytes, has_places, step_told, step_total, still_fits, still_inside, still_shown}
use Rattle.tp_hub.proofs.answers.Answers.read_shared.Goals as goal

pub read_in-requires-clause-room : goal.read_in-requires-clause-room
read_in-requires-clause-room g c = has_bytes c.args.self.now c.self.inside.marks.items c.self.inside.used c.self.inside.bytes.items _ _ _ MAX_ANSWER c.self.view_is c.self.invariant c.requires.room.bytes

pub invariant_of-self : goal.invariant_of-self
invariant_of-self g c =
    let e = c.read_in.ensures in
    still_inside c.self.inside.marks.items c.self.inside.used c.self.inside.bytes.items c.read_in.new.bytes.items _ _ _ c.self.invariant e.inside e.most (omega (arith, e.capacity, c.self.invariant.4))

pub returns-in_default-clause-none : goal.returns-in_default-clause-none
returns-in_default-clause-none g c none = still_shown c.args.self.now c.self.inside.marks.items c.self.inside.used c.self.inside.bytes.items c.read_in.new.bytes.items _ _ c.self.view_is c.read_in.ensures.kept

pub tell_sent-requires : goal.tell_sent-requires
tell_sent-requires g c = let p = has_places c.args.self.now c.self.inside.marks.items c.self.inside.used c.self.inside.bytes.items _ _ 2 c.self.view_is c.requires.room.marks in omega (arith, p, c.self.inside.marks.ok.0)

pub invariant_of-self-2 : goal.invariant_of-self-2
invariant_of-self-2 g c =
    let sent = sent_mark c.args.number c.in-Some.read.sent in
    let none = end_mark c.args.number false in
    let e = c.read_in.ensures in
    still_fits c.self.inside.marks.items (sent ++ none) c.tell_sent.new.marks.items c.self.inside.used (c.self.inside.used + c.in-Some.read.sent) c.self.inside.bytes.items c.read_in.new.bytes.items _ _ _ c.self.invariant
    (c.tell_sent.ensures.items ∙ ap (λ l. c.self.inside.marks.items ++ l) (sym (append-nil sent))) (omega (arith, step_total c.args.number c.in-Some.read.sent false)) c.in-Some.ensures.fits
    e.most (omega (arith, e.capacity, c.self.invariant.4))

pub returns-clause-read : goal.returns-clause-read
returns-clause-read g c =
    let sent = sent_mark c.args.number c.in-Some.read.sent in
    let none = end_mark c.args.number false in
    let did = c.in-Some.ensures.reads in (
      did.0,
      did.3,
      adds c.args.self.now c.self.inside.marks.items (sent ++ none) c.tell_sent.new.marks.items c.self.inside.used (c.self.inside.used + c.in-Some.read.sent) c.self.inside.bytes.items c.read_in.new.bytes.items did.0 _ _ _ _ _ c.self.view_is c.self.invariant
          (c.tell_sent.ensures.items ∙ ap (λ l. c.self.inside.marks.items ++ l) (sym (append-nil sent))) did.2 c.tell_sent.ensures.capacity
          (step_told c.args.number c.in-Some.read.sent did.0 false did.1),
    )
