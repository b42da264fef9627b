use Rattle.std.proofs.Common.{◌≡◌, ◌∙◌, ◌+◌, [], Some, false, true, true≢false, take, subst, sym, arith, append-nil, length-drop}
use Rattle.std.proofs.lemmas.List.{take_all, take_rest}
use Rattle.tp_hub.specs.Places.{HearsAnywhere}
use Rattle.nbd_session.specs.Session.{has_ended}
use Rattle.tp_hub.proofs.Hearing.{hears_join, hears_more, hears_none, hears_wide, keeps_more, keeps_none, keeps_over, keeps_then, left_some, part_is_silent, told_end}
use Rattle.tp_hub.proofs.Idling.{ended_is_idle}
use Rattle.tp_hub.proofs.Placing.{ended_is}
use Rattle.tp_hub.proofs.Telling.{on_err, on_ok}
use Rattle.tp_hub.proofs.slot.hear.Goals as goal

pub loop-at-init : goal.loop-at-init
loop-at-init g c =
    let view = g.V.Volumes.view in
    record {
      in_range = omega arith;
      ready = c.requires.ready;
      goes_on = c.requires.open;
      idle = c.requires.idle;
      hears = hears_none view c.args.number c.args.session.now c.args.pool.now c.args.piece.now c.args.out.now;
      keeps = keeps_none view c.args.number (Some c.args.session.now) c.args.pool.now;
    }

pub returns-then-is_err-clause-heard : goal.returns-then-is_err-clause-heard
returns-then-is_err-clause-heard g c =
    let view = g.V.Volumes.view in (
      c.loop-at-test.true,
      hears_wide view c.args.number c.args.session.now c.loop-at.session c.args.pool.now c.loop-at.pool (take c.loop-at.at c.args.piece.now) c.args.out.now c.loop-at.out c.make_room.new.self c.loop-at.invariant.hears c.make_room.ensures.list c.make_room.ensures.room c.make_room.ensures.marks,
      c.loop-at.invariant.goes_on,
      c.loop-at.invariant.keeps,
      on_err c.make_room.result (sym c.is_err.ensures.value ∙ c.if-is_err.true) c.make_room.ensures.full,
    )

pub returns-then-step-clause-heard : goal.returns-then-step-clause-heard
returns-then-step-clause-heard g c =
    let view = g.V.Volumes.view in
    let e = c.hear-step.ensures in
    let some = left_some c.loop-at.at c.args.piece.now _ c.loop-at-test.true (take_rest c.args.piece.now c.loop-at.at) in
    let over : has_ended c.hear-step.new.session.phase ≡ true = told_end view c.loop-at.session c.hear-step.new.session c.loop-at.pool c.hear-step.new.pool _ e.0 c.hear-step.result.taken c.hear-step.result.ended c.loop-at.invariant.goes_on e.1 ∙ c.if-step.true in (
      c.loop-at.at + c.hear-step.result.taken,
      hears_more view c.args.number c.args.session.now c.loop-at.session c.hear-step.new.session c.args.pool.now c.loop-at.pool c.hear-step.new.pool c.args.piece.now _ e.0 c.loop-at.at c.hear-step.result.taken c.hear-step.result.ended c.args.out.now c.loop-at.out c.make_room.new.self c.hear-step.new.self
          c.loop-at.invariant.in_range some c.loop-at.invariant.idle (take_rest c.args.piece.now c.loop-at.at) c.loop-at.invariant.goes_on c.loop-at.invariant.hears c.make_room.ensures.list c.make_room.ensures.room c.make_room.ensures.marks e.1 e.2,
      ended_is c.hear-step.new.session e.1.calm over,
      keeps_over view c.args.number c.args.session.now c.loop-at.session c.hear-step.new.session c.args.pool.now c.loop-at.pool c.hear-step.new.pool _ e.0 c.hear-step.result.taken c.hear-step.result.ended c.loop-at.invariant.keeps e.1 over,
    )

pub returns-then-is_at_work-clause-heard : goal.returns-then-is_at_work-clause-heard
returns-then-is_at_work-clause-heard g c =
    let view = g.V.Volumes.view in
    let e = c.hear-step.ensures in
    let rest_is = take_rest c.args.piece.now c.loop-at.at in
    let some = left_some c.loop-at.at c.args.piece.now _ c.loop-at-test.true rest_is in
    let taken = e.1.moves some c.loop-at.invariant.idle in
    let goes : has_ended c.hear-step.new.session.phase ≡ false = told_end view c.loop-at.session c.hear-step.new.session c.loop-at.pool c.hear-step.new.pool _ e.0 c.hear-step.result.taken c.hear-step.result.ended c.loop-at.invariant.goes_on e.1 ∙ c.if-step.false in (
      c.if-is_parted.true,
      omega (arith, taken),
      (let l = length-drop c.loop-at.at c.args.piece.now in let m = rw rest_is at e.1.inside in let t = c.loop-at.invariant.in_range in omega (arith, l, m, t)),
      hears_more view c.args.number c.args.session.now c.loop-at.session c.hear-step.new.session c.args.pool.now c.loop-at.pool c.hear-step.new.pool c.args.piece.now _ e.0 c.loop-at.at c.hear-step.result.taken c.hear-step.result.ended c.args.out.now c.loop-at.out c.make_room.new.self c.hear-step.new.self
          c.loop-at.invariant.in_range some c.loop-at.invariant.idle rest_is c.loop-at.invariant.goes_on c.loop-at.invariant.hears c.make_room.ensures.list c.make_room.ensures.room c.make_room.ensures.marks e.1 e.2,
      goes,
      keeps_more view c.args.number c.args.session.now c.loop-at.session c.hear-step.new.session c.args.pool.now c.loop-at.pool c.hear-step.new.pool _ e.0 c.hear-step.result.taken c.hear-step.result.ended c.loop-at.invariant.keeps e.1 goes,
      sym c.is_at_work.ensures ∙ c.if-is_at_work.true,
    )

pub work_off-requires : goal.work_off-requires
work_off-requires g c =
    let view = g.V.Volumes.view in
    let e = c.hear-step.ensures in
    let goes : has_ended c.hear-step.new.session.phase ≡ false = told_end view c.loop-at.session c.hear-step.new.session c.loop-at.pool c.hear-step.new.pool _ e.0 c.hear-step.result.taken c.hear-step.result.ended c.loop-at.invariant.goes_on e.1 ∙ c.if-step.false in
    record {
      ready = e.1.ready;
      goes_on = goes;
      room = λ work. part_is_silent view c.args.number c.loop-at.session c.hear-step.new.session c.loop-at.pool c.hear-step.new.pool _ e.0 c.hear-step.result.taken c.hear-step.result.ended c.make_room.new.self c.hear-step.new.self
          c.loop-at.invariant.goes_on e.1 e.2 work (on_ok c.make_room.result (sym c.is_err.ensures.value ∙ c.if-is_err.false) c.make_room.ensures.ok);
    }

pub loop-at-preserved : goal.loop-at-preserved
loop-at-preserved g c =
    let view = g.V.Volumes.view in
    let e = c.hear-step.ensures in
    let w = c.work_off.ensures in
    let some = left_some c.loop-at.at c.args.piece.now _ c.loop-at-test.true (take_rest c.args.piece.now c.loop-at.at) in
    let rest_is = take_rest c.args.piece.now c.loop-at.at in
    let goes : has_ended c.hear-step.new.session.phase ≡ false = told_end view c.loop-at.session c.hear-step.new.session c.loop-at.pool c.hear-step.new.pool _ e.0 c.hear-step.result.taken c.hear-step.result.ended c.loop-at.invariant.goes_on e.1 ∙ c.if-step.false in
    let heard = hears_more view c.args.number c.args.session.now c.loop-at.session c.hear-step.new.session c.args.pool.now c.loop-at.pool c.hear-step.new.pool c.args.piece.now _ e.0 c.loop-at.at c.hear-step.result.taken c.hear-step.result.ended c.args.out.now c.loop-at.out c.make_room.new.self c.hear-step.new.self
    c.loop-at.invariant.in_range some c.loop-at.invariant.idle rest_is c.loop-at.invariant.goes_on c.loop-at.invariant.hears c.make_room.ensures.list c.make_room.ensures.room c.make_room.ensures.marks e.1 e.2 in
    let kept = keeps_more view c.args.number c.args.session.now c.loop-at.session c.hear-step.new.session c.args.pool.now c.loop-at.pool c.hear-step.new.pool _ e.0 c.hear-step.result.taken c.hear-step.result.ended c.loop-at.invariant.keeps e.1 goes in
    record {
      in_range = let l = length-drop c.loop-at.at c.args.piece.now in let m = rw rest_is at e.1.inside in let t = c.loop-at.invariant.in_range in omega (arith, l, m, t);
      ready = w.ready;
      goes_on = w.goes_on;
      idle = w.idle;
      hears = subst (λ t. HearsAnywhere view c.args.number c.args.session.now c.args.pool.now t c.args.out.now c.work_off.new.out c.work_off.new.session c.work_off.new.pool) (append-nil (take (c.loop-at.at + c.hear-step.result.taken) c.args.piece.now))
          (hears_join view c.args.number c.args.session.now c.hear-step.new.session c.work_off.new.session c.args.pool.now c.hear-step.new.pool c.work_off.new.pool (take (c.loop-at.at + c.hear-step.result.taken) c.args.piece.now) [] c.args.out.now c.hear-step.new.self c.work_off.new.out heard w.hears);
      keeps = keeps_then view c.args.number (Some c.args.session.now) (Some c.hear-step.new.session) (Some c.work_off.new.session) c.args.pool.now c.hear-step.new.pool c.work_off.new.pool kept w.keeps;
    }

pub returns-clause-heard : goal.returns-clause-heard
returns-clause-heard g c =
    let view = g.V.Volumes.view in
    let all = take_all c.loop-at.at c.args.piece.now (omega (arith, c.loop-at-test.false)) in (
      subst (λ t. HearsAnywhere view c.args.number c.args.session.now c.args.pool.now t c.args.out.now c.loop-at.out c.loop-at.session c.loop-at.pool) all c.loop-at.invariant.hears,
      c.loop-at.invariant.goes_on,
      c.loop-at.invariant.keeps,
    )

pub returns-then-step-clause-idle : goal.returns-then-step-clause-idle
returns-then-step-clause-idle g c none =
    let view = g.V.Volumes.view in
    let e = c.hear-step.ensures in
    let over : has_ended c.hear-step.new.session.phase ≡ true = told_end view c.loop-at.session c.hear-step.new.session c.loop-at.pool c.hear-step.new.pool _ e.0 c.hear-step.result.taken c.hear-step.result.ended c.loop-at.invariant.goes_on e.1 ∙ c.if-step.true in
    ended_is_idle c.hear-step.new.session.phase over

pub returns-then-is_at_work-clause-idle : goal.returns-then-is_at_work-clause-idle
returns-then-is_at_work-clause-idle g c none = absurd (true≢false (sym c.if-is_parted.true ∙ none))

pub returns-then-is_err-clause-idle : goal.returns-then-is_err-clause-idle
returns-then-is_err-clause-idle g c none = c.loop-at.invariant.idle

pub returns-clause-idle : goal.returns-clause-idle
returns-clause-idle g c none = c.loop-at.invariant.idle
