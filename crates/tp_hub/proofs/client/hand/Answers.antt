use Rattle.std.proofs.Common.{◌≡◌, ◌<◌, arith, length-drop}
use Rattle.std.proofs.lemmas.List.{take_rest}
use Rattle.tp_hub.proofs.Hearing.{left_some}
use Rattle.tp_hub.proofs.Carrying.{hand_begun, hand_inside, hand_lost, hand_more, hand_on, hand_over, handed_all, handing_none, was_false, was_true}
use Rattle.tp_hub.proofs.Turning.{room_same, room_then}
use Rattle.tp_hub.proofs.client.hand.Goals as goal

pub loop-at-init : goal.loop-at-init
loop-at-init g c = record { within = omega arith; empty = c.requires.empty; fits = c.requires.fits; wide = room_same c.args.out.now; long = omega arith; handing = handing_none g.D.Desk.asks c.args.out.now.most c.args.number c.args.piece.now c.args.desk.now (g.S.Stream.calls c.args.stream.now) }

pub returns-then-not-did-clause-handed : goal.returns-then-not-did-clause-handed
returns-then-not-did-clause-handed g c = hand_lost g.D.Desk.asks c.args.out.now.most c.loop-at.out.most c.args.number c.args.piece.now _ c.loop-at.at c.args.desk.now c.loop-at.desk _ (g.S.Stream.calls c.args.stream.now) (g.S.Stream.calls c.loop-at.stream) _ _ _ _ _ c.loop-at.invariant.handing (take_rest c.args.piece.now c.loop-at.at) c.loop-at.invariant.wide.most c.exchange-did.ensures.did (left_some c.loop-at.at c.args.piece.now _ c.loop-at-test.true (take_rest c.args.piece.now c.loop-at.at)) c.if-did.false (was_false c.exchange-did.result.is_said c.if-not-did.true)

pub returns-then-did-gt0-clause-handed : goal.returns-then-did-gt0-clause-handed
returns-then-did-gt0-clause-handed g c = hand_on g.D.Desk.asks c.args.out.now.most c.loop-at.out.most c.args.number c.args.piece.now _ c.loop-at.at c.args.desk.now c.loop-at.desk _ (g.S.Stream.calls c.args.stream.now) (g.S.Stream.calls c.loop-at.stream) _ _ _ _ _ c.loop-at.invariant.handing (take_rest c.args.piece.now c.loop-at.at) c.loop-at.invariant.wide.most c.exchange-did.ensures.did (left_some c.loop-at.at c.args.piece.now _ c.loop-at-test.true (take_rest c.args.piece.now c.loop-at.at)) c.if-did.false (was_true c.exchange-did.result.is_said c.if-not-did.false) c.if-did-gt0.true

pub returns-then-did-clause-handed : goal.returns-then-did-clause-handed
returns-then-did-clause-handed g c = rw c.over.ensures (hand_over g.D.Desk.asks c.args.out.now.most c.loop-at.out.most c.args.number c.args.piece.now _ c.loop-at.at c.args.desk.now c.loop-at.desk _ (g.S.Stream.calls c.args.stream.now) (g.S.Stream.calls c.loop-at.stream) _ _ _ _ _ c.loop-at.invariant.handing (take_rest c.args.piece.now c.loop-at.at) c.loop-at.invariant.wide.most c.exchange-did.ensures.did (left_some c.loop-at.at c.args.piece.now _ c.loop-at-test.true (take_rest c.args.piece.now c.loop-at.at)) c.if-did.true)

pub returns-clause-handed : goal.returns-clause-handed
returns-clause-handed g c = handed_all g.D.Desk.asks c.args.out.now.most c.args.number c.args.piece.now c.loop-at.at c.args.desk.now c.loop-at.desk (g.S.Stream.calls c.args.stream.now) (g.S.Stream.calls c.loop-at.stream) c.loop-at.invariant.handing c.loop-at-test.false

pub loop-at-smaller : goal.loop-at-smaller
loop-at-smaller g c =
    let none : c.exchange-did.result.ran.events ≡ 0 = omega (arith, c.if-did-gt0.false) in
    let some : 0 < c.exchange-did.result.ran.bytes = hand_begun g.D.Desk.asks c.args.out.now.most c.loop-at.out.most c.args.number c.args.piece.now _ c.loop-at.at c.args.desk.now c.loop-at.desk _ (g.S.Stream.calls c.args.stream.now) (g.S.Stream.calls c.loop-at.stream) _ _ _ _ _ c.loop-at.invariant.handing (take_rest c.args.piece.now c.loop-at.at) c.loop-at.invariant.wide.most c.exchange-did.ensures.did none in
    omega (arith, some, c.loop-at-test.true)

pub loop-at-preserved : goal.loop-at-preserved
loop-at-preserved g c =
    let none : c.exchange-did.result.ran.events ≡ 0 = omega (arith, c.if-did-gt0.false) in
    record {
      within = let i = rw (take_rest c.args.piece.now c.loop-at.at) at (hand_inside g.D.Desk.asks c.args.out.now.most c.loop-at.out.most c.args.number c.args.piece.now _ c.loop-at.at c.args.desk.now c.loop-at.desk _ (g.S.Stream.calls c.args.stream.now) (g.S.Stream.calls c.loop-at.stream) _ _ _ _ _ c.loop-at.invariant.handing (take_rest c.args.piece.now c.loop-at.at) c.loop-at.invariant.wide.most c.exchange-did.ensures.did none) in omega (arith, i, length-drop c.loop-at.at c.args.piece.now, c.loop-at-test.true);
      empty = c.exchange-did.ensures.empty;
      fits = c.exchange-did.ensures.fits;
      wide = room_then c.loop-at.invariant.wide c.exchange-did.ensures.wide;
      long = omega (arith, c.loop-at.invariant.long, c.exchange-did.ensures.long);
      handing = hand_more g.D.Desk.asks c.args.out.now.most c.loop-at.out.most c.args.number c.args.piece.now _ c.loop-at.at c.args.desk.now c.loop-at.desk _ (g.S.Stream.calls c.args.stream.now) (g.S.Stream.calls c.loop-at.stream) _ _ _ _ _ c.loop-at.invariant.handing (take_rest c.args.piece.now c.loop-at.at) c.loop-at.invariant.wide.most c.exchange-did.ensures.did c.if-did.false (was_true c.exchange-did.result.is_said c.if-not-did.false) none;
    }

pub returns-then-not-did-clause-wide : goal.returns-then-not-did-clause-wide
returns-then-not-did-clause-wide g c = room_then c.loop-at.invariant.wide c.exchange-did.ensures.wide

pub returns-then-not-did-clause-long : goal.returns-then-not-did-clause-long
returns-then-not-did-clause-long g c = omega (arith, c.loop-at.invariant.long, c.exchange-did.ensures.long)

pub returns-then-did-gt0-clause-wide : goal.returns-then-did-gt0-clause-wide
returns-then-did-gt0-clause-wide g c = room_then c.loop-at.invariant.wide c.exchange-did.ensures.wide

pub returns-then-did-gt0-clause-long : goal.returns-then-did-gt0-clause-long
returns-then-did-gt0-clause-long g c = omega (arith, c.loop-at.invariant.long, c.exchange-did.ensures.long)

pub returns-then-did-clause-wide : goal.returns-then-did-clause-wide
returns-then-did-clause-wide g c = room_then c.loop-at.invariant.wide c.exchange-did.ensures.wide

pub returns-then-did-clause-long : goal.returns-then-did-clause-long
returns-then-did-clause-long g c = omega (arith, c.loop-at.invariant.long, c.exchange-did.ensures.long)
