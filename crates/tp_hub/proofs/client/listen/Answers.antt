use Rattle.std.proofs.Common.{arith}
use Rattle.tp_hub.proofs.Carrying.{listened_end, listened_tired, listening_more, listening_none}
use Rattle.tp_hub.proofs.Turning.{room_same, room_then}
use Rattle.tp_hub.proofs.client.listen.Goals as goal

pub loop-turn-init : goal.loop-turn-init
loop-turn-init g c = record { room = c.requires.room; empty = c.requires.empty; fits = c.requires.fits; wide = room_same c.args.out.now; long = omega arith; listening = listening_none g.D.Desk.asks c.args.out.now.most c.args.number c.args.desk.now (g.S.Stream.calls c.args.stream.now) }

pub loop-turn-preserved : goal.loop-turn-preserved
loop-turn-preserved g c = record {
  room = c.read_once.ensures.room;
  empty = c.read_once.ensures.empty;
  fits = c.read_once.ensures.fits;
  wide = room_then c.loop-turn.invariant.wide c.read_once.ensures.wide;
  long = omega (arith, c.loop-turn.invariant.long, c.read_once.ensures.long);
  listening = listening_more g.D.Desk.asks c.args.out.now.most c.loop-turn.out.most c.args.number c.loop-turn.turn c.args.desk.now c.loop-turn.desk _ (g.S.Stream.calls c.args.stream.now) (g.S.Stream.calls c.loop-turn.stream) _ c.read_once.result c.loop-turn.invariant.listening c.in-None.is c.loop-turn.invariant.wide.most c.read_once.ensures.went;
}

pub returns-in-Some-clause-listened : goal.returns-in-Some-clause-listened
returns-in-Some-clause-listened g c = listened_end g.D.Desk.asks c.args.out.now.most c.loop-turn.out.most c.args.number c.loop-turn.turn c.args.desk.now c.loop-turn.desk _ (g.S.Stream.calls c.args.stream.now) (g.S.Stream.calls c.loop-turn.stream) _ c.read_once.result c.in-Some.ending c.loop-turn.invariant.listening c.in-Some.is c.loop-turn.invariant.wide.most c.read_once.ensures.went

pub returns-clause-listened : goal.returns-clause-listened
returns-clause-listened g c = listened_tired g.D.Desk.asks c.args.out.now.most c.args.number c.loop-turn.turn c.args.desk.now c.loop-turn.desk (g.S.Stream.calls c.args.stream.now) (g.S.Stream.calls c.loop-turn.stream) c.loop-turn.invariant.listening (omega (arith, c.loop-turn-test.false))

pub returns-in-Some-clause-wide : goal.returns-in-Some-clause-wide
returns-in-Some-clause-wide g c = room_then c.loop-turn.invariant.wide c.read_once.ensures.wide

pub returns-in-Some-clause-long : goal.returns-in-Some-clause-long
returns-in-Some-clause-long g c = omega (arith, c.loop-turn.invariant.long, c.read_once.ensures.long)
