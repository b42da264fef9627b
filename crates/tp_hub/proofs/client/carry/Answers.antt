use Rattle.std.proofs.Common.{◌∙◌, arith, sym}
use Rattle.tp_hub.proofs.Carrying.{carried_in_use, carried_lost, carried_none, carried_not, carried_on, listened_same, was_false, was_true}
use Rattle.tp_hub.proofs.Telling.{on_err}
use Rattle.tp_hub.proofs.Turning.{room_then}
use Rattle.tp_hub.proofs.client.carry.Goals as goal

pub returns-then-opened-eq0-clause-carried : goal.returns-then-opened-eq0-clause-carried
returns-then-opened-eq0-clause-carried g c = carried_none g.D.Desk.asks c.args.number c.args.profile c.exchange-opened.new.out c.args.desk.now c.exchange-opened.new.desk (g.S.Stream.calls c.args.stream.now) (g.S.Stream.calls c.exchange-opened.new.stream) c.exchange-opened.result.ran.events c.exchange-opened.result.ran.bytes c.exchange-opened.result.is_over c.exchange-opened.result.is_said _ c.exchange-opened.ensures.did c.if-opened-eq0.true

pub returns-then-opened-clause-carried : goal.returns-then-opened-clause-carried
returns-then-opened-clause-carried g c = carried_in_use g.D.Desk.asks c.args.number c.args.profile c.exchange-opened.new.out c.args.desk.now c.exchange-opened.new.desk (g.S.Stream.calls c.args.stream.now) (g.S.Stream.calls c.exchange-opened.new.stream) c.exchange-opened.result.ran.events c.exchange-opened.result.ran.bytes c.exchange-opened.result.is_over c.exchange-opened.result.is_said _ c.exchange-opened.ensures.did (omega (arith, c.if-opened-eq0.false)) c.if-opened.true

pub returns-then-not-opened-clause-carried : goal.returns-then-not-opened-clause-carried
returns-then-not-opened-clause-carried g c = carried_lost g.D.Desk.asks c.args.number c.args.profile c.hang_up.new.out c.args.desk.now c.exchange-opened.new.desk (g.S.Stream.calls c.args.stream.now) (g.S.Stream.calls c.exchange-opened.new.stream) c.exchange-opened.result.ran.events c.exchange-opened.result.ran.bytes c.exchange-opened.result.is_over c.exchange-opened.result.is_said _ c.exchange-opened.ensures.did _ (omega (arith, c.if-opened-eq0.false)) c.if-opened.false (was_false c.exchange-opened.result.is_said c.if-not-opened.true) c.hang_up.ensures.left

pub returns-clause-carried : goal.returns-clause-carried
returns-clause-carried g c = carried_on g.D.Desk.asks c.args.number c.args.profile c.hang_up-2.new.out c.args.desk.now c.exchange-opened.new.desk (g.S.Stream.calls c.args.stream.now) (g.S.Stream.calls c.exchange-opened.new.stream) c.exchange-opened.result.ran.events c.exchange-opened.result.ran.bytes c.exchange-opened.result.is_over c.exchange-opened.result.is_said _ c.exchange-opened.ensures.did c.listen-ending.new.desk _ _ _ (omega (arith, c.if-opened-eq0.false)) c.if-opened.false (was_true c.exchange-opened.result.is_said c.if-not-opened.false) (listened_same g.D.Desk.asks c.hang_up-2.new.out.most c.exchange-opened.new.out.most c.args.number c.exchange-opened.new.desk c.listen-ending.new.desk _ _ _ (sym (c.hang_up-2.ensures.wide.most ∙ c.listen-ending.ensures.wide.most)) c.listen-ending.ensures.listened) c.hang_up-2.ensures.left

pub returns-then-is_err-clause-carried : goal.returns-then-is_err-clause-carried
returns-then-is_err-clause-carried g c = carried_not g.D.Desk.asks c.args.number c.args.profile c.make_room.new.self c.args.desk.now (g.S.Stream.calls c.args.stream.now) (on_err c.make_room.result (sym c.is_err.ensures.value ∙ c.if-is_err.true) c.make_room.ensures.full)

pub returns-then-opened-eq0-clause-wide : goal.returns-then-opened-eq0-clause-wide
returns-then-opened-eq0-clause-wide g c = room_then c.make_room.ensures.room c.exchange-opened.ensures.wide

pub returns-then-opened-clause-wide : goal.returns-then-opened-clause-wide
returns-then-opened-clause-wide g c = room_then c.make_room.ensures.room c.exchange-opened.ensures.wide

pub returns-then-not-opened-clause-wide : goal.returns-then-not-opened-clause-wide
returns-then-not-opened-clause-wide g c = room_then c.make_room.ensures.room (room_then c.exchange-opened.ensures.wide c.hang_up.ensures.wide)

pub returns-clause-wide : goal.returns-clause-wide
returns-clause-wide g c = room_then c.make_room.ensures.room (room_then c.exchange-opened.ensures.wide (room_then c.listen-ending.ensures.wide c.hang_up-2.ensures.wide))

pub returns-then-opened-eq0-clause-long : goal.returns-then-opened-eq0-clause-long
returns-then-opened-eq0-clause-long g c = omega (arith, c.make_room.ensures.marks, c.exchange-opened.ensures.long)

pub returns-then-opened-clause-long : goal.returns-then-opened-clause-long
returns-then-opened-clause-long g c = omega (arith, c.make_room.ensures.marks, c.exchange-opened.ensures.long)

pub returns-then-not-opened-clause-long : goal.returns-then-not-opened-clause-long
returns-then-not-opened-clause-long g c = omega (arith, c.make_room.ensures.marks, c.exchange-opened.ensures.long, c.hang_up.ensures.long)

pub returns-clause-long : goal.returns-clause-long
returns-clause-long g c = omega (arith, c.make_room.ensures.marks, c.exchange-opened.ensures.long, c.listen-ending.ensures.long, c.hang_up-2.ensures.long)
