use Rattle.std.proofs.Common.{◌∙◌, arith}
use Rattle.tp_hub.proofs.Carrying.{exchanged, room_left}
use Rattle.tp_hub.proofs.client.exchange.Goals as goal

pub returns-clause-did : goal.returns-clause-did
returns-clause-did g c = exchanged g.D.Desk.asks c.args.out.now.most c.args.number _ _ _ _ _ c.args.out.now c.ask-ran.new.out c.bytes.result.now _ _ _ _ c.ask-ran.ensures c.requires.empty c.requires.fits c.closes-is_over.ensures c.bytes.ensures.all (let a = c.ask-ran.ensures.adds in omega (arith, c.bytes.ensures.few, a.room.most)) c.say-is_said.ensures

pub returns-clause-fits : goal.returns-clause-fits
returns-clause-fits g c = let a = c.ask-ran.ensures.adds in room_left c.args.out.now c.ask-ran.new.out c.clear.new.self c.requires.fits a.room a.marks c.clear.ensures.list c.clear.ensures.room c.clear.ensures.marks

pub returns-clause-wide : goal.returns-clause-wide
returns-clause-wide g c = let a = c.ask-ran.ensures.adds in record { room = omega (arith, a.room.room, c.clear.ensures.room); most = c.clear.ensures.most ∙ a.room.most }

pub returns-clause-long : goal.returns-clause-long
returns-clause-long g c = let a = c.ask-ran.ensures.adds in omega (arith, a.marks, c.clear.ensures.marks)
