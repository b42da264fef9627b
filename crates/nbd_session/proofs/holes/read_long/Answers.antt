use Rattle.std.proofs.Common.{◌≡◌, ◌+◌, ◌-◌, ◌∙◌, ap, length, arith}
use Rattle.nbd_session.specs.Status.{unit_of}
use Rattle.nbd_session.proofs.Serving.{gave_long, middle, refused_long, room_is}
use Rattle.nbd_session.proofs.holes.read_long.Goals as goal

pub returns-in-Ok-clause-answer : goal.returns-in-Ok-clause-answer
returns-in-Ok-clause-answer g c =
    let r = c.args.request.now in
    let long = room_is 28 r.len c.args.out.now (omega (arith, c.requires.form.most, c.requires.room)) in
    let data_long : length c.read.new.out ≡ r.len = omega (arith, c.read.auto.out, long) in
    gave_long g.V.Volumes.view c.args.pool.now c.read.new.self c.tell_given.new.pool c.args.volume c.unit_of-unit.result r _ c.read.new.out _ _
    c.requires.form.len long data_long (c.unit_of-unit.ensures.value ∙ ap unit_of c.geometry.ensures) c.in-Ok.ensures c.tell_given.ensures.told
    (middle 28 (28 + r.len - 28) r.len c.args.out.now c.read.new.out (omega (arith, c.requires.room)) data_long)

pub returns-in-Err-clause-answer : goal.returns-in-Err-clause-answer
returns-in-Err-clause-answer g c =
    let r = c.args.request.now in
    let long = room_is 28 r.len c.args.out.now (omega (arith, c.requires.form.most, c.requires.room)) in
    refused_long g.V.Volumes.view c.args.pool.now c.read.new.self c.args.volume r _ _ c.in-Err.refusal long c.in-Err.ensures c.put_refusal_chunk.ensures.reply
