use Rattle.std.proofs.Common.{◌≡◌, ◌+◌, ◌-◌, ◌/◌, length, true, refl, arith}
use Rattle.nbd_wire.specs.Chunks.{data_chunk}
use Rattle.nbd_session.specs.Session.{chunk_to}
use Rattle.nbd_session.proofs.Serving.{middle, read_gave, read_refused, room_is}
use Rattle.nbd_session.proofs.answer.read_in_chunk.Goals as goal

pub returns-in-Ok-clause-answer : goal.returns-in-Ok-clause-answer
returns-in-Ok-clause-answer g c =
    let r = c.args.request.now in
    let long = room_is 28 r.len c.args.out.now (omega (arith, c.requires.form.most, c.requires.room)) in
    let data_long : length c.read.new.out ≡ r.len = omega (arith, c.read.auto.out, long) in
    read_gave g.V.Volumes.view (chunk_to r) (data_chunk true r.cookie r.offset) (λ sectors. refl) c.args.pool.now c.read.new.self c.args.volume (r.offset / 512) r.len _ c.read.new.out _ _
    c.requires.form.len long data_long c.in-Ok.ensures c.put_read_chunk_head.ensures.reply
    (middle 28 (28 + r.len - 28) r.len c.args.out.now c.read.new.out (omega (arith, c.requires.room)) data_long)

pub returns-in-Err-clause-answer : goal.returns-in-Err-clause-answer
returns-in-Err-clause-answer g c =
    let r = c.args.request.now in
    let long = room_is 28 r.len c.args.out.now (omega (arith, c.requires.form.most, c.requires.room)) in
    read_refused g.V.Volumes.view (chunk_to r) c.args.pool.now c.read.new.self c.args.volume (r.offset / 512) r.len _ _ c.in-Err.refusal
    long c.in-Err.ensures c.put_refusal_chunk.ensures.reply
