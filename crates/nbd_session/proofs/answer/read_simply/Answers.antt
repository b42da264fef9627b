use Rattle.std.proofs.Common.{◌≡◌, ◌+◌, ◌-◌, ◌/◌, length, refl, arith}
use Rattle.nbd_wire.specs.Replies.{simple_reply}
use Rattle.nbd_session.specs.Session.{reply_to}
use Rattle.nbd_session.proofs.Serving.{middle, read_gave, read_refused, room_is}
use Rattle.nbd_session.proofs.answer.read_simply.Goals as goal

pub returns-in-Ok-clause-answer : goal.returns-in-Ok-clause-answer
returns-in-Ok-clause-answer g c =
    let r = c.args.request.now in
    let long = room_is 16 r.len c.args.out.now (omega (arith, c.requires.form.most, c.requires.room)) in
    let data_long : length c.read.new.out ≡ r.len = omega (arith, c.read.auto.out, long) in
    read_gave g.V.Volumes.view (reply_to r.cookie) (simple_reply 0 r.cookie) (λ sectors. refl) c.args.pool.now c.read.new.self c.args.volume (r.offset / 512) r.len _ c.read.new.out _ _
    c.requires.form.len long data_long c.in-Ok.ensures c.put_read_head.ensures.reply
    (middle 16 (16 + r.len - 16) r.len c.args.out.now c.read.new.out (omega (arith, c.requires.room)) data_long)

pub returns-in-Err-clause-answer : goal.returns-in-Err-clause-answer
returns-in-Err-clause-answer g c =
    let r = c.args.request.now in
    let long = room_is 16 r.len c.args.out.now (omega (arith, c.requires.form.most, c.requires.room)) in
    read_refused g.V.Volumes.view (reply_to r.cookie) c.args.pool.now c.read.new.self c.args.volume (r.offset / 512) r.len _ _ c.in-Err.refusal
    long c.in-Err.ensures c.put_refusal.ensures.reply
