use Rattle.std.proofs.Common.{◌≡◌, ◌+◌, ◌-◌, ◌/◌, length, refl, arith}
use Rattle.nbd_wire.specs.Replies.{simple_reply}
use Rattle.nbd_session.specs.Session.{reply_to}
use Rattle.nbd_session.proofs.Serving.{middle, read_gave, room_is}
use Rattle.nbd_session.proofs.shared.read_simply.Goals as goal

pub returns-clause-answer : goal.returns-clause-answer
returns-clause-answer g c =
    let r = c.args.request.now in
    let long = room_is 16 r.len c.args.out.now (omega (arith, c.requires.form.most, c.requires.room)) in
    let data_long : length c.read_beside.new.out ≡ r.len = omega (arith, c.read_beside.auto.out, long) in
    read_gave g.V.Volumes.view (reply_to r.cookie) (simple_reply 0 r.cookie) (λ sectors. refl) (g.S.SharedReads.of c.args.pool.now) (g.S.SharedReads.of c.args.pool.now) c.args.volume (r.offset / 512) r.len _ c.read_beside.new.out _ _
    c.requires.form.len long data_long (c.read_beside.ensures c.if-not-read_beside.false) c.put_read_head.ensures.reply
    (middle 16 (16 + r.len - 16) r.len c.args.out.now c.read_beside.new.out (omega (arith, c.requires.room)) data_long)
