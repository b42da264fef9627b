use Rattle.std.proofs.Common.{◌≡◌, ◌+◌, ◌-◌, ◌/◌, length, true, refl, arith}
use Rattle.nbd_wire.specs.Chunks.{data_chunk}
use Rattle.nbd_session.specs.Session.{chunk_to}
use Rattle.nbd_session.proofs.Serving.{middle, read_gave, room_is}
use Rattle.nbd_session.proofs.shared.read_in_chunk.Goals as goal

pub returns-clause-answer : goal.returns-clause-answer
returns-clause-answer g c =
    let r = c.args.request.now in
    let long = room_is 28 r.len c.args.out.now (omega (arith, c.requires.form.most, c.requires.room)) in
    let data_long : length c.read_beside.new.out ≡ r.len = omega (arith, c.read_beside.auto.out, long) in
    read_gave g.V.Volumes.view (chunk_to r) (data_chunk true r.cookie r.offset) (λ sectors. refl) (g.S.SharedReads.of c.args.pool.now) (g.S.SharedReads.of c.args.pool.now) c.args.volume (r.offset / 512) r.len _ c.read_beside.new.out _ _
    c.requires.form.len long data_long (c.read_beside.ensures c.if-not-read_beside.false) c.put_read_chunk_head.ensures.reply
    (middle 28 (28 + r.len - 28) r.len c.args.out.now c.read_beside.new.out (omega (arith, c.requires.room)) data_long)
