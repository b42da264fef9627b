use Rattle.std.proofs.Common.{◌≡◌, ◌+◌, ◌-◌, ◌∙◌, ap, drop, false, length, refl, sym, take, true, arith}
use Rattle.std.proofs.lemmas.List.{drop-take}
use Rattle.std.proofs.lemmas.Option.{IfSome_then}
use borrow.Rule.Slice.PartMut.{put_mid}
use Rattle.nbd_session.specs.Holes.{has_blank}
use Rattle.nbd_session.specs.Status.{unit_of}
use Rattle.nbd_session.proofs.Serving.{gave_long, matched, middle, room_is, told_whole}
use Rattle.nbd_session.proofs.shared.read_long.Goals as goal

pub returns-then-not-has_blank-clause-answer : goal.returns-then-not-has_blank-clause-answer
returns-then-not-has_blank-clause-answer g c =
    let r = c.args.request.now in
    let pool = g.S.SharedReads.of c.args.pool.now in
    let own = unit_of (g.V.Volumes.view.outline pool).geometry in
    let reply = put_mid 28 (28 + r.len - 28) c.args.out.now c.read_beside.new.out in
    let long = room_is 28 r.len c.args.out.now (omega (arith, c.requires.form.most, c.requires.room)) in
    let data_long : length c.read_beside.new.out ≡ r.len = omega (arith, c.read_beside.auto.out, long) in
    let none : has_blank r (take r.len (drop 28 reply)) ≡ false = sym (c.has_blank.ensures ∙ ap (has_blank r) (drop-take 28 r.len reply)) ∙ c.if-not-has_blank.true in
    gave_long g.V.Volumes.view pool pool pool c.args.volume own r _ c.read_beside.new.out (take r.len (drop 28 reply)) _
    c.requires.form.len long data_long refl (c.read_beside.ensures c.if-not-read_beside.false)
    (told_whole g.V.Volumes.view c.args.volume own r (take r.len (drop 28 reply)) _ pool none c.put_read_chunk_head.ensures.reply)
    (middle 28 (28 + r.len - 28) r.len c.args.out.now c.read_beside.new.out (omega (arith, c.requires.room)) data_long)

pub returns-clause-answer : goal.returns-clause-answer
returns-clause-answer g c =
    let r = c.args.request.now in
    let pool = g.S.SharedReads.of c.args.pool.now in
    let own = unit_of (g.V.Volumes.view.outline pool).geometry in
    let reply = put_mid 28 (28 + r.len - 28) c.args.out.now c.read_beside.new.out in
    let long = room_is 28 r.len c.args.out.now (omega (arith, c.requires.form.most, c.requires.room)) in
    let data_long : length c.read_beside.new.out ≡ r.len = omega (arith, c.read_beside.auto.out, long) in
    let blank : has_blank r (take r.len (drop 28 reply)) ≡ true = sym (c.has_blank.ensures ∙ ap (has_blank r) (drop-take 28 r.len reply)) ∙ c.if-not-has_blank.false in
    IfSome_then c.seek_beside.result c.seek_beside.ensures.sought (λ n h.
    gave_long g.V.Volumes.view pool pool pool c.args.volume own r _ c.read_beside.new.out (take r.len (drop 28 reply)) (take n c.seek_beside.new.out)
    c.requires.form.len long data_long refl (c.read_beside.ensures c.if-not-read_beside.false)
    (matched _ _ (has_blank r (take r.len (drop 28 reply))) blank h)
    (middle 28 (28 + r.len - 28) r.len c.args.out.now c.read_beside.new.out (omega (arith, c.requires.room)) data_long))
