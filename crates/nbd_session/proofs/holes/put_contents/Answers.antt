use Rattle.std.proofs.Common.{◌-◌, ◌∙◌, refl, arith}
use Rattle.nbd_session.proofs.Holing.{ahead_of, all_more, chunks_all, chunks_more, inside_of, room_more, short_of}
use Rattle.nbd_session.proofs.holes.put_contents.Goals as goal

pub loop-span-init : goal.loop-span-init
loop-span-init c = record {
  whole = refl;
  room = omega (arith, c.requires.room);
  all = c.requires.all;
  behind = omega arith;
  here = omega arith;
  left = omega arith;
  len = refl;
  inside = omega arith;
}

pub put_content-at-requires-clause-short : goal.put_content-at-requires-clause-short
put_content-at-requires-clause-short c =
    let l = c.loop-span in
    short_of l.span-index _ c.args.spans.now l.from c.args.place _ c.loop-span-test.true l.invariant.all l.invariant.behind c.requires.few

pub put_content-at-requires-clause-ahead : goal.put_content-at-requires-clause-ahead
put_content-at-requires-clause-ahead c =
    let l = c.loop-span in
    ahead_of l.span-index l.at c.args.place l.from c.args.spans.now c.loop-span-test.true l.invariant.room l.invariant.behind

pub put_content-at-requires-clause-inside : goal.put_content-at-requires-clause-inside
put_content-at-requires-clause-inside c =
    let l = c.loop-span in
    inside_of l.span-index _ c.args.spans.now l.from _ _ c.loop-span-test.true l.invariant.all l.invariant.len

pub loop-span-preserved : goal.loop-span-preserved
loop-span-preserved c =
    let l = c.loop-span in
    let was = l.invariant in
    let room = room_more l.span-index _ c.args.spans.now l.at c.put_content-at.result c.args.place c.loop-span-test.true c.put_content-at.ensures.end was.room in
    record {
      whole = chunks_more l.span-index _ c.args.spans.now l.at c.put_content-at.result l.from l.here (l.left - 1) c.args.cookie l.out c.put_content-at.new.out _ c.loop-span-test.true
          (omega (arith, was.left, c.loop-span-test.true)) c.put_content-at.ensures.bytes (omega (arith, room, was.behind)) was.whole;
      room = room;
      all = all_more l.span-index _ c.args.spans.now l.from _ c.loop-span-test.true was.all;
      behind = omega (arith, was.behind);
      here = omega (arith, was.here);
      left = omega (arith, was.left, c.loop-span-test.true);
      len = c.put_content-at.ensures.len ∙ was.len;
      inside = omega (arith, c.loop-span-test.true);
    }

pub returns-clause-text : goal.returns-clause-text
returns-clause-text c =
    let l = c.loop-span in
    chunks_all l.span-index l.at l.from l.here c.args.cookie c.args.spans.now l.out _ (omega (arith, c.loop-span-test.false)) l.invariant.whole
