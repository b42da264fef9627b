use Rattle.std.proofs.Common.{[], refl, arith}
use Rattle.nbd_wire.proofs.Sent.{length-texts_of, puts_none, puts_text, puts_texts, text_room}
use Rattle.nbd_wire.proofs.client.put_texts.Goals as goal

pub returns-clause-bytes : goal.returns-clause-bytes
returns-clause-bytes c =
    puts_texts _ _ _ _ c.loop-text.text-index _ (omega (arith, c.loop-text-test.false, length-texts_of c.args.texts.now)) c.loop-text.invariant.puts

pub loop-text-init : goal.loop-text-init
loop-text-init c = record { puts = puts_none c.args.out.now c.args.at; len = refl; inside = omega arith }

pub put_server_data-end-requires-clause-short : goal.put_server_data-end-requires-clause-short
put_server_data-end-requires-clause-short c =
    let room = text_room c.args.texts.now c.loop-text.text-index (record { ref_ptr = (0, 0); now = [] }) c.loop-text-test.true in omega (arith, room, c.requires.short)

pub put_server_data-end-requires-clause-room : goal.put_server_data-end-requires-clause-room
put_server_data-end-requires-clause-room c =
    let room = text_room c.args.texts.now c.loop-text.text-index (record { ref_ptr = (0, 0); now = [] }) c.loop-text-test.true in
    omega (arith, room, c.requires.room, c.loop-text.invariant.puts.ends, c.loop-text.invariant.len)

pub loop-text-preserved : goal.loop-text-preserved
loop-text-preserved c = record {
  puts = puts_text _ _ _ _ _ _ _ c.args.texts.now _ c.loop-text-test.true c.loop-text.invariant.puts c.put_server_data-end.ensures.bytes;
  len = omega (arith, c.put_server_data-end.ensures.len, c.loop-text.invariant.len);
  inside = omega (arith, c.loop-text-test.true);
}
