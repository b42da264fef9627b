use Rattle.std.proofs.Common.{arith, sym, subst, ℕ}
use Rattle.nbd_wire.specs.Numbers.{bytes}
use Rattle.nbd_wire.specs.Replies.{Puts}
use Rattle.nbd_wire.proofs.Sent.{is_query, length-query_text, length-texts_of, puts_query, texts_long, texts_of}
use Rattle.nbd_wire.proofs.client.put_query.Goals as goal

pub put_server_data-after_name-requires-clause-short : goal.put_server_data-after_name-requires-clause-short
put_server_data-after_name-requires-clause-short c = omega (arith, c.requires.short, length-query_text c.args.name.now (texts_of c.args.queries.now))

pub put_server_data-after_name-requires-clause-room : goal.put_server_data-after_name-requires-clause-room
put_server_data-after_name-requires-clause-room c = omega (arith, c.requires.room, length-query_text c.args.name.now (texts_of c.args.queries.now))

pub overflow_cast-queries : goal.overflow_cast-queries
overflow_cast-queries c =
    let texts = texts_of c.args.queries.now in
    record { fits = omega (arith, c.requires.short, length-query_text c.args.name.now texts, texts_long texts, length-texts_of c.args.queries.now) }

pub put_u32-after_count-requires : goal.put_u32-after_count-requires
put_u32-after_count-requires c =
    omega (arith, c.requires.room, length-query_text c.args.name.now (texts_of c.args.queries.now), c.put_server_data-after_name.ensures.end, c.put_server_data-after_name.ensures.len)

pub put_texts-requires-clause-short : goal.put_texts-requires-clause-short
put_texts-requires-clause-short c = omega (arith, c.requires.short, length-query_text c.args.name.now (texts_of c.args.queries.now))

pub put_texts-requires-clause-room : goal.put_texts-requires-clause-room
put_texts-requires-clause-room c =
    omega (
      arith,
      c.requires.room,
      length-query_text c.args.name.now (texts_of c.args.queries.now),
      c.put_server_data-after_name.ensures.end,
      c.put_server_data-after_name.ensures.len,
      c.put_u32-after_count.ensures.end,
      c.put_u32-after_count.ensures.len,
    )

pub returns-clause-bytes : goal.returns-clause-bytes
returns-clause-bytes c =
    let count = subst (λ (n : ℕ). Puts c.put_server_data-after_name.new.out c.put_server_data-after_name.result (bytes 4 n) c.put_u32-after_count.new.out c.put_u32-after_count.result) (sym (length-texts_of c.args.queries.now)) c.put_u32-after_count.ensures.bytes in
    puts_query _ _ _ _ _ _ _ _ c.args.name.now (texts_of c.args.queries.now) c.put_server_data-after_name.ensures.bytes count c.put_texts.ensures.bytes

pub returns-clause-end : goal.returns-clause-end
returns-clause-end c =
    omega (
      arith,
      length-query_text c.args.name.now (texts_of c.args.queries.now),
      c.put_server_data-after_name.ensures.end,
      c.put_u32-after_count.ensures.end,
      c.put_texts.ensures.bytes.ends,
    )

pub returns-clause-query : goal.returns-clause-query
returns-clause-query c = is_query c.args.name.now (texts_of c.args.queries.now) c.requires.short
