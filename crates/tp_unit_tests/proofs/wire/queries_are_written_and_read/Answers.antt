use Rattle.std.proofs.Common.{arith}
use Rattle.nbd_wire.specs.Numbers.{bytes}
use Rattle.nbd_wire.specs.Replies.{server_data}
use Rattle.nbd_wire.specs.Contexts.{query_text}
use Rattle.tp_unit_tests.proofs.wire.queries_are_written_and_read.Goals as goal

pub put_query-end-requires-clause-short : goal.put_query-end-requires-clause-short
unfolding query_text server_data bytes
put_query-end-requires-clause-short g c = omega arith

pub put_query-end-requires-clause-room : goal.put_query-end-requires-clause-room
unfolding query_text server_data bytes
put_query-end-requires-clause-room g c = omega arith
