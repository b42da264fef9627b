use Rattle.nbd_wire.proofs.Chunking.{one_chunk, no_simple_reply, data_is_chunk, hole_is_chunk, one_status, status_is_chunk, error_is_chunk, done_is_chunk}
use Rattle.nbd_wire.proofs.laws.one_first_chunk.Goals as goal

pub returns-clause-chunks : goal.returns-clause-chunks
returns-clause-chunks c = one_chunk

pub returns-clause-simple : goal.returns-clause-simple
returns-clause-simple c = no_simple_reply

pub returns-clause-reads : goal.returns-clause-reads
returns-clause-reads c = data_is_chunk

pub returns-clause-holes : goal.returns-clause-holes
returns-clause-holes c = hole_is_chunk

pub returns-clause-statuses : goal.returns-clause-statuses
returns-clause-statuses c = one_status

pub returns-clause-extents : goal.returns-clause-extents
returns-clause-extents c = status_is_chunk

pub returns-clause-errors : goal.returns-clause-errors
returns-clause-errors c = error_is_chunk

pub returns-clause-done : goal.returns-clause-done
returns-clause-done c = done_is_chunk
