use Rattle.nbd_session.proofs.Serving.{room_of_read, if_matched, if_unmatched}
use Rattle.nbd_session.proofs.shared.read.Goals as goal

pub returns-then-manner-clause-answer : goal.returns-then-manner-clause-answer
returns-then-manner-clause-answer g c = if_matched c.read_in_chunks.result _ _ _ c.if-manner.true c.read_in_chunks.ensures.answer

pub returns-else-manner-clause-answer : goal.returns-else-manner-clause-answer
returns-else-manner-clause-answer g c = if_unmatched c.read_simply.result _ _ _ c.if-manner.false c.read_simply.ensures.answer

pub read_simply-requires-clause-room : goal.read_simply-requires-clause-room
read_simply-requires-clause-room g c = room_of_read c.args.request.now.len _ c.requires.form.most c.requires.room c.requires.long
