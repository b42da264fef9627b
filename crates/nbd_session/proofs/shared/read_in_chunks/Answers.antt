use Rattle.std.proofs.Common.{sym, ◌∙◌, arith}
use Rattle.nbd_session.proofs.Serving.{if_matched, if_unmatched}
use Rattle.nbd_session.proofs.shared.read_in_chunks.Goals as goal

pub read_long-requires-clause-some : goal.read_long-requires-clause-some
read_long-requires-clause-some g c = let long = c.may_have_holes.ensures.long c.if-may_have_holes.true in omega (arith, long)

pub returns-then-may_have_holes-clause-answer : goal.returns-then-may_have_holes-clause-answer
returns-then-may_have_holes-clause-answer g c =
    if_matched c.read_long.result _ _ _ (sym c.may_have_holes.ensures.value ∙ c.if-may_have_holes.true) c.read_long.ensures.answer

pub returns-else-may_have_holes-clause-answer : goal.returns-else-may_have_holes-clause-answer
returns-else-may_have_holes-clause-answer g c =
    if_unmatched c.read_in_chunk.result _ _ _ (sym c.may_have_holes.ensures.value ∙ c.if-may_have_holes.false) c.read_in_chunk.ensures.answer

pub read_long-requires-clause-room : goal.read_long-requires-clause-room
read_long-requires-clause-room g c = c.requires.long (c.may_have_holes.ensures.long c.if-may_have_holes.true)

pub read_in_chunk-requires-clause-room : goal.read_in_chunk-requires-clause-room
read_in_chunk-requires-clause-room g c = let short = c.may_have_holes.ensures.short c.if-may_have_holes.false in omega (arith, short, c.requires.room)
