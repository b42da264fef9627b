use Rattle.std.proofs.Common.{sym}
use Rattle.tp_hub.specs.Serving.{sessions_of}
use Rattle.tp_hub.proofs.Ending.{event_asked, event_serves, flush_asked}
use Rattle.tp_hub.proofs.flushed.answer_flush.Goals as goal

pub returns-in-Parted-clause-asked : goal.returns-in-Parted-clause-asked
returns-in-Parted-clause-asked g c =
    let there = rw c.in-Parted.is at c.requires.number in
    let f = c.flush_slot in
    rw c.in-Parted.is (λ p met.
    event_asked g.V.Volumes.view c.in-Parted.number c.from.result c.args.sessions.now c.index-sessions-from.result _ f.new.slot c.args.pool.now c.in-Parted.piece.now c.args.answer f.result.events f.result.bytes c.args.out.now f.new.out
    c.from.ensures there c.requires.serves c.index-sessions-from.is (sym c.index-sessions-from.is) f.ensures p met)

pub returns-in-Parted-clause-serves : goal.returns-in-Parted-clause-serves
returns-in-Parted-clause-serves g c =
    let there = rw c.in-Parted.is at c.requires.number in
    let f = c.flush_slot in
    event_serves g.V.Volumes.view c.in-Parted.number c.from.result c.args.sessions.now c.index-sessions-from.result _ f.new.slot c.args.pool.now c.in-Parted.piece.now c.args.answer f.result.events f.result.bytes c.args.out.now f.new.out
    c.from.ensures there c.requires.serves c.index-sessions-from.is (sym c.index-sessions-from.is) f.ensures c.requires.flushed.0 c.requires.flushed.1

pub returns-in-Flush-clause-asked : goal.returns-in-Flush-clause-asked
returns-in-Flush-clause-asked g c =
    rw c.in-Flush.is (λ p met. flush_asked g.V.Volumes.view (sessions_of c.args.sessions.now) p c.args.pool.now c.args.answer c.args.out.now c.tell_answer.new.out met c.tell_answer.ensures)
