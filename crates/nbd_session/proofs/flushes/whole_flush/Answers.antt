use Rattle.std.proofs.Common.{sym, take, arith}
use Rattle.nbd_wire.specs.declared.Kind.TheVariants.{Requests}
use Rattle.nbd_wire.specs.Reading.{message_of}
use Rattle.nbd_wire.specs.Grammar.{command}
use Rattle.nbd_session.proofs.Flushing.{front_is_flush, front_is_none}
use Rattle.nbd_session.proofs.Serving.{frame_of_text}
use Rattle.nbd_session.proofs.Stepping.{front_of}
use Rattle.nbd_session.proofs.flushes.whole_flush.Goals as goal

pub returns-then-length-piece-clause-none : goal.returns-then-length-piece-clause-none
returns-then-length-piece-clause-none c = λ none b. c.wanted-length.ensures.partial c.if-length-piece.true (command b.request b.payload) b.frame b.rest b.is_frame b.text_is

pub read_frame-requires-clause-whole : goal.read_frame-requires-clause-whole
read_frame-requires-clause-whole c = let whole = (front_of Requests c.args.piece.now c.wanted-length.result c.wanted-length.ensures.length c.if-length-piece.false).whole in omega (arith, whole)

pub returns-in-Some-clause-some : goal.returns-in-Some-clause-some
returns-in-Some-clause-some c =
    let piece = c.args.piece.now in
    let n = c.wanted-length.result in
    let front = front_of Requests piece n c.wanted-length.ensures.length c.if-length-piece.false in
    let m = message_of c.read_frame.result in
    let flush = front_is_flush c.args.size c.args.manner piece n m c.in-Some.cookie (frame_of_text Requests m (take n piece) front.whole c.read_frame.ensures) (sym c.in-Some.ensures) in
    (omega (arith, c.wanted-length.ensures.least), omega (arith, c.if-length-piece.false), flush)

pub returns-in-None-clause-none : goal.returns-in-None-clause-none
returns-in-None-clause-none c =
    let piece = c.args.piece.now in
    let n = c.wanted-length.result in
    let front = front_of Requests piece n c.wanted-length.ensures.length c.if-length-piece.false in
    let m = message_of c.read_frame.result in
    λ none b. front_is_none c.args.size c.args.manner piece n m (frame_of_text Requests m (take n piece) front.whole c.read_frame.ensures) (sym c.in-None.ensures) b
