use Rattle.std.proofs.Common.{drop, take, sym, ◌∙◌, arith}
use Rattle.std.proofs.lemmas.List.{take-append-drop}
use Rattle.nbd_wire.specs.Reading.{message_of}
use Rattle.nbd_session.proofs.Batching.{front_joins}
use Rattle.nbd_session.proofs.Stepping.{front_of}
use Rattle.nbd_session.proofs.Serving.{frame_of_text}
use Rattle.nbd_session.proofs.batch.front_of.Goals as goal

pub returns-then-length-piece-clause-joined : goal.returns-then-length-piece-clause-joined
returns-then-length-piece-clause-joined c joined b = c.wanted-length.ensures.partial c.if-length-piece.true b.message b.frame b.rest b.is_frame b.text_is

pub read_frame-requires-clause-whole : goal.read_frame-requires-clause-whole
read_frame-requires-clause-whole c = let whole = (front_of c.args.kind c.args.piece.now c.wanted-length.result c.wanted-length.ensures.length c.if-length-piece.false).whole in omega (arith, whole)

pub returns-clause-joined : goal.returns-clause-joined
returns-clause-joined c joined =
    let piece = c.args.piece.now in
    let n = c.wanted-length.result in
    let front = front_of c.args.kind piece n c.wanted-length.ensures.length c.if-length-piece.false in
    let m = message_of c.read_frame.result in
    front_joins c.args.kind m piece (take n piece) (drop n piece) (frame_of_text c.args.kind m (take n piece) front.whole c.read_frame.ensures) (sym (take-append-drop n piece)) (sym c.is_alone.ensures ∙ joined)
