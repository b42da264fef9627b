use Rattle.std.proofs.Common.{[], drop, take, sym, subst, arith}
use Rattle.std.proofs.lemmas.List.{take-append-drop}
use Rattle.nbd_wire.specs.declared.Kind.TheVariants.{Requests}
use Rattle.nbd_wire.specs.Reading.{message_of}
use Rattle.nbd_wire.specs.Grammar.{command}
use Rattle.nbd_session.specs.declared.batch.PieceKind.{PieceKind}
use Rattle.nbd_session.specs.Requests.{IsKindOf}
use Rattle.nbd_session.proofs.Fronts.{kind_begins}
use Rattle.nbd_session.proofs.Serving.{frame_of_text}
use Rattle.nbd_session.proofs.Stepping.{front_of}
use Rattle.nbd_session.proofs.batch.kind_of_piece.Goals as goal

pub returns-then-length-piece : goal.returns-then-length-piece
returns-then-length-piece c = (
  λ b. c.wanted-length.ensures.partial c.if-length-piece.true (command b.request b.payload) b.frame b.rest b.is_frame b.text_is,
  λ b. c.wanted-length.ensures.partial c.if-length-piece.true (command b.request b.payload) b.frame b.rest b.is_frame b.text_is,
)

pub read_frame-requires-clause-whole : goal.read_frame-requires-clause-whole
read_frame-requires-clause-whole c = let whole = (front_of Requests c.args.piece.now c.wanted-length.result c.wanted-length.ensures.length c.if-length-piece.false).whole in omega (arith, whole)

pub returns : goal.returns
returns c =
    let piece = c.args.piece.now in
    let n = c.wanted-length.result in
    let front = front_of Requests piece n c.wanted-length.ensures.length c.if-length-piece.false in
    let m = message_of c.read_frame.result in
    subst (λ (k : PieceKind). IsKindOf piece k) (sym c.kind_of_frame.ensures)
    (kind_begins m piece (take n piece) (drop n piece) (frame_of_text Requests m (take n piece) front.whole c.read_frame.ensures) (sym (take-append-drop n piece)))
