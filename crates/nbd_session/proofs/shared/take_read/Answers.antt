use Rattle.std.proofs.Common.{◌≡◌, ◌∙◌, ◌<◌, [], false, Some, ap, refl, subst, sym, take, arith}
use Rattle.tp_model.specs.Clauses.{PoolCall}
use Rattle.nbd_wire.specs.declared.Kind.TheVariants.{Requests}
use Rattle.nbd_session.specs.declared.phase.Course.{Course}
use Rattle.nbd_session.specs.declared.phase.Course.TheVariants.{Listens}
use Rattle.nbd_session.specs.declared.phase.Phase.{Phase}
use Rattle.nbd_session.specs.declared.phase.Phase.TheVariants.{Transmission}
use Rattle.nbd_session.specs.Session.{Steps, is_at_work, state}
use Rattle.nbd_session.proofs.Fronts.{begins_longer, is_one}
use Rattle.nbd_session.proofs.Serving.{served_text}
use Rattle.nbd_session.proofs.Stepping.{front_of, steps_direct}
use Rattle.nbd_session.proofs.shared.take_read.Goals as goal

pub read_frame-requires-clause-whole : goal.read_frame-requires-clause-whole
read_frame-requires-clause-whole g c = let whole = (front_of Requests c.args.piece.now c.wanted-length.result c.wanted-length.ensures.length c.if-length-piece.false).whole in omega (arith, whole)

pub returns-in-Some-clause-begins : goal.returns-in-Some-clause-begins
returns-in-Some-clause-begins g c =
    let n = c.wanted-length.result in
    let front = front_of Requests c.args.piece.now n c.wanted-length.ensures.length c.if-length-piece.false in
    begins_longer n c.args.piece.now (is_one (Some c.in-Some.sent) c.in-Command.request c.in-Command.payload.now (take n c.args.piece.now) front.whole c.in-Command.ensures c.in-Some.ensures.kind)

pub returns-in-Some-clause-idle : goal.returns-in-Some-clause-idle
returns-in-Some-clause-idle g c = ap is_at_work (c.in-Transmission.is ∙ ap (λ (x : Course). Transmission c.in-Transmission.volume c.in-Transmission.size x) c.in-Listens.is)

pub returns-in-Some-clause-steps : goal.returns-in-Some-clause-steps
returns-in-Some-clause-steps g c =
    let view = g.V.Volumes.view in
    let pool = g.S.SharedReads.of c.args.pool.now in
    let piece = c.args.piece.now in
    let n = c.wanted-length.result in
    let front = front_of Requests piece n c.wanted-length.ensures.length c.if-length-piece.false in
    let fixed = front.fixed in
    let len = front.len in
    let some : 0 < n = omega (arith, fixed, len) in
    let payload = c.in-Command.payload.now in
    let volume = c.in-Transmission.volume in
    let size = c.in-Transmission.size in
    let manner = c.in-Listens.manner in
    let sent = take c.in-Some.sent c.serve.new.out in
    let phase : Phase = Transmission volume size (Listens manner) in
    let is : c.args.phase ≡ phase = c.in-Transmission.is ∙ ap (λ (x : Course). Transmission volume size x) c.in-Listens.is in
    subst (λ (x : Phase). Steps view.outline (PoolCall view) (state x []) pool piece n sent false (state x []) pool) (sym is)
    (steps_direct view.outline (PoolCall view) phase Requests refl [] pool pool piece n sent phase refl some c.if-length-piece.false
    (served_text view (Some c.in-Some.sent) (λ k. take k c.serve.new.out) pool volume size manner c.in-Command.request payload (take n piece) front.whole c.in-Command.ensures (c.in-Some.ensures.answer payload)))
