use Rattle.std.proofs.Common.{◌≡◌, None, rules, take, length, sym, arith}
use Rattle.std.proofs.lemmas.Bool.{not-true, not-false}
use Rattle.std.proofs.lemmas.List.{length-take-le}
use Rattle.tp_model.specs.Clauses.{PoolCall}
use Rattle.nbd_session.specs.Session.{Steps, has_ended, kind_of, state}
use Rattle.nbd_session.proofs.Advancing.{advances_deaf, advances_frame, advances_waiting}
use Rattle.nbd_session.proofs.Gathering.{still_held}
use Rattle.nbd_session.proofs.Stepping.{front_of, wanted_at_start, steps_whole}
use Rattle.nbd_session.proofs.advance.advance.Goals as goal

pub answer_text-requires-clause-whole : goal.answer_text-requires-clause-whole
answer_text-requires-clause-whole g c = (front_of c.in-Some.kind c.args.piece.now c.wanted-length.result c.wanted-length.ensures.length c.if-length-piece.true).whole

pub returns-then-length-piece-clause-partial : goal.returns-then-length-piece-clause-partial
returns-then-length-piece-clause-partial g c = wanted_at_start c.in-Some-answer_text.answer.0

pub returns-clause-partial : goal.returns-clause-partial
returns-clause-partial g c = wanted_at_start c.in-Some-answer_text-2.answer.0

pub returns-in_default-clause-partial : goal.returns-in_default-clause-partial
returns-in_default-clause-partial g c = rw c.go_on.ensures.filled (wanted_at_start c.go_on.result.phase)

pub returns-in_default-clause-advances : goal.returns-in_default-clause-advances
returns-in_default-clause-advances g c =
    let deaf : kind_of c.args.phase ≡ None = search rules in
    advances_deaf g.V.Volumes.view g.met.V.Volumes.laws c.args.pool.now c.go_on.new.pool c.args.phase c.go_on.result.phase c.args.filled c.go_on.result.filled c.args.input.now.items c.args.piece.now _ c.go_on.result.taken _
    c.requires.ready c.go_on.ensures.sound deaf c.requires.partial c.go_on.ensures.filled c.go_on.ensures.less c.go_on.ensures.steps

pub returns-then-length-piece-clause-advances : goal.returns-then-length-piece-clause-advances
returns-then-length-piece-clause-advances g c =
    let steps : Steps g.V.Volumes.view.outline (PoolCall g.V.Volumes.view) (state c.args.phase (take c.args.filled c.args.input.now.items)) c.args.pool.now c.args.piece.now c.wanted-length.result
    (take c.in-Some-answer_text.answer.1 c.answer_text.new.out) (has_ended c.in-Some-answer_text.answer.0) (state c.in-Some-answer_text.answer.0 (take 0 c.args.input.now.items)) c.answer_text.new.pool = search rules in
    advances_frame g.V.Volumes.view g.met.V.Volumes.laws c.args.pool.now c.answer_text.new.pool c.args.phase c.in-Some-answer_text.answer.0 c.in-Some.kind (take c.args.filled c.args.input.now.items) c.args.piece.now _ c.wanted-length.result _
    c.requires.ready c.in-Some-answer_text.ensures.sound (sym c.in-Some.ensures) steps

pub returns-then-not-gathered-clause-advances : goal.returns-then-not-gathered-clause-advances
returns-then-not-gathered-clause-advances g c =
    let held = c.gather-gathered.result in
    advances_waiting g.V.Volumes.view g.met.V.Volumes.laws c.args.pool.now c.args.phase c.in-Some.kind (take c.args.filled c.args.input.now.items) (take held.end c.gather-gathered.new.input.items) c.args.piece.now c.args.filled held.end held.whole
    c.requires.ready c.requires.sound (sym c.in-Some.ensures) (not-true held.whole c.if-not-gathered.true) (length-take-le c.args.filled c.args.input.now.items c.requires.filled) c.gather-gathered.ensures.gathers

pub returns-clause-advances : goal.returns-clause-advances
returns-clause-advances g c =
    let view = g.V.Volumes.view in
    let next = c.in-Some-answer_text-2.answer.0 in
    let held = c.gather-gathered.result in
    advances_frame view g.met.V.Volumes.laws c.args.pool.now c.answer_text-2.new.pool c.args.phase next c.in-Some.kind (take c.args.filled c.args.input.now.items) c.args.piece.now _ _ (has_ended next)
    c.requires.ready c.in-Some-answer_text-2.ensures.sound (sym c.in-Some.ensures)
    (steps_whole view.outline (PoolCall view) c.args.phase c.in-Some.kind (sym c.in-Some.ensures) (take c.args.filled c.args.input.now.items) c.args.pool.now c.answer_text-2.new.pool c.args.piece.now
    c.args.filled held.end _ _ next held.whole (not-false held.whole c.if-not-gathered.false) c.requires.partial (length-take-le c.args.filled c.args.input.now.items c.requires.filled) c.gather-gathered.ensures.gathers (rw c.deref.ensures.value at c.in-Some-answer_text-2.ensures.answer))

pub returns-in_default-answer_text-2-clause-kept : goal.returns-in_default-answer_text-2-clause-kept
returns-in_default-answer_text-2-clause-kept g c none =
    let filled = c.args.filled in
    let held = take filled c.args.input.now.items in
    let gathered = c.gather-gathered.ensures.gathers in
    let len : length held ≡ filled = length-take-le filled c.args.input.now.items c.requires.filled in
    (still_held filled c.gather-gathered.result.end held c.args.piece.now c.gather-gathered.new.input.items len gathered.least gathered.now_is, omega (arith, gathered.least, c.gather-gathered.ensures.inside))
