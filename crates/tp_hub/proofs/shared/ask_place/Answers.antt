use Rattle.std.proofs.Common.{◌∙◌, Some, ap, refl, sym}
use Rattle.tp_hub.specs.Serving.{sessions_of, shown}
use Rattle.tp_hub.proofs.Least.{read_at}
use Rattle.tp_hub.proofs.Sharing.{asked_slot, heard_nothing}
use Rattle.tp_hub.proofs.Taking.{ready_slot}
use Rattle.tp_hub.proofs.shared.ask_place.Goals as goal

pub hear-bytes-requires-clause-ready : goal.hear-bytes-requires-clause-ready
hear-bytes-requires-clause-ready g c =
    let slots = c.args.sessions.now in
    let there = read_at slots c.from.result c.args.number c.index-sessions-from.result c.from.ensures c.requires.number c.requires.serves.count c.index-sessions-from.is ∙ (c.index-sessions-from.is ∙ c.in-Some.is) in
    let ready = ready_slot g.V.Volumes.view slots c.args.number (Some c.in-Some.session) (g.S.SharedReads.of c.args.pool.now) c.requires.number c.requires.serves there in
    ready.0

pub hear-bytes-requires-clause-open : goal.hear-bytes-requires-clause-open
hear-bytes-requires-clause-open g c =
    let slots = c.args.sessions.now in
    let there = read_at slots c.from.result c.args.number c.index-sessions-from.result c.from.ensures c.requires.number c.requires.serves.count c.index-sessions-from.is ∙ (c.index-sessions-from.is ∙ c.in-Some.is) in
    let ready = ready_slot g.V.Volumes.view slots c.args.number (Some c.in-Some.session) (g.S.SharedReads.of c.args.pool.now) c.requires.number c.requires.serves there in
    ready.1

pub returns-else-is_at_work-clause-asked : goal.returns-else-is_at_work-clause-asked
returns-else-is_at_work-clause-asked g c =
    let view = g.V.Volumes.view in
    let slots = c.args.sessions.now in
    let pool = g.S.SharedReads.of c.args.pool.now in
    let s = c.in-Some.session in
    let there = read_at slots c.from.result c.args.number c.index-sessions-from.result c.from.ensures c.requires.number c.requires.serves.count c.index-sessions-from.is ∙ (c.index-sessions-from.is ∙ c.in-Some.is) in
    let ready = ready_slot view slots c.args.number (Some s) pool c.requires.number c.requires.serves there in
    asked_slot view c.ran.result c.args.number s pool c.args.piece.now c.hear-bytes.result c.args.out.now c.hear-bytes.new.out (Some s) refl ready.1 (sym c.is_at_work.ensures ∙ c.if-is_at_work.false) c.hear-bytes.ensures.hears c.ran.ensures.some (sessions_of slots) (ap shown there)

pub returns-else-is_at_work-clause-none : goal.returns-else-is_at_work-clause-none
returns-else-is_at_work-clause-none g c none =
    heard_nothing g.V.Volumes.view c.args.number c.in-Some.session (g.S.SharedReads.of c.args.pool.now) c.args.piece.now c.hear-bytes.result c.args.out.now c.hear-bytes.new.out (sym c.is_at_work.ensures ∙ c.if-is_at_work.false) c.hear-bytes.ensures.hears (c.ran.ensures.none none)
