use Rattle.std.proofs.Common.{◌+◌, ◌≤◌, Option, subst, sym}
use Rattle.std.proofs.lemmas.Option.{IfSome_then}
use Rattle.tp_msg.specs.declared.message.Message.{Message}
use Rattle.tp_hub.specs.Runs.{incoming}
use Rattle.tp_hub.specs.Serving.{sessions_of}
use Rattle.tp_hub.specs.Staged.{most_kept}
use Rattle.tp_hub.proofs.Staging.{flush_keeps_none, flush_kept, flush_pool, flush_read}
use Rattle.tp_hub.proofs.staged.flush_for.Goals as goal

pub returns-clause-kept : goal.returns-clause-kept
returns-clause-kept g c old before =
    let view = g.V.Volumes.view in
    let of = g.V.Midway.SharedReads.of in
    let left = g.V.Midway.SharedReads.left in
    let slots = c.args.sessions.now in
    let did = c.flush_on in
    let f = flush_pool view of left c.args.place.now slots c.args.order.now old (c.is_for.ensures.its c.if-not-is_for.false) before in
    flush_kept view of left did.result old slots did.new.sessions did.new.place (incoming c.args.event.now) c.args.out.now did.new.out f.1 (did.ensures.kept old.pool f.0)

pub returns-clause-read : goal.returns-clause-read
returns-clause-read g c read =
    let did = c.flush_on in
    let b = c.requires.before in
    flush_read g.V.Volumes.view g.V.Midway.SharedReads.of g.V.Midway.SharedReads.left did.result did.new.place did.new.sessions b.0 (incoming c.args.event.now) c.args.out.now did.new.out (returns-clause-kept g c b.0 b.1)

pub returns-clause-few : goal.returns-clause-few
returns-clause-few g c =
    let view = g.V.Volumes.view in
    let of = g.V.Midway.SharedReads.of in
    let left = g.V.Midway.SharedReads.left in
    let did = c.flush_on in
    let asks = c.asks_flush.ensures.asks c.if-not-asks_flush.false in
    let none = flush_keeps_none (sessions_of c.args.sessions.now) c.args.event.now asks in
    IfSome_then did.result did.ensures.few (λ ran few old q before is.
    let f = flush_pool view of left c.args.place.now c.args.sessions.now c.args.order.now old (c.is_for.ensures.its c.if-not-is_for.false) before in
    subst (λ (o : Option Message). view.flushes q ≤ view.flushes old.pool + most_kept o) (sym none) (few old.pool q f.0 is))
