use Rattle.std.proofs.Common.{rules, ◌/◌, ◌∙◌, refl, sym, take}
use Rattle.tp_model.specs.Sectors.{sectors_of}
use Rattle.tp_model.specs.Calls.{Write}
use Rattle.tp_model.specs.Clauses.{PoolCall}
use Rattle.nbd_session.specs.Requests.{is_kept_apart, wants_fua}
use Rattle.nbd_session.specs.Session.{Performs, reply_to}
use Rattle.nbd_session.proofs.Serving.{unmatched}
use Rattle.nbd_session.proofs.answer.write.Goals as goal

pub returns-in-Ok-clause-answer : goal.returns-in-Ok-clause-answer
returns-in-Ok-clause-answer g c =
    let told : Performs g.V.Volumes.view.outline (PoolCall g.V.Volumes.view) (Write c.args.volume (c.args.request.offset / 512) (sectors_of c.args.payload.now) (wants_fua c.args.manner c.args.request)) (reply_to c.args.request.cookie)
    c.args.pool.now (take c.put_reply.result c.put_reply.new.out) c.write.new.self = search rules in
    unmatched _ _ (is_kept_apart c.args.manner c.args.request) (sym c.is_kept_apart.ensures ∙ c.if-is_kept_apart.false) (told, refl)

pub returns-in-Err-clause-answer : goal.returns-in-Err-clause-answer
returns-in-Err-clause-answer g c =
    let told : Performs g.V.Volumes.view.outline (PoolCall g.V.Volumes.view) (Write c.args.volume (c.args.request.offset / 512) (sectors_of c.args.payload.now) (wants_fua c.args.manner c.args.request)) (reply_to c.args.request.cookie)
    c.args.pool.now (take c.put_refusal.result c.put_refusal.new.out) c.write.new.self = search rules in
    unmatched _ _ (is_kept_apart c.args.manner c.args.request) (sym c.is_kept_apart.ensures ∙ c.if-is_kept_apart.false) (told, refl)
