use Rattle.std.proofs.Common.{rules, ◌/◌, ◌∙◌, refl, sym, take}
use Rattle.tp_model.specs.Calls.{WriteZeroes}
use Rattle.tp_model.specs.Clauses.{PoolCall}
use Rattle.nbd_session.specs.Requests.{has_no_hole, is_kept_apart, wants_fua}
use Rattle.nbd_session.specs.Session.{Performs, reply_to}
use Rattle.nbd_session.proofs.Serving.{matched, unmatched}
use Rattle.nbd_session.proofs.answer.write_zeroes.Goals as goal

pub returns-then-is_kept_apart-clause-answer : goal.returns-then-is_kept_apart-clause-answer
returns-then-is_kept_apart-clause-answer g c = matched _ _ (is_kept_apart c.args.manner c.args.request) (sym c.is_kept_apart.ensures ∙ c.if-is_kept_apart.true) c.write_zeroes_apart.ensures.answer

pub returns-in-Ok-clause-answer : goal.returns-in-Ok-clause-answer
returns-in-Ok-clause-answer g c =
    let told : Performs g.V.Volumes.view.outline (PoolCall g.V.Volumes.view) (WriteZeroes c.args.volume (c.args.request.offset / 512) (c.args.request.len / 512) (has_no_hole c.args.request) (wants_fua c.args.manner c.args.request)) (reply_to c.args.request.cookie)
    c.args.pool.now (take c.put_reply.result c.put_reply.new.out) c.write_zeroes.new.self = search rules in
    unmatched _ _ (is_kept_apart c.args.manner c.args.request) (sym c.is_kept_apart.ensures ∙ c.if-is_kept_apart.false) (told, refl)

pub returns-in-Err-clause-answer : goal.returns-in-Err-clause-answer
returns-in-Err-clause-answer g c =
    let told : Performs g.V.Volumes.view.outline (PoolCall g.V.Volumes.view) (WriteZeroes c.args.volume (c.args.request.offset / 512) (c.args.request.len / 512) (has_no_hole c.args.request) (wants_fua c.args.manner c.args.request)) (reply_to c.args.request.cookie)
    c.args.pool.now (take c.put_refusal.result c.put_refusal.new.out) c.write_zeroes.new.self = search rules in
    unmatched _ _ (is_kept_apart c.args.manner c.args.request) (sym c.is_kept_apart.ensures ∙ c.if-is_kept_apart.false) (told, refl)
