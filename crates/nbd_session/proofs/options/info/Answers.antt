use Rattle.std.proofs.Common.{rules, take}
use Rattle.tp_model.specs.Clauses.{PoolCall}
use Rattle.nbd_session.specs.Session.{IsValid, info}
use Rattle.nbd_session.proofs.options.info.Goals as goal

pub returns-clause-answer : goal.returns-clause-answer
returns-clause-answer g c =
    let v = g.V.Volumes.view in
    let found = c.in-Some.ensures.found in
    let valid : IsValid v.outline (PoolCall v) (info c.args.terms) c.args.payload.now c.args.pool.now (take c.info_by.result.1 c.info_by.new.out) c.info_by.result.0 c.info_by.new.pool =
    record { name = c.in-Some.name.now; types = found.0; info = found.1; looks = c.info_by.ensures.answer } in
    search (rules, valid)
