use Rattle.std.proofs.Common.{rules, take}
use Rattle.tp_model.specs.Clauses.{PoolCall}
use Rattle.nbd_session.specs.Session.{IsValid, go}
use Rattle.nbd_session.proofs.options.go.Goals as goal

pub returns-clause-answer : goal.returns-clause-answer
returns-clause-answer g c =
    let v = g.V.Volumes.view in
    let found = c.in-Some.ensures.found in
    let valid : IsValid v.outline (PoolCall v) (go c.args.terms) c.args.payload.now c.args.pool.now (take c.go_by.result.1 c.go_by.new.out) c.go_by.result.0 c.go_by.new.pool =
    record { name = c.in-Some.name.now; types = found.0; info = found.1; looks = c.go_by.ensures.answer } in
    search (rules, valid)
