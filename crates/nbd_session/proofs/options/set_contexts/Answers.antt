use Rattle.std.proofs.Common.{rules, take}
use Rattle.tp_model.specs.Clauses.{PoolCall}
use Rattle.nbd_wire.specs.Contexts.{asks_for}
use Rattle.nbd_session.specs.Session.{IsQueried, set_context}
use Rattle.nbd_session.proofs.Looking.{queried}
use Rattle.nbd_session.proofs.options.set_contexts.Goals as goal

pub returns-clause-answer : goal.returns-clause-answer
returns-clause-answer g c =
    let v = g.V.Volumes.view in
    let found = c.in-Some.ensures.found in
    let asked : IsQueried v.outline (PoolCall v) asks_for (set_context c.args.terms) c.args.payload.now c.args.pool.now (take c.set_by.result.1 c.set_by.new.out) c.set_by.result.0 c.set_by.new.pool =
    queried v.outline (PoolCall v) asks_for (set_context c.args.terms) c.args.payload.now c.in-Some.query.name.now c.in-Some.query.since.now c.in-Some.query.asks found.0 c.args.pool.now c.set_by.new.pool
    (take c.set_by.result.1 c.set_by.new.out) c.set_by.result.0 found.1 found.2 found.4 c.set_by.ensures.answer in
    search (rules, asked)
