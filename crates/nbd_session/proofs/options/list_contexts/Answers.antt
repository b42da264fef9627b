use Rattle.std.proofs.Common.{rules, take}
use Rattle.tp_model.specs.Clauses.{PoolCall}
use Rattle.nbd_wire.specs.Contexts.{lists}
use Rattle.nbd_session.specs.Session.{IsQueried, list_context}
use Rattle.nbd_session.proofs.Looking.{queried}
use Rattle.nbd_session.proofs.options.list_contexts.Goals as goal

pub returns-clause-answer : goal.returns-clause-answer
returns-clause-answer g c =
    let v = g.V.Volumes.view in
    let found = c.in-Some.ensures.found in
    let asked : IsQueried v.outline (PoolCall v) lists (list_context c.args.terms) c.args.payload.now c.args.pool.now (take c.list_by.result.1 c.list_by.new.out) c.list_by.result.0 c.list_by.new.pool =
    queried v.outline (PoolCall v) lists (list_context c.args.terms) c.args.payload.now c.in-Some.query.name.now c.in-Some.query.since.now c.in-Some.query.lists found.0 c.args.pool.now c.list_by.new.pool
    (take c.list_by.result.1 c.list_by.new.out) c.list_by.result.0 found.1 found.3 found.4 c.list_by.ensures.answer in
    search (rules, asked)
