use Rattle.std.proofs.Common.{arith}
use Rattle.tp_model.specs.Clauses.{PoolCall}
use Rattle.nbd_session.specs.Session.{limit_of}
use Rattle.nbd_session.proofs.Naming.{none_asked, none_found, some_found}
use Rattle.nbd_session.proofs.listing.next_from.Goals as goal

pub returns-then-from-limit : goal.returns-then-from-limit
returns-then-from-limit g c =
    let p = g.V.Volumes in
    none_asked p.view.outline (PoolCall p.view) c.limit_of-limit.result (limit_of c.args.profile) c.args.from c.args.pool.now c.limit_of-limit.ensures.value (omega (arith, c.if-from-limit.true))

pub returns-in-Ok-None : goal.returns-in-Ok-None
returns-in-Ok-None g c =
    let p = g.V.Volumes in
    let is = c.limit_of-limit.ensures.value in
    none_found p.view.outline (PoolCall p.view) (limit_of c.args.profile) c.args.from c.new.result c.in-Ok-None.field-0 c.args.pool.now c.next_id.new.self (omega (arith, is, c.if-from-limit.false)) c.new.ensures
    c.in-Ok-None.field-0-is c.in-Ok-None.ensures

pub returns-in-Ok-Some : goal.returns-in-Ok-Some
returns-in-Ok-Some g c =
    let p = g.V.Volumes in
    let is = c.limit_of-limit.ensures.value in
    some_found p.view.outline (PoolCall p.view) c.limit_of-limit.result (limit_of c.args.profile) c.args.from c.new.result c.in-Ok-Some.volume c.in-Ok-Some.field-0 c.below.result c.args.pool.now c.next_id.new.self is
    (omega (arith, is, c.if-from-limit.false)) c.new.ensures c.in-Ok-Some.field-0-is c.in-Ok-Some.ensures c.below.ensures
