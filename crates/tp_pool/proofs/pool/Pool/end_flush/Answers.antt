use Rattle.std.proofs.Common.{◌≡◌, subst}
use Rattle.std.specs.Prelude.{Bool}
use Rattle.tp_pool.specs.Midway.{IsMidFlush}
use Rattle.tp_pool.proofs.pool.Pool.end_flush.Goals as goal

pub returns-then-is_named : goal.returns-then-is_named
returns-then-is_named g c old is mid =
    let M = g.M.Metadata in
    c.end_or_fail.ensures old is (subst (λ (b : Bool). IsMidFlush M.geometry M.stands M.tells M.midway old b c.args.self.now.disk) c.if-is_named.true mid)

pub returns-in-Some : goal.returns-in-Some
returns-in-Some g c old is mid =
    let M = g.M.Metadata in
    c.in-Some.ensures old is (subst (λ (b : Bool). IsMidFlush M.geometry M.stands M.tells M.midway old b c.args.self.now.disk) c.if-is_named.false mid)

pub returns-in-None : goal.returns-in-None
returns-in-None g c old is mid =
    let M = g.M.Metadata in
    let named = c.in-None.ensures old is (subst (λ (b : Bool). IsMidFlush M.geometry M.stands M.tells M.midway old b c.args.self.now.disk) c.if-is_named.false mid) in
    c.end_or_fail-in-None.ensures old named.0 named.1
