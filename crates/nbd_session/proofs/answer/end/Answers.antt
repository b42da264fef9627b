use Rattle.std.proofs.Common.{ℕ, ◌<◌, subst, sym}
use Rattle.tp_model.specs.Pool.{hold_count}
use Rattle.tp_model.specs.Clauses.{PoolCall}
use Rattle.nbd_session.specs.Session.{LetsOlderGo}
use Rattle.nbd_session.proofs.Advancing.{older_is_held, own_held}
use Rattle.nbd_session.proofs.answer.end.Goals as goal

pub let_older_go-requires : goal.let_older_go-requires
let_older_go-requires g c =
    let view = g.V.Volumes.view in
    let pool = c.args.pool.now in
    subst (λ (n : ℕ). n < 16777216 → 0 < hold_count (view.outline pool).holds n) (sym c.older_in.ensures) (older_is_held c.args.phase (view.outline pool) (view.more pool) c.requires)

pub let_own_go-requires : goal.let_own_go-requires
let_own_go-requires g c =
    let view = g.V.Volumes.view in
    let mid = c.let_older_go.new.pool in
    λ v own. own_held view g.met.V.Volumes.laws c.args.phase c.args.pool.now mid v c.requires
    (subst (λ (n : ℕ). LetsOlderGo view.outline (PoolCall view) n c.args.pool.now mid) c.older_in.ensures c.let_older_go.ensures) own

pub returns-clause-lets_go : goal.returns-clause-lets_go
returns-clause-lets_go g c =
    let view = g.V.Volumes.view in
    let mid = c.let_older_go.new.pool in
    record {
      without_older = mid;
      lets_older_go = subst (λ (n : ℕ). LetsOlderGo view.outline (PoolCall view) n c.args.pool.now mid) c.older_in.ensures c.let_older_go.ensures;
      lets_own_go = c.let_own_go.ensures;
    }
