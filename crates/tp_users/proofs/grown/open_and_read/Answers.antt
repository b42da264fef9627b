use Rattle.std.proofs.Common.{◌+◌, ◌/◌, length, sym, subst, ap}
use Rattle.std.specs.Prelude.{IfErr, Result}
use Rattle.std.proofs.lemmas.Result.{err_from_is_err_and}
use Rattle.tp_model.specs.declared.refusal.Refusal.{Refusal}
use Rattle.tp_model.specs.PoolStops.{reopened}
use Rattle.tp_users.specs.Users.{IsOutside}
use Rattle.tp_users.proofs.Growth.{ends, grown_again, last_refused, last_zeros}
use Rattle.tp_users.proofs.grown.open_and_read.Goals as goal

pub returns-in_err-pool-clause-only : goal.returns-in_err-pool-clause-only
returns-in_err-pool-clause-only c =
    let p = err_from_is_err_and c.from_residual.result c.from_residual.ensures.1 in
    let k = c.requires.kept in
    subst (λ (r : Result _ Refusal). IfErr r (λ reason. IsOutside reason)) (sym p.1)
    (subst (λ (reason : Refusal). IsOutside reason) (sym p.2) (c.in_err-pool.ensures.only k.0 k.3))

pub read-requires-clause-range : goal.read-requires-clause-range
read-requires-clause-range c =
    let k = c.requires.kept in
    ends c.in_ok-pool.pool c.args.id k.1 (reopened k.0) (grown_again c.args.id k.1 k.0 k.2) (c.in_ok-pool.ensures.shows k.0 k.3) (c.args.from + length c.args.out.now / 512) k.4 k.5

pub returns-clause-zero : goal.returns-clause-zero
returns-clause-zero c =
    let k = c.requires.kept in
    last_zeros c.in_ok-pool.pool c.read.new.self c.args.id k.1 (reopened k.0) (grown_again c.args.id k.1 k.0 k.2) (c.in_ok-pool.ensures.shows k.0 k.3) c.args.from (length c.args.out.now / 512) c.read.new.out
    c.requires.behind k.4 (ap (λ n. n / 512) c.read.ensures.length) c.read.result c.read.ensures.called

pub returns-clause-only : goal.returns-clause-only
returns-clause-only c =
    let k = c.requires.kept in
    last_refused c.in_ok-pool.pool c.read.new.self c.args.id k.1 (reopened k.0) (grown_again c.args.id k.1 k.0 k.2) (c.in_ok-pool.ensures.shows k.0 k.3) c.args.from (length c.args.out.now / 512) c.read.new.out
    c.read.result c.read.ensures.called
