use Rattle.std.proofs.Common.{sym, subst}
use Rattle.std.specs.Prelude.{IfErr, Result}
use Rattle.std.proofs.lemmas.Result.{IfOk-weaker, err_from_is_err_and}
use Rattle.tp_model.specs.declared.refusal.Refusal.{Refusal}
use Rattle.tp_model.specs.Disk.{seen}
use Rattle.tp_disk.specs.Memory.{mem_state}
use Rattle.tp_users.specs.Users.{IsOutside}
use Rattle.tp_users.proofs.Leading.{free_of, next_lived}
use Rattle.tp_users.proofs.OnDisk.{All, laws_on}
use Rattle.tp_users.proofs.uncached.next_life.Goals as goal

pub returns-in_err-pool-clause-only : goal.returns-in_err-pool-clause-only
returns-in_err-pool-clause-only c =
    let p = err_from_is_err_and c.from_residual.result c.from_residual.ensures.1 in
    subst (λ (r : Result _ Refusal). IfErr r (λ reason. IsOutside reason)) (sym p.1) (subst IsOutside (sym p.2) (c.in_err-pool.ensures.only c.requires.honest c.requires.found.1.0))

pub lived-requires-clause-free : goal.lived-requires-clause-free
lived-requires-clause-free c =
    free_of All laws_on (seen (mem_state c.args.disk).cells) c.in_ok-pool.pool c.requires.found.0 c.requires.found.1 (c.in_ok-pool.ensures.opened c.requires.honest c.requires.settled)

pub returns-clause-lived : goal.returns-clause-lived
returns-clause-lived c =
    IfOk-weaker c.lived.result _ _
    (λ r life. next_lived All laws_on (seen (mem_state c.args.disk).cells) c.in_ok-pool.pool _ c.args.out.now c.lived.new.out _ (c.in_ok-pool.ensures.opened c.requires.honest c.requires.settled) life) c.lived.ensures.lived

pub returns-clause-only : goal.returns-clause-only
returns-clause-only c = c.lived.ensures.only
