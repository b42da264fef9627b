use Rattle.std.proofs.Common.{◌+◌, ◌/◌, length, sym, subst, ap}
use Rattle.std.specs.Prelude.{IfErr, Result}
use Rattle.std.proofs.lemmas.Result.{IfOk-weaker, err_from_is_err_and}
use Rattle.tp_model.specs.declared.refusal.Refusal.{Refusal}
use Rattle.tp_meta.specs.declared.whole.Meta.{Meta}
use Rattle.tp_pool.specs.Held.{Held}
use Rattle.tp_users.specs.Users.{IsOutside}
use Rattle.tp_users.proofs.Growth.{ends, left_still, read_refused, read_zeros}
use Rattle.tp_users.proofs.grown.read_and_leave.Goals as goal

pub read-requires-clause-range : goal.read-requires-clause-range
read-requires-clause-range c =
    let g = c.requires.grown in
    ends c.args.pool.now c.args.id g.1 g.0 g.2 g.3 (c.args.from + length c.args.out.now / 512) g.4 g.5

pub returns-in_err-read-clause-only : goal.returns-in_err-read-clause-only
returns-in_err-read-clause-only c =
    let p = err_from_is_err_and c.from_residual.result c.from_residual.ensures.1 in
    let g = c.requires.grown in
    subst (λ (r : Result _ Refusal). IfErr r (λ reason. IsOutside reason)) (sym p.1)
    (subst (λ (reason : Refusal). IsOutside reason) (sym p.2)
    (read_refused c.args.pool.now c.args.id g.1 g.0 g.2 g.3 c.read.new.self c.args.from (length c.args.out.now / 512) c.in_err-read.field-0.0 c.in_err-read.ensures.called))

pub returns-clause-zero : goal.returns-clause-zero
returns-clause-zero c =
    let g = c.requires.grown in
    IfOk-weaker c.stop.result _ _
    (λ disk kept.
    read_zeros c.args.pool.now c.args.id g.1 g.0 g.2 g.3 c.read.new.self c.args.from (length c.args.out.now / 512) c.read.new.out c.requires.behind g.4 (ap (λ n. n / 512) c.read.ensures.length)
    c.in_ok-read.ensures.called) c.stop.ensures.kept

pub returns-clause-kept : goal.returns-clause-kept
returns-clause-kept c =
    IfOk-weaker c.stop.result _ _
    (λ disk kept s left. kept s (left_still c.args.pool.now.disk c.read.new.self.disk s (ap (λ (h : Held Meta). h.disk.cells) c.read.ensures.held) left)) c.stop.ensures.kept

pub returns-clause-only : goal.returns-clause-only
returns-clause-only c = c.stop.ensures.only
