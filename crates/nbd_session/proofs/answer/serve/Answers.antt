use Rattle.std.proofs.Common.{rules, ◌∙◌, subst, sym, take}
use Rattle.tp_model.specs.Clauses.{PoolCall}
use Rattle.nbd_session.specs.declared.request.Verdict.{Verdict}
use Rattle.nbd_session.specs.Requests.{IsTested}
use Rattle.nbd_session.specs.Session.{Serves}
use Rattle.nbd_session.proofs.answer.serve.Goals as goal

pub returns-in-Refuse-clause-answer : goal.returns-in-Refuse-clause-answer
returns-in-Refuse-clause-answer g c = search rules

pub returns-in-Trim-clause-answer : goal.returns-in-Trim-clause-answer
returns-in-Trim-clause-answer g c =
    let view = g.V.Volumes.view in
    let P : Verdict → Type 0 = λ v.
    Serves view.outline (PoolCall view) v c.args.volume c.args.size c.args.manner c.args.request c.args.payload.now c.args.pool.now (take c.trim.result.1 c.trim.new.out) c.trim.result.0 c.trim.new.pool in
    subst P (sym c.in-Trim.is ∙ c.judge_in.ensures.verdict) c.trim.ensures.answer

pub returns-in-WriteZeroes-clause-answer : goal.returns-in-WriteZeroes-clause-answer
returns-in-WriteZeroes-clause-answer g c =
    let view = g.V.Volumes.view in
    let P : Verdict → Type 0 = λ v.
    Serves view.outline (PoolCall view) v c.args.volume c.args.size c.args.manner c.args.request c.args.payload.now c.args.pool.now (take c.write_zeroes.result.1 c.write_zeroes.new.out) c.write_zeroes.result.0
    c.write_zeroes.new.pool in
    subst P (sym c.in-WriteZeroes.is ∙ c.judge_in.ensures.verdict) c.write_zeroes.ensures.answer

pub returns-in-Flush-clause-answer : goal.returns-in-Flush-clause-answer
returns-in-Flush-clause-answer g c = search rules

pub read-requires-clause-long : goal.read-requires-clause-long
read-requires-clause-long g c = c.requires.long (subst (λ (v : Verdict). IsTested v c.args.size c.args.request) c.in-Read.is c.judge_in.ensures.tested).1
