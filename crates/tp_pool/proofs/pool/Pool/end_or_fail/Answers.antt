use Rattle.std.proofs.lemmas.Result.{IfErr-weaker, on_ok_weaker}
use Rattle.tp_pool.specs.Midway.{IsFlushed}
use Rattle.tp_pool.proofs.Parts.{settled_flush}
use Rattle.tp_pool.proofs.pool.Pool.end_or_fail.Goals as goal

pub returns : goal.returns
returns g c old is mid =
    let M = g.M.Metadata in
    settled_flush (λ h r. IsFlushed M.geometry M.stands M.marks M.room M.changed old h r) c.end_all-answer.new.self c.settle.new.self c.end_all-answer.result c.settle.result
    (on_ok_weaker c.end_all-answer.result (λ f. f old is mid) c.end_all-answer.ensures.done)
    (IfErr-weaker c.end_all-answer.result _ _ (λ reason f. f old is mid) c.end_all-answer.ensures.failed)
    c.settle.ensures.same c.settle.ensures.ok c.settle.ensures.err
