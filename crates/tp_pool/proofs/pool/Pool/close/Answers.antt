use Rattle.std.proofs.Common.{ap, inr, refl, subst, sym}
use Rattle.std.proofs.lemmas.Result.{on_ok_weaker}
use Rattle.tp_model.specs.Calls.{Close}
use Rattle.tp_model.specs.Disk.{DiskState, IsSettled}
use Rattle.tp_pool.specs.Held.{Held}
use Rattle.tp_pool.proofs.Flushing.{closed_from}
use Rattle.tp_pool.proofs.pool.Pool.close.Goals as goal

pub returns-clause-closed : goal.returns-clause-closed
returns-clause-closed g c =
    closed_from g.M.Metadata.geometry g.M.Metadata.stands g.M.Metadata.marks g.M.Metadata.room g.M.Metadata.changed c.args.self c.keep_or_fail-answer.new.self (g.D.Disk.state c.pool.inside.disk) c.keep_or_fail-answer.result
    (sym (ap (λ (h : Held g.row.M.Denot). h.disk) c.pool.view_is)) (c.keep_or_fail-answer.ensures.called Close (inr refl)) (c.keep_or_fail-answer.ensures.answered Close (inr refl))
    (c.keep_or_fail-answer.ensures.flushes Close (inr refl))

pub returns-clause-settled : goal.returns-clause-settled
returns-clause-settled g c =
    on_ok_weaker c.keep_or_fail-answer.result
    (λ settled s shown. subst (λ (d : DiskState). IsSettled d.cells) (sym (ap (λ (h : Held g.row.M.Denot). h.disk) c.pool.view_is)) (settled s shown))
    c.keep_or_fail-answer.ensures.settled
