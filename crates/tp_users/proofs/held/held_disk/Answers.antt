use Rattle.std.proofs.Common.{◌∙◌, sym}
use Rattle.std.proofs.lemmas.Result.{IfOk-weaker}
use Rattle.tp_users.proofs.held.held_disk.Goals as goal

pub returns-clause-before : goal.returns-clause-before
returns-clause-before c =
    let w = c.in_ok-pool.ensures.shows in
    IfOk-weaker c.read_and_leave.result _ _
    (λ disk told. let it = told w.0 c.args.first.now c.args.second.now w.4 w.1 w.2 (c.requires.same ∙ sym c.requires.of_volume) (sym c.requires.of_volume) in (it.0, it.1)) c.read_and_leave.ensures

pub returns-clause-kept : goal.returns-clause-kept
returns-clause-kept c =
    let w = c.in_ok-pool.ensures.shows in
    IfOk-weaker c.read_and_leave.result _ _
    (λ disk told. let it = told w.0 c.args.first.now c.args.second.now w.4 w.1 w.2 (c.requires.same ∙ sym c.requires.of_volume) (sym c.requires.of_volume) in (w.0, w.1, w.2, it.2)) c.read_and_leave.ensures
