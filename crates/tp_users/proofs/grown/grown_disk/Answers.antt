use Rattle.std.proofs.lemmas.Result.{IfOk-weaker}
use Rattle.tp_users.proofs.grown.grown_disk.Goals as goal

pub read_and_leave-requires-clause-grown : goal.read_and_leave-requires-clause-grown
read_and_leave-requires-clause-grown c =
    let w = c.in_ok-pool.ensures.shows in
    (w.0, c.args.blocks, w.1, w.3, c.requires.inside, c.requires.most)

pub returns-clause-zero : goal.returns-clause-zero
returns-clause-zero c = c.read_and_leave.ensures.zero

pub returns-clause-kept : goal.returns-clause-kept
returns-clause-kept c =
    let w = c.in_ok-pool.ensures.shows in
    IfOk-weaker c.read_and_leave.result _ _ (λ disk kept. (w.0, w.1, kept w.0 w.2)) c.read_and_leave.ensures.kept

pub returns-clause-only : goal.returns-clause-only
returns-clause-only c = c.read_and_leave.ensures.only
