use Rattle.std.proofs.Common.{subst}
use Rattle.nbd_wire.specs.declared.Request.{Request}
use Rattle.nbd_session.specs.Requests.{IsTested}
use Rattle.nbd_session.proofs.Judging.{tested_plainly}
use Rattle.nbd_session.proofs.request.judge_in.Goals as goal

pub returns-clause-tested : goal.returns-clause-tested
returns-clause-tested c =
    tested_plainly c.args.manner c.judge.result c.args.size c.args.request.now (subst (λ (r : Request). IsTested c.judge.result c.args.size r) c.plainly.ensures c.judge.ensures.tested)
