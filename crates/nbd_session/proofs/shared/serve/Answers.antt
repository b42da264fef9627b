use Rattle.std.proofs.Common.{◌∙◌, subst, sym, take}
use Rattle.nbd_session.specs.declared.request.Verdict.{Verdict}
use Rattle.nbd_session.specs.Requests.{IsTested}
use Rattle.nbd_session.proofs.Fronts.{read_so, status_so}
use Rattle.nbd_session.proofs.Judging.{status_kind}
use Rattle.nbd_session.proofs.Serving.{described_served}
use Rattle.nbd_session.proofs.shared.serve.Goals as goal

pub returns-in-Read-clause-kind : goal.returns-in-Read-clause-kind
returns-in-Read-clause-kind g c = read_so c.read.result c.args.request (subst (λ (v : Verdict). IsTested v c.args.size c.args.request) c.in-Read.is c.judge_in.ensures.tested).1

pub returns-in-Status-clause-answer : goal.returns-in-Status-clause-answer
returns-in-Status-clause-answer g c =
    λ payload.
    described_served g.V.Volumes.view c.describe_shared.result (λ n. take n c.describe_shared.new.out) (g.S.SharedReads.of c.args.pool.now) c.args.volume c.args.size c.args.manner c.args.request payload
    (sym c.judge_in.ensures.verdict ∙ c.in-Status.is) c.describe_shared.ensures.answer

pub returns-in-Status-clause-kind : goal.returns-in-Status-clause-kind
returns-in-Status-clause-kind g c =
    status_so c.describe_shared.result c.args.request (status_kind c.args.manner c.args.size c.args.request (sym c.judge_in.ensures.verdict ∙ c.in-Status.is))

pub read-requires-clause-long : goal.read-requires-clause-long
read-requires-clause-long g c =
    c.has_room.ensures.long c.if-not-has_room.false (subst (λ (v : Verdict). IsTested v c.args.size c.args.request) c.in-Read.is c.judge_in.ensures.tested).1
