use Rattle.nbd_session.specs.Spans.{as_pairs}
use Rattle.nbd_session.proofs.Holing.{spans_sum}
use Rattle.nbd_session.proofs.holes.read_spans.Goals as goal

pub returns-clause-all : goal.returns-clause-all
returns-clause-all c =
    let r = c.args.request.now in
    spans_sum c.args.unit r.offset r.len c.args.blocks c.between-end.result c.args.runs.now (as_pairs c.spans_of-spans.result.items) _ c.between-end.ensures.value c.spans_of-spans.ensures.spans c.push_data.ensures.pushed
