use Rattle.tp_lines.proofs.Splitting.{other_session}
use Rattle.tp_lines.proofs.line.session_of.Goals as goal

pub returns-then-id-ge64 : goal.returns-then-id-ge64
returns-then-id-ge64 c = other_session c.args.text.now c.in_ok-id.id c.in_ok-id.ensures.0 c.in_ok-id.ensures.1 c.if-id-ge64.true
