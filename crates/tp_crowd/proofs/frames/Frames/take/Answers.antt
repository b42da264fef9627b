use Rattle.std.proofs.Common.{take, arith}
use Rattle.tp_crowd.proofs.Framing.{took_data}
use Rattle.tp_crowd.proofs.frames.Frames.take.Goals as goal

pub returns-clause-passed : goal.returns-clause-passed
returns-clause-passed c =
    (took_data c.self.inside.kind (take c.self.inside.held c.self.inside.head) c.self.inside.left c.args.self.now c.args.bytes.now c.min-count.result c.self.view_is (omega (arith, c.min-count.ensures, c.if-self-eq0.false, c.requires)) (omega (arith, c.min-count.ensures))
    (omega (arith, c.min-count.ensures))).0

pub returns-clause-ended : goal.returns-clause-ended
returns-clause-ended c =
    (took_data c.self.inside.kind (take c.self.inside.held c.self.inside.head) c.self.inside.left c.args.self.now c.args.bytes.now c.min-count.result c.self.view_is (omega (arith, c.min-count.ensures, c.if-self-eq0.false, c.requires)) (omega (arith, c.min-count.ensures))
    (omega (arith, c.min-count.ensures))).1
