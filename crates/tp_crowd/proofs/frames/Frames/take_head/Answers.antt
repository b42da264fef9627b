use Rattle.std.proofs.Common.{◌∙◌}
use Rattle.tp_crowd.proofs.Framing.{took_head}
use Rattle.tp_crowd.proofs.frames.Frames.take_head.Goals as goal

pub returns-clause-passed : goal.returns-clause-passed
returns-clause-passed c =
    (took_head c.self.inside.kind c.self.inside.held c.self.inside.left c.self.inside.head c.put_behind.new.head c.args.self.now _ c.kind_with-kind.result c.args.bytes.now c.min-count.result c.fixed_len.result c.self.view_is c.requires.none c.self.invariant c.self.told
    c.requires.some c.fixed_len.ensures c.min-count.ensures c.kind_with-kind.ensures.kind c.kind_with-kind.ensures.room c.put_behind.ensures (c.self-2.view_is ∙ c.of_head.ensures)).0

pub returns-clause-ended : goal.returns-clause-ended
returns-clause-ended c =
    (took_head c.self.inside.kind c.self.inside.held c.self.inside.left c.self.inside.head c.put_behind.new.head c.args.self.now _ c.kind_with-kind.result c.args.bytes.now c.min-count.result c.fixed_len.result c.self.view_is c.requires.none c.self.invariant c.self.told
    c.requires.some c.fixed_len.ensures c.min-count.ensures c.kind_with-kind.ensures.kind c.kind_with-kind.ensures.room c.put_behind.ensures (c.self-2.view_is ∙ c.of_head.ensures)).1
