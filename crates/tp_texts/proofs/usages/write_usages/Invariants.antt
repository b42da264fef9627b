use Rattle.std.proofs.Common.{drop}
use Rattle.tp_texts.specs.Texts.{lines_of, usages_text}
use Rattle.tp_texts.proofs.Telling.{Telling}
use Rattle.tp_texts.proofs.usages.write_usages.Given as goal

-- what was written, what waits and what is left are the whole
abbrev pub invariant-loop-usage : goal.invariant-loop-usage
invariant-loop-usage g l = Telling (g.S.Stream.calls l.initial.stream) (g.S.Stream.calls l.stream) l.lines.bytes (lines_of l.unit l.is_held (drop l.usage-index l.usages)) (usages_text l.unit l.is_held l.usages)
