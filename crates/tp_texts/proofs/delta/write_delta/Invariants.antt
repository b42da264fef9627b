use Rattle.std.proofs.Common.{drop}
use Rattle.tp_texts.specs.Texts.{delta_text}
use Rattle.tp_texts.proofs.Telling.{Telling}
use Rattle.tp_texts.proofs.delta.write_delta.Given as goal

-- what was written, what waits and what is left are the whole
abbrev pub invariant-loop-extent : goal.invariant-loop-extent
invariant-loop-extent g l = Telling (g.S.Stream.calls l.initial.stream) (g.S.Stream.calls l.stream) l.lines.bytes (delta_text l.unit l.end l.from (drop l.extent-index l.extents)) (delta_text l.unit l.end 0 l.extents)
