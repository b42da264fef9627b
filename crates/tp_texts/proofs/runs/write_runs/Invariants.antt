use Rattle.std.proofs.Common.{drop}
use Rattle.tp_texts.specs.Texts.{runs_text}
use Rattle.tp_texts.proofs.Telling.{Telling}
use Rattle.tp_texts.proofs.runs.write_runs.Given as goal

-- what was written, what waits and what is left are the whole
abbrev pub invariant-loop-extent : goal.invariant-loop-extent
invariant-loop-extent g l = Telling (g.S.Stream.calls l.initial.stream) (g.S.Stream.calls l.stream) l.lines.bytes (runs_text l.base l.unit (drop l.extent-index l.extents)) (runs_text l.base l.unit l.extents)
