use Rattle.std.proofs.Common.{drop, ◌++◌}
use Rattle.std.specs.Prelude.{codes}
use Rattle.tp_texts.specs.Json.{delta_items, delta_json}
use Rattle.tp_texts.proofs.Listed.{rest_of}
use Rattle.tp_texts.proofs.Telling.{Telling}
use Rattle.tp_texts.proofs.part_objects.write_delta_json.Given as goal

-- what was written, what waits and what is left are the whole
abbrev pub invariant-loop-extent : goal.invariant-loop-extent
invariant-loop-extent g l = Telling (g.S.Stream.calls l.initial.stream) (g.S.Stream.calls l.stream) l.lines.bytes (rest_of l.is_later (delta_items l.unit l.end l.from (drop l.extent-index l.extents))) (delta_json l.unit l.end l.extents ++ codes "\n")
