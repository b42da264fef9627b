use Rattle.std.proofs.Common.{drop, ◌++◌}
use Rattle.std.specs.Prelude.{codes}
use Rattle.tp_texts.specs.Json.{usages_items, usages_json}
use Rattle.tp_texts.proofs.Listed.{rest_of}
use Rattle.tp_texts.proofs.Telling.{Telling}
use Rattle.tp_texts.proofs.usage_objects.write_usages_json.Given as goal

-- what was written, what waits and what is left are the whole
abbrev pub invariant-loop-usage : goal.invariant-loop-usage
invariant-loop-usage g l = Telling (g.S.Stream.calls l.initial.stream) (g.S.Stream.calls l.stream) l.lines.bytes (rest_of l.is_later (usages_items l.unit l.is_held (drop l.usage-index l.usages))) (usages_json l.unit l.is_held l.usages ++ codes "\n")
