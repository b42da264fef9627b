use Rattle.std.proofs.Common.{drop}
use Rattle.tp_hub.specs.Told.{told}
use Rattle.tp_lines.specs.Texts.{text_in}
use Rattle.tp_lines.proofs.Telling.{Telling}
use Rattle.tp_lines.proofs.text.tell_marks.Given as goal

-- what was written, and what is left, are the whole
abbrev pub invariant-loop-mark : goal.invariant-loop-mark
invariant-loop-mark g l = Telling (g.S.Stream.calls l.initial.stream) (g.S.Stream.calls l.stream) l.at (drop l.mark-index l.marks) l.bytes (text_in (told l.marks l.bytes))
