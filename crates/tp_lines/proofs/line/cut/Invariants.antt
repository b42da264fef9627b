use Rattle.std.proofs.Common.{◌≡◌, ◌-◌, ◌++◌, length, take, drop}
use Rattle.tp_msg.specs.Messages.{behind, first_word}
use Rattle.tp_lines.proofs.line.cut.Given as goal

-- no space stands before the place
abbrev pub invariant-loop-place : goal.invariant-loop-place
invariant-loop-place l = record {
  word : first_word l.text ≡ take l.place l.text ++ first_word (drop l.place l.text);
  rest : behind l.text ≡ behind (drop l.place l.text);
}

abbrev pub decreases-loop-place : goal.decreases-loop-place
decreases-loop-place l = length l.text - l.place
