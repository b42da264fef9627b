use Rattle.std.proofs.Common.{◌≡◌, ◌*◌, ◌≤◌, ◌++◌, drop, length}
use Rattle.tp_pages.specs.Texts.{runs_text}
use Rattle.tp_pages.proofs.text.put_runs.Given as goal

-- what was written and what is left are the whole
abbrev pub invariant-loop-extent : goal.invariant-loop-extent
invariant-loop-extent l = record {
  text : l.line.bytes ++ runs_text l.unit (drop l.extent-index l.extents) ≡ runs_text l.unit l.extents;
  short : length l.line.bytes ≤ 42 * l.extent-index;
  inside : l.extent-index ≤ length l.extents;
}
