use Rattle.std.proofs.Common.{ℕ, ◌≡◌, ◌<◌, Some}
use Rattle.std.specs.Prelude.{slice_get}
use Rattle.tp_layout.specs.declared.entry.Entry.{Entry}
use Rattle.tp_image.specs.Rules.{IsRecordSize}
use Rattle.tp_check.proofs.node.test_sizes.Given as goal

-- the sizes so far are ones that may be told
abbrev pub invariant-loop-i : goal.invariant-loop-i
invariant-loop-i l = (k : ℕ) (e : Entry) → k < l.i → slice_get l.node.entries k ≡ Some e → IsRecordSize l.version l.geometry e.size
