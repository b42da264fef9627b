use Rattle.std.proofs.Common.{ℕ, ◌≡◌, ◌+◌, ◌<◌}
use Rattle.std.specs.Prelude.{IsTrue}
use Rattle.tp_model.specs.Disk.{seen}
use Rattle.tp_layout.specs.Counts.{counts_bytes}
use Rattle.tp_image.specs.Nodes.{block_at}
use Rattle.tp_image.specs.Areas.{counts_in}
use Rattle.tp_check.proofs.stored.are_spelled.Given as goal

-- the disk is as it was, and the counts of the blocks so far are spelled
abbrev pub invariant-loop-j : goal.invariant-loop-j
invariant-loop-j g l =
    (g.D.Disk.state l.disk ≡ g.D.Disk.state l.fn.disk)
    × (IsTrue (g.D.Disk.state l.fn.disk).is_honest → (i : ℕ) → i < l.j → block_at (seen (g.D.Disk.state l.fn.disk).cells) (l.first + i) ≡ counts_bytes (counts_in l.counts i))
