use Rattle.std.proofs.Common.{◌≡◌, ℕ, ◌+◌, ◌/◌, ◌≤◌, List, length}
use Rattle.tp_model.specs.Sectors.{bytes_at}
use Rattle.tp_model.specs.Disk.{Cell, IsWellFormed, seen}
use Rattle.tp_cache.specs.Table.{IsKept, Tied, mixed_bytes}
use Rattle.tp_cache.proofs.overlay.lay_over.Given as goal

pub record SoFar (held : List ℕ) (slots : List (List ℕ)) (at : ℕ) (old new : List ℕ) (k : ℕ) : Type 0 where
  pub long : length new ≡ length old
  pub mixed : (size : ℕ) (index owners : List ℕ) (outer inner : List Cell) → IsWellFormed size outer → IsWellFormed size inner → at + length old / 512 ≤ size → Tied index outer inner → IsKept index held owners slots outer
      → old ≡ bytes_at (seen inner) at (length old / 512) → new ≡ mixed_bytes outer inner at (length old / 512) k

abbrev pub invariant-loop-k : goal.invariant-loop-k
invariant-loop-k l = SoFar l.held l.slots l.at l.fn.out l.out l.k
