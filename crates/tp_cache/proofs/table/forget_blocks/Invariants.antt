use Rattle.std.proofs.Common.{◌≡◌, ◌⊎◌, ◌/◌, ◌<◌, ◌≤◌, ℕ, List, length}
use Rattle.tp_cache.specs.Table.{slot_of}
use Rattle.tp_cache.proofs.table.forget_blocks.Given as goal

pub record SoFar (old new : List ℕ) (first block : ℕ) : Type 0 where
  pub long : length new ≡ length old
  pub gone : (c : ℕ) → first ≤ c → c < block → slot_of new c ≡ 0
  pub stays : (c : ℕ) → (c < first) ⊎ (block ≤ c) → slot_of new c ≡ slot_of old c

abbrev pub invariant-loop-block : goal.invariant-loop-block
invariant-loop-block l = SoFar l.fn.held.items l.held.items (l.at / 8) l.block
