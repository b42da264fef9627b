-- Internal: how the pool behind a lock is, as a line of text (own).
use Rattle.std.specs.Prelude.{◌≡◌, ◌<◌, ◌≤◌, true, false, ℕ, List, ◌++◌, codes}
use Rattle.std.specs.Fmt.{decimal}
use Rattle.tp_lock.specs.declared.health.Health.{Health}

-- the line that tells it: of a pool that has failed always `failed`
abbrev pub IsHealth : Health → List ℕ → Type 0
IsHealth how line =
    (how.has_failed ≡ true → line ≡ codes "failed")
    × (how.has_failed ≡ false → how.seconds < 2 → line ≡ codes "ok")
    × (how.has_failed ≡ false → 2 ≤ how.seconds → line ≡ codes "stalled " ++ decimal how.seconds)
