-- Internal: what contracts see of a file's syncs.
use Rattle.std.specs.Prelude.{ℕ}
use Rattle.tp_disk.specs.declared.syncs.Synced.{Synced}

-- behind how many writes it was made
abbrev pub writes_of : Synced → ℕ
writes_of synced = synced.writes
