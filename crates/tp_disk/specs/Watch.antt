-- Internal: how often writes of a `MemDisk` had one sector in their range.
use Rattle.std.specs.Prelude.{ℕ, ◌+◌, ◌-◌, ◌^◌, ◌&&◌, Bool, min, nat_le, nat_lt, if◌then◌else◌}
use Rattle.tp_disk.specs.declared.watch.Watch.{Watch}

-- this sector is watched, and no write had it yet
abbrev pub watch_on : ℕ → Watch
watch_on sector = record { sector = sector; writes = 0 }

-- the sector is one of n from `at` on
abbrev pub is_among : ℕ → ℕ → ℕ → Bool
is_among sector at n = nat_le at sector && nat_lt sector (at + n)

-- one more where the write had the sector; the number stays at its greatest value
abbrev pub counted_if : Bool → ℕ → ℕ
counted_if had n = if had then min (n + 1) (2 ^ 64 - 1) else n

abbrev pub watch_write : ℕ → ℕ → Watch → Watch
watch_write at n watch = record watch { writes = counted_if (is_among watch.sector at n) watch.writes }
