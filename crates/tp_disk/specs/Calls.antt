-- Internal: which calls of a `MemDisk` fail.
use Rattle.std.specs.Prelude.{◌+◌, ◌-◌, ◌^◌, ◌≤◌, min}
use Rattle.tp_disk.specs.declared.calls.Calls.{Calls}

-- before the first call, with none that is to fail
abbrev pub no_calls : Calls
no_calls = record { count = 0; first_to_fail = 1; last_to_fail = 0 }

-- one call more; the count stays at its greatest value
abbrev pub after_call : Calls → Calls
after_call calls = record calls { count = min (calls.count + 1) (2 ^ 64 - 1) }

-- the number of the next call is one of those that are to fail
abbrev pub NextFails : Calls → Type 0
NextFails calls = (calls.first_to_fail ≤ (after_call calls).count) × ((after_call calls).count ≤ calls.last_to_fail)
