-- Trusted reading: pools that are only read, and what clears the flag by which a pool wants a check (own).
use Rattle.std.specs.Prelude.{◌≡◌, ◌⊎◌, List, MatchResult, Result, false, not}
use Rattle.tp_model.specs.declared.mode.Mode.TheVariants as mode
use Rattle.tp_model.specs.declared.refusal.Refusal.{Refusal}
use Rattle.tp_model.specs.Disk.{after_read}
use Rattle.tp_model.specs.Geometry.{Geometry}
use Rattle.tp_model.specs.Refusals.{is_fault_refusal}
use Rattle.tp_model.specs.Sectors.{Sector}
use Rattle.tp_model.specs.Pool.{PlainPool}
use Rattle.tp_image.specs.Stands.{StandsFor}
use Rattle.tp_pool.specs.Held.{Held, IsPool, failed_by}

-- the same pool, which is only read
abbrev pub read_only : PlainPool → PlainPool
read_only s = record s { mode = mode.ReadOnly }

-- the same pool, which wants no check
abbrev pub cleared : PlainPool → PlainPool
cleared s = record s { needs_check = false; mode = mode.Writable }

-- the pool with its flag or without it, in the image of a commit, so it can be opened
abbrev pub IsClearing : Geometry → PlainPool → List Sector → Type 0
IsClearing g s image = IsPool g image × (StandsFor image s ⊎ StandsFor image (cleared s))

-- A part of a call is refused, and nothing but reads was done to the disk: it is as it was, but for the count of calls that failed.
abbrev pub HasOnlyRead : {M : Type 0} → Held M → Held M → Result (Unit {0}) Refusal → Type 0
HasOnlyRead old new result = MatchResult result (λ _. ⊥) (λ reason. new ≡ record old { disk = after_read (not (is_fault_refusal reason)) old.disk })

-- The same of the call, behind which a pool has failed whose disk failed, or gave what is no pool's.
abbrev pub IsOnlyRead : {M : Type 0} → Held M → Held M → Result (Unit {0}) Refusal → Type 0
IsOnlyRead old new result = MatchResult result (λ _. ⊥) (λ reason. new ≡ failed_by reason (record old { disk = after_read (not (is_fault_refusal reason)) old.disk }))
