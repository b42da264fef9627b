-- Internal: what a status line tells is true of a pool, or the pool has failed (own).
use Rattle.std.specs.Prelude.{◌≡◌, ◌⊎◌, ℕ}
use Rattle.tp_model.specs.declared.mode.Mode.TheVariants.{Failed}
use Rattle.tp_model.specs.Pool.{PlainPool}
use Rattle.tp_msg.specs.Told.{TellsPool, TellsVolume}
use Rattle.tp_msg.specs.declared.status.PoolStatus.{PoolStatus}
use Rattle.tp_msg.specs.declared.status.VolumeStatus.{VolumeStatus}

abbrev pub TellsLine : PoolStatus → PlainPool → Type 0
TellsLine told s = ((told.mode ≡ Failed) × (s.mode ≡ Failed)) ⊎ TellsPool told s

abbrev pub TellsVolumeLine : VolumeStatus → PlainPool → ℕ → Type 0
TellsVolumeLine told s id = ((told.mode ≡ Failed) × (s.mode ≡ Failed)) ⊎ TellsVolume told s id
