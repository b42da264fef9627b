-- Trusted reading: why a listing is refused (own).
use Rattle.std.specs.Prelude.{◌≡◌, ◌⊎◌, ℕ, Some}
use Rattle.tp_model.specs.declared.refusal.Refusal.{Refusal}
use Rattle.tp_model.specs.declared.refusal.Refusal.TheVariants.{Fault, Memory}
use Rattle.tp_model.specs.Pool.{PlainPool}
use Rattle.tp_model.specs.Calls.{NextId, Walk, refusal_of}

-- A listing of a volume: for want of memory, where the disk failed, or by the tests of a walk.
abbrev pub IsRefusal : PlainPool → ℕ → Refusal → Type 0
IsRefusal s id reason = (reason ≡ Memory) ⊎ (reason ≡ Fault) ⊎ (refusal_of s (Walk id 0) ≡ Some reason)

-- one of all volumes: for want of memory, where the disk failed, or where the pool is failed
abbrev pub IsRefusalOfAll : PlainPool → Refusal → Type 0
IsRefusalOfAll s reason = (reason ≡ Memory) ⊎ (reason ≡ Fault) ⊎ (refusal_of s (NextId 0) ≡ Some reason)
