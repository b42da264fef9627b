-- Internal: what is known behind an ask of a hub alone.
use Rattle.std.specs.Prelude.{◌≡◌, ◌<◌, ℕ, false, []}
use Rattle.tp_model.specs.Clauses.{View}
use Rattle.tp_hub.specs.declared.event.Event.{Event}
use Rattle.tp_hub.specs.Told.{Told}
use Rattle.tp_hub.specs.Runs.{Brings, incoming}
use Rattle.tp_hub.specs.Desks.{IsAsked}
use Rattle.tp_hub.specs.Parts.{is_parted_to}
use Rattle.tp_lock.specs.declared.locked.Seen.{Seen}
use Rattle.tp_lock.specs.Locked.{SomeRun, SomeRunTo, hearer_in}

-- The event was one run of some hub, and what is told of its session was so behind it.
pub record IsSeen {D : Type 0} (view : View D) (event : Event) (seen : Seen) (before after : Told) : Type 0 where
  pub asked : IsAsked (λ took answers. SomeRun view took answers) (incoming event) seen.ran.events seen.ran.bytes before after
  pub told : IsAsked (λ took answers. SomeRunTo view (hearer_in (incoming event)) seen.is_at_work took answers) (incoming event) seen.ran.events seen.ran.bytes before after
  -- `Bytes` without text leaves no part of a request
  pub made : (n : ℕ) → is_parted_to n event ≡ false → incoming event ≡ Brings n [] → 0 < seen.ran.events → seen.is_at_work ≡ false
