use Rattle.std.proofs.Common.{None, Some, inl, inr, refl}
use Rattle.tp_commands.specs.Lives.{closing_of}
use Rattle.tp_commands.specs.Scripts.{is_bad}
use Rattle.tp_commands.proofs.Living.{lived_first}
use Rattle.tp_commands.proofs.Playing.{map_bool}
use Rattle.tp_commands.proofs.scripts.play_fresh.Goals as goal

pub returns-in-Ok : goal.returns-in-Ok
returns-in-Ok g c =
    let shown = c.in-Ok.ensures.shows in
    let played = c.play_pool-played.ensures in
    inr (
      played.0,
      played.1,
      played.2,
      played.3,
      map_bool (is_bad played.2) _ _ _ _ (λ e. (e.0, lived_first _ played.0 None c.in-Ok.pool shown.0 shown.1 shown.2 e.1))
          (λ e. (e.0, e.1, lived_first _ played.0 (Some (closing_of e.0)) c.in-Ok.pool shown.0 shown.1 shown.2 e.2)) played.4,
    )

pub returns-in-Err : goal.returns-in-Err
returns-in-Err g c = inl (c.from.result, refl, refl)
