use Rattle.std.proofs.Common.{None, Some, inl, inr, refl}
use Rattle.tp_commands.specs.Lives.{closing_of}
use Rattle.tp_commands.specs.Scripts.{is_bad}
use Rattle.tp_commands.proofs.First.{unheld}
use Rattle.tp_commands.proofs.Living.{lived_on}
use Rattle.tp_commands.proofs.Playing.{map_bool}
use Rattle.tp_commands.proofs.scripts.play_disk.Goals as goal

pub play_pool-requires : goal.play_pool-requires
play_pool-requires g c = let opened = c.in-Ok.ensures.opened in unheld c.in-Ok.pool.besides.holders opened.holders

pub returns-in-Ok : goal.returns-in-Ok
returns-in-Ok g c =
    let played = c.play_pool.ensures in
    let before = g.D.Disk.state c.args.disk in
    let after = g.D.Disk.state c.play_pool.result.0 in
    inr (
      played.0,
      played.1,
      played.2,
      played.3,
      map_bool (is_bad played.2) _ _ _ _ (λ e. (e.0, lived_on before after played.0 None c.in-Ok.pool c.in-Ok.ensures.opened e.1))
          (λ e. (e.0, e.1, lived_on before after played.0 (Some (closing_of e.0)) c.in-Ok.pool c.in-Ok.ensures.opened e.2)) played.4,
    )

pub returns-in-Err : goal.returns-in-Err
returns-in-Err g c = inl (c.in-Err.why, refl, c.in-Err.ensures.refused, refl)
