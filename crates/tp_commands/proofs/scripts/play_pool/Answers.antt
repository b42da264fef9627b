use Rattle.std.proofs.Common.{None, Some}
use Rattle.tp_commands.specs.Lives.{closing_of}
use Rattle.tp_commands.specs.Scripts.{is_bad}
use Rattle.tp_commands.proofs.Living.{lived}
use Rattle.tp_commands.proofs.Playing.{map_bool}
use Rattle.tp_commands.proofs.scripts.play_pool.Goals as goal

pub returns : goal.returns
returns g c =
    let played = c.play_hub-hub in
    let asks = played.ensures.0 in
    let after = g.D.Disk.state c.end_script.result.0 in (
      asks,
      played.result.1.played,
      played.result.1.result,
      played.ensures.2,
      map_bool (is_bad played.result.1.result) _ _ _ _
          (λ e. (e.0, lived c.new.result played.result.0 asks None after played.ensures.1 e.1 c.args.pool c.new.ensures.pool c.new.ensures.sessions))
          (λ e. (e.0, e.1, lived c.new.result played.result.0 asks (Some (closing_of e.0)) after played.ensures.1 e.2 c.args.pool c.new.ensures.pool c.new.ensures.sessions))
          c.end_script.ensures,
    )
