use Rattle.std.proofs.Common.{Result, Some, ap, ◌∙◌}
use Rattle.tp_model.specs.declared.refusal.Refusal.{Refusal}
use Rattle.tp_failures.specs.Failures.{number_of}
use Rattle.tp_commands.specs.Lives.{closing_of}
use Rattle.tp_commands.specs.Serving.{told_behind}
use Rattle.tp_commands.proofs.Living.{lived}
use Rattle.tp_commands.proofs.feeding.feed_pool.Goals as goal

pub returns : goal.returns
returns g c =
    let fed = c.feed_hub-hub in
    let asks = fed.ensures.0 in
    let closing = number_of c.end_hub-disk.result.1 in (
      asks,
      fed.result.1,
      closing,
      fed.ensures.2,
      c.behind.ensures ∙ ap (λ (r : Result (Unit {0}) Refusal). told_behind closing r) c.told.ensures,
      lived c.new.result fed.result.0 asks (Some (closing_of closing)) (g.D.Disk.state c.end_hub-disk.result.0) fed.ensures.1 c.end_hub-disk.ensures c.args.pool c.new.ensures.pool c.new.ensures.sessions,
    )
