use Rattle.std.proofs.Common.{Result, Some, ap, ◌∙◌}
use Rattle.tp_model.specs.declared.refusal.Refusal.{Refusal}
use Rattle.tp_failures.specs.Failures.{number_of}
use Rattle.tp_commands.specs.Lives.{closing_of}
use Rattle.tp_commands.specs.Serving.{told_behind}
use Rattle.tp_commands.proofs.Living.{lived}
use Rattle.tp_program.proofs.clients.serve_pool.Goals as goal

pub returns : goal.returns
returns g c =
    let served = c.serve_hub-served in
    let asks = served.ensures.asked.0 in
    let closing = number_of c.end_hub-disk.result.1 in (
      asks,
      served.result.came,
      served.result.refused,
      closing,
      served.ensures.offered,
      served.ensures.refused,
      c.behind.ensures ∙ ap (λ (r : Result (Unit {0}) Refusal). told_behind closing r) c.refused_after.ensures,
      lived c.new-2.result served.result.hub asks (Some (closing_of closing)) (g.D.Disk.state c.end_hub-disk.result.0) served.ensures.asked.1 c.end_hub-disk.ensures c.args.pool c.new-2.ensures.pool
          c.new-2.ensures.sessions,
    )
