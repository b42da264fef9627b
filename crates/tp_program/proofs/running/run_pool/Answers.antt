use Rattle.std.proofs.Common.{Result, Some, ◌++◌, ap, ◌∙◌}
use Rattle.tp_model.specs.declared.refusal.Refusal.{Refusal}
use Rattle.tp_failures.specs.Failures.{number_of}
use Rattle.tp_hub.specs.Serve.{HubRuns}
use Rattle.tp_hub.proofs.Carrying.{asked_join}
use Rattle.tp_meta.specs.Standing.{StandsFor, changed_of, geometry_of, marks_of, room_of}
use Rattle.tp_served.specs.Served.{cached}
use Rattle.tp_commands.specs.Lives.{closing_of}
use Rattle.tp_commands.specs.Serving.{told_behind}
use Rattle.tp_commands.proofs.Living.{lived}
use Rattle.tp_program.proofs.running.run_pool.Goals as goal

pub returns : goal.returns
returns g c =
    let begun = c.begin_hub-hub in
    let cleared = begun.ensures.3 in
    let stayed = c.run_hub-stayed in
    let asks = cleared ++ stayed.ensures.asked.0 in
    let closing = number_of c.end_hub-disk.result.1 in
    let asked = asked_join (HubRuns (cached geometry_of StandsFor marks_of room_of changed_of)) begun.ensures.0 begun.result.0 stayed.result.hub cleared stayed.ensures.asked.0 begun.ensures.4 stayed.ensures.asked.1 in (
      asks,
      stayed.result.is_manned,
      closing,
      c.behind.ensures ∙ ap (λ (r : Result (Unit {0}) Refusal). told_behind closing r) c.refused_threads.ensures,
      lived begun.ensures.0 stayed.result.hub asks (Some (closing_of closing)) (g.D.Disk.state c.end_hub-disk.result.0) asked c.end_hub-disk.ensures c.args.pool begun.ensures.1 begun.ensures.2,
    )
