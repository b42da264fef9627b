use denote.Param.Send.{sendable}
use Rattle.std.proofs.Common.{Some, inl, inr, refl, ◌∙◌}
use Rattle.tp_commands.specs.Lives.{closing_of}
use Rattle.tp_commands.proofs.First.{unheld}
use Rattle.tp_commands.proofs.Living.{lived_on}
use Rattle.tp_program.proofs.running.run_disk.Goals as goal

pub run_told-requires : goal.run_told-requires
run_told-requires g c =
    let opened = c.in-Ok.ensures.opened in
    (search sendable depth 20, (search sendable depth 20, (search sendable depth 20, (search sendable depth 20, unheld c.in-Ok.pool.besides.holders opened.holders))))

pub returns-in-Ok-open_doors : goal.returns-in-Ok-open_doors
returns-in-Ok-open_doors g c =
    let served = c.run_told.ensures in
    inr (inr (
      served.0,
      served.1,
      served.2,
      served.3,
      lived_on (g.D.Disk.state c.args.disk) (g.D.Disk.state c.run_told.result.0) served.0 (Some (closing_of served.2)) c.in-Ok.pool c.in-Ok.ensures.opened served.4,
    ))

pub returns-in-Err : goal.returns-in-Err
returns-in-Err g c = inl (c.in-Err.why.refusal, refl, c.in-Err.ensures.refused)

pub returns-in-Err-open_doors : goal.returns-in-Err-open_doors
returns-in-Err-open_doors g c =
    let opened = c.in-Ok.ensures.opened in
    inr (inl (c.in-Err-open_doors.why.refusal, refl, c.in-Err-open_doors.ensures, c.into_disk.ensures ∙ opened.disk_is))
