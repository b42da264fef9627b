use denote.Param.Send.{sendable}
use Rattle.std.proofs.Common.{Some, Err, ap, inl, inr, refl, ◌∙◌}
use Rattle.tp_commands.specs.Lives.{closing_of}
use Rattle.tp_commands.proofs.First.{unheld}
use Rattle.tp_commands.proofs.Living.{lived_on}
use Rattle.tp_program.proofs.clients.serve_disk.Goals as goal

pub serve_pool-requires : goal.serve_pool-requires
serve_pool-requires g c =
    let opened = c.in-Ok.ensures.opened in
    (search sendable depth 20, (search sendable depth 20, (search sendable depth 20, (search sendable depth 20, unheld c.in-Ok.pool.besides.holders opened.holders))))

pub returns-in-Ok-listen : goal.returns-in-Ok-listen
returns-in-Ok-listen g c =
    let served = c.serve_pool.ensures in
    inr (inr (
      served.0,
      served.1,
      served.2,
      served.3,
      served.4,
      served.5,
      served.6,
      lived_on (g.D.Disk.state c.args.disk) (g.D.Disk.state c.serve_pool.result.0) served.0 (Some (closing_of served.3)) c.in-Ok.pool c.in-Ok.ensures.opened served.7,
    ))

pub returns-in-Err : goal.returns-in-Err
returns-in-Err g c = inl (c.in-Err.why.refusal, refl, c.in-Err.ensures.refused)

pub returns-in-Err-listen : goal.returns-in-Err-listen
returns-in-Err-listen g c = let opened = c.in-Ok.ensures.opened in inr (inl (ap Err c.in-Err-listen.ensures.fault, c.into_disk.ensures ∙ opened.disk_is))
