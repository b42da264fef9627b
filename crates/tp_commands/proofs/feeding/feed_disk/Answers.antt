use Rattle.std.proofs.Common.{Some, inl, inr, refl}
use Rattle.tp_commands.specs.Lives.{closing_of}
use Rattle.tp_commands.proofs.First.{unheld}
use Rattle.tp_commands.proofs.Living.{lived_on}
use Rattle.tp_commands.proofs.feeding.feed_disk.Goals as goal

pub feed_pool-requires : goal.feed_pool-requires
feed_pool-requires g c = let opened = c.in-Ok.ensures.opened in unheld c.in-Ok.pool.besides.holders opened.holders

pub returns-in-Ok : goal.returns-in-Ok
returns-in-Ok g c =
    let fed = c.feed_pool.ensures in
    inr (
      fed.0,
      fed.1,
      fed.2,
      fed.3,
      fed.4,
      lived_on (g.D.Disk.state c.args.disk) (g.D.Disk.state c.feed_pool.result.0) fed.0 (Some (closing_of fed.2)) c.in-Ok.pool c.in-Ok.ensures.opened fed.5,
    )

pub returns-in-Err : goal.returns-in-Err
returns-in-Err g c = inl (c.in-Err.why.refusal, refl, c.in-Err.ensures.refused, refl)
