use Rattle.tp_pool.proofs.Flushing.{two_at_most}
use Rattle.tp_pool.proofs.room.keep.Goals as goal

pub returns-in-Ok-clause-ran : goal.returns-in-Ok-clause-ran
returns-in-Ok-clause-ran g c =
    let ran = c.in-Ok.ensures.ran in
    record {
      time = ran.time;
      same_disk = ran.same_disk;
      cause = ran.cause;
      flushes = (ran.flushes.0, two_at_most (g.M.Metadata.changed c.args.metadata.now) _ _ ran.flushes.1);
      flushed = ran.flushed;
      settled = ran.settled;
    }

pub returns-in-Err-clause-ran : goal.returns-in-Err-clause-ran
returns-in-Err-clause-ran g c =
    let ran = c.in-Err.ensures.ran in
    record {
      time = ran.time;
      same_disk = ran.same_disk;
      cause = ran.cause;
      flushes = (ran.flushes.0, two_at_most (g.M.Metadata.changed c.args.metadata.now) _ _ ran.flushes.1);
      flushed = tt;
      settled = tt;
    }
