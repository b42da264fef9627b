use Rattle.tp_cache.proofs.Lives.{since_went}
use Rattle.tp_cache.proofs.life.Life.resume.Goals as goal

pub invariant_of-result : goal.invariant_of-result
invariant_of-result g c =
    let s = c.requires in
    record { time = since_went g.K.Start.start.line.under c.args.cache.core.line.under s.time; flushed = s.flushed; along = s.along; blocks = s.blocks }
