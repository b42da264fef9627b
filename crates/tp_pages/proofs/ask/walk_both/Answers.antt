use Rattle.tp_pages.specs.Pages.{told_by}
use Rattle.tp_pages.proofs.Asked.{both_so, refused_walk}
use Rattle.tp_pages.proofs.ask.walk_both.Goals as goal

pub returns-in-Ok : goal.returns-in-Ok
returns-in-Ok g c =
    both_so g.V.Volumes.view c.args.pool.now c.walk.new.self c.walk_new.new.pool c.args.unit c.args.old c.args.new c.args.from c.args.blocks c.walk.new.slots.items c.deref.result.now
    (told_by c.walk_new.result c.walk_new.new.line.bytes) c.deref.ensures.0 c.in-Ok.ensures c.walk_new.ensures

pub returns-in-Err : goal.returns-in-Err
returns-in-Err g c = refused_walk g.V.Volumes.view c.args.pool.now c.walk.new.self c.args.old c.args.from _ c.in-Err.reason c.in-Err.ensures
