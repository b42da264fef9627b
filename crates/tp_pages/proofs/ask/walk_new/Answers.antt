use Rattle.tp_model.specs.Slots.{listed}
use Rattle.tp_pages.proofs.Asked.{last_so, refused_walk}
use Rattle.tp_pages.proofs.ask.walk_new.Goals as goal

pub returns-in-Ok : goal.returns-in-Ok
returns-in-Ok g c =
    last_so g.V.Volumes.view c.args.pool.now c.walk.new.self c.args.unit c.args.new c.args.from c.args.blocks (listed c.args.old.now) c.walk.new.slots.items c.deref.result.now c.put_delta.new.line.bytes
    c.deref.ensures.0 c.in-Ok.ensures c.put_delta.ensures

pub returns-in-Err : goal.returns-in-Err
returns-in-Err g c = refused_walk g.V.Volumes.view c.args.pool.now c.walk.new.self c.args.new c.args.from _ c.in-Err.reason c.in-Err.ensures
