use Rattle.std.proofs.Common.{◌∙◌, ap}
use Rattle.tp_pages.specs.Pages.{unit_of}
use Rattle.tp_pages.proofs.Asked.{map_so, refused_walk}
use Rattle.tp_pages.proofs.ask.map_line.Goals as goal

pub returns-in-Ok : goal.returns-in-Ok
returns-in-Ok g c =
    map_so g.V.Volumes.view c.args.pool.now c.walk.new.self c.unit_of-unit.result _ c.args.id c.args.from c.walk.new.slots.items c.deref.result.now c.put_map.new.line.bytes (c.unit_of-unit.ensures.value ∙ ap unit_of c.geometry.ensures)
    c.deref.ensures.0 c.in-Ok.ensures c.put_map.ensures

pub returns-in-Err : goal.returns-in-Err
returns-in-Err g c = refused_walk g.V.Volumes.view c.args.pool.now c.walk.new.self c.args.id c.args.from _ c.in-Err.reason c.in-Err.ensures
