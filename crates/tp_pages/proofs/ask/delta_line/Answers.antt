use Rattle.std.proofs.Common.{◌∙◌, ap}
use Rattle.tp_pages.specs.Pages.{told_by, unit_of}
use Rattle.tp_pages.proofs.Asked.{delta_so, refused_size}
use Rattle.tp_pages.proofs.ask.delta_line.Goals as goal

pub returns-in-Ok : goal.returns-in-Ok
returns-in-Ok g c =
    delta_so g.V.Volumes.view c.args.pool.now c.volume_blocks.new.self c.walk_both.new.pool c.unit_of-unit.result _ c.args.old c.args.new c.args.from c.in-Ok.blocks
    (told_by c.walk_both.result c.walk_both.new.line.bytes) (c.unit_of-unit.ensures.value ∙ ap unit_of c.geometry.ensures) c.in-Ok.ensures.told c.walk_both.ensures

pub returns-in-Err : goal.returns-in-Err
returns-in-Err g c = refused_size g.V.Volumes.view c.args.pool.now c.volume_blocks.new.self c.args.new _ c.in-Err.reason c.in-Err.ensures.told
