use Rattle.std.proofs.Common.{◌∙◌, ap}
use Rattle.tp_pages.specs.Pages.{unit_of}
use Rattle.tp_pages.proofs.Asked.{refused_size, size_so}
use Rattle.tp_pages.proofs.ask.size_line.Goals as goal

pub returns-in-Ok : goal.returns-in-Ok
returns-in-Ok g c =
    size_so g.V.Volumes.view c.args.pool.now c.volume_blocks.new.self c.unit_of-unit.result _ c.args.id c.in-Ok.blocks c.put_sizes.new.line.bytes (c.unit_of-unit.ensures.value ∙ ap unit_of c.geometry.ensures) c.in-Ok.ensures.told
    c.put_sizes.ensures

pub returns-in-Err : goal.returns-in-Err
returns-in-Err g c = refused_size g.V.Volumes.view c.args.pool.now c.volume_blocks.new.self c.args.id _ c.in-Err.reason c.in-Err.ensures.told
