use Rattle.tp_reports.proofs.Printed.{delta_refused, delta_told, delta_unsized}
use Rattle.tp_reports.proofs.telling.tell_delta.Goals as goal

pub returns-in-Ok-delta : goal.returns-in-Ok-delta
returns-in-Ok-delta g c =
    let calls = g.S.Stream.calls in
    delta_told g.V.Volumes.view g.met.V.Volumes.laws c.args.pool.now c.volume_blocks.new.self c.delta.new.pool c.args.old c.args.new c.in-Ok.blocks c.args.is_json (calls c.args.stream.now) (calls c.print_delta.new.stream)
    c.in-Ok-delta.list c.in-Ok-delta.list.items c.deref.result.now c.geometry.result c.unit_of-unit.result c.print_delta.result c.printed.result c.in-Ok.ensures.told c.in-Ok-delta.ensures.looks
    c.in-Ok-delta.ensures.still c.in-Ok-delta.ensures.exact c.deref.ensures.value c.geometry.ensures c.unit_of-unit.ensures.value c.print_delta.ensures c.printed.ensures

pub returns-in-Err-delta : goal.returns-in-Err-delta
returns-in-Err-delta g c =
    delta_refused g.V.Volumes.view g.met.V.Volumes.laws c.args.pool.now c.volume_blocks.new.self c.delta.new.pool c.args.old c.args.new c.in-Ok.blocks c.args.is_json (g.S.Stream.calls c.args.stream.now) c.in-Err-delta.reason
    c.in-Ok.ensures.told c.in-Err-delta.ensures.looks c.in-Err-delta.ensures.still c.in-Err-delta.ensures.refused

pub returns-in-Err : goal.returns-in-Err
returns-in-Err g c =
    delta_unsized g.V.Volumes.view g.met.V.Volumes.laws c.args.pool.now c.volume_blocks.new.self c.args.old c.args.new c.args.is_json (g.S.Stream.calls c.args.stream.now) c.in-Err.reason c.in-Err.ensures.told
