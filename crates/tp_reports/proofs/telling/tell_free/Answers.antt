use Rattle.tp_reports.proofs.Printed.{free_told, refused, refused_behind}
use Rattle.tp_reports.specs.declared.report.Report.TheVariants as what
use Rattle.tp_reports.proofs.telling.tell_free.Goals as goal

pub returns-in-Ok : goal.returns-in-Ok
returns-in-Ok g c =
    let calls = g.S.Stream.calls in
    free_told g.V.Volumes.view g.met.V.Volumes.laws c.args.pool.now c.is_held.new.self c.free.new.pool c.args.is_json (calls c.args.stream.now) (calls c.print_runs.new.stream) c.in-Ok.list c.in-Ok.list.items c.deref.result.now
    c.geometry-geometry.result c.data_offset-at.result c.unit_of-unit.result c.print_runs.result c.printed.result c.in-Ok-false.field-0 c.in-Ok-false.field-0-test c.in-Ok-false.ensures.looks c.in-Ok-false.ensures.still
    c.in-Ok-false.ensures.told c.in-Ok.ensures.looks c.in-Ok.ensures.still c.in-Ok.ensures.exact c.deref.ensures.value c.geometry-geometry.ensures c.data_offset-at.ensures.value c.unit_of-unit.ensures.value
    c.print_runs.ensures c.printed.ensures

pub returns-in-Err-free : goal.returns-in-Err-free
returns-in-Err-free g c =
    refused_behind g.V.Volumes.view g.met.V.Volumes.laws c.args.pool.now c.is_held.new.self c.free.new.pool what.Free c.args.is_json (g.S.Stream.calls c.args.stream.now) c.in-Ok-false.field-0 c.in-Err-free.reason
    c.in-Ok-false.ensures.looks c.in-Ok-false.ensures.still c.in-Err-free.ensures.looks c.in-Err-free.ensures.still c.in-Err-free.ensures.refused

pub returns-in-Err : goal.returns-in-Err
returns-in-Err g c =
    refused g.V.Volumes.view g.met.V.Volumes.laws c.args.pool.now c.is_held.new.self what.Free c.args.is_json (g.S.Stream.calls c.args.stream.now) c.in-Err.reason c.in-Err.ensures.looks c.in-Err.ensures.still c.in-Err.ensures.refused
