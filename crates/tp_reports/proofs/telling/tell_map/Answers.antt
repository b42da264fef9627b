use Rattle.tp_reports.proofs.Printed.{map_told, refused}
use Rattle.tp_reports.specs.declared.report.Report.TheVariants as what
use Rattle.tp_reports.proofs.telling.tell_map.Goals as goal

pub returns-in-Ok : goal.returns-in-Ok
returns-in-Ok g c =
    let calls = g.S.Stream.calls in
    map_told g.V.Volumes.view g.met.V.Volumes.laws c.args.pool.now c.map.new.pool c.args.id c.args.is_json (calls c.args.stream.now) (calls c.print_runs.new.stream) c.in-Ok.list c.in-Ok.list.items c.deref.result.now
    c.geometry.result c.unit_of-unit.result c.print_runs.result c.printed.result c.in-Ok.ensures.looks c.in-Ok.ensures.still c.in-Ok.ensures.exact c.deref.ensures.value c.geometry.ensures
    c.unit_of-unit.ensures.value c.print_runs.ensures c.printed.ensures

pub returns-in-Err : goal.returns-in-Err
returns-in-Err g c =
    refused g.V.Volumes.view g.met.V.Volumes.laws c.args.pool.now c.map.new.pool (what.Map c.args.id) c.args.is_json (g.S.Stream.calls c.args.stream.now) c.in-Err.reason c.in-Err.ensures.looks c.in-Err.ensures.still c.in-Err.ensures.refused
