use Rattle.tp_reports.proofs.Printed.{refused, refused_behind, volumes_told}
use Rattle.tp_reports.specs.declared.report.Report.TheVariants as what
use Rattle.tp_reports.proofs.telling.tell_volumes.Goals as goal

pub returns-in-Ok-usages : goal.returns-in-Ok-usages
returns-in-Ok-usages g c =
    let calls = g.S.Stream.calls in
    volumes_told g.V.Volumes.view g.met.V.Volumes.laws c.args.pool.now c.is_held.new.self c.usages.new.pool c.in-Ok.held c.args.is_json (calls c.args.stream.now) (calls c.print_usages.new.stream) c.in-Ok-usages.list
    c.in-Ok-usages.list.items c.deref.result.now c.geometry.result c.unit_of-unit.result c.print_usages.result c.printed.result c.in-Ok.ensures.looks c.in-Ok.ensures.still c.in-Ok.ensures.told
    c.in-Ok-usages.ensures.looks c.in-Ok-usages.ensures.still c.in-Ok-usages.ensures.exact c.deref.ensures.value c.geometry.ensures c.unit_of-unit.ensures.value c.print_usages.ensures c.printed.ensures

pub returns-in-Err-usages : goal.returns-in-Err-usages
returns-in-Err-usages g c =
    refused_behind g.V.Volumes.view g.met.V.Volumes.laws c.args.pool.now c.is_held.new.self c.usages.new.pool what.Volumes c.args.is_json (g.S.Stream.calls c.args.stream.now) c.in-Ok.held c.in-Err-usages.reason
    c.in-Ok.ensures.looks c.in-Ok.ensures.still c.in-Err-usages.ensures.looks c.in-Err-usages.ensures.still c.in-Err-usages.ensures.refused

pub returns-in-Err : goal.returns-in-Err
returns-in-Err g c =
    refused g.V.Volumes.view g.met.V.Volumes.laws c.args.pool.now c.is_held.new.self what.Volumes c.args.is_json (g.S.Stream.calls c.args.stream.now) c.in-Err.reason c.in-Err.ensures.looks c.in-Err.ensures.still c.in-Err.ensures.refused
