use Rattle.tp_hub.proofs.Staging.{fewer_parts, part_midway, replaced}
use Rattle.tp_hub.proofs.staged.go_on.Goals as goal

pub returns-in-Midway-clause-part : goal.returns-in-Midway-clause-part
returns-in-Midway-clause-part g c old pool =
    let view = g.V.Volumes.view in
    let of = g.V.Midway.SharedReads.of in
    let left = g.V.Midway.SharedReads.left in
    part_midway view of left c.put-in-Midway.new.place c.in-Midway.midway old c.put-in-Midway.ensures (c.in-Midway.ensures.part old (replaced view of left c.args.place.now c.replace.result old c.replace.ensures.value pool))

pub returns-in-Midway-clause-fewer : goal.returns-in-Midway-clause-fewer
returns-in-Midway-clause-fewer g c none =
    let of = g.V.Midway.SharedReads.of in
    let left = g.V.Midway.SharedReads.left in
    let p = c.put-in-Midway in
    fewer_parts of left c.args.place.now c.replace.result p.new.place c.in-Midway.midway c.replace.ensures.value p.ensures c.in-Midway.ensures.fewer
