use Rattle.std.proofs.Common.{◌∙◌, None}
use Rattle.std.proofs.lemmas.List.{get_or_default}
use Rattle.tp_meta.proofs.Unmapping.{places_more}
use Rattle.tp_meta.proofs.losing.lose_each.Goals as goal

pub loop-i-preserved : goal.loop-i-preserved
loop-i-preserved c =
    let x = c.index-places-i.result in
    c.lose.ensures ∙ places_more c.loop-i.i c.args.places.now x c.loop-i.marks c.args.marks.now
    (c.index-places-i.is ∙ get_or_default c.args.places.now c.loop-i.i x None c.loop-i-test.true) c.loop-i.invariant
