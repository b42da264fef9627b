use Rattle.std.proofs.Common.{◌≡◌, ◌∙◌, ◌*◌, ◌/◌, List, arith, ap, sym, length}
use Rattle.std.specs.List.{concat}
use Rattle.std.proofs.lemmas.List.{take_all}
use Rattle.tp_model.specs.Sectors.{sectors_of}
use Rattle.tp_model.specs.Disk.{seen, settled}
use Rattle.tp_model.proofs.DiskLaws.{seen-settled, concat-chopped}
use Rattle.tp_disk.specs.Log.{replayed}
use Rattle.tp_disk.specs.declared.memory.Logged.{Logged}
use Rattle.tp_disk.proofs.Settling.{within_at, settle_more}
use Rattle.tp_disk.proofs.memory.settle.Goals as goal

pub put-requires : goal.put-requires
put-requires c =
    let here = within_at c.args.writes.now c.loop-write.write-index c.write-item.result c.requires.within c.loop-write-test.true c.write-item.is in
    omega (arith, here.whole, here.ends, c.deref.ensures.len, c.loop-write.auto.image, c.requires.whole)

pub loop-write-init : goal.loop-write-init
unfolding replayed
loop-write-init c =
    let whole : length c.args.image.now ≡ 512 * (length c.args.image.now / 512) = omega (arith, c.requires.whole) in
    sym (ap concat (seen-settled (sectors_of c.args.image.now)) ∙ concat-chopped (length c.args.image.now / 512) c.args.image.now whole)

pub loop-write-preserved : goal.loop-write-preserved
loop-write-preserved c =
    settle_more c.args.image.now c.args.writes.now c.requires.within c.requires.whole c.requires.fits c.loop-write.write-index c.write-item.result c.deref.result.now c.loop-write.image c.put.new.image
    c.loop-write-test.true c.write-item.is c.deref.ensures.value c.loop-write.invariant c.put.ensures.image

pub returns-clause-image : goal.returns-clause-image
returns-clause-image c = c.loop-write.invariant ∙ ap (λ (l : List Logged). concat (seen (replayed l (settled (sectors_of c.args.image.now))))) (take_all c.loop-write.write-index c.args.writes.now c.loop-write-test.false)
