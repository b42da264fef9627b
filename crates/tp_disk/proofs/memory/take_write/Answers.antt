use Rattle.std.proofs.Common.{◌≡◌, ◌+◌, ◌-◌, ◌*◌, ℕ, List, take, drop, ap, subst, arith}
use Rattle.std.proofs.lemmas.List.{take_all}
use Rattle.tp_model.specs.Sectors.{sectors_of}
use Rattle.tp_model.specs.Disk.{written}
use Rattle.tp_model.proofs.DiskLaws.{length-sectors_of}
use Rattle.tp_disk.specs.Picking.{Picking}
use Rattle.tp_disk.proofs.Picking.{picking_more, picking_none}
use Rattle.tp_disk.proofs.memory.take_write.Goals as goal

pub loop-k-init : goal.loop-k-init
loop-k-init c picks cells h = picking_none c.args.at h

pub loop-k-preserved : goal.loop-k-preserved
loop-k-preserved c picks cells h =
    let k = c.loop-k.k in
    let one : 512 * k + 512 - 512 * k ≡ 512 = omega arith in
    picking_more cells c.args.at k c.args.bytes.now _ c.loop-k-test.true (ap (λ n. take n (drop (512 * k) c.args.bytes.now)) one)
    (c.take_sector.ensures.picking picks (written c.args.at (take k (sectors_of c.args.bytes.now)) cells) (c.loop-k.invariant picks cells h))

pub returns-clause-picking : goal.returns-clause-picking
returns-clause-picking c picks cells h =
    subst (λ (l : List (List ℕ)). Picking picks (written c.args.at l cells) c.loop-k.image c.loop-k.left)
    (take_all c.loop-k.k (sectors_of c.args.bytes.now) (omega (arith, c.loop-k-test.false, length-sectors_of c.args.bytes.now))) (c.loop-k.invariant picks cells h)
