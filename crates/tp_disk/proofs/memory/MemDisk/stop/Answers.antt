use Rattle.std.proofs.Common.{◌∙◌, ◌*◌, ap, arith, sym, length}
use Rattle.tp_disk.proofs.Settling.{within_at, whole_back}
use Rattle.tp_disk.proofs.Stopping.{stop_long, stop_first, stop_more, stop_all}
use Rattle.tp_disk.proofs.memory.MemDisk.stop.Goals as goal

pub loop-write-init : goal.loop-write-init
loop-write-init c =
    let disk = c.args.self.now in
    stop_first disk.size disk.kept.items disk.writes.items c.args.picks.now c.in_ok-image.image.items c.in_ok-left.left.items (c.in_ok-image.ensures.items ∙ c.deref.ensures.value) disk.kept_long
    c.in_ok-left.ensures.0 c.in_ok-left.ensures.1

pub take_write-requires-clause-many : goal.take_write-requires-clause-many
take_write-requires-clause-many c =
    let disk = c.args.self.now in
    let log = c.deref-write-items.ensures.value in
    let here = within_at disk.writes.items c.loop-write.write-index c.write-item.result disk.within (rw log at c.loop-write-test.true) (rw log at c.write-item.is) in
    rw (c.deref-in-loop-write.ensures.value, c.deref_mut-in-loop-write.ensures.value) (omega (arith, here.ends, c.loop-write.invariant.many, stop_long disk.size disk.kept.items disk.writes.items c.args.picks.now c.loop-write.write-index))

pub loop-write-preserved : goal.loop-write-preserved
loop-write-preserved c =
    let disk = c.args.self.now in
    let log = c.deref-write-items.ensures.value in
    let image = c.deref_mut.ensures.value in
    let left = c.deref_mut-in-loop-write.ensures.value in
    let h = c.take_write.ensures.picking c.args.picks.now _ (rw (image, left) c.loop-write.invariant) in
    stop_more disk.size disk.kept.items disk.writes.items c.args.picks.now c.loop-write.write-index c.write-item.result c.deref-in-loop-write.result.now c.take_write.new.image _ c.take_write.new.left _
    (rw log at c.loop-write-test.true) (rw log at c.write-item.is) c.deref-in-loop-write.ensures.value
    (whole_back c.take_write.new.image c.loop-write.image.items c.loop-write.image.len (c.take_write.ensures.image ∙ ap length image) (sym c.deref_mut.ensures.len ∙ ap length image))
    (whole_back c.take_write.new.left c.loop-write.left.items c.loop-write.left.len (c.take_write.ensures.left ∙ ap length left) (sym c.deref_mut-in-loop-write.ensures.len ∙ ap length left)) h

pub begin-requires : goal.begin-requires
begin-requires c =
    let disk = c.args.self.now in
    record {
      long = c.loop-write.invariant.long ∙ ap (λ n. 512 * n) (stop_long disk.size disk.kept.items disk.writes.items c.args.picks.now c.loop-write.write-index);
      fits = omega (arith, disk.well_formed.fits, disk.size_is);
    }

pub returns : goal.returns
returns c =
    let disk = c.args.self.now in
    let log = c.deref-write-items.ensures.value in
    let same = stop_all disk.size disk.kept.items disk.writes.items c.args.picks.now c.loop-write.write-index disk.shadow.state.cells c.loop-write.image.items c.loop-write.left.items (rw log at c.loop-write-test.false) disk.cells_are c.loop-write.invariant in
    rw (same, sym disk.size_is) at c.begin.ensures
