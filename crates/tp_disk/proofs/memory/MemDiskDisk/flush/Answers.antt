use Rattle.std.proofs.Common.{◌∙◌, length, ap, sym}
use Rattle.tp_disk.proofs.Holding.{holds_now, holds_flush}
use Rattle.tp_disk.proofs.Settling.{whole_back}
use Rattle.tp_disk.proofs.memory.MemDiskDisk.flush.Goals as goal

pub invariant_of-self-2 : goal.invariant_of-self-2
invariant_of-self-2 c =
    let disk = c.args.self.now in
    let value = c.deref_mut.ensures.value in
    let back = whole_back c.settle.new.image disk.kept.items disk.kept.len (c.settle.ensures.length ∙ ap length value) (sym c.deref_mut.ensures.len ∙ ap length value) in
    let held = holds_flush {writes' = c.clear.new.self.items} (holds_now disk)
    c.clear.ensures.items (back ∙ rw (value, c.deref.ensures.value) at c.settle.ensures.image) c.note-2.ensures in
    record { size_is = held.size_is; honest = held.honest; well_formed = held.well_formed; cells_are = held.cells_are; within = held.within; kept_long = held.kept_long; newest_is = held.newest_is; newest_long = held.newest_long; reads_long = disk.reads_long; writes_long = disk.writes_long }
