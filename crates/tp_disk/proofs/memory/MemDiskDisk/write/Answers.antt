use Rattle.std.proofs.Common.{◌∙◌, ◌+◌, ◌/◌, ◌≤◌, length, ap, sym, arith}
use Rattle.std.specs.Prelude.{not}
use Rattle.tp_model.specs.Sectors.{chopped, sectors_of}
use Rattle.tp_model.specs.Disk.{settled}
use Rattle.tp_model.proofs.DiskLaws.{Writes-after_write, length-sectors_of}
use Rattle.tp_disk.specs.Memory.{mem_state}
use Rattle.tp_disk.proofs.Holding.{holds_now, holds_write}
use Rattle.tp_disk.proofs.Settling.{whole_back}
use Rattle.tp_disk.proofs.memory.MemDiskDisk.write.Goals as goal

pub invariant_of-self-2 : goal.invariant_of-self-2
invariant_of-self-2 c =
    let disk = c.args.self.now in
    let value = c.deref_mut.ensures.value in
    let back = whole_back c.put.new.image disk.newest.items disk.newest.len (c.put.ensures.length ∙ ap length value) (sym c.deref_mut.ensures.len ∙ ap length value) in
    let fits : c.args.at + length c.args.bytes.now / 512 ≤ disk.size = omega (arith, c.requires.within, disk.size_is) in
    let held = holds_write {writes' = c.log_write.new.writes.items} c.args.at c.args.bytes.now (not c.next_fails-fails.result) (holds_now disk)
    c.requires.whole fits (c.if-not-log_write.ensures.held (settled (chopped disk.size disk.kept.items))) (c.if-not-log_write.ensures.within disk.size disk.within c.requires.whole fits)
    (back ∙ rw value at c.put.ensures.image) c.note-2.ensures in
    record { size_is = held.size_is; honest = held.honest; well_formed = held.well_formed; cells_are = held.cells_are; within = held.within; kept_long = held.kept_long; newest_is = held.newest_is; newest_long = held.newest_long; reads_long = disk.reads_long; writes_long = c.count.ensures.long ∙ disk.writes_long }

pub returns-then-fails-clause-any : goal.returns-then-fails-clause-any
returns-then-fails-clause-any c =
    let disk = c.args.self.now in
    Writes-after_write c.args.at (sectors_of c.args.bytes.now) (mem_state disk) _ (not c.next_fails-fails.result) c.note-2.ensures (omega (arith, disk.well_formed.size_is, c.requires.within, length-sectors_of c.args.bytes.now))

pub returns-else-fails-clause-any : goal.returns-else-fails-clause-any
returns-else-fails-clause-any c =
    let disk = c.args.self.now in
    Writes-after_write c.args.at (sectors_of c.args.bytes.now) (mem_state disk) _ (not c.next_fails-fails.result) c.note-2.ensures (omega (arith, disk.well_formed.size_is, c.requires.within, length-sectors_of c.args.bytes.now))
