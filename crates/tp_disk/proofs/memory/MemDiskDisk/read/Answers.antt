use Rattle.std.proofs.Common.{rules, ◌≡◌, ◌*◌, ◌/◌, length, take, drop, arith}
use Rattle.std.proofs.lemmas.Grind.{common_steps}
use Rattle.tp_disk.proofs.Currents.{read_of_current}
use Rattle.tp_disk.proofs.memory.MemDiskDisk.read.Goals as goal

pub returns-clause-bytes : goal.returns-clause-bytes
returns-clause-bytes c honest =
    let disk = c.args.self.now in
    let whole : length c.args.out.now ≡ 512 * (length c.args.out.now / 512) = omega (arith, c.requires.whole) in
    let is : c.copy_from_slice.new.self ≡ take (length c.args.out.now) (drop (512 * c.args.at) disk.newest.items) = grind (arith, common_steps) in
    read_of_current disk.shadow.state.size c.args.at _ disk.newest.items disk.shadow.state.cells (length c.args.out.now) disk.well_formed disk.newest_is whole is

pub returns-then-not-ok-clause-state : goal.returns-then-not-ok-clause-state
returns-then-not-ok-clause-state c = search rules

pub returns-then-not-ok-clause-reads : goal.returns-then-not-ok-clause-reads
returns-then-not-ok-clause-reads c = search rules

pub returns-then-not-ok-clause-writes : goal.returns-then-not-ok-clause-writes
returns-then-not-ok-clause-writes c = search rules

pub returns-clause-reads : goal.returns-clause-reads
returns-clause-reads c = search rules

pub returns-clause-writes : goal.returns-clause-writes
returns-clause-writes c = search rules
