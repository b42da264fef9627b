use Rattle.std.proofs.Common.{◌≡◌, ◌+◌, ◌/◌, ◌<◌, true, false, length, refl, sym, subst, arith}
use Rattle.std.proofs.lemmas.Result.{on_ok_weaker}
use Rattle.tp_model.specs.Sectors.{sectors_of}
use Rattle.tp_sharing.specs.Volumes.{slot_of}
use Rattle.tp_shown.specs.Shown.{blocks_touched}
use Rattle.tp_model.proofs.DiskLaws.{length-sectors_of}
use Rattle.tp_pool.proofs.Ranges.{reached_still}
use Rattle.tp_pool.specs.Writing.{HasFree}
use Rattle.tp_pool.specs.Zeroing.{HasFreeFor, LeavesZeroes}
use Rattle.tp_pool.proofs.Blanking.{all_taken, owns_touched, written_blanks}
use Rattle.tp_pool.proofs.Clearing.{cleared_blanks}
use Rattle.tp_pool.proofs.Runs.{ran_at_most}
use Rattle.tp_pool.proofs.Zeroed.{zeroes_left}
use Rattle.tp_pool.proofs.zeroing.zero_range.Goals as goal

pub returns-then-no_hole-clause-blanked : goal.returns-then-no_hole-clause-blanked
returns-then-no_hole-clause-blanked g c =
    on_ok_weaker c.put_blocks.result
    (λ done now kept s stood device has.
    written_blanks g.M.Metadata.geometry g.M.Metadata.stands g.M.Metadata.marks c.args.id c.args.sector c.args.count c.args.no_hole (sectors_of c.zeros.result.now) c.put_blocks.new.metadata (g.D.Disk.state c.put_blocks.new.disk) kept s
    c.if-no_hole.true c.zeros.ensures.sectors (done now kept s stood
    (reached_still (g.M.Metadata.geometry c.args.metadata.now) c.args.id (c.args.sector + c.args.count) (c.args.sector + length (sectors_of c.zeros.result.now)) now.volumes now.volumes (omega (arith, length-sectors_of c.zeros.result.now, c.zeros.ensures.length)) (λ s. s) refl device) has))
    c.put_blocks.ensures.written

pub returns-then-no_hole-clause-left : goal.returns-then-no_hole-clause-left
returns-then-no_hole-clause-left g c now kept stood device =
    let M = g.M.Metadata in
    let size = M.geometry c.args.metadata.now in
    let old = g.D.Disk.state c.args.disk.now in
    let within = g.met.M.Metadata.within c.args.metadata.now old now kept stood in
    let pos : 0 < size.block_sectors = omega (arith, within.limits.block_least) in
    let new = g.D.Disk.state c.put_blocks.new.disk in
    subst (λ b. LeavesZeroes M.geometry M.stands M.marks c.args.id c.args.sector c.args.count b c.args.metadata.now old new now kept) (sym c.if-no_hole.true)
    (zeroes_left size pos c.args.id c.args.sector c.args.count true now.volumes kept (sectors_of c.zeros.result.now) c.zeros.ensures.sectors
    (λ block t. owns_touched size c.args.id c.args.sector c.args.count false block (slot_of c.args.id block now.volumes) t) old new (c.put_blocks.ensures.left now kept stood
    (reached_still (g.M.Metadata.geometry c.args.metadata.now) c.args.id (c.args.sector + c.args.count) (c.args.sector + length (sectors_of c.zeros.result.now)) now.volumes now.volumes (omega (arith, length-sectors_of c.zeros.result.now, c.zeros.ensures.length)) (λ s. s) refl device)))

pub returns-then-no_hole-clause-damaged : goal.returns-then-no_hole-clause-damaged
returns-then-no_hole-clause-damaged g c e now kept stood device free =
    let M = g.M.Metadata in
    let size = M.geometry c.args.metadata.now in
    let old = g.D.Disk.state c.args.disk.now in
    let within = g.met.M.Metadata.within c.args.metadata.now old now kept stood in
    let pos : 0 < size.block_sectors = omega (arith, within.limits.block_least) in
    let all = subst (λ b. HasFreeFor M.geometry M.stands M.marks c.args.id c.args.sector c.args.count b c.args.metadata.now now kept) c.if-no_hole.true free in
    let long : length c.zeros.result.now / 512 ≡ c.args.count = omega (arith, c.zeros.ensures.length) in
    let takes = all_taken size pos c.args.id c.args.sector c.args.count false now.volumes (M.marks c.args.metadata.now) in
    c.put_blocks.ensures.damaged e now kept stood
    (reached_still (g.M.Metadata.geometry c.args.metadata.now) c.args.id (c.args.sector + c.args.count) (c.args.sector + length (sectors_of c.zeros.result.now)) now.volumes now.volumes (omega (arith, length-sectors_of c.zeros.result.now, c.zeros.ensures.length)) (λ s. s) refl device)
    (subst (λ n. HasFree M.geometry M.stands M.marks c.args.id c.args.metadata.now now kept (c.args.sector / size.block_sectors) (blocks_touched size c.args.sector n)) (sym long) (omega (arith, takes, all)))

pub returns-then-no_hole-clause-ran : goal.returns-then-no_hole-clause-ran
returns-then-no_hole-clause-ran g c = ran_at_most c.put_blocks.ensures.ran (omega arith)

pub returns-clause-blanked : goal.returns-clause-blanked
returns-clause-blanked g c =
    on_ok_weaker c.clear_range.result
    (λ done now kept s stood device has.
    let M = g.M.Metadata in
    let size = M.geometry c.args.metadata.now in
    let old = g.D.Disk.state c.args.disk.now in
    let within = g.met.M.Metadata.within c.args.metadata.now old now kept stood in
    let pos : 0 < size.block_sectors = omega (arith, within.limits.block_least) in
    cleared_blanks M.geometry M.stands M.marks c.args.id c.args.sector c.args.count c.args.no_hole c.args.metadata.now c.clear_range.new.metadata old (g.D.Disk.state c.clear_range.new.disk) now kept s
    c.if-no_hole.false within.limits c.clear_range.ensures.ran.geometry device.0 has (done now kept stood device))
    c.clear_range.ensures.cleared

pub returns-clause-left : goal.returns-clause-left
returns-clause-left g c now kept stood device =
    let M = g.M.Metadata in
    subst (λ b. LeavesZeroes M.geometry M.stands M.marks c.args.id c.args.sector c.args.count b c.args.metadata.now (g.D.Disk.state c.args.disk.now) (g.D.Disk.state c.clear_range.new.disk) now kept) (sym c.if-no_hole.false)
    (c.clear_range.ensures.left now kept stood device)

pub returns-clause-damaged : goal.returns-clause-damaged
returns-clause-damaged g c e now kept stood device free =
    let M = g.M.Metadata in
    c.clear_range.ensures.damaged e now kept stood device (subst (λ b. HasFreeFor M.geometry M.stands M.marks c.args.id c.args.sector c.args.count b c.args.metadata.now now kept) c.if-no_hole.false free)
