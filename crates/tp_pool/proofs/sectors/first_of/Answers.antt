use Rattle.std.proofs.Common.{◌+◌, ◌-◌, ◌/◌, ◌^◌, ◌<◌, arith}
use Rattle.std.proofs.Math.Nat.{div-lt_iff_lt-mul}
use Rattle.tp_pool.proofs.Rooms.{touched_is}
use Rattle.tp_shown.proofs.Blocks.{quotients_ascend}
use Rattle.tp_pool.proofs.sectors.first_of.Goals as goal

pub returns-clause-run : goal.returns-clause-run
returns-clause-run c =
    let gm = c.args.geometry.now in
    let limits = c.block_of.ensures.limits in
    let some = c.if-count-eq0.false in
    let is = touched_is gm c.args.sector c.args.count (omega (arith, some)) in
    let last : (c.args.sector + c.args.count - 1) / gm.block_sectors < 2 ^ 24 =
    (div-lt_iff_lt-mul {k = gm.block_sectors} {x = c.args.sector + c.args.count - 1} {y = 2 ^ 24} (omega (arith, limits.block_least))).1 (omega (arith, some, c.requires.within)) in
    let up = quotients_ascend gm.block_sectors c.args.sector (c.args.sector + c.args.count - 1) (omega (arith, limits.block_least)) (omega (arith, some)) in
    omega (arith, is, last, up, c.block_of.ensures.block)
