use Rattle.std.proofs.Common.{◌+◌, ◌-◌, ◌/◌, ◌≤◌, ℕ, arith, subst, sym}
use Rattle.tp_pool.proofs.Rooms.{touched_is}
use Rattle.tp_pool.proofs.Rounds.{few_touched}
use Rattle.tp_pool.proofs.sectors.touched.Goals as goal

pub returns-clause-few : goal.returns-clause-few
returns-clause-few c =
    let gm = c.args.geometry.now in
    let bs = c.block_sectors-block_sectors.ensures.value in
    let within = c.block_sectors-block_sectors.ensures.within in
    let is = touched_is gm c.args.sector c.args.count (omega (arith, c.if-count-eq0.false)) in
    let few = few_touched gm (omega (arith, within.block_least)) c.args.sector c.args.count within.block_least c.requires.most in
    subst (λ (k : ℕ). (c.args.sector + c.args.count - 1) / k + 1 - c.args.sector / k ≤ 17) (sym bs) (omega (arith, is, few))
