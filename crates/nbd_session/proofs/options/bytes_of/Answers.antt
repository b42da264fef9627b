use Rattle.std.proofs.Common.{arith}
use Rattle.std.proofs.lemmas.Nat.{mul-le}
use Rattle.nbd_session.proofs.options.bytes_of.Goals as goal

pub overflow_mul-result : goal.overflow_mul-result
overflow_mul-result c =
    let w = c.block_sectors.ensures.within in
    let most = mul-le c.args.blocks c.block_sectors.result 16777216 2048 (omega (arith, c.requires)) (omega (arith, w.block_most, c.block_sectors.ensures.value)) in
    omega arith
