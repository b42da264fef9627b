use Rattle.std.proofs.Common.{◌+◌, ◌*◌, ◌/◌, ◌≤◌, length, ap, arith}
use Rattle.tp_users.proofs.Growth.{ok_always}
use Rattle.tp_users.proofs.grown.grown_blocks_read_zero.Goals as goal

pub open_and_read-requires-clause-kept : goal.open_and_read-requires-clause-kept
open_and_read-requires-clause-kept c =
    let k = c.in_ok-disk.ensures.kept in
    let inside : c.args.from + length c.args.again.now / 512 ≤ c.args.blocks * 128 = omega (arith, c.requires.inside, ap (λ n. n / 512) c.requires.same) in
    (k.0, c.args.blocks, k.1, k.2, inside, c.requires.most)

pub returns-clause-zero : goal.returns-clause-zero
returns-clause-zero c = ok_always _ c.open_and_read.result c.in_ok-disk.ensures.zero

pub returns-clause-again : goal.returns-clause-again
returns-clause-again c = c.open_and_read.ensures.zero

pub returns-clause-only : goal.returns-clause-only
returns-clause-only c = c.open_and_read.ensures.only
