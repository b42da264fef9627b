use Rattle.std.proofs.Common.{◌+◌, ◌-◌, length, arith}
use Rattle.nbd_wire.proofs.Puts.{puts_part}
use Rattle.nbd_wire.proofs.writing.put_bytes.Goals as goal

pub returns-clause-bytes : goal.returns-clause-bytes
returns-clause-bytes c =
    puts_part c.args.at (c.args.at + length c.args.bytes.now - c.args.at) c.args.out.now c.copy_from_slice.new.self c.args.bytes.now c.copy_from_slice.ensures.after (omega arith) (omega (arith, c.requires))
