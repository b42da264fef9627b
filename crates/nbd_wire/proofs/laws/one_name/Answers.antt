use Rattle.nbd_wire.proofs.Names as names
use Rattle.nbd_wire.proofs.laws.one_name.Goals as goal

pub returns : goal.returns
returns c = names.one_name
