use Rattle.std.proofs.Common.{arith}
use Rattle.nbd_wire.proofs.Received.{name_again, name_found, name_none}
use Rattle.nbd_wire.proofs.replies.read_server_data.Goals as goal

pub returns-clause-found : goal.returns-clause-found
returns-clause-found c = name_found c.string_first.result c.args.text.now (λ i. omega (arith, c.type_inv.text i)) c.string_first.ensures

pub returns-clause-none : goal.returns-clause-none
returns-clause-none c = name_none c.string_first.result c.args.text.now c.string_first.ensures

pub returns-clause-again : goal.returns-clause-again
returns-clause-again c = λ name rest fits is. name_again c.string_first.result c.args.text.now name rest c.string_first.ensures fits is
