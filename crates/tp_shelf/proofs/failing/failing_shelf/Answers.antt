use Rattle.std.proofs.Common.{◌∙◌, ap}
use Rattle.tp_holders.specs.Holders.{holds_of}
use Rattle.tp_holders.proofs.Rows.{holds_none}
use Rattle.tp_shelf.proofs.failing.failing_shelf.Goals as goal

pub returns-clause-holds : goal.returns-clause-holds
returns-clause-holds c = ap holds_of c.new-2.ensures ∙ holds_none
