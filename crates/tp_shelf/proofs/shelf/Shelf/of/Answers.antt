use Rattle.std.proofs.Common.{◌∙◌, ap}
use Rattle.tp_holders.specs.Holders.{holds_of}
use Rattle.tp_holders.proofs.Rows.{holds_none}
use Rattle.tp_shelf.proofs.shelf.Shelf.of.Goals as goal

pub returns : goal.returns
returns c = ap holds_of c.new-2.ensures ∙ holds_none
