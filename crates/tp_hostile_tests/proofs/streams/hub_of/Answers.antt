use Rattle.std.proofs.Common.{List, ap, ◌∙◌}
use Rattle.tp_holders.specs.Holders.{Holding, holds_of}
use Rattle.tp_holders.proofs.Rows.{holds_none}
use Rattle.tp_hostile_tests.proofs.streams.hub_of.Goals as goal

pub new-hub-requires : goal.new-hub-requires
new-hub-requires c = ap (λ (held : List Holding). holds_of held) c.requires ∙ holds_none
