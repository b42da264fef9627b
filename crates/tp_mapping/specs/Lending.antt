-- Internal: what a caller leaves in the store of nodes that it was lent (own).
use Rattle.std.specs.Borrow.{Fml, Lends, MutBor}
use Rattle.tp_tm.specs.Tm.{Tm}
use Rattle.tp_tm.specs.contracts.Tm as store
use Rattle.tp_mapping.specs.declared.trees.TreeMapping.{TreeMapping}
use Rattle.tp_mapping.specs.contracts.trees.TreeMapping.{the_row}

-- the mapping ends with the store that the caller leaves, and with its own root
abbrev pub LendsStore : MutBor TreeMapping → MutBor Tm → Fml
LendsStore s r = Lends the_row store.the_row s r (λ t. record { tm = t; root = s.now.root })
