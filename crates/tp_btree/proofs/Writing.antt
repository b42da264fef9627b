-- What a write of a node gives, by the node's value.
use Rattle.std.proofs.Common.{◌≡◌, ℕ, List, ◌∷◌, subst}
use Rattle.tp_model.specs.Disk.{DiskState}
use Rattle.tp_layout.specs.Node.{NodeValue}
use Rattle.tp_refs.specs.Store.{Store}
use Rattle.tp_tm.specs.Tm.{Tm}
use Rattle.tp_tm.specs.Holds.{Holds}
use Rattle.tp_btree.specs.Inserts.{IsWritten}

-- what stands while it is open
abbrev pub IsOpen : Tm → DiskState → Tm → DiskState → NodeValue → Type 0
IsOpen t before u after n = (opens held : List ℕ) (s : Store) → Holds t before (n.own ∷ opens) held s → Holds u after (n.own ∷ opens) held s

pub written_value : (m : ℕ) (t : Tm) (before : DiskState) (u : Tm) (after : DiskState) (n v : NodeValue) → n ≡ v → IsWritten m t before u after n → IsWritten m t before u after v
written_value m t before u after n v e f = subst (IsWritten m t before u after) e f

pub open_value : (t : Tm) (before : DiskState) (u : Tm) (after : DiskState) (n v : NodeValue) → n ≡ v → IsOpen t before u after n → IsOpen t before u after v
open_value t before u after n v e f = subst (IsOpen t before u after) e f
