-- Internal: however a list that stands is told, it is the same volumes now (own).
use Rattle.std.proofs.Common.{◌≡◌, sym, ◌∙◌}
use Rattle.tp_sharing.specs.Volumes.{Volumes}
use Rattle.tp_list_mapping.specs.Standing.{StandsFor}
use Rattle.tp_list_mapping.specs.declared.list.ListMapping.{ListMapping}

pub list_stands_for_one : (m : ListMapping) (now kept next last : Volumes) → StandsFor m now kept → StandsFor m next last → next ≡ now
list_stands_for_one m now kept next last a b = b.listed ∙ sym a.listed
