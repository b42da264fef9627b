-- Internal: what is read off a call by name for the list of deeds.
use Rattle.std.specs.Prelude.{List, ℕ, Result, Ok, Err}
use Rattle.tp_model.specs.Disk.{DiskState}
use Rattle.tp_images.specs.Deeds.{Deed, Opens, Refuses}
use Rattle.tp_images.specs.declared.way.Way.{Way}

abbrev pub answer_deed : {D E : Type 0} → Way → List ℕ → (D → DiskState) → Result D E → Deed
answer_deed way name state (Ok disk) = Opens way name (state disk)
answer_deed way name state (Err error) = Refuses way name
