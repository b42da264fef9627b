use Rattle.std.proofs.Common.{◌≡◌, length}
use Rattle.tp_sharing.specs.Volumes.{Volumes}
use Rattle.tp_mapping.specs.Mapping.{AreInside, AreTold}
use Rattle.tp_list_mapping.specs.Standing.{StandsFor}
use Rattle.tp_list_mapping.proofs.list.ListMapping.look_up_each.Given as goal

abbrev pub invariant-loop-i : goal.invariant-loop-i
invariant-loop-i l = record {
  sized : length l.places ≡ length l.fn.places;
  told : (now kept : Volumes) → StandsFor l.self now kept → AreTold l.device l.first now l.i l.places;
  inside : AreInside l.self.geometry.data_blocks l.i l.places;
}
