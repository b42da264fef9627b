use Rattle.std.proofs.Common.{◌≡◌, drop, take}
use Rattle.tp_model.specs.Slots.{listed}
use Rattle.tp_listings.specs.Owned.{AreBelow, marked}
use Rattle.tp_listings.proofs.owners.mark.Given as goal

-- what is left, from here, is what was to be done
abbrev pub invariant-loop-i : goal.invariant-loop-i
invariant-loop-i l = record {
  marks : marked l.mine (listed (drop l.i l.slots)) l.owners ≡ marked l.mine (listed l.slots) l.fn.owners;
  below : AreBelow 1048576 (listed (take l.i l.slots));
}
