use Rattle.std.proofs.Common.{◌≡◌, ◌<◌, ◌≤◌, ℕ, Some}
use Rattle.std.specs.Prelude.{slice_get}
use Rattle.tp_model.specs.Slots.{BlockSlot}
use Rattle.tp_listings.proofs.looking.skip.Given as goal

-- the slots between were passed
abbrev pub invariant-loop-i : goal.invariant-loop-i
invariant-loop-i l = (i : ℕ) (x : BlockSlot) → l.at ≤ i → i < l.i → slice_get l.slots i ≡ Some x → x.block < l.from
