-- Trusted reading: what serving clients without end over the pool of a disk is, and how it is told (own).
use Rattle.std.specs.Prelude.{◌≡◌, ◌⊎◌, ℕ, Bool, true, false, List, ◌∷◌, Option, None, Some, Result, Ok, Err, nat_lt, if◌then◌else◌}
use Rattle.tp_model.specs.declared.refusal.Refusal.{Refusal}
use Rattle.tp_model.specs.declared.refusal.Refusal.TheVariants.{Fault, Memory}
use Rattle.tp_model.specs.Disk.{DiskState}
use Rattle.tp_hub.specs.Desks.{Exchange}
use Rattle.tp_images.specs.Deeds.{Deed, OnImage, Refuses}
use Rattle.tp_images.specs.declared.way.Way.TheVariants.{ToWrite}
use Rattle.tp_places.specs.declared.places.NoDoor.{NoDoor}
use Rattle.tp_places.specs.declared.places.NoDoor.TheVariants as doors
use Rattle.tp_commands.specs.Lives.{IsLifeOn, closing_of}
use Rattle.tp_commands.specs.Opening.{IsRefusedOn}
use Rattle.tp_commands.specs.Serving.{told_behind}

-- the volume of clients who name none: that of the number that the words give, if there can be one
abbrev pub default_for : Option ℕ → Option ℕ
default_for None = None
default_for (Some id) = if nat_lt id 16777216 then Some id else None

-- whether each thread could be made
abbrev pub told_of_threads : Bool → Result (Unit {0}) Refusal
told_of_threads true = Ok (tt {0})
told_of_threads false = Err Memory

-- the number by which it is told why a place is not listened at
abbrev pub told_of_place : NoDoor → Refusal
told_of_place doors.Memory = Memory
told_of_place (doors.System error) = Fault

-- the numbers by which it is told
abbrev pub IsNoDoor : Refusal → Type 0
IsNoDoor reason = (reason ≡ Fault) ⊎ (reason ≡ Memory)

-- The pool of a disk was opened, a hub over it was asked by clients and control lines, and it was closed; or it was opened, but its clients could not be waited for, and the disk is
-- as it was; or it was not opened. That all was done is told only where it was closed.
abbrev pub StaysOn : Result (Unit {0}) Refusal → DiskState → DiskState → Type 0
StaysOn result before after =
    ((reason : Refusal) × (result ≡ Err reason) × IsRefusedOn before after reason)
    ⊎ ((reason : Refusal) × (result ≡ Err reason) × IsNoDoor reason × (after ≡ before))
    ⊎ ((asks : List Exchange) × (manned : Bool) × (closing : Result (Unit {0}) Refusal)
    × (result ≡ told_behind closing (told_of_threads manned)) × IsLifeOn before after asks (Some (closing_of closing)))

-- The same of the image of a name, which was opened to write; or it was not, which is a fault.
abbrev pub StaysImage : List ℕ → List Deed → List Deed → Result (Unit {0}) Refusal → Type 0
StaysImage name old new result = ((new ≡ Refuses ToWrite name ∷ old) × (result ≡ Err Fault)) ⊎ OnImage ToWrite name old new (StaysOn result)
