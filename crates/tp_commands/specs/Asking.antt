-- Trusted reading: a new pool in the place of what is there, where somebody is asked (own).
use Rattle.std.specs.Prelude.{◌≡◌, ◌⊎◌, ℕ, Bool, List, [], ◌∷◌, Result, Err, codes}
use Rattle.tp_model.specs.declared.refusal.Refusal.{Refusal}
use Rattle.tp_model.specs.declared.refusal.Refusal.TheVariants.{BadGeometry, Exists}
use Rattle.tp_model.specs.Geometry.{IsWithinLimits}
use Rattle.tp_model.specs.DiskStops.{moment}
use Rattle.tp_hub.specs.Streams.{Gave, Makes, StreamCall}
use Rattle.tp_images.specs.Deeds.{Deed, NotOpened, OnImage}
use Rattle.tp_images.specs.declared.way.Way.TheVariants.{ToRead}
use Rattle.tp_tasks.specs.declared.task.Sizes.{Sizes}
use Rattle.tp_commands.specs.Images.{IsFormatted, sizes_asked}

-- What stands under a name is looked at: the image is refused, or opened and closed, and nothing is written to it.
abbrev pub LooksInto : List ℕ → List Deed → List Deed → Type 0
LooksInto name old new = NotOpened ToRead name old new ⊎ OnImage ToRead name old new (λ before after. moment after ≡ moment before)

abbrev pub SaysYes : List ℕ → Type 0
SaysYes line = (line ≡ codes "yes\n") ⊎ (line ≡ codes "yes") ⊎ (line ≡ codes "yes\r\n")

-- Nothing was seen that can be lost: the image was refused, as one that is not there is, or its disk had no sector.
abbrev pub SeesNothing : List ℕ → List Deed → List Deed → Type 0
SeesNothing name old new = NotOpened ToRead name old new ⊎ OnImage ToRead name old new (λ before after. (moment after ≡ moment before) × (before.size ≡ 0))

-- Who was asked said yes in the one line that was read.
abbrev pub SaidYes : List StreamCall → Type 0
SaidYes did = (line : List ℕ) × (did ≡ Gave line ∷ []) × SaysYes line

-- What stands under a name may be destroyed: it was looked at, and who was asked said yes. Nobody was asked where there is nothing to lose, and nowhere else.
abbrev pub MayDestroy : List ℕ → List Deed → List Deed → List StreamCall → List StreamCall → Type 0
MayDestroy name old new calls calls' = (SeesNothing name old new × (calls' ≡ calls)) ⊎ (LooksInto name old new × Makes calls calls' SaidYes)

-- Where one asks: sizes that are out of their limits are refused first, and then the image is looked at. That ends it, where who is asked does not say yes; else the pool is made.
abbrev pub FormatsAsked : List ℕ → Sizes → Bool → List Deed → List Deed → List StreamCall → List StreamCall → Result (Unit {0}) Refusal → Type 0
FormatsAsked name sizes overwrites old new calls calls' result =
    ((IsWithinLimits (sizes_asked sizes) → ⊥) × (result ≡ Err BadGeometry) × (new ≡ old) × (calls' ≡ calls))
    ⊎ ((result ≡ Err Exists) × LooksInto name old new)
    ⊎ ((between : List Deed) × (read : List StreamCall) × MayDestroy name old between calls read × IsFormatted name sizes overwrites between new read calls' result)
