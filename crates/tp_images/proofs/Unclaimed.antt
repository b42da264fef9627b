-- Images over files: nothing that was closed is claimed to be honest, so nothing is claimed to last.
use Rattle.std.proofs.Common.{◌≡◌, ℕ, Bool, true, false, List, [], ◌∷◌, Option, None, Some, Result, Ok, Err, refl, subst, sym, ◌∙◌, ap, true≢false}
use Rattle.std.specs.Prelude.{IfOk, bytes_eq, is_some, unwrap_or, if◌then◌else◌}
use Rattle.std.specs.List.{All, AllByRecursion}
use Rattle.std.proofs.lemmas.List.Elements.{All-cons, recursion_from_All}
use Rattle.tp_model.specs.Disk.{DiskState}
use Rattle.tp_disk.specs.HandedOut.{IsHandedOut}
use Rattle.tp_disk.proofs.Unclaimed.{unclaimed_promises}
use Rattle.tp_images.specs.Deeds.{Answers, Closes, Deed, Lasts, Opens, Refuses, left_at}
use Rattle.tp_images.specs.Files.{ClaimsNothing}
use Rattle.tp_images.specs.Logs.{answer_deed}
use Rattle.tp_images.specs.declared.way.Way.{Way}
use Rattle.tp_images.specs.declared.way.Way.TheVariants.{ToWrite, ToRead, ToMake}

-- nothing is no disk
none_left : {P : Type 0} (closed : DiskState) → None ≡ Some closed → P
none_left closed e = absurd (true≢false (sym (ap is_some e)))

-- what a test chooses
chosen : {P : Type 0} (b : Bool) (here rest : Option DiskState) (closed : DiskState) → (if b then here else rest) ≡ Some closed → (here ≡ Some closed → P) → (rest ≡ Some closed → P) → P
chosen true here rest closed e at behind = at e
chosen false here rest closed e at behind = behind e

unclaimed_at : (name : List ℕ) (deeds : List Deed) (closed : DiskState) → AllByRecursion ClaimsNothing deeds → left_at name deeds ≡ Some closed → closed.is_honest ≡ false
unfolding left_at
unclaimed_at name [] closed all e = none_left closed e
unclaimed_at name (Opens way other disk ∷ deeds) closed all e =
    chosen (bytes_eq name other) None (left_at name deeds) closed e (λ h. none_left closed h) (λ h. unclaimed_at name deeds closed all.1 h)
unclaimed_at name (Refuses ToWrite other ∷ deeds) closed all e = unclaimed_at name deeds closed all.1 e
unclaimed_at name (Refuses ToRead other ∷ deeds) closed all e = unclaimed_at name deeds closed all.1 e
unclaimed_at name (Refuses ToMake other ∷ deeds) closed all e =
    chosen (bytes_eq name other) None (left_at name deeds) closed e (λ h. none_left closed h) (λ h. unclaimed_at name deeds closed all.1 h)
unclaimed_at name (Closes other disk ∷ deeds) closed all e =
    chosen (bytes_eq name other) (Some disk) (left_at name deeds) closed e
    (λ h. sym (ap (λ o. (unwrap_or o disk).is_honest) h) ∙ all.0 other disk refl)
    (λ h. unclaimed_at name deeds closed all.1 h)

lasts_unclaimed : (way : Way) (name : List ℕ) (deeds : List Deed) (disk : DiskState) → All ClaimsNothing deeds → Lasts way name deeds disk
lasts_unclaimed ToMake name deeds disk all = tt
lasts_unclaimed ToWrite name deeds disk all = λ closed left honest. unclaimed_promises closed.is_honest (unclaimed_at name deeds closed (recursion_from_All ClaimsNothing deeds all) left) honest
lasts_unclaimed ToRead name deeds disk all = λ closed left honest. unclaimed_promises closed.is_honest (unclaimed_at name deeds closed (recursion_from_All ClaimsNothing deeds all) left) honest

pub answers_unclaimed : {D E : Type 0} (state : D → DiskState) (way : Way) (name : List ℕ) (old new : List Deed) (result : Result D E) → All ClaimsNothing old
    → new ≡ answer_deed way name state result ∷ old → IfOk result (λ disk. IsHandedOut (state disk)) → Answers way name old new state result
answers_unclaimed state way name old new (Ok disk) all e handed = record { deeds = e; handed_out = handed; lasts = lasts_unclaimed way name old (state disk) all }
answers_unclaimed state way name old new (Err error) all e handed = e

-- the disk of a deed that closes one
abbrev disk_of : Deed → DiskState → DiskState
disk_of (Opens way name disk) other = other
disk_of (Refuses way name) other = other
disk_of (Closes name disk) other = disk

abbrev closes : Deed → Bool
closes (Opens way name disk) = false
closes (Refuses way name) = false
closes (Closes name disk) = true

answer_claims_nothing : {D E : Type 0} (state : D → DiskState) (way : Way) (name : List ℕ) (result : Result D E) → ClaimsNothing (answer_deed way name state result)
answer_claims_nothing state way name (Ok disk) other closed e = absurd (true≢false (sym (ap closes e)))
answer_claims_nothing state way name (Err error) other closed e = absurd (true≢false (sym (ap closes e)))

-- What is opened claims nothing either, nor what is closed.
pub opened_unclaimed : {D E : Type 0} (state : D → DiskState) (way : Way) (name : List ℕ) (old new : List Deed) (result : Result D E) → All ClaimsNothing old
    → new ≡ answer_deed way name state result ∷ old → All ClaimsNothing new
opened_unclaimed state way name old new result all e =
    subst (λ (deeds : List Deed). All ClaimsNothing deeds) (sym e) (All-cons ClaimsNothing (answer_deed way name state result) old (answer_claims_nothing state way name result) all)

pub closed_unclaimed : (name : List ℕ) (old new : List Deed) (disk : DiskState) → disk.is_honest ≡ false → All ClaimsNothing old → new ≡ Closes name disk ∷ old → All ClaimsNothing new
closed_unclaimed name old new disk unclaimed all e =
    subst (λ (deeds : List Deed). All ClaimsNothing deeds) (sym e)
    (All-cons ClaimsNothing (Closes name disk) old (λ other closed is. sym (ap (λ deed. (disk_of deed closed).is_honest) is) ∙ unclaimed) all)
