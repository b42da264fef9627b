-- A slot that is looked up before it loses its data block.
use Rattle.std.proofs.Common.{◌≡◌, ℕ, zero, suc, ◌+◌, ◌<◌, ◌∙◌, Bool, List, Option, None, Some, true, false, refl, sym, ap, arith}
use Rattle.std.specs.Prelude.{IsSome, is_some, slice_index_or}
use Rattle.std.specs.Option.{option_map}
use Rattle.std.proofs.lemmas.Bool.{false≢true}
use Rattle.tp_sharing.specs.Volumes.{BlockSlot, Volumes, place_or_none, slot_of}
use Rattle.tp_mapping.specs.Mapping as told
use Rattle.tp_mapping.specs.declared.mapped.Mapped.{Mapped}
use Rattle.tp_meta.specs.Marking.{marked_places}
use Rattle.tp_meta.specs.Metadata.{marked, marked_run}
use Rattle.tp_meta.proofs.Altered.{lost_is}

-- nothing was found there
pub lost_none : (id block : ℕ) (volumes : Volumes) (o : Option Mapped) → told.IsTold id block volumes o → is_some o ≡ false → slot_of id block volumes ≡ None
lost_none id block volumes None here e = here
lost_none id block volumes (Some at) here e = absurd (false≢true (sym e))

pub lost_some : (id block : ℕ) (volumes : Volumes) (o : Option Mapped) → told.IsTold id block volumes o → is_some o ≡ true → IsSome (slot_of id block volumes)
lost_some id block volumes None here e = absurd (false≢true e)
lost_some id block volumes (Some at) here e = ap is_some here.0

-- ---- a run of them

-- where a slot is there is a device
pub device_some : (block : ℕ) (o : Option (List BlockSlot)) → IsSome (place_or_none block o) → IsSome o
device_some block None some = absurd (false≢true some)
device_some block (Some slots) some = refl

-- no slot of the run had a data block
pub marks_idle : (id first n : ℕ) (volumes : Volumes) (marks : List Bool) → ((i : ℕ) → i < n → slot_of id (first + i) volumes ≡ None) → marked_run id first n volumes marks ≡ marks
marks_idle id first zero volumes marks none = refl
marks_idle id first (suc n) volumes marks none =
    ap (λ (o : Option ℕ). marked o (marked_run id first n volumes marks)) (none n (omega arith)) ∙ marks_idle id first n volumes marks (λ i lt. none i (omega (arith, lt)))

-- the data blocks that were told are those that are lost
pub marks_told : (id first n : ℕ) (volumes : Volumes) (places : List (Option Mapped)) (marks : List Bool) → told.AreTold id first volumes n places
    → marked_places n places marks ≡ marked_run id first n volumes marks
marks_told id first zero volumes places marks each = refl
marks_told id first (suc n) volumes places marks each =
    ap (λ (o : Option ℕ). marked o (marked_places n places marks)) (lost_is id (first + n) volumes (slice_index_or places n None) (each n (omega arith)))
    ∙ ap (λ (l : List Bool). marked (slot_of id (first + n) volumes) l) (marks_told id first n volumes places marks (λ i lt. each i (omega (arith, lt))))

-- one place more
pub places_more : (n : ℕ) (places : List (Option Mapped)) (x : Option Mapped) (marks old : List Bool) → x ≡ slice_index_or places n None → marks ≡ marked_places n places old
    → marked (option_map (λ (at : Mapped). at.place) x) marks ≡ marked_places (n + 1) places old
places_more n places x marks old e q =
    let more : suc n ≡ n + 1 = omega arith in
    (λ i. marked (option_map (λ (at : Mapped). at.place) (e i)) (q i)) ∙ ap (λ k. marked_places k places old) more
