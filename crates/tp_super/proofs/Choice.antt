-- Which superblock an image's slots give: one at most, and after a write to one slot the next, or what they gave.
use Rattle.std.proofs.Common.{◌≡◌, ◌⊎◌, inl, inr, ⊎_elim, ℕ, ◌+◌, ◌*◌, ◌<◌, ◌^◌, Bool, true, false, List, [], ◌∷◌, length, refl, sym, ◌∙◌, ap, subst, arith, eq-eqb, ne_eqb, true≢false}
use Rattle.std.specs.Prelude.{Result, Ok, Err, ◌==◌, if◌then◌else◌}
use Rattle.tp_model.specs.declared.refusal.Refusal.{Refusal}
use Rattle.tp_model.specs.declared.refusal.Refusal.TheVariants.{Damaged}
use Rattle.tp_model.specs.Refusals.{refusal_number}
use Rattle.tp_model.specs.Geometry.{Geometry}
use Rattle.tp_model.specs.Sectors.{Sector, sector_at}
use Rattle.tp_model.specs.DiskStops.{PartlyOverlaid, SameOutside}
use Rattle.tp_model.proofs.DiskStopLaws.{SameOutside-partly}
use Rattle.tp_layout.specs.declared.superblock.Superblock.{Superblock}
use Rattle.tp_layout.specs.declared.superblock.SlotId.{SlotId}
use Rattle.tp_layout.specs.declared.superblock.SlotId.TheVariants.{Zero, One}
use Rattle.tp_layout.specs.declared.superblock.Slot.{Slot}
use Rattle.tp_layout.specs.declared.superblock.Slot.TheVariants.{Foreign, Other, Bad, Good}
use Rattle.tp_layout.specs.Super.{StandsIn, IsGoodSuper, super_bytes}
use Rattle.tp_layout.proofs.SuperLaws.{one_kind}
use Rattle.tp_image.specs.Slots.{SlotIs, slot_sector, Chooses, choice_of, later_of, is_same_geometry, next_sequence}
use Rattle.tp_super.specs.Store.{IsNext, super_sector}

-- one thing stands in a slot

pub SlotIs-one : (image : List Sector) (slot : SlotId) (a b : Slot) → SlotIs image slot a → SlotIs image slot b → a ≡ b
SlotIs-one image slot a b (inl p) (inl q) = one_kind slot (sector_at image (slot_sector slot)) a b p.1 q.1
SlotIs-one image slot a b (inl p) (inr q) = absurd (q.0 p.0)
SlotIs-one image slot a b (inr p) (inl q) = absurd (p.0 q.0)
SlotIs-one image slot a b (inr p) (inr q) = p.1 ∙ sym q.1

pub Chooses-one : (image : List Sector) (a b : Result Superblock Refusal) → Chooses image a → Chooses image b → a ≡ b
Chooses-one image a b p q =
    p.choice_is ∙ ap (λ s. choice_of s p.second) (SlotIs-one image Zero p.first q.first p.first_is q.first_is)
    ∙ ap (choice_of q.first) (SlotIs-one image One p.second q.second p.second_is q.second_is) ∙ sym q.choice_is

-- which superblock the slots give
abbrev value_of : Superblock → Result Superblock Refusal → Superblock
value_of d (Ok s) = s
value_of d (Err e) = d

pub ok_is : (a b : Superblock) → ◌≡◌ {A = Result Superblock Refusal} (Ok a) (Ok b) → a ≡ b
ok_is a b e = ap (value_of a) e

pub same_superblock : (image : List Sector) (last s : Superblock) → Chooses image (Ok last) → Chooses image (Ok s) → s ≡ last
same_superblock image last s p q = ok_is s last (Chooses-one image (Ok s) (Ok last) q p)

abbrev is_good : Slot → Bool
is_good (Good s) = true
is_good what = false

-- a good superblock of a slot
pub good_in : (image : List Sector) (slot : SlotId) (s : Superblock) → SlotIs image slot (Good s) → IsGoodSuper slot s
good_in image slot s (inl p) = p.1.0
good_in image slot s (inr p) = absurd (true≢false (ap is_good p.1))

-- the later of two

same_geometry : (g h : Geometry) → g ≡ h → is_same_geometry g h ≡ true
same_geometry g h e =
    let each = λ (x y : ℕ) (is : x ≡ y). eq-eqb x y is in
    rw (
      each g.block_sectors h.block_sectors (ap (λ (k : Geometry). k.block_sectors) e),
      each g.virtual_blocks h.virtual_blocks (ap (λ (k : Geometry). k.virtual_blocks) e),
      each g.metadata_blocks h.metadata_blocks (ap (λ (k : Geometry). k.metadata_blocks) e),
      each g.data_blocks h.data_blocks (ap (λ (k : Geometry). k.data_blocks) e),
    ) refl

first_later : (next old : Superblock) → IsNext (Ok old) next → later_of next old ≡ Ok next
first_later next old is = rw (same_geometry next.geometry old.geometry is.0, eq-eqb next.sequence (next_sequence old.sequence) is.1) refl

-- two is not zero modulo 2 ^ 64, so the old one does not follow the next
not_before : (old next : ℕ) → old < 2 ^ 64 → next ≡ next_sequence old → old ≡ next_sequence next → ⊥
not_before old next fits e f = omega (arith, fits, e, f)

second_later : (next old : Superblock) → old.sequence < 2 ^ 64 → IsNext (Ok old) next → later_of old next ≡ Ok next
second_later next old fits is =
    rw (
      same_geometry old.geometry next.geometry (sym is.0),
      ne_eqb old.sequence (next_sequence next.sequence) (not_before old.sequence next.sequence fits is.1),
      eq-eqb next.sequence (next_sequence old.sequence) is.1,
    ) refl

-- the next follows one of the two
follows_one : (same ahead behind : Bool) (a b next : Superblock)
    → IsNext (if same then (if ahead then Ok a else if behind then Ok b else Err Damaged) else Err Damaged) next → IsNext (Ok a) next ⊎ IsNext (Ok b) next
follows_one true true behind a b next is = inl is
follows_one true false true a b next is = inr is
follows_one true false false a b next is = absurd (omega (arith, ap refusal_number is.0))
follows_one false ahead behind a b next is = absurd (omega (arith, ap refusal_number is.0))

-- neighbours are of two slots
other_slot : (slot : SlotId) (old next : Superblock) → IsGoodSuper slot old → IsGoodSuper slot next → next.sequence ≡ next_sequence old.sequence → ⊥
other_slot slot old next p q e = omega (arith, p.slot_is, q.slot_is, p.sequence, e)

-- the slots give the next where it stands in its slot, and beside it what stood there

next_first : (image : List Sector) (first second : Slot) (next : Superblock) → SlotIs image Zero first → SlotIs image One second → IsGoodSuper Zero next
    → IsNext (choice_of first second) next → choice_of (Good next) second ≡ Ok next
next_first image first Foreign next p q good is = refl
next_first image Foreign Other next p q good is = absurd (omega (arith, ap refusal_number is.0))
next_first image Other Other next p q good is = absurd (omega (arith, ap refusal_number is.0))
next_first image Bad Other next p q good is = absurd (omega (arith, ap refusal_number is.0))
next_first image (Good a) Other next p q good is = absurd (omega (arith, ap refusal_number is.0))
next_first image Foreign Bad next p q good is = absurd (omega (arith, ap refusal_number is.0))
next_first image Other Bad next p q good is = absurd (omega (arith, ap refusal_number is.0))
next_first image Bad Bad next p q good is = absurd (omega (arith, ap refusal_number is.0))
next_first image (Good a) Bad next p q good is = absurd (omega (arith, ap refusal_number is.0))
next_first image Foreign (Good b) next p q good is = first_later next b is
next_first image Other (Good b) next p q good is = absurd (omega (arith, ap refusal_number is.0))
next_first image Bad (Good b) next p q good is = absurd (omega (arith, ap refusal_number is.0))
next_first image (Good a) (Good b) next p q good is =
    ⊎_elim (λ after_a. absurd (other_slot Zero a next (good_in image Zero a p) good after_a.1)) (λ after_b. first_later next b after_b)
    (follows_one (is_same_geometry a.geometry b.geometry) (a.sequence == next_sequence b.sequence) (b.sequence == next_sequence a.sequence) a b next is)

next_second : (image : List Sector) (first second : Slot) (next : Superblock) → SlotIs image Zero first → SlotIs image One second → IsGoodSuper One next
    → IsNext (choice_of first second) next → choice_of first (Good next) ≡ Ok next
next_second image Foreign second next p q good is = refl
next_second image Other second next p q good is = absurd (omega (arith, ap refusal_number is.0))
next_second image Bad Other next p q good is = absurd (omega (arith, ap refusal_number is.0))
next_second image Bad Foreign next p q good is = absurd (omega (arith, ap refusal_number is.0))
next_second image Bad Bad next p q good is = absurd (omega (arith, ap refusal_number is.0))
next_second image Bad (Good b) next p q good is = absurd (omega (arith, ap refusal_number is.0))
next_second image (Good a) Foreign next p q good is = second_later next a (good_in image Zero a p).sequence is
next_second image (Good a) Other next p q good is = absurd (omega (arith, ap refusal_number is.0))
next_second image (Good a) Bad next p q good is = absurd (omega (arith, ap refusal_number is.0))
next_second image (Good a) (Good b) next p q good is =
    ⊎_elim (λ after_a. second_later next a (good_in image Zero a p).sequence after_a) (λ after_b. absurd (other_slot One b next (good_in image One b q) good after_b.1))
    (follows_one (is_same_geometry a.geometry b.geometry) (a.sequence == next_sequence b.sequence) (b.sequence == next_sequence a.sequence) a b next is)

-- images that differ in one slot's sector

pub SlotIs-same : (slot : SlotId) (before image : List Sector) (what : Slot) → length image ≡ length before
    → sector_at image (slot_sector slot) ≡ sector_at before (slot_sector slot) → SlotIs before slot what → SlotIs image slot what
SlotIs-same slot before image what long same (inl p) = inl (omega (arith, p.0, long), subst (λ s. StandsIn slot s what) (sym same) p.1)
SlotIs-same slot before image what long same (inr p) = inr ((λ lt. p.0 (omega (arith, lt, long))), p.1)

SlotIs-next : (slot : SlotId) (image : List Sector) (next : Superblock) → slot_sector slot < length image → IsGoodSuper slot next
    → sector_at image (slot_sector slot) ≡ super_bytes next → SlotIs image slot (Good next)
SlotIs-next slot image next lt good e = inl (lt, (good, e))

-- with the next in its slot
pub Chooses-next : (slot : SlotId) (one : Result Superblock Refusal) (next : Superblock) (before image : List Sector) → IsGoodSuper slot next → IsNext one next → Chooses before one
    → SameOutside (slot_sector slot) 1 before image → slot_sector slot < length image → sector_at image (slot_sector slot) ≡ super_bytes next → Chooses image (Ok next)
Chooses-next Zero one next before image good is was out lt written = record {
  first = Good next;
  second = was.second;
  first_is = SlotIs-next Zero image next lt good written;
  second_is = SlotIs-same One before image was.second out.same_length (out.above 8 (omega arith)) was.second_is;
  choice_is = sym (next_first before was.first was.second next was.first_is was.second_is good (subst (λ o. IsNext o next) was.choice_is is));
}
Chooses-next One one next before image good is was out lt written = record {
  first = was.first;
  second = Good next;
  first_is = SlotIs-same Zero before image was.first out.same_length (out.below 0 (omega arith)) was.first_is;
  second_is = SlotIs-next One image next lt good written;
  choice_is = sym (next_second before was.first was.second next was.first_is was.second_is good (subst (λ o. IsNext o next) was.choice_is is));
}

-- with the slot as it was
Chooses-same : (slot : SlotId) (one : Result Superblock Refusal) (before image : List Sector) → Chooses before one → SameOutside (slot_sector slot) 1 before image
    → sector_at image (slot_sector slot) ≡ sector_at before (slot_sector slot) → Chooses image one
Chooses-same Zero one before image was out same = record {
  first = was.first;
  second = was.second;
  first_is = SlotIs-same Zero before image was.first out.same_length same was.first_is;
  second_is = SlotIs-same One before image was.second out.same_length (out.above 8 (omega arith)) was.second_is;
  choice_is = was.choice_is;
}
Chooses-same One one before image was out same = record {
  first = was.first;
  second = was.second;
  first_is = SlotIs-same Zero before image was.first out.same_length (out.below 0 (omega arith)) was.first_is;
  second_is = SlotIs-same One before image was.second out.same_length same was.second_is;
  choice_is = was.choice_is;
}

pub slot_sector_is : (slot : SlotId) (next : Superblock) → IsGoodSuper slot next → super_sector next ≡ slot_sector slot
slot_sector_is slot next good = ap (λ n. 8 * n) good.slot_is

pub Chooses-either : (slot : SlotId) (one : Result Superblock Refusal) (next : Superblock) (before image : List Sector) → IsGoodSuper slot next → IsNext one next → Chooses before one
    → slot_sector slot < length image → PartlyOverlaid (super_sector next) (super_bytes next ∷ []) before image → Chooses image one ⊎ Chooses image (Ok next)
Chooses-either slot one next before image good is was lt partly =
    let at : super_sector next + 0 ≡ slot_sector slot = omega (arith, slot_sector_is slot next good) in
    let out = SameOutside-partly (slot_sector slot) 1 partly (omega (arith, at)) (omega (arith, at)) in
    ⊎_elim (λ same. inl (Chooses-same slot one before image was out (sym (ap (sector_at image) at) ∙ same ∙ ap (sector_at before) at)))
    (λ written. inr (Chooses-next slot one next before image good is was out lt (sym (ap (sector_at image) at) ∙ written)))
    (partly.inside 0 (omega arith))
