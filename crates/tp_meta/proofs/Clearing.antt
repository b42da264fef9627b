-- What clearing a slot does to the disk, and which superblock the slots give then.
use Rattle.std.proofs.Common.{◌≡◌, ◌⊎◌, inl, inr, ⊎_elim, ℕ, ◌+◌, ◌<◌, ◌≤◌, Bool, true, false, true≢false, List, [], ◌∷◌, length, refl, sym, ◌∙◌, ap, subst, arith}
use Rattle.std.specs.Prelude.{Result, Ok, Err, OnOk, is_ok, ◌%◌, ◌==◌, if◌then◌else◌, replicate, slice_index_or}
use Rattle.std.proofs.lemmas.List.{length-replicate, ext_get_or}
use Rattle.std.proofs.lemmas.Bool.{cases_lt}
use Rattle.tp_model.specs.declared.refusal.Refusal.{Refusal}
use Rattle.tp_model.specs.declared.refusal.Refusal.TheVariants.{BadVersion, Damaged, NotAPool}
use Rattle.tp_model.specs.Sectors.{Sector, sector_at, sectors_of, zero_sector}
use Rattle.tp_model.specs.Disk.{Cell, DiskState, Writes, seen, written, after_read, after_write, after_flush}
use Rattle.tp_model.specs.DiskStops.{AfterStop, Leaves, LeavesOnly, PartlyOverlaid, SameOutside}
use Rattle.tp_model.proofs.DiskLaws.{sectors_of-one}
use Rattle.tp_model.proofs.DiskStopLaws.{AfterStop-seen, PartlyOverlaid-seen, SameOutside-none, SameOutside-partly, goes_on_read, goes_on_write, joins, leaves_settled, sector_at-written, starts, weakens}
use Rattle.tp_layout.specs.Super.{HasMagic, slot_number}
use Rattle.tp_layout.specs.declared.superblock.Superblock.{Superblock}
use Rattle.tp_layout.specs.declared.superblock.SlotId.{SlotId}
use Rattle.tp_layout.specs.declared.superblock.SlotId.TheVariants.{Zero, One}
use Rattle.tp_layout.specs.declared.superblock.Slot.{Slot}
use Rattle.tp_layout.specs.declared.superblock.Slot.TheVariants.{Foreign, Other, Bad, Good}
use Rattle.tp_image.specs.Slots.{Chooses, SlotIs, choice_of, is_same_geometry, next_sequence, slot_sector}
use Rattle.tp_super.proofs.Choice.{Chooses-one, SlotIs-same, good_in}
pub use Rattle.tp_super.proofs.Choice.{ok_is, same_superblock}
use Rattle.tp_meta.specs.Format.{IsBlank, IsClearing, IsNoPool, IsOldPool, other_slot, other_sector}

pub zeros_are : replicate {A = ℕ} 512 0 ≡ zero_sector
unfolding zero_sector
zeros_are = refl

length-zero_sector : length zero_sector ≡ 512
unfolding zero_sector
length-zero_sector = length-replicate {A = ℕ} 512 0

pub no_magic : HasMagic zero_sector → ⊥
unfolding zero_sector
no_magic h = omega (arith, ap (λ (l : List ℕ). slice_index_or l 0 0) h)

PartlyOverlaid-none : (at : ℕ) (values image : List Sector) → PartlyOverlaid at values image image
PartlyOverlaid-none at values image = record { same_length = refl; below = λ i h. refl; above = λ i h. refl; inside = λ i h. inl refl }

pub zeros_written : (slot : SlotId) (at : ℕ) (bytes : List ℕ) (old new : DiskState) → at ≡ slot_sector slot → bytes ≡ zero_sector
    → Writes at (sectors_of bytes) old new → LeavesOnly old new (IsClearing slot old.cells)
zeros_written slot at bytes old new here is writes =
    let long : length bytes ≡ 512 = ap length is ∙ length-zero_sector in
    let values : sectors_of bytes ≡ zero_sector ∷ [] = sectors_of-one bytes long ∙ ap (λ (b : List ℕ). b ∷ []) is in
    let w : Writes (slot_sector slot) (zero_sector ∷ []) old new =
    subst (λ n. Writes n (zero_sector ∷ []) old new) here (subst (λ (l : List Sector). Writes at l old new) values writes) in
    goes_on_write {P = IsClearing slot old.cells} {Q = λ image. AfterStop old.cells image}
    (starts {P = IsClearing slot old.cells} old (λ image stop. (image, stop, PartlyOverlaid-none (slot_sector slot) (zero_sector ∷ []) image)))
    w (λ image stop. stop) (λ before image stop partly. (before, stop, partly))

pub zeros_after : (slot : SlotId) (at : ℕ) (bytes : List ℕ) (old new : DiskState) → at ≡ slot_sector slot → bytes ≡ zero_sector
    → new ≡ after_write at (sectors_of bytes) old → new ≡ after_write (slot_sector slot) (zero_sector ∷ []) old
zeros_after slot at bytes old new here is e =
    let long : length bytes ≡ 512 = ap length is ∙ length-zero_sector in
    let values : sectors_of bytes ≡ zero_sector ∷ [] = sectors_of-one bytes long ∙ ap (λ (b : List ℕ). b ∷ []) is in
    e ∙ ap (λ n. after_write n (sectors_of bytes) old) here ∙ ap (λ (l : List Sector). after_write (slot_sector slot) l old) values

pub flushed : {E : Type 0} (result : Result (Unit {0}) E) (old mid new : DiskState) → mid ≡ old → new ≡ after_flush (is_ok result) mid → OnOk result (new ≡ after_flush true old)
flushed (Ok done) old mid new e f = f ∙ ap (after_flush true) e
flushed (Err fault) old mid new e f = tt

-- which superblock the slots give

abbrev refusal_of : {T : Type 0} → Result T Refusal → Refusal
refusal_of (Ok s) = NotAPool
refusal_of (Err e) = e

pub err_is : {T : Type 0} (a b : Refusal) → ◌≡◌ {A = Result T Refusal} (Err a) (Err b) → a ≡ b
err_is a b e = ap refusal_of e

pub not_err : (a : Superblock) (r : Refusal) → ◌≡◌ {A = Result Superblock Refusal} (Ok a) (Err r) → ⊥
not_err a r e = true≢false (ap is_ok e)

pub no_refusal : (image : List Sector) (last : Superblock) (refusal : Refusal) → Chooses image (Ok last) → Chooses image (Err refusal) → ⊥
no_refusal image last refusal p q = not_err last refusal (Chooses-one image (Ok last) (Err refusal) p q)

-- of two, the one whose sequence has the remainder of its slot
first_of_two : (same ahead behind : Bool) (a b last : Superblock) → b.sequence % 2 ≡ 1 → last.sequence % 2 ≡ 0
    → Ok last ≡ (if same then (if ahead then Ok a else if behind then Ok b else Err Damaged) else Err Damaged) → ◌≡◌ {A = Result Superblock Refusal} (Ok last) (Ok a)
first_of_two true true behind a b last odd even e = e
first_of_two true false true a b last odd even e = absurd (omega (arith, odd, even, ap (λ (s : Superblock). s.sequence) (ok_is last b e)))
first_of_two true false false a b last odd even e = absurd (not_err last Damaged e)
first_of_two false ahead behind a b last odd even e = absurd (not_err last Damaged e)

second_of_two : (same ahead behind : Bool) (a b last : Superblock) → a.sequence % 2 ≡ 0 → last.sequence % 2 ≡ 1
    → Ok last ≡ (if same then (if ahead then Ok a else if behind then Ok b else Err Damaged) else Err Damaged) → ◌≡◌ {A = Result Superblock Refusal} (Ok last) (Ok b)
second_of_two true true behind a b last even odd e = absurd (omega (arith, odd, even, ap (λ (s : Superblock). s.sequence) (ok_is last a e)))
second_of_two true false true a b last even odd e = e
second_of_two true false false a b last even odd e = absurd (not_err last Damaged e)
second_of_two false ahead behind a b last even odd e = absurd (not_err last Damaged e)

lone_first : (image : List Sector) (first second : Slot) (last : Superblock) → SlotIs image One second → last.sequence % 2 ≡ 0
    → Ok last ≡ choice_of first second → Ok last ≡ choice_of first Foreign
lone_first image Foreign Foreign last q even e = e
lone_first image Foreign Other last q even e = absurd (not_err last BadVersion e)
lone_first image Foreign Bad last q even e = absurd (not_err last Damaged e)
lone_first image Foreign (Good b) last q even e =
    absurd (omega (arith, even, (good_in image One b q).slot_is, ap (λ (s : Superblock). s.sequence) (ok_is last b e)))
lone_first image Other second last q even e = absurd (not_err last BadVersion e)
lone_first image Bad Foreign last q even e = absurd (not_err last Damaged e)
lone_first image Bad Other last q even e = absurd (not_err last BadVersion e)
lone_first image Bad Bad last q even e = absurd (not_err last Damaged e)
lone_first image Bad (Good b) last q even e = absurd (not_err last Damaged e)
lone_first image (Good a) Foreign last q even e = e
lone_first image (Good a) Other last q even e = absurd (not_err last BadVersion e)
lone_first image (Good a) Bad last q even e = absurd (not_err last Damaged e)
lone_first image (Good a) (Good b) last q even e =
    first_of_two (is_same_geometry a.geometry b.geometry) (a.sequence == next_sequence b.sequence) (b.sequence == next_sequence a.sequence) a b last (good_in image One b q).slot_is even e

lone_second : (image : List Sector) (first second : Slot) (last : Superblock) → SlotIs image Zero first → last.sequence % 2 ≡ 1
    → Ok last ≡ choice_of first second → Ok last ≡ choice_of Foreign second
lone_second image Foreign second last q odd e = e
lone_second image Other second last q odd e = absurd (not_err last BadVersion e)
lone_second image Bad Foreign last q odd e = absurd (not_err last Damaged e)
lone_second image Bad Other last q odd e = absurd (not_err last BadVersion e)
lone_second image Bad Bad last q odd e = absurd (not_err last Damaged e)
lone_second image Bad (Good b) last q odd e = absurd (not_err last Damaged e)
lone_second image (Good a) Foreign last q odd e =
    absurd (omega (arith, odd, (good_in image Zero a q).slot_is, ap (λ (s : Superblock). s.sequence) (ok_is last a e)))
lone_second image (Good a) Other last q odd e = absurd (not_err last BadVersion e)
lone_second image (Good a) Bad last q odd e = absurd (not_err last Damaged e)
lone_second image (Good a) (Good b) last q odd e =
    second_of_two (is_same_geometry a.geometry b.geometry) (a.sequence == next_sequence b.sequence) (b.sequence == next_sequence a.sequence) a b last (good_in image Zero a q).slot_is odd e

foreign : (slot : SlotId) (image : List Sector) → slot_sector slot < length image → sector_at image (slot_sector slot) ≡ zero_sector → SlotIs image slot Foreign
foreign slot image lt blank = inl (lt, (λ h. no_magic (subst (λ (s : Sector). HasMagic s) blank h)))

-- the other slot is cleared
keeps_last : (slot : SlotId) (last : Superblock) (before image : List Sector) → slot_number slot ≡ last.sequence % 2 → Chooses before (Ok last)
    → SameOutside (slot_sector (other_slot slot)) 1 before image → 9 ≤ length image → sector_at image (slot_sector (other_slot slot)) ≡ zero_sector → Chooses image (Ok last)
keeps_last Zero last before image is was out long blank = record {
  first = was.first;
  second = Foreign;
  first_is = SlotIs-same Zero before image was.first out.same_length (out.below 0 (omega arith)) was.first_is;
  second_is = foreign One image (omega (arith, long)) blank;
  choice_is = lone_first before was.first was.second last was.second_is (sym is) was.choice_is;
}
keeps_last One last before image is was out long blank = record {
  first = Foreign;
  second = was.second;
  first_is = foreign Zero image (omega (arith, long)) blank;
  second_is = SlotIs-same One before image was.second out.same_length (out.above 8 (omega arith)) was.second_is;
  choice_is = lone_second before was.first was.second last was.first_is (sym is) was.choice_is;
}

pub blank_no_pool : (image : List Sector) → 9 ≤ length image → IsBlank image → IsNoPool image
blank_no_pool image long blank = record {
  first = Foreign;
  second = Foreign;
  first_is = foreign Zero image (omega (arith, long)) blank.first;
  second_is = foreign One image (omega (arith, long)) blank.second;
  choice_is = refl;
}

-- one sector is as it was, or zeros
same_or_zero : (at : ℕ) (before image : List Sector) → PartlyOverlaid at (zero_sector ∷ []) before image → (image ≡ before) ⊎ (sector_at image at ≡ zero_sector)
same_or_zero at before image partly =
    let z : at + 0 ≡ at = omega arith in
    ⊎_elim
    (λ same. inl (ext_get_or [] image before partly.same_length (λ i h.
    ⊎_elim (λ lt. partly.below i lt)
    (λ past. ⊎_elim (λ gt. partly.above i (omega (arith, gt)))
    (λ no_more. let e : i ≡ at = omega (arith, past, no_more) in ap (sector_at image) e ∙ sym (ap (sector_at image) z) ∙ same ∙ ap (sector_at before) z ∙ sym (ap (sector_at before) e))
    (cases_lt at i))
    (cases_lt i at))))
    (λ is. inr (sym (ap (sector_at image) z) ∙ is))
    (partly.inside 0 (omega arith))

pub is_other : (slot other : SlotId) → (other ≡ slot → ⊥) → other ≡ other_slot slot
is_other Zero Zero h = absurd (h refl)
is_other Zero One h = refl
is_other One Zero h = refl
is_other One One h = absurd (h refl)

other_at : (slot : SlotId) (last : Superblock) → slot_number slot ≡ last.sequence % 2 → slot_sector (other_slot slot) ≡ other_sector last
other_at Zero last e = omega (arith, e)
other_at One last e = omega (arith, e)

slot_low : (slot : SlotId) → slot_sector slot ≤ 8
slot_low Zero = omega arith
slot_low One = omega arith

-- the sector of the other slot
other_stays : (slot : SlotId) (before image : List Sector) → PartlyOverlaid (slot_sector slot) (zero_sector ∷ []) before image
    → sector_at image (slot_sector (other_slot slot)) ≡ sector_at before (slot_sector (other_slot slot))
other_stays Zero before image partly = partly.above 8 (omega arith)
other_stays One before image partly = partly.below 0 (omega arith)

blank_by : (slot : SlotId) (image : List Sector) → sector_at image (slot_sector slot) ≡ zero_sector → sector_at image (slot_sector (other_slot slot)) ≡ zero_sector → IsBlank image
blank_by Zero image here there = record { first = here; second = there }
blank_by One image here there = record { first = there; second = here }

-- what a stop leaves when a slot was cleared
cleared : (slot : SlotId) (old new : DiskState) → 9 ≤ length old.cells → new ≡ after_flush true (after_write (slot_sector slot) (zero_sector ∷ []) old)
    → Leaves (λ image. PartlyOverlaid (slot_sector slot) (zero_sector ∷ []) (seen old.cells) image × (sector_at image (slot_sector slot) ≡ zero_sector)) new.cells
cleared slot old new long e =
    let at = slot_sector slot in
    let fits : at + 1 ≤ length old.cells = omega (arith, long, slot_low slot) in
    leaves_settled (λ image. PartlyOverlaid at (zero_sector ∷ []) (seen old.cells) image × (sector_at image at ≡ zero_sector)) (seen (written at (zero_sector ∷ []) old.cells)) new.cells
    (ap (λ (d : DiskState). d.cells) e)
    (PartlyOverlaid-seen at (zero_sector ∷ []) old.cells fits, sector_at-written at 0 at (zero_sector ∷ []) old.cells (omega arith) (omega arith) fits)

pub both_cleared : (slot : SlotId) (b c d : DiskState) → 9 ≤ length b.cells → 9 ≤ length c.cells
    → c ≡ after_flush true (after_write (slot_sector (other_slot slot)) (zero_sector ∷ []) b)
    → d ≡ after_flush true (after_write (slot_sector slot) (zero_sector ∷ []) c) → Leaves IsBlank d.cells
both_cleared slot b c d long longer e f image stop =
    let first = cleared (other_slot slot) b c long e (seen c.cells) (AfterStop-seen c.cells) in
    let second = cleared slot c d longer f image stop in
    blank_by slot image second.1 (other_stays slot (seen c.cells) image second.0 ∙ first.1)

-- the stops while both slots are cleared
module _ (slot : SlotId) (last : Superblock) (a : DiskState) (is : slot_number slot ≡ last.sequence % 2) (long : 9 ≤ length a.cells) (was : Leaves (λ image. Chooses image (Ok last)) a.cells) where
  abbrev Clears : List Sector → Type 0
  Clears image = IsOldPool last a.cells image ⊎ IsNoPool image

  -- the slot that was not chosen
  old_pool : (before image : List Sector) → AfterStop a.cells before → PartlyOverlaid (slot_sector (other_slot slot)) (zero_sector ∷ []) before image → IsOldPool last a.cells image
  old_pool before image stop partly =
      let at = other_at slot last is in
      let out : SameOutside (slot_sector (other_slot slot)) 1 before image = SameOutside-partly (slot_sector (other_slot slot)) 1 partly (omega arith) (omega arith) in (
        ⊎_elim {C = Chooses image (Ok last)} (λ same. subst (λ (i : List Sector). Chooses i (Ok last)) (sym same) (was before stop))
            (λ blank. keeps_last slot last before image is (was before stop) out (omega (arith, long, stop.same_length, partly.same_length)) blank)
            (same_or_zero (slot_sector (other_slot slot)) before image partly),
        (before, stop, subst (λ n. SameOutside n 1 before image) at out),
      )

  pub first_clears : (c : DiskState) → LeavesOnly a c (IsClearing (other_slot slot) a.cells) → LeavesOnly a c Clears
  first_clears c r = weakens {Q = Clears} (λ image from. inl (old_pool from.0 image from.1 from.2)) r

  pub second_clears : (c d : DiskState) → LeavesOnly a c Clears → 9 ≤ length c.cells → c ≡ after_flush true (after_write (slot_sector (other_slot slot)) (zero_sector ∷ []) a)
      → LeavesOnly c d (IsClearing slot c.cells) → LeavesOnly a d Clears
  second_clears c d r longer e s =
      joins {P = Clears} r (weakens {Q = Clears} (λ image from.
      let before = from.0 in
      let there = cleared (other_slot slot) a c long e before from.1 in
      let old = old_pool (seen a.cells) before (AfterStop-seen a.cells) there.0 in
      ⊎_elim {C = Clears image} (λ same. inl (subst (λ (i : List Sector). IsOldPool last a.cells i) (sym same) old))
      (λ blank. inr (blank_no_pool image (omega (arith, longer, from.1.same_length, from.2.same_length))
      (blank_by slot image blank (other_stays slot before image from.2 ∙ there.1))))
      (same_or_zero (slot_sector slot) before image from.2)) s)

-- the same from before the read
pub since_read : (last : Superblock) (ok : Bool) (old a d : DiskState) → a ≡ after_read ok old → Leaves (λ image. Chooses image (Ok last)) old.cells
    → LeavesOnly a d (λ image. IsOldPool last a.cells image ⊎ IsNoPool image) → LeavesOnly old d (λ image. IsOldPool last old.cells image ⊎ IsNoPool image)
since_read last ok old a d e was r =
    let same : a.cells ≡ old.cells = ap (λ (x : DiskState). x.cells) e in
    let first : LeavesOnly old old (λ image. IsOldPool last old.cells image ⊎ IsNoPool image) =
    starts old (λ image stop. inl (was image stop, (image, stop, SameOutside-none (other_sector last) 1 image))) in
    joins (goes_on_read {P = λ image. IsOldPool last old.cells image ⊎ IsNoPool image} ok first e)
    (subst (λ (cells : List Cell). LeavesOnly a d (λ image. IsOldPool last cells image ⊎ IsNoPool image)) same r)

pub read_alone : (last : Superblock) (ok : Bool) (old a : DiskState) → a ≡ after_read ok old → Leaves (λ image. Chooses image (Ok last)) old.cells
    → LeavesOnly old a (λ image. IsOldPool last old.cells image ⊎ IsNoPool image)
read_alone last ok old a e was =
    goes_on_read {P = λ image. IsOldPool last old.cells image ⊎ IsNoPool image} ok
    (starts old (λ image stop. inl (was image stop, (image, stop, SameOutside-none (other_sector last) 1 image)))) e
