-- What stands under names, and what is put there.
use Rattle.std.proofs.Common.{◌≡◌, ℕ, zero, suc, Bool, true, false, List, [], ◌∷◌, ◌++◌, length, Option, None, Some, refl, sym, ◌∙◌, ap, subst, true≢false, arith}
use Rattle.std.specs.Prelude.{bytes_eq, is_some, slice_index_or, slice_set, unwrap_or, if◌then◌else◌}
use Rattle.std.specs.Bool.{OnTrue}
use Rattle.std.proofs.lemmas.Slice.Eq.{bytes_eq-Decides}
use Rattle.tp_model.specs.Disk.{DiskState, fresh}
use Rattle.tp_model.specs.Sectors.{Sector}
use Rattle.tp_model.specs.DiskStops.{AfterStop}
use Rattle.tp_model.proofs.DiskStopLaws.{settled_keeps}
use Rattle.tp_disk.specs.Memory.{mem_state}
use Rattle.tp_disk.specs.Picks.{picked}
use Rattle.tp_disk.specs.declared.memory.MemDisk.{MemDisk}
use Rattle.tp_disk.proofs.Picks.{AfterStop-picked}
use Rattle.tp_images.specs.Deeds.{AreHonest, Closes, Deed, left_at}
use Rattle.tp_images.specs.Memory.{AreKept, AreShelved, Changes, IsHeldFor, IsNotBefore, IsPlace, Puts, found}
use Rattle.tp_images.specs.declared.shelf.Stored.{Stored}

-- a choice by a test whose value is known
yes_chosen : {A : Type 0} (b : Bool) (x y : A) → b ≡ true → (if b then x else y) ≡ x
yes_chosen true x y e = refl
yes_chosen false x y e = absurd (true≢false (sym e))

pub no_chosen : {A : Type 0} (b : Bool) (x y : A) → b ≡ false → (if b then x else y) ≡ y
no_chosen true x y e = absurd (true≢false e)
no_chosen false x y e = refl

-- the same name has the same tests
same_tests : (n a b : List ℕ) → bytes_eq a b ≡ true → bytes_eq n a ≡ bytes_eq n b
same_tests n a b e = ap (bytes_eq n) ((bytes_eq-Decides a b).0 e)

-- a name is not two that differ
not_both : (n a b : List ℕ) → bytes_eq a b ≡ false → bytes_eq n a ≡ true → bytes_eq n b ≡ true → ⊥
not_both n a b differ e f = absurd (true≢false (sym ((bytes_eq-Decides a b).1 (sym ((bytes_eq-Decides n a).0 e) ∙ (bytes_eq-Decides n b).0 f)) ∙ differ))

under_none : (name : List ℕ) (shelf : List Stored) → IsNotBefore name shelf (length shelf) → found name shelf ≡ None
unfolding found
under_none name [] first = refl
under_none name (x ∷ xs) first =
    no_chosen (bytes_eq name x.name.items) x.disk (found name xs) (first 0 x (omega arith)) ∙ under_none name xs (λ k d lt. first (suc k) d (omega (arith, lt)))

pub under_place : (name : List ℕ) (shelf : List Stored) (i : ℕ) (d : Stored) → IsPlace name shelf i → found name shelf ≡ (slice_index_or shelf i d).disk
unfolding found
under_place name [] i d place = absurd (omega (arith, place.inside))
under_place name (x ∷ xs) zero d place = yes_chosen (bytes_eq name x.name.items) x.disk (found name xs) (place.has x)
under_place name (x ∷ xs) (suc i) d place =
    no_chosen (bytes_eq name x.name.items) x.disk (found name xs) (place.first 0 x (omega arith))
    ∙ under_place name xs i d (record { inside = omega (arith, place.inside); has = place.has; first = λ k e lt. place.first (suc k) e (omega (arith, lt)) })

-- what a name's test and a place's test choose, where both are of one name or of two
module _ (n name other : List ℕ) (here there : Option MemDisk) where
  pub chosen_alike : bytes_eq name other ≡ true → (rest : Option MemDisk) → (if bytes_eq n other then here else rest) ≡ (if bytes_eq n name then here else (if bytes_eq n other then there else rest))
  chosen_alike same rest = alike (bytes_eq n other) (bytes_eq n name) (sym (same_tests n name other same))
    where
      alike : (b c : Bool) → b ≡ c → (if b then here else rest) ≡ (if c then here else (if b then there else rest))
      alike true true e = refl
      alike false false e = refl
      alike true false e = absurd (true≢false e)
      alike false true e = absurd (true≢false (sym e))

  pub chosen_apart : bytes_eq name other ≡ false → (rest : Option MemDisk) → (if bytes_eq n other then there else (if bytes_eq n name then here else rest)) ≡ (if bytes_eq n name then here else (if bytes_eq n other then there else rest))
  chosen_apart differ rest = apart (bytes_eq n other) (bytes_eq n name) (λ e f. not_both n name other differ f e)
    where
      apart : (b c : Bool) → (b ≡ true → c ≡ true → ⊥) → (if b then there else (if c then here else rest)) ≡ (if c then here else (if b then there else rest))
      apart true true e = absurd (e refl refl)
      apart true false e = refl
      apart false true e = refl
      apart false false e = refl

pub put_at : (name : List ℕ) (shelf : List Stored) (i : ℕ) (d y : Stored) → IsPlace name shelf i → y.name ≡ (slice_index_or shelf i d).name → Puts name y.disk shelf (slice_set shelf i y)
unfolding found
put_at name [] i d y place same n = absurd (omega (arith, place.inside))
put_at name (x ∷ xs) zero d y place same n =
    ap (λ (t : List ℕ). if bytes_eq n t then y.disk else found n xs) (ap (λ v. v.items) same) ∙ chosen_alike n name x.name.items y.disk x.disk (place.has x) (found n xs)
put_at name (x ∷ xs) (suc i) d y place same n =
    let behind = put_at name xs i d y (record { inside = omega (arith, place.inside); has = place.has; first = λ k e lt. place.first (suc k) e (omega (arith, lt)) }) same n in
    ap (λ o. if bytes_eq n x.name.items then x.disk else o) behind ∙ chosen_apart n name x.name.items y.disk x.disk (place.first 0 x (omega arith)) (found n xs)

pub put_behind : (name : List ℕ) (shelf : List Stored) (y : Stored) → IsNotBefore name shelf (length shelf) → y.name.items ≡ name → Puts name y.disk shelf (shelf ++ y ∷ [])
unfolding found
put_behind name [] y first same n = ap (λ t. if bytes_eq n t then y.disk else None) same
put_behind name (x ∷ xs) y first same n =
    ap (λ o. if bytes_eq n x.name.items then x.disk else o) (put_behind name xs y (λ k d lt. first (suc k) d (omega (arith, lt))) same n)
    ∙ chosen_apart n name x.name.items y.disk x.disk (first 0 x (omega arith)) (found n xs)

-- nothing stands under a name that has no place
pub put_none : (name : List ℕ) (shelf : List Stored) → IsNotBefore name shelf (length shelf) → Puts name None shelf shelf
put_none name shelf first n = nothing (bytes_eq n name) (λ e. ap (λ t. found t shelf) ((bytes_eq-Decides n name).0 e) ∙ under_none name shelf first)
  where
    nothing : (b : Bool) → (b ≡ true → found n shelf ≡ None) → found n shelf ≡ (if b then None else found n shelf)
    nothing true none = none refl
    nothing false none = refl

-- ---- what stands for another disk

held_same : (disk : MemDisk) → IsHeldFor (mem_state disk) (mem_state disk)
held_same disk = record { honest = disk.honest; size = refl; leaves = λ image stop. stop }

pub held_through : {a b c : DiskState} → IsHeldFor a b → IsHeldFor b c → IsHeldFor a c
held_through h k = record { honest = k.honest; size = k.size ∙ h.size; leaves = λ image stop. h.leaves image (k.leaves image stop) }

pub held_fresh : (before : MemDisk) (image : List Sector) (after : DiskState) → after ≡ fresh image → AfterStop (mem_state before).cells image → IsHeldFor (mem_state before) after
held_fresh before image after e stop = subst (λ d. IsHeldFor (mem_state before) d) (sym e) (record {
  honest = refl;
  size = stop.same_length ∙ before.well_formed.size_is;
  leaves = λ left behind. subst (λ i. AfterStop (mem_state before).cells i) (sym (settled_keeps image left behind)) stop;
})

held_stopped : (before after : MemDisk) (picks : List ℕ) → mem_state after ≡ fresh (picked (mem_state before).cells picks) → IsHeldFor (mem_state before) (mem_state after)
held_stopped before after picks e = held_fresh before (picked (mem_state before).cells picks) (mem_state after) e (AfterStop-picked (mem_state before).cells picks)

some_is : {A : Type 0} (a b : A) → Some a ≡ Some b → a ≡ b
some_is a b e = ap (λ o. unwrap_or o a) e

pub unchanged : (disk : Option MemDisk) → Changes disk disk
unchanged disk after e = (after, e, held_same after)

pub changed_to : (was : Option MemDisk) (before after : MemDisk) → was ≡ Some before → IsHeldFor (mem_state before) (mem_state after) → Changes was (Some after)
changed_to was before after e held other is = (before, e, subst (λ (d : MemDisk). IsHeldFor (mem_state before) (mem_state d)) (some_is after other is) held)

pub stopped_to : (was : Option MemDisk) (before after : MemDisk) (picks : List ℕ) → was ≡ Some before → mem_state after ≡ fresh (picked (mem_state before).cells picks) → Changes was (Some after)
stopped_to was before after picks e is = changed_to was before after e (held_stopped before after picks is)

pub failing_to : (was : Option MemDisk) (before after : MemDisk) → was ≡ Some before → mem_state after ≡ mem_state before → Changes was (Some after)
failing_to was before after e is = changed_to was before after e (subst (λ s. IsHeldFor (mem_state before) s) (sym is) (held_same before))

-- ---- what is kept

-- what is found where something was put
found_put : {P : Type 0} (b : Bool) (here rest : Option MemDisk) (disk : MemDisk) → (if b then here else rest) ≡ Some disk → (b ≡ true → here ≡ Some disk → P) → (b ≡ false → rest ≡ Some disk → P) → P
found_put true here rest disk e at behind = at refl e
found_put false here rest disk e at behind = behind refl e

pub left_put : {P : Type 0} (b : Bool) (here rest : Option DiskState) (closed : DiskState) → (if b then here else rest) ≡ Some closed → (b ≡ true → here ≡ Some closed → P) → (b ≡ false → rest ≡ Some closed → P) → P
left_put true here rest closed e at behind = at refl e
left_put false here rest closed e at behind = behind refl e

pub no_disk : {A P : Type 0} (a : A) → None ≡ Some a → P
no_disk a e = absurd (true≢false (sym (ap is_some e)))

kept_new : (deeds : List Deed) (shelf : List Stored) → shelf ≡ [] → AreKept deeds shelf
unfolding found
kept_new deeds shelf none name disk closed at left honest = no_disk disk (sym (ap (found name) none) ∙ at)

pub shelved_new : (deeds : List Deed) (shelf : List Stored) → deeds ≡ [] → shelf ≡ [] → AreShelved deeds shelf
shelved_new deeds shelf none empty = record { kept = kept_new deeds shelf empty; honest = subst AreHonest (sym none) tt }

-- one place is changed
pub kept_changed : (deeds : List Deed) (name : List ℕ) (shelf : List Stored) (i : ℕ) (d y : Stored) → IsPlace name shelf i → y.name ≡ (slice_index_or shelf i d).name
    → Changes (slice_index_or shelf i d).disk y.disk → AreKept deeds shelf → AreKept deeds (slice_set shelf i y)
kept_changed deeds name shelf i d y place same changes kept n disk closed at left honest =
    found_put (bytes_eq n name) y.disk (found n shelf) disk (sym (put_at name shelf i d y place same n) ∙ at)
    (λ yes is. let was = changes disk is in
    let here : found n shelf ≡ Some was.0 = ap (λ t. found t shelf) ((bytes_eq-Decides n name).0 yes) ∙ under_place name shelf i d place ∙ was.1 in
    held_through (kept n was.0 closed here left honest) was.2)
    (λ no is. kept n disk closed is left honest)

-- nothing stands under a name any more, and of others no less is known
pub kept_taken : (deeds deeds' : List Deed) (name : List ℕ) (old new : List Stored) → Puts name None old new → AreKept deeds old
    → ((n : List ℕ) (closed : DiskState) → bytes_eq n name ≡ false → left_at n deeds' ≡ Some closed → left_at n deeds ≡ Some closed) → AreKept deeds' new
kept_taken deeds deeds' name old new puts kept less n disk closed at left honest =
    found_put (bytes_eq n name) None (found n old) disk (sym (puts n) ∙ at) (λ yes is. no_disk disk is) (λ no is. kept n disk closed is (less n closed no left) honest)

-- a disk is put under the name by which it was closed
pub kept_closed : (deeds : List Deed) (name : List ℕ) (disk : MemDisk) (old new : List Stored) → Puts name (Some disk) old new → AreKept deeds old → AreKept (Closes name (mem_state disk) ∷ deeds) new
unfolding left_at
kept_closed deeds name disk old new puts kept n other closed at left honest =
    found_put (bytes_eq n name) (Some disk) (found n old) other (sym (puts n) ∙ at)
    (λ yes is. let state : mem_state disk ≡ closed = some_is (mem_state disk) closed (sym (yes_chosen (bytes_eq n name) (Some (mem_state disk)) (left_at n deeds) yes) ∙ left) in
    subst (λ (s : DiskState). IsHeldFor s (mem_state other)) state (subst (λ (d : MemDisk). IsHeldFor (mem_state disk) (mem_state d)) (some_is disk other is) (held_same disk)))
    (λ no is. kept n other closed is (sym (no_chosen (bytes_eq n name) (Some (mem_state disk)) (left_at n deeds) no) ∙ left) honest)

-- ---- as the calls tell it: the slice that was searched, and the value at the place that was found

pub change_at : (name : List ℕ) (slice shelf : List Stored) (i : ℕ) (x y : Stored) → slice ≡ shelf → IsPlace name slice i → x ≡ slice_index_or shelf i x → y.name ≡ x.name → Changes x.disk y.disk
    → (deeds : List Deed) → AreKept deeds shelf → AreKept deeds (slice_set shelf i y)
change_at name slice shelf i x y same place at called changes deeds kept =
    kept_changed deeds name shelf i x y (subst (λ (l : List Stored). IsPlace name l i) same place) (called ∙ ap (λ (s : Stored). s.name) at)
    (subst (λ (s : Stored). Changes s.disk y.disk) at changes) kept

pub found_at : (name : List ℕ) (slice shelf : List Stored) (i : ℕ) (x : Stored) → slice ≡ shelf → IsPlace name slice i → x ≡ slice_index_or shelf i x → x.disk ≡ found name shelf
found_at name slice shelf i x same place at = ap (λ (s : Stored). s.disk) at ∙ sym (under_place name shelf i x (subst (λ (l : List Stored). IsPlace name l i) same place))

pub puts_at : (name : List ℕ) (slice shelf : List Stored) (i : ℕ) (x y : Stored) (disk : Option MemDisk) → slice ≡ shelf → IsPlace name slice i → x ≡ slice_index_or shelf i x → y.name ≡ x.name → y.disk ≡ disk
    → Puts name disk shelf (slice_set shelf i y)
puts_at name slice shelf i x y disk same place at called is =
    subst (λ (d : Option MemDisk). Puts name d shelf (slice_set shelf i y)) is
    (put_at name shelf i x y (subst (λ (l : List Stored). IsPlace name l i) same place) (called ∙ ap (λ (s : Stored). s.name) at))

-- no place has the name
pub absent_in : (name : List ℕ) (slice shelf : List Stored) → slice ≡ shelf → IsNotBefore name slice (length slice) → IsNotBefore name shelf (length shelf)
absent_in name slice shelf same first = subst (λ (l : List Stored). IsNotBefore name l (length l)) same first

pub absent_found : (name : List ℕ) (slice shelf : List Stored) → slice ≡ shelf → IsNotBefore name slice (length slice) → None ≡ found name shelf
absent_found name slice shelf same first = sym (under_none name shelf (absent_in name slice shelf same first))

pub absent_puts : (name : List ℕ) (slice shelf : List Stored) → slice ≡ shelf → IsNotBefore name slice (length slice) → Puts name None shelf shelf
absent_puts name slice shelf same first = put_none name shelf (absent_in name slice shelf same first)

pub put_pushed : (ok : Bool) (name : List ℕ) (y : Stored) (disk : Option MemDisk) (old new : List Stored) → new ≡ (if ok then old ++ y ∷ [] else old) → IsNotBefore name old (length old) → y.name.items ≡ name → y.disk ≡ disk
    → OnTrue ok (Puts name disk old new)
put_pushed true name y disk old new e first same is =
    subst (λ (l : List Stored). Puts name disk old l) (sym e) (subst (λ (d : Option MemDisk). Puts name d old (old ++ y ∷ [])) is (put_behind name old y first same))
put_pushed false name y disk old new e first same is = tt
