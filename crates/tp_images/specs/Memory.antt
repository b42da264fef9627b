-- Internal: what images in memory hold.
use Rattle.std.specs.Prelude.{◌≡◌, ◌<◌, ℕ, IsTrue, true, false, List, [], ◌∷◌, length, Option, None, Some, Result, MatchResult, replicate, bytes_eq, slice_index_or, if◌then◌else◌}
use Rattle.tp_model.specs.Sectors.{zero_sector}
use Rattle.tp_model.specs.Disk.{DiskState, fresh, seen}
use Rattle.tp_model.specs.DiskStops.{AfterStop, Leaves}
use Rattle.tp_disk.specs.Memory.{mem_state}
use Rattle.tp_disk.specs.declared.memory.MemDisk.{MemDisk}
use Rattle.tp_images.specs.Deeds.{AreHonest, Deed, left_at}
use Rattle.tp_images.specs.declared.shelf.Stored.{Stored}

-- the disk that stands under a name, in the first place that has the name
unfoldable pub found : List ℕ → List Stored → Option MemDisk
found name [] = None
found name (x ∷ xs) = if bytes_eq name x.name.items then x.disk else found name xs

-- no place before this one has the name
abbrev pub IsNotBefore : List ℕ → List Stored → ℕ → Type 0
IsNotBefore name shelf i = (k : ℕ) (d : Stored) → k < i → bytes_eq name (slice_index_or shelf k d).name.items ≡ false

-- the first place that has the name
pub record IsPlace (name : List ℕ) (shelf : List Stored) (i : ℕ) : Type 0 where
  pub inside : i < length shelf
  pub has : (d : Stored) → bytes_eq name (slice_index_or shelf i d).name.items ≡ true
  pub first : IsNotBefore name shelf i

-- This stands under the name, and what stood under others does still.
abbrev pub Puts : List ℕ → Option MemDisk → List Stored → List Stored → Type 0
Puts name disk old new = (n : List ℕ) → found n new ≡ (if bytes_eq n name then disk else found n old)

-- A disk that stands for another one: a stop leaves of it what it may leave of that one.
pub record IsHeldFor (old new : DiskState) : Type 0 where
  pub honest : IsTrue new.is_honest
  pub size : new.size ≡ old.size
  pub leaves : Leaves (AfterStop old.cells) new.cells

-- what is there now stands for what was there
abbrev pub Changes : Option MemDisk → Option MemDisk → Type 0
Changes old new = (after : MemDisk) → new ≡ Some after → (before : MemDisk) × (old ≡ Some before) × IsHeldFor (mem_state before) (mem_state after)

-- What stands under a name stands for what was closed by it.
abbrev pub AreKept : List Deed → List Stored → Type 0
AreKept deeds shelf = (name : List ℕ) (disk : MemDisk) (closed : DiskState) → found name shelf ≡ Some disk → left_at name deeds ≡ Some closed → IsTrue closed.is_honest → IsHeldFor closed (mem_state disk)

-- What is known of images in memory.
pub record AreShelved (deeds : List Deed) (shelf : List Stored) : Type 0 where
  pub kept : AreKept deeds shelf
  pub honest : AreHonest deeds

-- The disk of a name is handed out as it is when it is opened anew; or there is none. Nothing stands under the name behind it.
abbrev pub HandsOver : {E : Type 0} → List ℕ → List Stored → List Stored → Result MemDisk E → Type 0
HandsOver name old new result = Puts name None old new × MatchResult result
    (λ disk. (stored : MemDisk) × (found name old ≡ Some stored) × (mem_state disk ≡ fresh (seen (mem_state stored).cells)))
    (λ error. Unit {0})

-- A disk of so many zeros is made, and nothing stands under the name behind it; or nothing is changed.
abbrev pub IsNew : {E : Type 0} → List ℕ → List Stored → List Stored → ℕ → Result MemDisk E → Type 0
IsNew name old new sectors result = MatchResult result
    (λ disk. Puts name None old new × (mem_state disk ≡ fresh (replicate sectors zero_sector)))
    (λ error. new ≡ old)
