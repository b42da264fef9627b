-- Internal: who has a data block, and what is known of the volumes that were walked so far.
use Rattle.std.specs.Prelude.{◌≡◌, ◌⊎◌, false, ◌<◌, ◌≤◌, ◌+◌, ◌==◌, ◌||◌, ℕ, if◌then◌else◌, Some, IsSome, Option, MatchOption, List, [], ◌∷◌, Result, length, set, slice_index, slice_index_or}
use Rattle.std.specs.FinMap.{entries}
use Rattle.tp_model.specs.declared.refusal.Refusal.{Refusal}
use Rattle.tp_model.specs.Pool.{PlainPool, slot_at, volume_size, volume_slots}
use Rattle.tp_model.specs.Calls.{is_failed, volume_blocks}
use Rattle.tp_model.specs.Clauses.{View}
use Rattle.tp_listings.specs.declared.extent.Usage.{Usage}
use Rattle.tp_listings.specs.Listings.{AscendFrom}
use Rattle.tp_listings.specs.Looks.{LooksOver, ShowsStill}

-- calls were made that write nothing, and what was shown is shown still
pub record IsLooked {D : Type 0} (view : View D) (old new : D) {A : Type 0} (result : Result A Refusal) : Type 0 where
  pub looks : LooksOver view old new result
  pub still : ShowsStill view old new

-- ---- the table

-- A table has a number for each data block: 0 where nobody has it, 1 where several volumes do, and for the volume at a place in the list of volumes 2 more than that place.
-- This is the number behind a slot of the volume with the number `mine`.
abbrev pub owned : ℕ → ℕ → ℕ
owned owner mine = if owner == 0 || owner == mine then mine else 1

-- the table behind some slots of that volume
abbrev pub marked : ℕ → List (ℕ × ℕ) → List ℕ → List ℕ
marked mine [] owners = owners
marked mine (s ∷ ss) owners = marked mine ss (set owners s.1 (owned (slice_index owners s.1) mine))

-- their data blocks are below this one
abbrev pub AreBelow : ℕ → List (ℕ × ℕ) → Type 0
AreBelow places [] = Unit {0}
AreBelow places (s ∷ ss) = (s.1 < places) × AreBelow places ss

-- the slots of a volume were marked, so many
pub record IsMarked (slots : List (ℕ × ℕ)) (mine mapped : ℕ) (old new : List ℕ) : Type 0 where
  pub marks : new ≡ marked mine slots old
  pub count : mapped ≡ length slots
  pub below : AreBelow (length old) slots

-- a slot of the volume has this data block
abbrev pub HasPlace : PlainPool → ℕ → ℕ → Type 0
HasPlace s id place = (block : ℕ) × (slot_at s id block ≡ Some place)

-- What a number says where of the first k volumes those have the data block of which `Has` holds: none of them, one, or several.
pub record IsNone (Has : ℕ → Type 0) (k owner : ℕ) : Type 0 where
  pub is : owner ≡ 0
  pub none : (j : ℕ) → j < k → Has j → ⊥

pub record IsOne (Has : ℕ → Type 0) (k owner : ℕ) : Type 0 where
  pub place : ℕ
  pub is : owner ≡ place + 2
  pub low : place < k
  pub has : Has place
  pub only : (j : ℕ) → j < k → Has j → j ≡ place

pub record AreSeveral (Has : ℕ → Type 0) (k owner : ℕ) : Type 0 where
  pub is : owner ≡ 1
  pub one : ℕ
  pub other : ℕ
  pub low_one : one < k
  pub low_other : other < k
  pub apart : one ≡ other → ⊥
  pub has_one : Has one
  pub has_other : Has other

abbrev pub IsOwner : (ℕ → Type 0) → ℕ → ℕ → Type 0
IsOwner Has k owner = IsNone Has k owner ⊎ (IsOne Has k owner ⊎ AreSeveral Has k owner)

-- ---- the volumes

abbrev pub blank : Usage
blank = record { id = 0; blocks = 0; mapped = 0; exclusive = 0 }

abbrev pub usage_at : List Usage → ℕ → Usage
usage_at us j = slice_index_or us j blank

-- The next volume, with how much it has mapped; what it has alone is not known yet.
pub record IsNextVolume (s : PlainPool) (from mine : ℕ) (u : Usage) (old new : List ℕ) : Type 0 where
  pub low : from ≤ u.id
  pub small : u.id < 16777216
  pub there : IsSome (volume_size s u.id)
  pub least : (id : ℕ) → from ≤ id → id < u.id → IsSome (volume_size s id) → ⊥
  pub blocks : u.blocks ≡ volume_blocks s u.id
  pub marks : IsMarked (entries (volume_slots s u.id)) mine u.mapped old new

abbrev pub IsNext : PlainPool → ℕ → ℕ → Option Usage → List ℕ → List ℕ → Type 0
IsNext s from mine found old new = (is_failed s.mode ≡ false) × MatchOption found
    ((new ≡ old) × ((id : ℕ) → from ≤ id → id < 16777216 → IsSome (volume_size s id) → ⊥))
    (λ u. IsNextVolume s from mine u old new)

-- All volumes with ids below this one were walked.
pub record IsSurvey (s : PlainPool) (from : ℕ) (us : List Usage) (owners : List ℕ) : Type 0 where
  pub ascend : AscendFrom 0 us
  pub low : (j : ℕ) → j < length us → (usage_at us j).id < from
  pub blocks : (j : ℕ) → j < length us → (usage_at us j).blocks ≡ volume_blocks s (usage_at us j).id
  pub mapped : (j : ℕ) → j < length us → (usage_at us j).mapped ≡ length (entries (volume_slots s (usage_at us j).id))
  pub there : (j : ℕ) → j < length us → IsSome (volume_size s (usage_at us j).id)
  pub all : (id : ℕ) → id < from → id < 16777216 → IsSome (volume_size s id) → (j : ℕ) × (j < length us) × ((usage_at us j).id ≡ id)
  pub inside : (j : ℕ) → j < length us → AreBelow (length owners) (entries (volume_slots s (usage_at us j).id))
  pub says : (place : ℕ) → place < length owners → IsOwner (λ j. HasPlace s (usage_at us j).id place) (length us) (slice_index owners place)
