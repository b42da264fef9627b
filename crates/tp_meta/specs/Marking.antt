-- Internal: marks, where they were set, and the slots of a device, piece by piece (own).
use Rattle.std.specs.Prelude.{◌≡◌, ◌⊎◌, ℕ, zero, suc, ◌<◌, ◌^◌, ◌++◌, ◌∷◌, [], Bool, false, true, List, Option, None, Some, if◌then◌else◌, length, min, nat_lt, set, slice_index_or, take}
use Rattle.std.specs.Option.{option_map}
use Rattle.tp_sharing.specs.Volumes.{BlockSlot, SlotsAscend, place_in}
use Rattle.tp_mapping.specs.Mapping.{from_block}
use Rattle.tp_mapping.specs.declared.mapped.Mapped.{Mapped}
use Rattle.tp_meta.specs.Metadata.{marked}

-- The virtual blocks of the slots ascend, and a volume may have them.
pub record AreOrdered (slots : List BlockSlot) : Type 0 where
  pub ascend : SlotsAscend 0 slots
  pub below : (block place : ℕ) → place_in block slots ≡ Some place → block < 2 ^ 24

-- this is the first piece of the slots from a virtual block on
abbrev pub IsPiece : ℕ → List BlockSlot → List BlockSlot → Type 0
IsPiece from slots piece = piece ≡ take 252 (from_block from slots)

-- the slots from a virtual block on are a piece, and those from another one on
abbrev pub AreCutAt : ℕ → ℕ → List BlockSlot → List BlockSlot → Type 0
AreCutAt from next slots piece = from_block from slots ≡ piece ++ from_block next slots

-- the marks when the data blocks of the first n places were lost
abbrev pub marked_places : ℕ → List (Option Mapped) → List Bool → List Bool
marked_places zero places marks = marks
marked_places (suc n) places marks = marked (option_map (λ (at : Mapped). at.place) (slice_index_or places n None)) (marked_places n places marks)

-- one of these places
abbrev pub IsOneOf : ℕ → List ℕ → Type 0
IsOneOf n [] = ⊥
IsOneOf n (p ∷ ps) = (n ≡ p) ⊎ IsOneOf n ps

-- marks are set at these places alone
abbrev pub AreAmong : List ℕ → List Bool → Type 0
AreAmong places marks = (n : ℕ) → slice_index_or marks n false ≡ true → IsOneOf n places

-- Where fewer than 4096 places are listed, marks are set there alone.
abbrev pub AreFollowed : List Bool → List ℕ → Type 0
AreFollowed marks places = length places < 4096 → AreAmong places marks

-- how many marks are set
abbrev pub marks_set : List Bool → ℕ
marks_set [] = 0
marks_set (true ∷ marks) = suc (marks_set marks)
marks_set (false ∷ marks) = marks_set marks

-- Marks are set at the places listed alone, where these are fewer than 4096; and as many are listed as are set, or 4096 where more are. So none is listed twice.
pub record AreListed (marks : List Bool) (places : List ℕ) : Type 0 where
  pub follow : AreFollowed marks places
  pub count : length places ≡ min 4096 (marks_set marks)

-- the places when a mark was set, at most 4096
abbrev pub listed_with : ℕ → List ℕ → List ℕ
listed_with place places = if nat_lt (length places) 4096 then places ++ (place ∷ []) else places

-- the marks when those at these places were cleared
abbrev pub cleared : List Bool → List ℕ → List Bool
cleared marks [] = marks
cleared marks (p ∷ ps) = cleared (set marks p false) ps
