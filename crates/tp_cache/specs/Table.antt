-- Trusted reading: a table of dirty blocks, and what it says of the two disks (own).
use Rattle.std.specs.Prelude.{◌≡◌, ◌⊎◌, ℕ, ◌+◌, ◌-◌, ◌*◌, ◌/◌, ◌%◌, ◌<◌, ◌≤◌, ◌++◌, List, [], length, take, drop, slice_index_or}
use Rattle.std.specs.List.{concat}
use Rattle.tp_model.specs.Sectors.{Sector, bytes_at}
use Rattle.tp_model.specs.Disk.{Cell, IsWellFormed, MayLeave, cell_at, newest, seen}
use Rattle.tp_cache.specs.Line.{FlushedAlike, GoesAlong, HasMoments, IsTwin, Line, WentOn}

-- the slot of a block, counted from 1; 0 for a clean one
abbrev pub slot_of : List ℕ → ℕ → ℕ
slot_of index block = slice_index_or index block 0

-- a sector on the outer disk and on the inner one; `slot` is that of its block
pub record TiedCell (slot : ℕ) (outer inner : Cell) : Type 0 where
  pub kept : inner.kept ≡ outer.kept
  pub sub : (value : Sector) → MayLeave inner value → MayLeave outer value
  pub rest : outer.later ≡ [] → inner.later ≡ []
  pub clean : slot ≡ 0 → newest inner ≡ newest outer
  pub pending : 0 < slot → outer.later ≡ [] → ⊥

pub record Tied (index : List ℕ) (outer inner : List Cell) : Type 0 where
  pub same_length : length inner ≡ length outer
  pub each : (i : ℕ) → TiedCell (slot_of index (i / 8)) (cell_at outer i) (cell_at inner i)
  -- behind the blocks of the table each sector is the same on both
  pub beyond : (i : ℕ) → 8 * length index ≤ i → cell_at inner i ≡ cell_at outer i

-- The table holds the newest values of its blocks, and all other sectors have them on the inner disk.
pub record Holds (index : List ℕ) (slots : List (List ℕ)) (outer inner : List Cell) : Type 0 where
  pub value : (block : ℕ) → 0 < slot_of index block → slice_index_or slots (slot_of index block - 1) [] ≡ bytes_at (seen outer) (8 * block) 8
  pub tied : Tied index outer inner

-- The slot is one of the last ones that were taken, so many of them; slots are taken one after the other, in a round.
abbrev pub IsRecent : ℕ → ℕ → ℕ → ℕ → Type 0
IsRecent next used room slot = ((slot < next) × (next ≤ slot + used)) ⊎ ((next ≤ slot) × (next + room ≤ slot + used))

-- the slot after this one
pub record IsAfter (room slot next : ℕ) : Type 0 where
  pub step : slot + 1 < room → next ≡ slot + 1
  pub wrap : slot + 1 ≡ room → next ≡ 0

-- the slots of dirty blocks are those taken last
pub record IsTable (index : List ℕ) (slots : List (List ℕ)) (next used : ℕ) : Type 0 where
  pub few : length slots < 65536
  pub fits : used ≤ length slots
  pub hand : next < length slots
  pub inside : (block : ℕ) → slot_of index block ≤ length slots
  pub recent : (block : ℕ) → 0 < slot_of index block → IsRecent next used (length slots) (slot_of index block - 1)

-- Blocks that have slots, dirty ones among them, have their newest bytes there, each in one of its own.
pub record IsKept (index held owners : List ℕ) (slots : List (List ℕ)) (outer : List Cell) : Type 0 where
  pub same_length : length held ≡ length index
  pub as_many : length owners ≡ length slots
  pub inside : (block : ℕ) → slot_of held block ≤ length slots
  pub agrees : (block : ℕ) → 0 < slot_of index block → slot_of held block ≡ slot_of index block
  pub owned : (block : ℕ) → 0 < slot_of held block → slice_index_or owners (slot_of held block - 1) 0 ≡ block
  pub value : (block : ℕ) → 0 < slot_of held block → slice_index_or slots (slot_of held block - 1) [] ≡ bytes_at (seen outer) (8 * block) 8

pub record IsCache (index : List ℕ) (slots : List (List ℕ)) (next used : ℕ) (line : Line) : Type 0 where
  pub twin : IsTwin line.outer line.inner
  pub well_formed : IsWellFormed line.outer.size line.outer.cells
  pub blocks : 8 * length index ≤ line.outer.size
  pub table : IsTable index slots next used
  pub holds : Holds index slots line.outer.cells line.inner.cells
  pub moments : HasMoments line

-- the block has none of these sectors
abbrev pub IsApart : ℕ → ℕ → ℕ → Type 0
IsApart at n block = (8 * block + 8 ≤ at) ⊎ (at + n ≤ 8 * block) ⊎ (n ≡ 0)

-- no block of these sectors is in the table
abbrev pub IsClean : List ℕ → ℕ → ℕ → Type 0
IsClean index at n = (i : ℕ) → at ≤ i → i < at + n → slot_of index (i / 8) ≡ 0

-- none of so many blocks from this one on is in the table
abbrev pub AreClean : List ℕ → ℕ → ℕ → Type 0
AreClean index block n = (k : ℕ) → block ≤ k → k < block + n → slot_of index k ≡ 0

-- the first blocks have their newest values on the inner disk
abbrev pub AreOut : ℕ → List Cell → List Cell → Type 0
AreOut n outer inner = (i : ℕ) → i < 8 * n → newest (cell_at inner i) ≡ newest (cell_at outer i)

-- What contracts see of a cache: also the slots of its dirty blocks and of all that have one, how many are dirty, and how many slots there are.
pub record Held : Type 0 where
  pub line : Line
  pub index : List ℕ
  pub held : List ℕ
  pub used : ℕ
  pub room : ℕ

-- n sectors from `at` on: the first k as on the outer disk, the others as on the inner one
abbrev pub mixed_bytes : List Cell → List Cell → ℕ → ℕ → ℕ → List ℕ
mixed_bytes outer inner at n k = concat (take k (drop at (seen outer)) ++ take (n - k) (drop (at + k) (seen inner)))

-- A call left the numbers of slots and of metadata blocks as they were, and at most so many dirty blocks more.
pub record IsSameTable (more : ℕ) (old new : Held) : Type 0 where
  pub room : new.room ≡ old.room
  pub blocks : length new.index ≡ length old.index
  pub used : new.used ≤ old.used + more

-- it is a block of the metadata, and not all slots have dirty ones
abbrev pub MayKeep : ℕ → ℕ → Held → Type 0
MayKeep at n cache = (at % 8 ≡ 0) × (n ≡ 4096) × (at / 8 < length cache.index) × (cache.used < cache.room)

-- A cache since another moment of it.
pub record Since (old new : Held) : Type 0 where
  pub time : WentOn old.line.under new.line.under
  pub flushed : FlushedAlike old.line new.line
  pub along : GoesAlong old.line new.line
  pub blocks : length new.index ≡ length old.index

-- The bytes are those of n blocks of the table, which follow one another from this one on.
pub record IsRun (index : List ℕ) (slots : List (List ℕ)) (block n : ℕ) (bytes : List ℕ) : Type 0 where
  pub dirty : (k : ℕ) → k < n → 0 < slot_of index (block + k)
  pub newest : (outer : List Cell) (inner : List Cell) (size : ℕ) → IsWellFormed size outer → Holds index slots outer inner → bytes ≡ bytes_at (seen outer) (8 * block) (8 * n)
  pub long : length bytes ≡ 4096 * n
