-- Trusted reading: the counts of both parts of a pool, now and as the last commit kept them (own).
use Rattle.std.specs.Prelude.{◌≡◌, ℕ, ◌≤◌, ◌++◌, List, length, set, slice_index}
use Rattle.tp_model.specs.Geometry.{Geometry}
use Rattle.tp_layout.specs.declared.counts.Part.{Part}
use Rattle.tp_layout.specs.declared.counts.Part.TheVariants.{Data, Metadata}
use Rattle.tp_counts.specs.Counts.{Counts, free_count, used_count}

-- what the store of nodes keeps in memory
pub record Tm : Type 0 where
  pub geometry : Geometry
  pub metadata_now : List ℕ
  pub metadata_kept : List ℕ
  pub data_now : List ℕ
  pub data_kept : List ℕ
  pub held_root : ℕ  -- the root of a held copy of the trees; 0 where there is none

-- the counts by reference: those of the metadata blocks, then those of the data blocks
abbrev pub counts_now : Tm → List ℕ
counts_now t = t.metadata_now ++ t.data_now

abbrev pub counts_kept : Tm → List ℕ
counts_kept t = t.metadata_kept ++ t.data_kept

-- the counts of one part
abbrev pub metadata_counts : Tm → Counts
metadata_counts t = record { geometry = t.geometry; part = Metadata; now = t.metadata_now; kept = t.metadata_kept }

abbrev pub data_counts : Tm → Counts
data_counts t = record { geometry = t.geometry; part = Data; now = t.data_now; kept = t.data_kept }

abbrev pub now_of : Tm → Part → List ℕ
now_of t Metadata = t.metadata_now
now_of t Data = t.data_now

abbrev pub kept_of : Tm → Part → List ℕ
kept_of t Metadata = t.metadata_kept
kept_of t Data = t.data_kept

-- how many blocks of a part count zero, now and in the last commit
abbrev pub free_metadata : Tm → ℕ
free_metadata t = free_count (metadata_counts t)

abbrev pub free_data : Tm → ℕ
free_data t = free_count (data_counts t)

-- how many blocks of a part do not count zero now
abbrev pub used_metadata : Tm → ℕ
used_metadata t = used_count (metadata_counts t)

abbrev pub used_data : Tm → ℕ
used_data t = used_count (data_counts t)

-- the store when a commit was kept: the counts of now are those of the last commit
abbrev pub kept_now : Tm → Tm
kept_now t = record { geometry = t.geometry; metadata_now = t.metadata_now; metadata_kept = t.metadata_now; data_now = t.data_now; data_kept = t.data_now; held_root = t.held_root }

-- there is a count for each block
pub record IsSized (t : Tm) : Type 0 where
  pub metadata_now : length t.metadata_now ≡ t.geometry.metadata_blocks
  pub metadata_kept : length t.metadata_kept ≡ t.geometry.metadata_blocks
  pub data_now : length t.data_now ≡ t.geometry.data_blocks
  pub data_kept : length t.data_kept ≡ t.geometry.data_blocks

-- the two counts are those of the parts of one pool
pub record AreOfParts (g : Geometry) (metadata others : Counts) : Type 0 where
  pub metadata_geometry : metadata.geometry ≡ g
  pub metadata_part : metadata.part ≡ Metadata
  pub metadata_now : length metadata.now ≡ g.metadata_blocks
  pub metadata_kept : length metadata.kept ≡ g.metadata_blocks
  pub data_geometry : others.geometry ≡ g
  pub data_part : others.part ≡ Data
  pub data_now : length others.now ≡ g.data_blocks
  pub data_kept : length others.kept ≡ g.data_blocks
  pub few : g.metadata_blocks ≤ 65536
  pub few_data : g.data_blocks ≤ 1048576

-- the count of one block is another, by reference
pub record IsRecounted (old new : Tm) (b n : ℕ) : Type 0 where
  pub geometry : new.geometry ≡ old.geometry
  pub now : counts_now new ≡ set (counts_now old) b n
  pub kept : counts_kept new ≡ counts_kept old
  pub held_root : new.held_root ≡ old.held_root

-- no count rose, and none of the last commit changed
pub record OnlyFewer (old new : Tm) : Type 0 where
  pub geometry : new.geometry ≡ old.geometry
  pub metadata_kept : new.metadata_kept ≡ old.metadata_kept
  pub data_kept : new.data_kept ≡ old.data_kept
  pub held_root : new.held_root ≡ old.held_root
  pub metadata : (b : ℕ) → slice_index new.metadata_now b ≤ slice_index old.metadata_now b
  pub others : (b : ℕ) → slice_index new.data_now b ≤ slice_index old.data_now b

-- no block was taken, and no count of the last commit changed
pub record NoneTaken (old new : Tm) : Type 0 where
  pub geometry : new.geometry ≡ old.geometry
  pub metadata_kept : new.metadata_kept ≡ old.metadata_kept
  pub data_kept : new.data_kept ≡ old.data_kept
  pub held_root : new.held_root ≡ old.held_root
  pub metadata : (b : ℕ) → slice_index old.metadata_now b ≡ 0 → slice_index new.metadata_now b ≡ 0
  pub others : (b : ℕ) → slice_index old.data_now b ≡ 0 → slice_index new.data_now b ≡ 0

-- no count fell, and none rose from 0
pub record IsRaised (old new : Tm) : Type 0 where
  pub untaken : NoneTaken old new
  pub counts : (b : ℕ) → slice_index (counts_now old) b ≤ slice_index (counts_now new) b
