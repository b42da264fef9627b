-- Internal: what a status line tells is true of a pool.
use Rattle.std.specs.Prelude.{◌≡◌, ℕ, ◌+◌, ◌-◌, ◌*◌, ◌==◌, if◌then◌else◌, List, [], ◌∷◌, Bool, Option, None, Some, codes}
use Rattle.std.specs.List.{last_or}
use Rattle.std.specs.FinMap.{len, keys}
use Rattle.tp_model.specs.declared.mode.Mode.{Mode}
use Rattle.tp_model.specs.declared.mode.Mode.TheVariants.{Writable, ReadOnly, Failed}
use Rattle.std.specs.Fmt.{decimal}
use Rattle.std.specs.Option.{option_map_or}
use Rattle.tp_model.specs.Status.{held_word, spaced, fraction, unless_failed}
use Rattle.tp_model.specs.Pool.{PlainPool, volume_slots, used}
use Rattle.tp_msg.specs.declared.status.PoolStatus.{PoolStatus}
use Rattle.tp_msg.specs.declared.status.VolumeStatus.{VolumeStatus}

pub record TellsPool (told : PoolStatus) (p : PlainPool) : Type 0 where
  pub transaction_id : p.transaction_id ≡ told.transaction_id
  pub used_metadata : p.meta_used ≡ told.used_metadata
  pub metadata_blocks : p.geometry.metadata_blocks ≡ told.metadata_blocks
  pub used_data : used p ≡ told.used_data
  pub data_blocks : p.geometry.data_blocks ≡ told.data_blocks
  pub mode : p.mode ≡ told.mode
  pub needs_check : p.needs_check ≡ told.needs_check
  pub held_root : p.held_root ≡ told.held_root

pub record TellsVolume (told : VolumeStatus) (p : PlainPool) (id : ℕ) : Type 0 where
  pub mode : p.mode ≡ told.mode
  pub block_sectors : p.geometry.block_sectors ≡ told.block_sectors
  pub mapped_blocks : len (volume_slots p id) ≡ told.mapped_blocks
  pub highest_block : last_or None (keys (volume_slots p id)) ≡ told.highest_block

abbrev pub word_of : Mode → ℕ → ℕ → List ℕ
word_of Writable used total = if used == total then codes "out_of_data_space" else codes "rw"
word_of ReadOnly used total = codes "ro"
word_of Failed used total = codes "Fail"

abbrev pub mode_word : PoolStatus → List ℕ
mode_word told = word_of told.mode told.used_data told.data_blocks

abbrev pub check_word : Bool → List ℕ
check_word needs_check = if needs_check then codes "needs_check" else codes "-"

-- the line of a pool that is not failed, of these fields
abbrev pub line_of : ℕ → List ℕ → List ℕ → List ℕ → List ℕ → List ℕ → List ℕ
line_of id metadata data_part held mode check = spaced (
    decimal id ∷ metadata ∷ data_part ∷ held ∷ mode ∷ codes "no_discard_passdown" ∷ codes "error_if_no_space" ∷ check ∷ codes "512" ∷ [])

abbrev pub open_line : PoolStatus → List ℕ
open_line told =
    line_of told.transaction_id (fraction told.used_metadata told.metadata_blocks) (fraction told.used_data told.data_blocks) (held_word told.held_root) (mode_word told) (check_word told.needs_check)

-- the first three fields
abbrev pub figures : PoolStatus → List ℕ
figures told =
    spaced (decimal told.transaction_id ∷ fraction told.used_metadata told.metadata_blocks ∷ fraction told.used_data told.data_blocks ∷ [])

-- the line of a volume whose mapped blocks have so many sectors, with the last of its highest block
abbrev pub open_volume_line : ℕ → Option ℕ → List ℕ
open_volume_line mapped highest = spaced (decimal mapped ∷ option_map_or decimal highest (codes "-") ∷ [])

-- the lines of these figures: of a failed pool, nothing but that
abbrev pub status_line : PoolStatus → List ℕ
status_line told = unless_failed told.mode (open_line told)

abbrev pub last_sector : ℕ → Option ℕ → Option ℕ
last_sector block_sectors None = None
last_sector block_sectors (Some block) = Some ((block + 1) * block_sectors - 1)

abbrev pub thin_line : VolumeStatus → List ℕ
thin_line told = unless_failed told.mode (open_volume_line (told.mapped_blocks * told.block_sectors) (last_sector told.block_sectors told.highest_block))
