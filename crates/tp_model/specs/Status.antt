-- Trusted reading: the status lines of a pool and of a volume (own, in the manner of the kernel's thin-provisioning.rst, "Status").
use Rattle.std.specs.Prelude.{ℕ, ◌+◌, ◌-◌, ◌*◌, ◌==◌, if◌then◌else◌, List, [], ◌∷◌, ◌++◌, None, codes}
use Rattle.std.specs.Option.{option_map_or}
use Rattle.std.specs.List.{last_or}
use Rattle.std.specs.Fmt.{decimal}
use Rattle.std.specs.FinMap.{len, keys}
use Rattle.tp_model.specs.declared.mode.Mode.{Mode}
use Rattle.tp_model.specs.declared.mode.Mode.TheVariants.{Writable, ReadOnly, Failed}
use Rattle.tp_model.specs.Pool.{PlainPool, volume_slots, used}

-- parts with one space between them
abbrev pub spaced : List (List ℕ) → List ℕ
spaced [] = []
spaced (part ∷ []) = part
spaced (part ∷ next ∷ parts) = part ++ (codes " " ++ spaced (next ∷ parts))

abbrev pub fraction : ℕ → ℕ → List ℕ
fraction n total = decimal n ++ (codes "/" ++ decimal total)

abbrev pub mode_word : PlainPool → Mode → List ℕ
mode_word p Writable = if used p == p.geometry.data_blocks then codes "out_of_data_space" else codes "rw"
mode_word p ReadOnly = codes "ro"
mode_word p Failed = codes "Fail"

abbrev pub held_word : ℕ → List ℕ
held_word root = if root == 0 then codes "-" else decimal root

-- a failed pool tells nothing else
abbrev pub unless_failed : Mode → List ℕ → List ℕ
unless_failed Writable line = line
unless_failed ReadOnly line = line
unless_failed Failed line = codes "Fail"

abbrev pub pool_line : PlainPool → List ℕ
pool_line p = unless_failed p.mode (spaced (
    decimal p.transaction_id
    ∷ fraction p.meta_used p.geometry.metadata_blocks
    ∷ fraction (used p) p.geometry.data_blocks
    ∷ held_word p.held_root
    ∷ mode_word p p.mode
    ∷ codes "no_discard_passdown"
    ∷ codes "error_if_no_space"
    ∷ (if p.needs_check then codes "needs_check" else codes "-")
    ∷ codes "512" ∷ []))

-- the sectors that are mapped, and the last sector of the highest block that is
abbrev pub volume_line : PlainPool → ℕ → List ℕ
volume_line p id = unless_failed p.mode (spaced (
    decimal (len (volume_slots p id) * p.geometry.block_sectors)
    ∷ option_map_or (λ block. decimal ((block + 1) * p.geometry.block_sectors - 1)) (last_or None (keys (volume_slots p id))) (codes "-")
    ∷ []))
