-- Trusted reading: a new pool for what it is to hold (own; its sizes are those of `tp_sizing`).
use Rattle.std.specs.Prelude.{◌≡◌, ◌⊎◌, ◌<◌, ℕ, IsTrue, Bool, false, List, Result, Ok, Err, MatchBool, MatchResult}
use Rattle.tp_model.specs.declared.refusal.Refusal.{Refusal}
use Rattle.tp_model.specs.declared.refusal.Refusal.TheVariants.{BadGeometry, Exists, Fault}
use Rattle.tp_model.specs.Geometry.{Geometry}
use Rattle.tp_hub.specs.Streams.{StreamCall}
use Rattle.tp_model.specs.Disk.{DiskState, after_read, seen}
use Rattle.tp_devices.specs.Heads.{IsForeign, IsFree}
use Rattle.tp_images.specs.Deeds.{Deed, NotOpened, OnImage}
use Rattle.tp_images.specs.declared.way.Way.TheVariants.{ToRead}
use Rattle.tp_sizing.specs.declared.wanted.Unfit.{Unfit}
use Rattle.tp_sizing.specs.declared.wanted.Wanted as sizing
use Rattle.tp_sizing.specs.Sizing.{IsSizedFor, IsUnfit}
use Rattle.tp_tasks.specs.declared.task.Sizes.{Sizes}
use Rattle.tp_tasks.specs.declared.task.Wanted.{Wanted}
use Rattle.tp_texts.specs.Texts.{sizes_text}
use Rattle.tp_commands.specs.Asking.{FormatsAsked}
use Rattle.tp_commands.specs.Images.{IsFormatted}
use Rattle.tp_commands.specs.Printing.{Prints}

-- the sizes of a pool as words give them, and what is wanted
abbrev pub sizes_of : Geometry → Sizes
sizes_of g = record { block_sectors = g.block_sectors; virtual_blocks = g.virtual_blocks; metadata_blocks = g.metadata_blocks; data_blocks = g.data_blocks }

abbrev pub wanted_of : Wanted → sizing.Wanted
wanted_of w = record { size = w.size; volume_size = w.volume_size; volumes = w.volumes; block_size = w.block_size }

-- What a disk holds may be lost: it has no sector, or its head is zeros or a pool's.
abbrev pub IsOwn : DiskState → Type 0
IsOwn disk = (disk.size ≡ 0) ⊎ (IsTrue disk.is_honest → IsFree (seen disk.cells))

-- It is somebody else's: it is too short for a pool, or its head is neither.
abbrev pub IsOther : DiskState → Type 0
IsOther disk = (disk.size < 16) ⊎ (IsTrue disk.is_honest → IsForeign (seen disk.cells))

-- It is looked at, and left as it is.
abbrev pub Judges : Result (Unit {0}) Refusal → DiskState → DiskState → Type 0
Judges result before after =
    ((result ≡ Ok (tt {0})) × IsOwn before × (after ≡ before))
    ⊎ ((result ≡ Err Exists) × IsOther before × (after ≡ before))
    ⊎ ((result ≡ Err Fault) × (after ≡ after_read false before))

-- What stands under a name is looked at. Where it cannot be opened, as one that is not there, nothing is known of it.
abbrev pub Looks : List ℕ → List Deed → List Deed → Result (Unit {0}) Refusal → Type 0
Looks name old new result = (NotOpened ToRead name old new × (result ≡ Ok (tt {0}))) ⊎ OnImage ToRead name old new (Judges result)

-- The sizes are printed, and a pool of them is made as `format` makes one; or they cannot be printed, and nothing is done.
abbrev pub CreatesSized : Bool → List ℕ → Geometry → Bool → List Deed → List Deed → List StreamCall → List StreamCall → Result (Unit {0}) Refusal → Type 0
CreatesSized asks name g overwrites old new calls calls' result =
    (between : List StreamCall) × (printed : Result (Unit {0}) Refusal) × Prints calls between (sizes_text g) printed
    × MatchResult printed
    (λ _. MatchBool asks (FormatsAsked name (sizes_of g) overwrites old new between calls' result) (IsFormatted name (sizes_of g) overwrites old new between calls' result))
    (λ reason. (result ≡ Err reason) × (new ≡ old) × (calls' ≡ between))

-- Unless it is overwritten whatever it holds, the image is looked at first. What is somebody else's is left as it is, and nothing is printed.
abbrev pub CreatesThere : Bool → List ℕ → Geometry → Bool → List Deed → List Deed → List StreamCall → List StreamCall → Result (Unit {0}) Refusal → Type 0
CreatesThere asks name g overwrites old new calls calls' result =
    ((overwrites ≡ false) × (reason : Refusal) × (result ≡ Err reason) × Looks name old new (Err reason) × (calls' ≡ calls))
    ⊎ ((between : List Deed) × MatchBool overwrites (between ≡ old) (Looks name old between (Ok (tt {0}))) × CreatesSized asks name g overwrites between new calls calls' result)

-- What no pool holds is refused, and nothing is done; else the pool has the sizes for it.
abbrev pub Creates : Bool → List ℕ → Wanted → Bool → List Deed → List Deed → List StreamCall → List StreamCall → Result (Unit {0}) Refusal → Type 0
Creates asks name wanted overwrites old new calls calls' result =
    ((unfit : Unfit) × IsUnfit (wanted_of wanted) unfit × (result ≡ Err BadGeometry) × (new ≡ old) × (calls' ≡ calls))
    ⊎ ((g : Geometry) × IsSizedFor (wanted_of wanted) g × CreatesThere asks name g overwrites old new calls calls' result)
