-- Trusted reading: what is printed of a pool that is looked over (own; after thin_ls, thin_dump, thin_delta and thin_trim).
use Rattle.std.specs.Prelude.{◌≡◌, ◌≢◌, ◌⊎◌, ◌*◌, ◌==◌, ◌++◌, ℕ, Bool, not, List, codes, if◌then◌else◌, Result, Ok, Err}
use Rattle.tp_model.specs.declared.refusal.Refusal.{Refusal}
use Rattle.tp_model.specs.declared.refusal.Refusal.TheVariants.{HeldRootExists}
use Rattle.tp_model.specs.Geometry.{Geometry}
use Rattle.tp_model.specs.Pool.{PlainPool}
use Rattle.tp_model.specs.Calls.{volume_blocks}
use Rattle.tp_model.specs.Clauses.{View}
use Rattle.tp_hub.specs.Streams.{StreamCall}
use Rattle.tp_listings.specs.declared.extent.Extent.{Extent}
use Rattle.tp_listings.specs.declared.extent.Usage.{Usage}
use Rattle.tp_listings.specs.Listings.{IsDelta, IsFreeList, IsListOfVolumes, IsMap}
use Rattle.tp_listings.specs.Looks.{LooksOver, ShowsStill}
use Rattle.tp_listings.specs.Refusing.{IsRefusal, IsRefusalOfAll}
use Rattle.tp_texts.specs.Json.{delta_json, runs_json, usages_json}
use Rattle.tp_texts.specs.Texts.{delta_text, runs_text, usages_text}
use Rattle.tp_reports.specs.declared.report.Report.{Report}
use Rattle.tp_reports.specs.declared.report.Report.TheVariants.{Delta, Free, Map, Volumes}
use Rattle.tp_reports.specs.Printing.{Prints}

-- the bytes of a block, and where in an image the first data block stands
abbrev pub unit_of : Geometry → ℕ
unit_of g = 512 * g.block_sectors

abbrev pub data_offset : Geometry → ℕ
data_offset g = 4096 * g.metadata_blocks

-- lines, or one line of JSON
abbrev pub runs_in : Bool → ℕ → ℕ → List Extent → List ℕ
runs_in is_json base unit extents = if is_json then runs_json base unit extents ++ codes "\n" else runs_text base unit extents

abbrev pub delta_in : Bool → ℕ → ℕ → List Extent → List ℕ
delta_in is_json unit end extents = if is_json then delta_json unit end extents ++ codes "\n" else delta_text unit end 0 extents

abbrev pub usages_in : Bool → ℕ → Bool → List Usage → List ℕ
usages_in is_json unit is_held usages = if is_json then usages_json unit is_held usages ++ codes "\n" else usages_text unit is_held usages

-- the text of a list that is exact
abbrev pub IsText : PlainPool → Report → Bool → List ℕ → Type 0
IsText s Volumes is_json text = (usages : List Usage) × IsListOfVolumes s usages × (text ≡ usages_in is_json (unit_of s.geometry) (not (s.held_root == 0)) usages)
IsText s (Map id) is_json text = (extents : List Extent) × IsMap s id extents × (text ≡ runs_in is_json 0 (unit_of s.geometry) extents)
IsText s (Delta old new) is_json text = (extents : List Extent) × IsDelta s old new extents × (text ≡ delta_in is_json (unit_of s.geometry) (volume_blocks s new) extents)
IsText s Free is_json text = (s.held_root ≡ 0) × (extents : List Extent) × IsFreeList s extents × (text ≡ runs_in is_json (data_offset s.geometry) (unit_of s.geometry) extents)

-- why none is told: as the listing of its volume, of one of its two, or of all
abbrev pub IsRefusalOf : PlainPool → Report → Refusal → Type 0
IsRefusalOf s Volumes reason = IsRefusalOfAll s reason
IsRefusalOf s (Map id) reason = IsRefusal s id reason
IsRefusalOf s (Delta old new) reason = IsRefusal s old reason ⊎ IsRefusal s new reason
IsRefusalOf s Free reason = IsRefusalOfAll s reason

module _ {D : Type 0} (view : View D) where
  -- the text of what was found is printed
  abbrev pub IsPrinted : D → D → Report → Bool → List StreamCall → List StreamCall → Result (Unit {0}) Refusal → Type 0
  IsPrinted old new report is_json calls calls' result =
      (text : List ℕ) × LooksOver view old new (Ok text) × ((s : PlainPool) → view.shows old s → IsText s report is_json text) × Prints calls calls' text result

  -- a call was refused, or there was no memory, and nothing is printed
  abbrev pub IsRefused : D → D → Report → List StreamCall → List StreamCall → Result (Unit {0}) Refusal → Type 0
  IsRefused old new report calls calls' result =
      (reason : Refusal) × (result ≡ Err reason) × LooksOver view old new {A = Unit {0}} (Err reason) × ((s : PlainPool) → view.shows old s → IsRefusalOf s report reason) × (calls' ≡ calls)

  -- free blocks are not told while a mapping is held
  abbrev pub IsHeld : D → D → Report → List StreamCall → List StreamCall → Result (Unit {0}) Refusal → Type 0
  IsHeld old new report calls calls' result =
      (report ≡ Free) × (result ≡ Err HeldRootExists) × LooksOver view old new (Ok (tt {0})) × ((s : PlainPool) → view.shows old s → s.held_root ≢ 0) × (calls' ≡ calls)

  -- A pool was looked over, and what was found is printed. It shows what it showed.
  abbrev pub Reports : D → D → Report → Bool → List StreamCall → List StreamCall → Result (Unit {0}) Refusal → Type 0
  Reports old new report is_json calls calls' result =
      ShowsStill view old new × (IsPrinted old new report is_json calls calls' result ⊎ IsRefused old new report calls calls' result ⊎ IsHeld old new report calls calls' result)
