-- Trusted reading: what is printed of the pool of an image that is looked over (own).
use Rattle.std.specs.Prelude.{◌≡◌, ◌⊎◌, ◌≤◌, ℕ, Bool, List, Result, Err}
use Rattle.tp_model.specs.declared.refusal.Refusal.{Refusal}
use Rattle.tp_model.specs.declared.refusal.Refusal.TheVariants.{BadDeviceId}
use Rattle.tp_model.specs.Disk.{DiskState}
use Rattle.tp_hub.specs.Streams.{StreamCall}
use Rattle.tp_images.specs.Deeds.{Deed}
use Rattle.tp_images.specs.declared.way.Way.TheVariants.{ToRead}
use Rattle.tp_meta.specs.Standing.{StandsFor, changed_of, geometry_of, marks_of, room_of}
use Rattle.tp_served.specs.Served.{cached}
use Rattle.tp_reports.specs.declared.report.Report.{Report}
use Rattle.tp_reports.specs.declared.report.Report.TheVariants as reports
use Rattle.tp_reports.specs.Reports.{Reports}
use Rattle.tp_tasks.specs.declared.task.Listing.{Listing}
use Rattle.tp_tasks.specs.declared.task.Listing.TheVariants.{Delta, Free, Map, Volumes}
use Rattle.tp_commands.specs.Images.{OnName, OnPool}

abbrev pub ReportsOn : Report → Bool → List StreamCall → List StreamCall → Result (Unit {0}) Refusal → DiskState → DiskState → Type 0
ReportsOn report is_json calls calls' result before after =
    OnPool (λ old new. Reports (cached geometry_of StandsFor marks_of room_of changed_of) old new report is_json calls calls' result) calls calls' result before after

abbrev pub IsReported : List ℕ → Report → Bool → List Deed → List Deed → List StreamCall → List StreamCall → Result (Unit {0}) Refusal → Type 0
IsReported name report is_json old new calls calls' result = OnName ToRead name old new calls calls' result (ReportsOn report is_json calls calls' result)

-- the report that is asked for, where the numbers are ids of volumes
abbrev pub report_of : Listing → Report
report_of Volumes = reports.Volumes
report_of (Map id) = reports.Map id
report_of (Delta old new) = reports.Delta old new
report_of Free = reports.Free

-- one of the numbers is no volume's id
abbrev pub HasNoId : Listing → Type 0
HasNoId Volumes = ⊥
HasNoId (Map id) = 16777216 ≤ id
HasNoId (Delta old new) = (16777216 ≤ old) ⊎ (16777216 ≤ new)
HasNoId Free = ⊥

-- Such a number is refused before the image is asked for.
abbrev pub AsksReport : List ℕ → Listing → Bool → List Deed → List Deed → List StreamCall → List StreamCall → Result (Unit {0}) Refusal → Type 0
AsksReport name listing is_json old new calls calls' result =
    (HasNoId listing × (result ≡ Err BadDeviceId) × (new ≡ old) × (calls' ≡ calls)) ⊎ IsReported name (report_of listing) is_json old new calls calls' result
