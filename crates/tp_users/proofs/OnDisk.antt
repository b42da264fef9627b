-- A pool on its disk itself: all that is said of it, and that one that was formatted is one that was opened. And a disk that was stopped.
use Rattle.std.proofs.Common.{◌≡◌, List, refl, sym, ap, subst}
use Rattle.tp_model.specs.Sectors.{Sector}
use Rattle.tp_model.specs.Geometry.{Geometry}
use Rattle.tp_model.specs.Clauses.{IsOpened, View, ViewLaws}
use Rattle.tp_model.specs.Disk.{DiskState, fresh, seen, settled}
use Rattle.tp_model.specs.DiskStops.{AfterStop}
use Rattle.tp_model.proofs.DiskLaws.{seen-settled}
use Rattle.tp_model.proofs.DiskStopLaws.{AfterStop-seen}
use Rattle.tp_image.specs.Fresh.{IsFreshOf, empty_pool}
use Rattle.tp_meta.specs.declared.whole.Meta.{Meta}
use Rattle.tp_meta.specs.Standing as metadata
use Rattle.tp_meta.specs.Standing.{changed_of, geometry_of, marks_of, room_of}
use Rattle.tp_meta.specs.Framing.{stands_bounded, stands_one, stands_trees, stands_within}
use Rattle.tp_pool.specs.Flushes.{laws, served}
use Rattle.tp_pool.specs.Held.{Held}
use Rattle.tp_pool.proofs.Ranges.{law_within}
use Rattle.tp_users.specs.Lives.{IsOpenedAs, IsStopped}
use Rattle.tp_users.proofs.Given.{FreshLaw, RestLaw, Shows, formatted_stands}

abbrev pub All : View (Held Meta)
All = served geometry_of metadata.StandsFor marks_of room_of changed_of

pub laws_on : ViewLaws All
laws_on = laws geometry_of metadata.StandsFor marks_of room_of changed_of (λ m disk now kept p st has. stands_trees m disk now kept p st has) (law_within stands_within) (λ m disk now kept st. stands_bounded m disk now kept st)
    (λ m disk now kept next last st then. stands_one m disk now kept next last st then)

-- a pool that was formatted is opened from the image that stands on its disk
pub opened_new : (h : Held Meta) (g : Geometry) → FreshLaw → RestLaw → geometry_of h.metadata ≡ g → IsFreshOf g (seen h.disk.cells) → Shows h (empty_pool g) → IsOpened All (seen h.disk.cells) h → IsOpenedAs All (empty_pool g) h
opened_new h g fresh_law rest_law same is_fresh shown opened =
    let image = seen h.disk.cells in
    record { image = image; stands = formatted_stands h g image fresh_law rest_law same is_fresh shown (AfterStop-seen h.disk.cells); opened = opened }

-- ---- a disk that was stopped

-- a disk with the image that a stop left
pub stopped_disk : (old disk : DiskState) (image : List Sector) → disk ≡ fresh image → AfterStop old.cells image → IsStopped old disk
stopped_disk old disk image is stop =
    subst (λ (d : DiskState). IsStopped old d) (sym is)
    (record { honest = refl; settled = ap settled (sym (seen-settled image)); left = subst (AfterStop old.cells) (sym (seen-settled image)) stop })

-- the disk that was stopped, by another name
pub stopped_as : (disk old left : DiskState) → disk ≡ old → IsStopped disk left → IsStopped old left
stopped_as disk old left is stop = subst (λ (d : DiskState). IsStopped d left) is stop
