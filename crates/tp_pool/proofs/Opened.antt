-- How a pool is opened, and what a disk leaves before it is formatted.
use Rattle.std.proofs.Common.{◌≡◌, ℕ, ◌+◌, ◌<◌, ◌≤◌, Bool, true, false, Option, inl, List, refl, sym, ap, subst, arith}
use Rattle.std.specs.Prelude.{IsTrue, Ok, if◌then◌else◌}
use Rattle.std.specs.Option.{unwrap_or}
use Rattle.std.specs.FinMap.{empty}
use Rattle.std.proofs.lemmas.Bool.{false≢true}
use Rattle.tp_model.specs.declared.mode.Mode.TheVariants as mode
use Rattle.tp_model.specs.Geometry.{Geometry, IsWithinLimits, fixed_part}
use Rattle.tp_model.specs.Sectors.{Sector}
use Rattle.tp_model.specs.Pool.{hold_count}
use Rattle.tp_model.specs.Calls.{is_failed, is_read_only}
use Rattle.tp_model.specs.Disk.{DiskState}
use Rattle.tp_model.specs.DiskStops.{Leaves, LeavesOnly}
use Rattle.tp_model.proofs.DiskStopLaws.{SameOutside-none, starts}
use Rattle.tp_model.proofs.Maps.{get_empty}
use Rattle.tp_layout.specs.declared.superblock.Superblock.{Superblock}
use Rattle.tp_image.specs.Slots.{Chooses}
use Rattle.tp_stored.specs.Contents.{Contents, HoldsContents}
use Rattle.tp_meta.specs.Format.{IsFormatting, other_sector}
use Rattle.tp_meta.specs.Standing.{StandsFor, geometry_of}
use Rattle.tp_meta.specs.declared.whole.Meta.{Meta}

-- the contents of a commit leave room for the next
pub has_spare : (g : Geometry) (c : Contents) (image : List Sector) → HoldsContents g c image → c.meta_used + 128 ≤ g.metadata_blocks
has_spare g c image h =
    let spare = h.2.spare in
    let same = h.3 in
    let is = h.4 in
    omega (arith, spare, ap (λ (k : Geometry). k.metadata_blocks) same, ap (λ (k : Contents). k.meta_used) is)

-- metadata that stand on a disk, as a pool has them
pub stands_over : (m n : Meta) (a b : DiskState) (c : Contents) (g : Geometry) → n ≡ m → b ≡ a → StandsFor m a c c × (geometry_of m ≡ g) → StandsFor n b c c × (geometry_of n ≡ g)
stands_over m n a b c g same_metadata same_disk stands =
    subst (λ (x : Meta). StandsFor x b c c × (geometry_of x ≡ g)) (sym same_metadata) (subst (λ (d : DiskState). StandsFor m d c c × (geometry_of m ≡ g)) (sym same_disk) stands)

-- a pool as it is opened has not failed, and is read-only where it wants a check alone
pub opened_works : (b : Bool) → is_failed (if b then mode.ReadOnly else mode.Writable) ≡ false
opened_works true = refl
opened_works false = refl

pub wants_check : (b : Bool) → mode.ReadOnly ≡ (if b then mode.ReadOnly else mode.Writable) → IsTrue b
wants_check true e = refl
wants_check false e = absurd (false≢true (sym (ap is_read_only e)))

-- nobody holds anything of it
pub none_held : (id : ℕ) → 0 < hold_count empty id → ⊥
none_held id some = let none : hold_count empty id ≡ 0 = ap (λ (o : Option ℕ). unwrap_or o 0) (get_empty id) in omega (arith, none, some)

-- before the first call
pub not_formatted : (last : Superblock) (g : Geometry) (old : DiskState) → Leaves (λ image. Chooses image (Ok last)) old.cells → LeavesOnly old old (IsFormatting last g old.cells)
not_formatted last g old was = starts {P = IsFormatting last g old.cells} old (λ image stop. inl (was image stop, (image, stop, SameOutside-none (other_sector last) 1 image)))

-- a pool just formatted has room
pub fresh_spare : (g : Geometry) → IsWithinLimits g → fixed_part g + 1 + 128 ≤ g.metadata_blocks
fresh_spare g within = omega (arith, within.metadata_least)
