-- What a stop leaves in a call that commits before it writes, and behind it.
use Rattle.std.proofs.Common.{◌⊎◌, inl, inr, ℕ, List}
use Rattle.tp_model.specs.Geometry.{Geometry, IsWithinLimits}
use Rattle.tp_model.specs.Sectors.{Sector}
use Rattle.tp_model.specs.Calls.{Call}
use Rattle.tp_model.specs.PoolStops.{Event, GivenBy}
use Rattle.tp_model.specs.Disk.{DiskState, seen}
use Rattle.tp_model.specs.DiskStops.{Leaves, LeavesOnly}
use Rattle.tp_model.proofs.DiskStopLaws.{now as at_end, weakens}
use Rattle.tp_sharing.specs.Volumes.{Volumes}
use Rattle.tp_mapping.specs.Mapping.{IsWithin}
use Rattle.tp_stored.specs.Contents.{Contents, HasContents, HoldsContents, SameData}
use Rattle.tp_shown.specs.Shown.{IsPartlyDone}
use Rattle.tp_pool.specs.Held.{Held}
use Rattle.tp_pool.specs.Writing.{IsHalf, IsReclaiming}
use Rattle.tp_pool.proofs.Halves.{half_then, partly_then, same_data_partly, still_half}
use Rattle.tp_pool.proofs.Stops.{Given, IsLeft, during_half, during_now, reopens_made}

abbrev Image : Type 0
Image = List Sector

module _ (g : Geometry) (call : Call) (id : ℕ) (volumes : Volumes) where
  -- of the contents of the last commit, or of those that stood before the call
  abbrev pub WriteStop : Contents → Contents → DiskState → Image → Type 0
  WriteStop now kept old image = IsHalf g call id volumes kept old.cells image ⊎ (HoldsContents g now image × IsPartlyDone g call id volumes now.volumes (seen old.cells) image)

  pub first_phase : (now kept : Contents) (old mid : DiskState) → LeavesOnly old mid (IsReclaiming g now kept old) → LeavesOnly old mid (WriteStop now kept old)
  first_phase now kept old mid left =
      weakens {P = IsReclaiming g now kept old} {Q = WriteStop now kept old}
      (λ image either. elim either [
        | inl still ↦ inl (still_half g call id volumes kept old.cells image still)
        | inr w ↦ inr (w.0, same_data_partly g call id volumes now.volumes (seen old.cells) image w.1)
      ]) left

  -- where nothing was committed
  pub second_phase : (now kept : Contents) (old new : DiskState) → LeavesOnly old new (IsHalf g call id volumes kept old.cells) → LeavesOnly old new (WriteStop now kept old)
  second_phase now kept old new left = weakens {P = IsHalf g call id volumes kept old.cells} {Q = WriteStop now kept old} (λ image half. inl half) left

  -- where there was a commit: what is written is written over what stood before the call
  from_kept : (now kept : Contents) (old mid : DiskState) → Leaves (λ image. HoldsContents g now image × SameData g (seen old.cells) image) mid.cells → (image : Image) → IsHalf g call id volumes now mid.cells image
      → WriteStop now kept old image
  from_kept now kept old mid left image half =
      inr (half.2, partly_then g call id volumes now.volumes (seen old.cells) half.0 image (same_data_partly g call id volumes now.volumes (seen old.cells) half.0 (left half.0 half.1).1) half.3)

  pub second_phase_kept : (now kept : Contents) (old mid new : DiskState) → Leaves (λ image. HoldsContents g now image × SameData g (seen old.cells) image) mid.cells → LeavesOnly mid new (IsHalf g call id volumes now mid.cells)
      → LeavesOnly mid new (WriteStop now kept old)
  second_phase_kept now kept old mid new left half = weakens {P = IsHalf g call id volumes now mid.cells} {Q = WriteStop now kept old} (from_kept now kept old mid left) half

  -- ---- the commit behind it

  -- the new contents, with the data that reads gave
  abbrev pub EndStop : Contents → Contents → DiskState → Contents → DiskState → Image → Type 0
  EndStop now kept old then last image = WriteStop now kept old image ⊎ (HoldsContents g then image × SameData g (seen last.cells) image)

  pub third_phase : (now kept then : Contents) (old last new : DiskState) → LeavesOnly old last (IsHalf g call id volumes kept old.cells) → LeavesOnly last new (IsReclaiming g then kept last) → LeavesOnly last new (EndStop now kept old then last)
  third_phase now kept then old last new half left =
      weakens {P = IsReclaiming g then kept last} {Q = EndStop now kept old then last}
      (λ image either. elim either [
        | inl still ↦ inl (inl (half_then g call id volumes kept old.cells last.cells image (at_end half) (still_half g call id volumes kept last.cells image still)))
        | inr w ↦ inr w
      ]) left

  pub third_phase_kept : (now kept then : Contents) (old mid last new : DiskState) → Leaves (λ image. HoldsContents g now image × SameData g (seen old.cells) image) mid.cells → LeavesOnly mid last (IsHalf g call id volumes now mid.cells)
      → LeavesOnly last new (IsReclaiming g then now last) → LeavesOnly last new (EndStop now kept old then last)
  third_phase_kept now kept then old mid last new settled_is half left =
      weakens {P = IsReclaiming g then now last} {Q = EndStop now kept old then last}
      (λ image either. elim either [
        | inl still ↦ inl (from_kept now kept old mid settled_is image (half_then g call id volumes now mid.cells last.cells image (at_end half) (still_half g call id volumes now last.cells image still)))
        | inr w ↦ inr w
      ]) left

  -- ---- what is found

  module _ (limits : IsWithinLimits g) {M : Type 0} (old : Held M) (e : Event) (given : (i k : ℕ) (x : Sector) → Given g call id volumes i k x → GivenBy e i k x) (now kept : Contents) (within : IsWithin g now.volumes)
      (within_kept : IsWithin g kept.volumes) (left : Leaves (HoldsContents g kept) old.disk.cells) (has : HasContents g now (seen old.disk.cells) e.before) where
    pub found_in_write : (image : Image) → WriteStop now kept old.disk image → IsLeft g old e image
    found_in_write image (inl half) =
        ((kept, half.2), λ P stands. during_half g limits old e call id volumes given kept image P within_kept left half stands)
    found_in_write image (inr w) =
        ((now, w.0), λ P stands. during_now g limits old e call id volumes given now (seen old.disk.cells) image P within has w.0 w.1 stands)

    pub found_at_end : (then : Contents) (last : DiskState) → IsWithin g then.volumes → HasContents g then (seen last.cells) e.made → (image : Image) → EndStop now kept old.disk then last image
        → IsLeft g old e image
    found_at_end then last within_then has_then image (inl w) = found_in_write image w
    found_at_end then last within_then has_then image (inr w) =
        ((then, w.0), λ P stands. inr (reopens_made g limits then (seen last.cells) image e.made P within_then has_then w.0 w.1 stands))
