-- What a stop leaves in a call, from what the image holds to the pool that is found.
use Rattle.std.proofs.Common.{◌≡◌, inl, inr, ℕ, Bool, List, [], refl, sym, ◌∙◌, ap}
use Rattle.std.specs.Prelude.{if◌then◌else◌}
use Rattle.tp_model.specs.declared.mode.Mode.TheVariants as mode
use Rattle.tp_model.specs.Geometry.{Geometry, IsWithinLimits}
use Rattle.tp_model.specs.Sectors.{Sector}
use Rattle.tp_model.specs.Pool.{PlainPool}
use Rattle.tp_model.specs.Calls.{Call, Flush}
use Rattle.tp_model.specs.PoolStops.{Event, GivenBy, Nothing, MayReopen, During, reopened}
use Rattle.tp_model.specs.Disk.{DiskState, seen}
use Rattle.tp_model.specs.DiskStops.{Leaves}
use Rattle.tp_model.proofs.PoolStopLaws.{MayReopen-weaken, MayReopen-same}
use Rattle.tp_image.specs.Stands.{StandsFor}
use Rattle.tp_sharing.specs.Volumes.{Volumes}
use Rattle.tp_mapping.specs.Mapping.{IsWithin}
use Rattle.tp_stored.specs.Contents.{Contents, HasContents, HoldsContents, IsOpened, IsStill, SameData}
use Rattle.tp_shown.specs.Shown.{GivesValue, IsPartlyDone}
use Rattle.tp_pool.specs.Held.{Held, IsPool, may_leave}
use Rattle.tp_pool.specs.Writing.{IsHalf, IsReclaiming}
use Rattle.tp_pool.proofs.Halves.{same_data_partly, still_half}
use Rattle.tp_shown.proofs.Made.{opened_exists}
use Rattle.tp_shown.proofs.Partly.{partly_reopens}
use Rattle.tp_stored.proofs.Opened.{stands_for_opened}

abbrev Image : Type 0
Image = List Sector

-- the image is that of a pool, and what it stands for may be left in the call
abbrev pub IsLeft : {M : Type 0} → Geometry → Held M → Event → Image → Type 0
IsLeft g old e image = IsPool g image × ((P : PlainPool) → StandsFor image P → During (may_leave old) e P)

-- what a request gives
abbrev pub Given : Geometry → Call → ℕ → Volumes → ℕ → ℕ → Sector → Type 0
Given g call id volumes i k x = (i ≡ id) × GivesValue g call id volumes k x

pub nothing_given : (g : Geometry) (i k : ℕ) (x : Sector) → Given g Flush 0 [] i k x → ⊥
nothing_given g i k x h = h.1

-- a pool with these contents, as it would be opened
opened_from : (g : Geometry) (c : Contents) (image : Image) (p : PlainPool) → HasContents g c image p → IsOpened g c image (reopened p)
opened_from g c image p has = record {
  has = record { geometry = has.geometry; transaction_id = has.transaction_id; needs_check = has.needs_check; meta_used = has.meta_used; held_root = has.held_root; sizes = has.sizes; slots = has.slots; sectors = record { mapped = has.sectors.mapped; unmapped = has.sectors.unmapped } };
  mode = ap (λ (b : Bool). if b then mode.ReadOnly else mode.Writable) has.needs_check;
  holds = refl;
}

-- what an image stands for was opened from it
pub at_rest : (image : Image) (P : PlainPool) (given : ℕ → ℕ → Sector → Type 0) → StandsFor image P → MayReopen P given P
at_rest image P given st = record {
  geometry = refl;
  ids_and_sizes = λ _. refl;
  slots = λ _ _. refl;
  transaction_id = refl;
  needs_check = refl;
  meta_used = refl;
  held_root = refl;
  mode = st.mode ∙ ap (λ (b : Bool). if b then mode.ReadOnly else mode.Writable) (sym st.needs_check);
  holds = st.holds;
  sectors = λ _ _. inl refl;
}

-- while there is a commit
pub reclaiming_is_pool : (g : Geometry) (now kept : Contents) (old : DiskState) (image : Image) → IsReclaiming g now kept old image → IsPool g image
reclaiming_is_pool g now kept old image (inl still) = (kept, still.2)
reclaiming_is_pool g now kept old image (inr w) = (now, w.0)

module _ (g : Geometry) (limits : IsWithinLimits g) where
  -- the contents of a pool that is there, partly written
  pub reopens_partly : (c : Contents) (before image : Image) (s P : PlainPool) (call : Call) (id : ℕ) (volumes : Volumes) → IsWithin g c.volumes → HasContents g c before s → HoldsContents g c image
      → IsPartlyDone g call id volumes c.volumes before image → StandsFor image P → MayReopen s (Given g call id volumes) P
  reopens_partly c before image s P call id volumes within has holds partly stands =
      MayReopen-same (reopened s) s P (Given g call id volumes) refl
      (partly_reopens g c before image (reopened s) P (opened_from g c before s has) ((stands_for_opened g c image holds P).0 stands) call id volumes partly)

  pub reopens_made : (c : Contents) (before image : Image) (made P : PlainPool) → IsWithin g c.volumes → HasContents g c before made → HoldsContents g c image → SameData g before image
      → StandsFor image P → MayReopen made Nothing P
  reopens_made c before image made P within has holds same stands =
      MayReopen-weaken made P (Given g Flush 0 []) Nothing (λ i k x h. nothing_given g i k x h)
      (reopens_partly c before image made P Flush 0 [] within has holds (same_data_partly g Flush 0 [] c.volumes before image same) stands)

  module _ {M : Type 0} (old : Held M) (e : Event) (call : Call) (id : ℕ) (volumes : Volumes) (given : (i k : ℕ) (x : Sector) → Given g call id volumes i k x → GivenBy e i k x) where
    -- what the last commit kept, partly written
    pub during_half : (kept : Contents) (image : Image) (P : PlainPool) → IsWithin g kept.volumes → Leaves (HoldsContents g kept) old.disk.cells → IsHalf g call id volumes kept old.disk.cells image
        → StandsFor image P → During (may_leave old) e P
    during_half kept image P within left half stands =
        let opened = opened_exists g kept half.0 limits within in
        let S : PlainPool = opened.0 in
        let older : may_leave old S = (half.0, half.1, (stands_for_opened g kept half.0 (left half.0 half.1) S).1 opened.1) in
        inl (S, inl older, MayReopen-weaken S P (Given g call id volumes) (GivenBy e) given (reopens_partly kept half.0 image S P call id volumes within opened.1.has half.2 half.3 stands))

    -- what stood before the call, partly written
    pub during_now : (now : Contents) (before image : Image) (P : PlainPool) → IsWithin g now.volumes → HasContents g now before e.before → HoldsContents g now image
        → IsPartlyDone g call id volumes now.volumes before image → StandsFor image P → During (may_leave old) e P
    during_now now before image P within has holds partly stands =
        inl (e.before, inr refl, MayReopen-weaken e.before P (Given g call id volumes) (GivenBy e) given (reopens_partly now before image e.before P call id volumes within has holds partly stands))

  module _ {M : Type 0} (old : Held M) (e : Event) where
    none_given : (i k : ℕ) (x : Sector) → Given g Flush 0 [] i k x → GivenBy e i k x
    none_given i k x h = absurd (nothing_given g i k x h)

    pub during_still : (kept : Contents) (image : Image) (P : PlainPool) → IsWithin g kept.volumes → Leaves (HoldsContents g kept) old.disk.cells → IsStill g kept old.disk.cells image
        → StandsFor image P → During (may_leave old) e P
    during_still kept image P within left still stands = during_half old e Flush 0 [] none_given kept image P within left (still_half g Flush 0 [] kept old.disk.cells image still) stands

    -- a commit of what stood before the call
    pub during_reclaiming : (now kept : Contents) (image : Image) (P : PlainPool) → IsWithin g now.volumes → IsWithin g kept.volumes → Leaves (HoldsContents g kept) old.disk.cells
        → HasContents g now (seen old.disk.cells) e.before → IsReclaiming g now kept old.disk image → StandsFor image P → During (may_leave old) e P
    during_reclaiming now kept image P within within_kept left has either stands =
        elim either [
          | inl still ↦ during_still kept image P within_kept left still stands
          | inr w ↦ during_now old e Flush 0 [] none_given now (seen old.disk.cells) image P within has w.0 (same_data_partly g Flush 0 [] now.volumes (seen old.disk.cells) image w.1) stands
        ]
