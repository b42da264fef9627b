-- Pools that are only read, and pools whose flag is cleared.
use Rattle.std.proofs.Common.{◌≡◌, ℕ, ◌+◌, ◌≤◌, Bool, false, List, inl, inr, refl, sym, ap, subst, ◌∙◌}
use Rattle.std.specs.Prelude.{◌⊎◌, ◌||◌, if◌then◌else◌}
use Rattle.std.proofs.lemmas.Bool.{false≢true}
use Rattle.tp_model.specs.declared.mode.Mode.TheVariants as mode
use Rattle.tp_model.specs.Geometry.{Geometry}
use Rattle.tp_model.specs.Sectors.{Sector}
use Rattle.tp_model.specs.Calls.{is_failed}
use Rattle.tp_model.specs.Pool.{IsSound, PlainPool}
use Rattle.tp_model.specs.Disk.{DiskState, IsSettled, after_read, seen}
use Rattle.tp_model.specs.DiskStops.{LeavesOnly}
use Rattle.tp_model.proofs.DiskStopLaws.{AfterStop-seen, goes_on_read, leaves_settled, starts, weakens}
use Rattle.tp_image.specs.Stands as images
use Rattle.tp_stored.specs.Contents.{Contents, HasContents, HoldsContents, IsOpened, IsStill, SameData}
use Rattle.tp_stored.proofs.Opened.{stands_for_opened}
use Rattle.tp_meta.specs.declared.whole.Meta.{Meta}
use Rattle.tp_meta.specs.Standing.{StandsFor, geometry_of, marks_of, room_of}
use Rattle.tp_pool.specs.Checked.{IsClearing, cleared, read_only}
use Rattle.tp_pool.specs.Held.{Held, IsPool, shows}
use Rattle.tp_pool.specs.Writing.{IsKept, IsReclaiming}
use Rattle.tp_pool.proofs.Keeping.{same_data_shows}
use Rattle.tp_pool.proofs.Opened.{has_spare, opened_works}

-- what stands in the sectors and slots of a pool does not depend on its mode and its flag
pub sound_cleared : (s : PlainPool) → IsSound s → IsSound (cleared s)
sound_cleared s is = record { block_sectors = is.block_sectors; shaped = is.shaped; lawful = record { unmapped = is.lawful.unmapped; shared = is.lawful.shared } }

pub sound_read_only : (s : PlainPool) → IsSound s → IsSound (read_only s)
sound_read_only s is = record { block_sectors = is.block_sectors; shaped = is.shaped; lawful = record { unmapped = is.lawful.unmapped; shared = is.lawful.shared } }

pub has_read_only : (g : Geometry) (c : Contents) (image : List Sector) (s : PlainPool) → HasContents g c image s → HasContents g c image (read_only s)
has_read_only g c image s has = record {
  geometry = has.geometry;
  transaction_id = has.transaction_id;
  needs_check = has.needs_check;
  meta_used = has.meta_used;
  held_root = has.held_root;
  sizes = has.sizes;
  slots = has.slots;
  sectors = record { mapped = has.sectors.mapped; unmapped = has.sectors.unmapped };
}

-- a pool that was opened from the image of a commit, and is only read from then on
pub reads_only : (h : Held Meta) (g : Geometry) (c : Contents) (s : PlainPool) → StandsFor h.metadata h.disk c c → geometry_of h.metadata ≡ g → IsSettled h.disk.cells
    → HoldsContents g c (seen h.disk.cells) → images.StandsFor (seen h.disk.cells) s → shows geometry_of StandsFor h s → shows geometry_of StandsFor (record h { mode = mode.ReadOnly }) (read_only s)
reads_only h g c s standing same settled holds stands (inl w) =
    let is = (stands_for_opened g c (seen h.disk.cells) holds s).0 stands in
    inl (
      c,
      c,
      record {
        standing = standing;
        has = subst (λ (k : Geometry). HasContents k c (seen h.disk.cells) (read_only s)) (sym same) (has_read_only g c (seen h.disk.cells) s is.has);
        mode_is = refl;
        holds = w.2.holds;
        spare = subst (λ (k : Geometry). c.meta_used + 128 ≤ k.metadata_blocks) (sym same) (has_spare g c (seen h.disk.cells) holds);
        works = refl;
        check = λ wants. refl;
        settled = λ is_read. record { contents = refl; cells = settled };
        sound = sound_read_only s w.2.sound;
        found = w.2.found;
        known = w.2.known;
      },
    )
reads_only h g c s standing same settled holds stands (inr f) =
    let is = (stands_for_opened g c (seen h.disk.cells) holds s).0 stands in
    absurd (false≢true (sym (opened_works c.needs_check) ∙ ap is_failed (sym is.mode ∙ f.mode_is)))

-- the same, where the pool was opened from this disk
pub is_only_read : (h : Held Meta) (old : DiskState) (g : Geometry) (c : Contents) (s : PlainPool) → h.disk ≡ old → StandsFor h.metadata h.disk c c × (geometry_of h.metadata ≡ g) → IsSettled old.cells
    → HoldsContents g c (seen old.cells) → images.StandsFor (seen old.cells) s → shows geometry_of StandsFor h s → shows geometry_of StandsFor (record h { mode = mode.ReadOnly }) (read_only s)
is_only_read h old g c s same is settled holds stands shown =
    reads_only h g c s is.0 is.1 (subst (λ (d : DiskState). IsSettled d.cells) (sym same) settled) (subst (λ (d : DiskState). HoldsContents g c (seen d.cells)) (sym same) holds)
    (subst (λ (d : DiskState). images.StandsFor (seen d.cells) s) (sym same) stands) shown

has_cleared : (g : Geometry) (c : Contents) (image : List Sector) (s : PlainPool) → HasContents g c image s → HasContents g (record c { needs_check = false }) image (cleared s)
has_cleared g c image s has = record {
  geometry = has.geometry;
  transaction_id = has.transaction_id;
  needs_check = refl;
  meta_used = has.meta_used;
  held_root = has.held_root;
  sizes = has.sizes;
  slots = has.slots;
  sectors = record { mapped = has.sectors.mapped; unmapped = has.sectors.unmapped };
}

-- ---- the flag of a pool on a settled disk is cleared

module _ (g : Geometry) (c : Contents) (s : PlainPool) (old : DiskState) (settled : IsSettled old.cells) (h : HoldsContents g c (seen old.cells)) (stands : images.StandsFor (seen old.cells) s) where
  was : IsOpened g c (seen old.cells) s
  was = (stands_for_opened g c (seen old.cells) h s).0 stands

  abbrev pub without : Contents
  without = record c { needs_check = false }

  kept_pool : (image : List Sector) → HoldsContents g c image → SameData g (seen old.cells) image → IsClearing g s image
  kept_pool image holds alike =
      let is : IsOpened g c image s = record { has = same_data_shows g c (seen old.cells) image s alike was.has; mode = was.mode; holds = was.holds } in
      ((c, holds), inl ((stands_for_opened g c image holds s).1 is))

  pub cleared_pool : (image : List Sector) → HoldsContents g without image → SameData g (seen old.cells) image → IsPool g image × images.StandsFor image (cleared s)
  cleared_pool image holds alike =
      let has = same_data_shows g c (seen old.cells) image s alike was.has in
      let is : IsOpened g without image (cleared s) = record { has = has_cleared g c image s has; mode = refl; holds = was.holds } in
      ((without, holds), (stands_for_opened g without image holds (cleared s)).1 is)

  step : (image : List Sector) → IsStill g c old.cells image ⊎ (HoldsContents g without image × SameData g (seen old.cells) image) → IsClearing g s image
  step image (inl (before, stop, holds, same)) =
      kept_pool image holds (leaves_settled (λ b. SameData g b image → SameData g (seen old.cells) image) (seen old.cells) old.cells settled (λ d. d) before stop same)
  step image (inr (holds, same)) = let is = cleared_pool image holds same in (is.0, inr is.1)

  pub clears : (new : DiskState) → LeavesOnly old new (IsReclaiming g without c old) → LeavesOnly old new (IsClearing g s)
  clears new r = weakens step r

  -- before the commit
  pub clears_nothing : LeavesOnly old old (IsClearing g s)
  clears_nothing = starts {P = IsClearing g s} old (leaves_settled (IsClearing g s) (seen old.cells) old.cells settled ((c, h), inl stands))

  -- a read before it
  pub clears_nothing_read : (ok : Bool) (new : DiskState) → new ≡ after_read ok old → LeavesOnly old new (IsClearing g s)
  clears_nothing_read ok new e = goes_on_read {P = IsClearing g s} ok clears_nothing e

  -- the commit, of metadata that were opened, on a disk that was read
  module _ (m : Meta) (mid new : DiskState) (same : mid ≡ old) (sizes : geometry_of m ≡ g) (standing : StandsFor m mid without c) where
    room_there : without.meta_used + 128 ≤ (geometry_of m).metadata_blocks
    room_there = subst (λ (k : Geometry). c.meta_used + 128 ≤ k.metadata_blocks) (sym sizes) (has_spare g c (seen old.cells) h)

    pub clears_at : ((now kept : Contents) → StandsFor m mid now kept → now.meta_used + 128 ≤ (geometry_of m).metadata_blocks → LeavesOnly mid new (IsReclaiming (geometry_of m) now kept mid))
        → LeavesOnly old new (IsClearing g s)
    clears_at left =
        clears new (subst (λ (d : DiskState). LeavesOnly d new (IsReclaiming g without c d)) same
        (subst (λ (k : Geometry). LeavesOnly mid new (IsReclaiming k without c mid)) sizes (left without c standing room_there)))

    pub cleared_at : (after : Meta)
        → ((now kept : Contents) → StandsFor m mid now kept → now.meta_used + 128 ≤ (geometry_of m).metadata_blocks → IsKept geometry_of StandsFor marks_of m after mid new now × (room_of after + now.meta_used ≡ (geometry_of m).metadata_blocks))
        → IsPool g (seen new.cells) × images.StandsFor (seen new.cells) (cleared s)
    cleared_at after kept =
        let left = (kept without c standing room_there).0.left (seen new.cells) (AfterStop-seen new.cells) in
        cleared_pool (seen new.cells) (subst (λ (k : Geometry). HoldsContents k without (seen new.cells)) sizes left.0)
        (subst (λ (d : DiskState). SameData g (seen d.cells) (seen new.cells)) same (subst (λ (k : Geometry). SameData k (seen mid.cells) (seen new.cells)) sizes left.1))

-- one flush, where the flag was clear and nothing else was changed
pub flushed_once : (changed before wants : Bool) (old mid new : ℕ) → changed ≡ (before || wants) → before ≡ false → wants ≡ false → mid ≡ old → new ≡ mid + (if changed then 2 else 1) → new ≡ old + 1
flushed_once changed before wants old mid new is unchanged clear same flushed =
    let still : changed ≡ false = is ∙ (λ i. unchanged i || clear i) in
    flushed ∙ ap {B = ℕ} (λ (b : Bool). mid + (if b then 2 else 1)) still ∙ ap {B = ℕ} (λ n. n + 1) same
