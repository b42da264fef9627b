-- A pool on a settled disk stands while another one is formatted over it, until its superblock is cleared.
use Rattle.std.proofs.Common.{List, inl, inr, subst}
use Rattle.tp_model.specs.Geometry.{Geometry, IsWithinLimits}
use Rattle.tp_model.specs.Sectors.{Sector}
use Rattle.tp_model.specs.Pool.{PlainPool}
use Rattle.tp_model.specs.Disk.{DiskState, IsSettled, seen}
use Rattle.tp_model.specs.DiskStops.{Leaves, LeavesOnly}
use Rattle.tp_model.proofs.DiskStopLaws.{leaves_settled, starts, weakens}
use Rattle.tp_layout.specs.declared.superblock.Superblock.{Superblock}
use Rattle.tp_image.specs.Fresh.{IsFreshOf, empty_pool}
use Rattle.tp_image.specs.Stands.{StandsFor}
use Rattle.tp_image.proofs.FreshImage.{fresh_stands}
use Rattle.tp_stored.specs.Commit.{IsCommit}
use Rattle.tp_stored.specs.Contents.{Contents, HoldsContents, IsOpened, SameData}
use Rattle.tp_stored.proofs.Opened.{stands_for_opened}
use Rattle.tp_meta.specs.Committing.{IsStillCommit}
use Rattle.tp_meta.specs.Reformatting.{IsReformatting}
use Rattle.tp_meta.specs.Standing.{fresh_contents}
use Rattle.tp_pool.specs.Formatting.{IsBetween}
use Rattle.tp_pool.specs.Held.{IsPool}
use Rattle.tp_pool.proofs.Keeping.{same_data_shows}

-- the image of the new pool
new_pool : (made : Geometry) (image : List Sector) → IsFreshOf made image → HoldsContents made (fresh_contents made) image → IsPool made image × StandsFor image (empty_pool made)
new_pool made image fresh holds =
    let within = subst IsWithinLimits holds.3 holds.2.sound.limits in
    ((fresh_contents made, holds), fresh_stands made image within fresh)

module _ (g made : Geometry) (s : PlainPool) (old : DiskState) (settled : IsSettled old.cells) (c : Contents) (h : HoldsContents g c (seen old.cells)) (stands : StandsFor (seen old.cells) s) where
  abbrev last : Superblock
  last = h.0

  pub commit_left : Leaves (λ image. IsCommit image last h.1) old.cells
  commit_left = leaves_settled (λ image. IsCommit image last h.1) (seen old.cells) old.cells settled h.2

  old_pool : (image : List Sector) → IsStillCommit last h.1 old.cells image → IsPool g image × StandsFor image s
  old_pool image (before, stop, commit, same) =
      let holds : HoldsContents g c image = (last, h.1, commit, h.3, h.4) in
      let was = (stands_for_opened g c (seen old.cells) h s).0 stands in
      let like : SameData g before image = subst (λ (k : Geometry). SameData k before image) h.3 same in
      let alike : SameData g (seen old.cells) image =
      leaves_settled (λ b. SameData g b image → SameData g (seen old.cells) image) (seen old.cells) old.cells settled (λ d. d) before stop like in
      let is : IsOpened g c image s = record { has = same_data_shows g c (seen old.cells) image s alike was.has; mode = was.mode; holds = was.holds } in
      ((c, holds), (stands_for_opened g c image holds s).1 is)

  step : (image : List Sector) → IsReformatting last h.1 made old.cells image → IsBetween g s made image
  step image (inl is) = inl (old_pool image is)
  step image (inr (inl none)) = inr (inl none)
  step image (inr (inr (fresh, holds))) = inr (inr (new_pool made image fresh holds))

  pub formats : (new : DiskState) → LeavesOnly old new (IsReformatting last h.1 made old.cells) → LeavesOnly old new (IsBetween g s made)
  formats new r = weakens step r

  -- before the first call
  pub formats_nothing : LeavesOnly old old (IsBetween g s made)
  formats_nothing = starts {P = IsBetween g s made} old (leaves_settled (IsBetween g s made) (seen old.cells) old.cells settled (inl ((c, h), stands)))
