-- A commit stands while a disk is formatted, until its superblock is cleared.
use Rattle.std.proofs.Common.{◌≡◌, ◌+◌, List, inl, inr, refl, sym, ap, subst, arith}
use Rattle.std.specs.Prelude.{Ok}
use Rattle.tp_model.specs.Geometry.{Geometry, IsWithinLimits, metadata_sector}
use Rattle.tp_model.specs.Sectors.{Sector}
use Rattle.tp_model.specs.Disk.{Cell, DiskState}
use Rattle.tp_model.specs.DiskStops.{Leaves, LeavesOnly, SameOutside}
use Rattle.tp_model.proofs.DiskStopLaws.{weakens}
use Rattle.tp_layout.specs.declared.superblock.Superblock.{Superblock}
use Rattle.tp_image.specs.Slots.{Chooses}
use Rattle.tp_image.specs.Fresh.{IsFreshOf, fresh_super}
use Rattle.tp_super.specs.Store.{super_sector}
use Rattle.tp_refs.specs.Store.{Store}
use Rattle.tp_stored.specs.Commit.{IsCommit}
use Rattle.tp_stored.specs.Contents.{HoldsContents}
use Rattle.tp_meta.specs.Committing.{IsStillCommit}
use Rattle.tp_meta.specs.Format.{IsFormatting, IsOldPool, fresh_nodes, other_sector}
use Rattle.tp_meta.specs.Reformatting.{IsReformatting}
use Rattle.tp_meta.specs.Standing.{fresh_contents}
use Rattle.tp_meta.proofs.Commits.{commit_under}
use Rattle.tp_meta.proofs.FirstCommit.{first_commit, first_contents}

module _ (last : Superblock) (kept : Store) (g : Geometry) (within : IsWithinLimits g) (cells : List Cell) (was : Leaves (λ image. IsCommit image last kept) cells) where
  -- a superblock whose slot is the other one
  abbrev beside : Superblock
  beside = record last { sequence = last.sequence + 1 }

  there : other_sector last ≡ super_sector beside
  there = ap metadata_sector (omega arith)

  still : (image : List Sector) → IsOldPool last cells image → IsStillCommit last kept cells image
  still image (chosen, (before, stop, out)) =
      let commit = was before stop in
      let limits = commit.sound.limits in (
        before,
        stop,
        commit_under beside before image last kept (subst (λ n. SameOutside n 1 before image) there out) chosen commit,
        record { same_length = out.same_length; same = λ i past. out.above i (omega (arith, past, limits.metadata_least)) },
      )

  begun : (image : List Sector) → IsFreshOf g image → IsFreshOf g image × HoldsContents g (fresh_contents g) image
  begun image fresh = (fresh, (fresh_super g, fresh_nodes g, first_commit g within image fresh, refl, sym (first_contents g within)))

  step : (image : List Sector) → IsFormatting last g cells image → IsReformatting last kept g cells image
  step image (inl old) = inl (still image old)
  step image (inr (inl none)) = inr (inl none)
  step image (inr (inr fresh)) = inr (inr (begun image fresh))

  pub chosen_left : Leaves (λ image. Chooses image (Ok last)) cells
  chosen_left image stop = (was image stop).chosen

  pub reformats : (old new : DiskState) → LeavesOnly old new (IsFormatting last g cells) → LeavesOnly old new (IsReformatting last kept g cells)
  reformats old new r = weakens step r
