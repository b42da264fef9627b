-- What a stop leaves, in words of contents.
use Rattle.std.proofs.Common.{◌≡◌, ◌⊎◌, inl, inr, List, length, refl, sym, ap, subst}
use Rattle.tp_model.specs.Geometry.{Geometry}
use Rattle.tp_model.specs.Sectors.{Sector}
use Rattle.tp_model.specs.Disk.{DiskState, seen}
use Rattle.tp_model.specs.DiskStops.{Leaves, LeavesOnly}
use Rattle.tp_model.proofs.DiskStopLaws.{weakens}
use Rattle.tp_layout.specs.declared.superblock.Superblock.{Superblock}
use Rattle.tp_refs.specs.Store.{Store, committed}
use Rattle.tp_sharing.specs.Volumes.{Volumes}
use Rattle.tp_stored.specs.Commit.{IsCommit, IsSound, use_of}
use Rattle.tp_stored.specs.Contents.{HoldsContents, IsStill, SameData, contents_of}
use Rattle.tp_tm.specs.Tm.{Tm}
use Rattle.tp_tm.specs.Keeps.{LeavesKept}
use Rattle.tp_meta.specs.Committing.{IsNextCommit, IsStillCommit, KeepsCounts}
use Rattle.tp_meta.specs.Metadata.{IsChanging, IsCommitting}
use Rattle.tp_meta.proofs.Commits.{data_kept, same_lists}
use Rattle.tp_meta.proofs.Kept.{still_leaves, still_nodes}

pub committed_contents : (next : Superblock) (s : Store) → IsSound next.geometry next.root next.held_root s → contents_of next s ≡ contents_of next (committed s)
committed_contents next s sound =
    ap (λ (v : Volumes). record { volumes = v; transaction_id = next.transaction_id; needs_check = next.needs_check; meta_used = use_of next.geometry s; held_root = next.held_root })
    (sym (same_lists next.geometry next.root next.held_root s sound next.geometry.metadata_blocks))

module _ (t : Tm) (last : Superblock) (kept : Store) (old new : DiskState) (was : Leaves (λ image. IsCommit image last kept) old.cells) (long : length t.metadata_kept ≡ last.geometry.metadata_blocks)
    (is : KeepsCounts t last kept) (run : LeavesKept t.metadata_kept old new) where
  pub commit_left : Leaves (λ image. IsCommit image last kept) new.cells
  commit_left = still_leaves last kept old new (still_nodes last kept t old new was long is run)

  pub changing : IsChanging last.geometry (contents_of last kept) old new
  changing = record {
    any_moment =
        weakens {Q = IsStill last.geometry (contents_of last kept) old.cells} (λ image still. (still.0, still.1, (last, kept, still.2, refl, refl), still.3))
        (still_nodes last kept t old new was long is run);
    same_data = data_kept last.geometry t.metadata_kept (seen old.cells) (seen new.cells) long run.reads;
  }

pub committing : (last next : Superblock) (kept s : Store) (old new : DiskState) → next.geometry ≡ last.geometry → IsSound next.geometry next.root next.held_root s
    → LeavesOnly old new (λ image. IsStillCommit last kept old.cells image ⊎ IsNextCommit next s old.cells image)
    → SameData last.geometry (seen old.cells) (seen new.cells) → IsCommitting last.geometry (contents_of next s) (contents_of last kept) old new
committing last next kept s old new same sound run others = record { any_moment = weakens {Q = Left} each run; same_data = others }
  where
    Left : List Sector → Type 0
    Left image =
        IsStill last.geometry (contents_of last kept) old.cells image
        ⊎ (HoldsContents last.geometry (contents_of next s) image × SameData last.geometry (seen old.cells) image)

    each : (image : List Sector) → IsStillCommit last kept old.cells image ⊎ IsNextCommit next s old.cells image → Left image
    each image (inl still) = inl (still.0, still.1, (last, kept, still.2, refl, refl), still.3)
    each image (inr is) =
        inr ((next, committed s, is.0, same, committed_contents next s sound), subst (λ (g : Geometry). SameData g (seen old.cells) image) same is.1)
