-- What a check answers of the image, from what its parts found.
use Rattle.std.proofs.Common.{◌≡◌, ◌⊎◌, inl, inr, ℕ, ◌≤◌, List, length, sym, ap, subst}
use Rattle.std.specs.Prelude.{Contains, Result, Ok, Err, IfErr}
use Rattle.tp_model.specs.Geometry.{Geometry, sectors_of_image}
use Rattle.tp_model.specs.Sectors.{Sector}
use Rattle.tp_layout.specs.Super.{roots_of}
use Rattle.tp_layout.specs.declared.superblock.Superblock.{Superblock}
use Rattle.tp_layout.specs.declared.superblock.Version.{Version}
use Rattle.tp_image.specs.Clean.{HasTrueCounts, IsClean}
use Rattle.tp_image.specs.Counts.{AreReachable}
use Rattle.tp_image.specs.Faults.{HasBadCount}
use Rattle.tp_image.specs.Rules.{KeepTheRules}
use Rattle.tp_image.specs.Slots.{Chooses}
use Rattle.tp_check.specs.declared.error.CheckError.{CheckError}
use Rattle.tp_check.specs.declared.error.CheckError.TheVariants.{Fault, Memory, BadSuper, BadNode, BadOrder, BadCount, OutOfPlace, HalfEmpty, BadMapped, BadRecordSize}
use Rattle.tp_check.specs.Found.{HasFault}
use Rattle.tp_check.specs.Walk.{HasTreeFault, IsWhole, Progress}

module _ (image : List Sector) (superblock : Superblock) (chosen : Chooses image (Ok superblock)) (whole : sectors_of_image superblock.geometry ≤ length image) where
  pub clean_from : (p : Progress) → p.version ≡ superblock.version → p.geometry ≡ superblock.geometry → p.roots ≡ roots_of superblock → (w : IsWhole image p) → HasTrueCounts image superblock w.nodes → IsClean image
  clean_from p version geometry roots w counts = record {
    superblock = superblock;
    chosen = chosen;
    whole = whole;
    rules = λ root there. subst (λ (v : Version). KeepTheRules image v superblock.geometry root) version
        (subst (λ (x : Geometry). KeepTheRules image p.version x root) geometry (w.rules root (subst (λ (rs : List ℕ). Contains rs root) (sym roots) there)));
    nodes = w.nodes;
    reachable = subst (λ (x : List ℕ). AreReachable image x w.nodes) roots w.reachable;
    counts = counts;
  }

  pub tree_told : (e : CheckError) → HasTreeFault image superblock.version superblock.geometry (roots_of superblock) e → HasFault image e
  tree_told Fault h = tt
  tree_told Memory h = tt
  tree_told BadSuper h = absurd h
  tree_told BadNode h = (superblock, chosen, whole, h)
  tree_told BadOrder h = (superblock, chosen, whole, h)
  tree_told BadCount h = absurd h
  tree_told OutOfPlace h = (superblock, chosen, whole, h)
  tree_told HalfEmpty h = (superblock, chosen, whole, h)
  tree_told BadMapped h = (superblock, chosen, whole, h)
  tree_told BadRecordSize h = (superblock, chosen, whole, h)

  pub stored_told : (e : CheckError) → (e ≡ Fault) ⊎ (e ≡ BadCount) → (e ≡ BadCount → HasBadCount image superblock) → HasFault image e
  stored_told e (inl is) bad = subst (HasFault image) (sym is) tt
  stored_told e (inr is) bad = subst (HasFault image) (sym is) (superblock, chosen, whole, bad is)

-- where the last test says no, and the image is known on an honest disk alone
pub last_told : {T : Type 0} (image : List Sector) (superblock : Superblock) (Honest : Type 0) (r : Result T CheckError) → (Honest → Chooses image (Ok superblock)) → sectors_of_image superblock.geometry ≤ length image
    → IfErr r (λ e. (e ≡ Fault) ⊎ (e ≡ BadCount)) → (r ≡ Err BadCount → Honest → HasBadCount image superblock) → IfErr r (λ e. Honest → HasFault image e)
last_told image superblock Honest (Ok x) chosen whole only bad = tt
last_told image superblock Honest (Err e) chosen whole only bad = λ honest. stored_told image superblock (chosen honest) whole e only (λ is. bad (ap (λ (x : CheckError). Err x) is) honest)
