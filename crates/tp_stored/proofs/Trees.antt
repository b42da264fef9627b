-- Trees that stand on an image for contents are those of the pools that have them.
use Rattle.std.proofs.Common.{◌≡◌, ℕ, List, ◌∷◌, sym, ap, subst, ◌∙◌, Some, option_map}
use Rattle.std.specs.Prelude.{Contains}
use Rattle.tp_model.specs.Geometry.{Geometry}
use Rattle.tp_model.specs.Told.{told_sectors}
use Rattle.tp_model.specs.Sectors.{Sector}
use Rattle.tp_model.specs.Pool.{PlainPool}
use Rattle.tp_layout.specs.declared.superblock.Version.TheVariants.{OwnSizes}
use Rattle.tp_image.specs.Nodes.{IsDeviceOf, IsMappedOf}
use Rattle.tp_image.specs.Counts.{AreReachable, metadata_use}
use Rattle.tp_sharing.specs.Forest.{held_refs}
use Rattle.tp_image.specs.Rules.{KeepTheRules}
use Rattle.tp_image.specs.Stands.{HasTrees}
use Rattle.tp_refs.specs.Store.{Store}
use Rattle.tp_sharing.specs.Volumes.{Volumes, size_of, slot_of, volumes_of}
use Rattle.tp_stored.specs.Commit.{IsSound, NodesStand, use_of}
use Rattle.tp_stored.specs.Contents.{Contents, HasContents}
use Rattle.tp_stored.proofs.Counted.{reachable_nodes, use_is}
use Rattle.tp_stored.proofs.Ruled.{both_kept}
use Rattle.tp_stored.proofs.Opened.{listed_size, mapped_slot_of, size_listed, slot_mapped_of}

pub has_trees : (g : Geometry) (image : List Sector) (root held : ℕ) (s : Store) → IsSound g root held s → NodesStand g image s
    → (c : Contents) → c.volumes ≡ volumes_of g.metadata_blocks s root held → c.meta_used ≡ use_of g s → c.held_root ≡ held
    → (other : List Sector) (p : PlainPool) → HasContents g c other p → HasTrees image p
has_trees g image root held s sound stand c listed used copy other p has =
    let nodes = reachable_nodes g image root held s sound stand in
    let sizes = λ (id : ℕ). has.sizes id ∙ ap (λ (v : Volumes). option_map (told_sectors g) (size_of id v)) listed in
    let slots = λ (id : ℕ) (block : ℕ). has.slots id block ∙ ap (λ (v : Volumes). slot_of id block v) listed in
    let is : p.held_root ≡ held = has.held_root ∙ copy in
    record {
      root = root;
      rules = λ r known. subst (λ (x : Geometry). KeepTheRules image OwnSizes x r) (sym has.geometry) (both_kept OwnSizes g image root held s sound stand tt r (subst (λ h. Contains (root ∷ held_refs h) r) is known));
      volumes = λ id r mapped told path.
          sizes id ∙ (listed_size g image root held s sound stand (told_sectors g) id r mapped told (subst (λ h. IsDeviceOf image root h id r mapped told) is path) ∙ ap (λ (x : Geometry). Some (told_sectors x told)) (sym has.geometry));
      no_others = λ id n h.
          let d = size_listed g image root held s sound stand (told_sectors g) id n (sym (sizes id) ∙ h) in (d.0, d.1, d.2, subst (λ h. IsDeviceOf image root h id d.0 d.1 d.2) (sym is) d.3);
      slots = λ id block place. (
        λ h. subst (λ x. IsMappedOf image root x id block place) (sym is) (slot_mapped_of g image root held s sound stand id block place (sym (slots id block) ∙ h)),
        λ h. slots id block ∙ mapped_slot_of g image root held s sound stand id block place (subst (λ x. IsMappedOf image root x id block place) is h),
      );
      nodes = nodes.0;
      reachable = subst (λ h. AreReachable image (root ∷ held_refs h) nodes.0) (sym is) nodes.1;
      meta_used = has.meta_used ∙ (used ∙ (use_is g image root held s sound stand nodes.0 nodes.1 ∙ (λ i. metadata_use (sym has.geometry i) (root ∷ held_refs (sym is i)) nodes.0)));
    }
