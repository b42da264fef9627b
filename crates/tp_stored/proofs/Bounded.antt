-- How many metadata blocks sound trees use at most.
use Rattle.std.proofs.Common.{◌≡◌, ◌∙◌, ◌/◌, ◌≤◌, length, sym, ap, subst, arith}
use Rattle.std.specs.Prelude.{◌^◌}
use Rattle.std.proofs.lemmas.List.{length-map}
use Rattle.std.proofs.lemmas.List.FromFn.{length-range_with_len}
use Rattle.tp_model.specs.Geometry.{Geometry, fixed_part}
use Rattle.tp_sharing.specs.Sizes.{mapped_counts}
use Rattle.tp_sharing.specs.Volumes.{DeviceSlots, volumes_below, volumes_of}
use Rattle.std.proofs.lemmas.List.{append-nil}
use Rattle.tp_layout.specs.declared.superblock.Superblock.{Superblock}
use Rattle.tp_refs.specs.Store.{Store}
use Rattle.tp_image.specs.Bound.{metadata_bound}
use Rattle.tp_sharing.proofs.Sizes.{nodes_are_few}
use Rattle.tp_stored.specs.Commit.{IsSound, fixed_blocks, use_of}
use Rattle.tp_stored.specs.Contents.{Contents, contents_of}
use Rattle.tp_stored.specs.Laws.{CommitsAreBounded, AreBounded, SoundAreBounded}

pub sound_are_bounded : SoundAreBounded
sound_are_bounded g root s sound =
    let ds = volumes_below g.metadata_blocks s root in
    let few = nodes_are_few g.metadata_blocks s root (fixed_blocks g) (2 ^ 24) sound.balanced sound.forest (omega arith) sound.sized in
    let fixed : length (fixed_blocks g) ≡ fixed_part g = length-range_with_len 0 (fixed_part g) in
    let devices : length (mapped_counts ds) / 31 ≡ length ds / 31 = ap (λ n. n / 31) (length-map ds (λ (d : DeviceSlots). length d.slots)) in
    omega (arith, few, fixed, devices)

pub commits_are_bounded : CommitsAreBounded
commits_are_bounded g c image h =
    subst (λ (x : Contents). AreBounded g x) (sym h.4) (subst (λ (x : Geometry). AreBounded x (contents_of h.0 h.1)) h.3 (none h.0 h.1 h.2.sound))
  where
    none : (b : Superblock) (s : Store) → IsSound b.geometry b.root b.held_root s → AreBounded b.geometry (contents_of b s)
    none b s sound is =
        let low = sound_are_bounded b.geometry b.root s (subst (λ h. IsSound b.geometry b.root h s) is sound) in
        let same : volumes_of b.geometry.metadata_blocks s b.root b.held_root ≡ volumes_below b.geometry.metadata_blocks s b.root = ap (volumes_of b.geometry.metadata_blocks s b.root) is ∙ append-nil (volumes_below b.geometry.metadata_blocks s b.root) in
        subst (λ v. use_of b.geometry s ≤ metadata_bound b.geometry (mapped_counts v)) (sym same) low
