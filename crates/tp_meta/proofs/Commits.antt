-- What keeps the image of a commit.
use Rattle.std.proofs.Common.{◌≡◌, ◌⊎◌, inl, inr, ⊎_elim, ℕ, zero, suc, ◌+◌, ◌-◌, ◌*◌, ◌<◌, ◌≤◌, List, ◌++◌, length, get_or, refl, sym, ap, subst, ◌∙◌, arith}
use Rattle.std.specs.Prelude.{Result, Ok, ◌%◌, ◌^◌}
use Rattle.std.proofs.lemmas.Bool.{cases_lt}
use Rattle.std.proofs.lemmas.List.{get_or-take, get_or_past}
use Rattle.tp_model.specs.declared.refusal.Refusal.{Refusal}
use Rattle.tp_model.specs.Geometry.{Geometry, IsTreeBlock, count_blocks, fixed_part}
use Rattle.tp_model.specs.Sectors.{Sector, sector_at}
use Rattle.tp_model.specs.DiskStops.{SameOutside}
use Rattle.tp_model.proofs.DiskStopLaws.{bytes_at-outside, bytes_at-same}
use Rattle.tp_layout.specs.Super.{slot_number}
use Rattle.tp_layout.specs.declared.counts.Part.{Part}
use Rattle.tp_layout.specs.declared.superblock.SlotId.{SlotId}
use Rattle.tp_layout.specs.declared.superblock.SlotId.TheVariants.{Zero, One}
use Rattle.tp_layout.specs.declared.superblock.Superblock.{Superblock}
use Rattle.tp_image.specs.Areas.{blocks_of, counts_sector, counts_sectors, counts_start}
use Rattle.tp_image.specs.Nodes.{block_at}
use Rattle.tp_image.specs.Slots.{Chooses}
use Rattle.tp_image.proofs.AreaLaws.{HoldsCounts-outside, counts_apart, counts_fixed}
use Rattle.tp_super.specs.Store.{super_sector}
use Rattle.tp_super.proofs.Choice.{SlotIs-same}
use Rattle.tp_refs.specs.Store.{Node, Store, committed, count_of, no_node, node_at}
use Rattle.tp_refs.specs.Balance.{SameBelow}
use Rattle.tp_refs.proofs.Moves.{kept_changed}
use Rattle.tp_refs.proofs.Steps.{occurrences-append}
use Rattle.tp_trees.proofs.Trees.{tree_rank}
use Rattle.tp_sharing.specs.Forest.{Forest, HeldForest, held_refs}
use Rattle.tp_sharing.specs.Later.{SameForest}
use Rattle.tp_sharing.proofs.Held.{held_stays}
use Rattle.tp_sharing.proofs.Later.{forest_stays}
use Rattle.tp_sharing.specs.Volumes.{AreSized, Volumes, copies_below, volumes_of}
use Rattle.tp_stored.specs.Commit.{IsCommit, IsOfVersion, IsSound, NodesStand, counts_of_part, fixed_blocks, held_by, use_of}
use Rattle.tp_stored.specs.Contents.{SameData}
use Rattle.tp_stored.proofs.Ranges.{in_range}
use Rattle.tp_tm.specs.Tm.{Tm}
use Rattle.tp_tm.specs.Holds.{IsSpelled}
use Rattle.tp_tm.specs.Keeps.{SameKept}
use Rattle.tp_meta.specs.Committing.{KeepsCounts}
use Rattle.tp_meta.specs.Opening.{HasCounts}

-- ---- the blocks of sound trees

pub bare : (g : Geometry) (root held : ℕ) (s : Store) → IsSound g root held s → (b : ℕ) → b < fixed_part g → (node_at s b).rank ≡ 0
bare g root held s sound b h = sound.forest.bare b (omega (arith, in_range b 0 (fixed_part g) (omega arith) (omega (arith, h))))

behind_fixed : (g : Geometry) (root held : ℕ) (s : Store) → IsSound g root held s → (b : ℕ) → 0 < (node_at s b).rank → fixed_part g ≤ b
behind_fixed g root held s sound b ranked = ⊎_elim (λ lt. absurd (omega (arith, ranked, bare g root held s sound b lt))) (λ past. past) (cases_lt b (fixed_part g))

inside_nodes : (s : Store) (b : ℕ) → 0 < (node_at s b).rank → b < length s.nodes
inside_nodes s b ranked =
    ⊎_elim (λ lt. lt) (λ past. absurd (omega (arith, ranked, ap (λ (n : Node). n.rank) (get_or_past s.nodes b no_node past)))) (cases_lt b (length s.nodes))

tree_block : (g : Geometry) (root held : ℕ) (s : Store) → IsSound g root held s → (b : ℕ) → Forest s b (fixed_blocks g) (2 ^ 24) → IsTreeBlock g b
tree_block g root held s sound b f =
    let ranked : 0 < (node_at s b).rank = omega (arith, tree_rank 5 ((node_at s b).rank - 5) s 0 _ b f.devices.tree) in
    (behind_fixed g root held s sound b ranked, omega (arith, inside_nodes s b ranked, sound.sized))

pub root_inside : (g : Geometry) (root held : ℕ) (s : Store) → IsSound g root held s → IsTreeBlock g root
root_inside g root held s sound = tree_block g root held s sound root sound.forest

-- so is that of a held copy
pub held_inside : (g : Geometry) (root held : ℕ) (s : Store) → IsSound g root held s → (held ≡ 0) ⊎ IsTreeBlock g held
held_inside g root held s sound = go held sound.copy where
  go : (n : ℕ) → HeldForest s n (fixed_blocks g) (2 ^ 24) → (n ≡ 0) ⊎ IsTreeBlock g n
  go zero f = inl refl
  go (suc n) f = inr (tree_block g root held s sound (suc n) f)

pub fixed_live : (g : Geometry) (root held : ℕ) (s : Store) → IsSound g root held s → (b : ℕ) → b < fixed_part g → 0 < count_of s b
fixed_live g root held s sound b h = omega (arith, sound.balanced.true b, occurrences-append b (held_refs held) (fixed_blocks g), in_range b 0 (fixed_part g) (omega arith) (omega (arith, h)))

-- ---- a store whose commit was kept

same_below : (s : Store) (k b : ℕ) → SameBelow k s (committed s) b
same_below s zero b = refl
same_below s (suc k) b = (refl, λ c named. same_below s k c)

pub same_forest : (g : Geometry) (root held : ℕ) (s : Store) → IsSound g root held s → SameForest s (committed s) root (fixed_blocks g) (2 ^ 24)
same_forest g root held s sound = forest_stays s (committed s) root (fixed_blocks g) (2 ^ 24) sound.forest refl (λ r k held. same_below s k r)

same_copy : (g : Geometry) (root held : ℕ) (s : Store) → IsSound g root held s
    → HeldForest (committed s) held (fixed_blocks g) (2 ^ 24) × ((m : ℕ) → copies_below m (committed s) held ≡ copies_below m s held)
same_copy g root held s sound = held_stays s (committed s) held (fixed_blocks g) (2 ^ 24) sound.copy refl (λ r k named. same_below s k r)

pub same_lists : (g : Geometry) (root held : ℕ) (s : Store) → IsSound g root held s → (m : ℕ) → volumes_of m (committed s) root held ≡ volumes_of m s root held
same_lists g root held s sound m = λ i. (same_forest g root held s sound).lists m i ++ (same_copy g root held s sound).1 m i

pub sound_committed : (g : Geometry) (root held : ℕ) (s : Store) → IsSound g root held s → IsSound g root held (committed s)
sound_committed g root held s sound =
    let f = same_forest g root held s sound in
    let c = same_copy g root held s sound in
    record {
      limits = sound.limits;
      sized = sound.sized;
      counted = sound.counted;
      balanced = kept_changed s (committed s) (held_by g root held) refl refl refl sound.balanced;
      forest = f.forest;
      copy = c.0;
      sizes = subst (λ (ds : Volumes). AreSized g ds) (sym (same_lists g root held s sound g.metadata_blocks)) sound.sizes;
      few = omega (arith, ap length f.devices, sound.few);
      few_held = omega (arith, ap length (c.1 g.metadata_blocks), sound.few_held);
    }

-- ---- all that an image has of a commit, but the superblock

pub record IsStored (image : List Sector) (superblock : Superblock) (s : Store) : Type 0 where
  pub whole : 8 * superblock.geometry.metadata_blocks + superblock.geometry.data_blocks * superblock.geometry.block_sectors ≤ length image
  pub counts : (part : Part) → HasCounts image superblock part (counts_of_part superblock.geometry part s.counts)
  pub nodes : NodesStand superblock.geometry image s

pub stored_of : (image : List Sector) (superblock : Superblock) (s : Store) → IsCommit image superblock s → IsStored image superblock s
stored_of image superblock s c = record { whole = c.whole; counts = c.counts; nodes = c.nodes }

commit_same : (before image : List Sector) (superblock : Superblock) (s : Store) → IsCommit before superblock s → Chooses image (Ok superblock) → IsStored image superblock s → IsCommit image superblock s
commit_same before image superblock s was chosen has = record {
  chosen = chosen;
  whole = has.whole;
  sound = was.sound;
  of_version = was.of_version;
  kept = was.kept;
  counts = has.counts;
  nodes = has.nodes;
  spare = was.spare;
}

pub next_commit : (image : List Sector) (next : Superblock) (s : Store) → IsSound next.geometry next.root next.held_root s → IsOfVersion next.version (volumes_of next.geometry.metadata_blocks s next.root next.held_root) → use_of next.geometry s + 128 ≤ next.geometry.metadata_blocks
    → Chooses image (Ok next) → IsStored image next s → IsCommit image next (committed s)
next_commit image next s sound of_version spare chosen has = record {
  chosen = chosen;
  whole = has.whole;
  sound = sound_committed next.geometry next.root next.held_root s sound;
  of_version = subst (λ (ds : Volumes). IsOfVersion next.version ds) (sym (same_lists next.geometry next.root next.held_root s sound next.geometry.metadata_blocks)) of_version;
  kept = refl;
  counts = has.counts;
  nodes = has.nodes;
  spare = spare;
}

spelled_same : (m : ℕ) (before image : List Sector) (b : ℕ) (node : Node) → block_at image b ≡ block_at before b → IsSpelled m before b node → IsSpelled m image b node
spelled_same m before image b node same p = (p.0, (record { good = p.1.0.good; own = p.1.0.own; bytes = same ∙ p.1.0.bytes }, p.1.1))

chooses_same : (before image : List Sector) (choice : Result Superblock Refusal) → length image ≡ length before → sector_at image 0 ≡ sector_at before 0 → sector_at image 8 ≡ sector_at before 8
    → Chooses before choice → Chooses image choice
chooses_same before image choice long zeroth eighth was = record {
  first = was.first;
  second = was.second;
  first_is = SlotIs-same Zero before image was.first long zeroth was.first_is;
  second_is = SlotIs-same One before image was.second long eighth was.second_is;
  choice_is = was.choice_is;
}

-- sectors of the fixed part are changed that lie apart from the superblock's area
stored_outside : (from m : ℕ) (before image : List Sector) (superblock : Superblock) (s : Store) → IsSound superblock.geometry superblock.root superblock.held_root s → SameOutside from m before image
    → from + m ≤ 8 * fixed_part superblock.geometry
    → ((part : Part) (area : SlotId) → slot_number area ≡ superblock.sequence % 2
    → (counts_sector superblock.geometry part area + counts_sectors superblock.geometry part ≤ from) ⊎ (from + m ≤ counts_sector superblock.geometry part area))
    → IsStored before superblock s → IsStored image superblock s
stored_outside from m before image superblock s sound out low apart was = record {
  whole = omega (arith, was.whole, out.same_length);
  counts = λ part area is. HoldsCounts-outside superblock.geometry part area (counts_of_part superblock.geometry part s.counts) out (apart part area is) (was.counts part area is);
  nodes = λ b live ranked.
      spelled_same superblock.geometry.metadata_blocks before image b (node_at s b)
      (bytes_at-outside (8 * b) 8 out (inr (omega (arith, behind_fixed superblock.geometry superblock.root superblock.held_root s sound b ranked, low)))) (was.nodes b live ranked);
}

-- one slot is changed
pub stored_under : (which : Superblock) (before image : List Sector) (superblock : Superblock) (s : Store) → IsSound superblock.geometry superblock.root superblock.held_root s
    → SameOutside (super_sector which) 1 before image → IsStored before superblock s → IsStored image superblock s
stored_under which before image superblock s sound out was =
    stored_outside (super_sector which) 1 before image superblock s sound out (omega arith)
    (λ part area is. inr (omega (arith, (counts_fixed superblock.geometry part area).0))) was

pub commit_under : (which : Superblock) (before image : List Sector) (last : Superblock) (s : Store) → SameOutside (super_sector which) 1 before image → Chooses image (Ok last)
    → IsCommit before last s → IsCommit image last s
commit_under which before image last s out chosen was =
    commit_same before image last s was chosen (stored_under which before image last s was.sound out (stored_of before last s was))

-- the counts of one part in the other area are changed
pub commit_beside : (changed : Part) (its : SlotId) (before image : List Sector) (last : Superblock) (s : Store) → (slot_number its ≡ last.sequence % 2 → ⊥)
    → SameOutside (counts_sector last.geometry changed its) (counts_sectors last.geometry changed) before image → IsCommit before last s → IsCommit image last s
commit_beside changed its before image last s differ out was =
    let g = last.geometry in
    let fixed = counts_fixed g changed its in
    commit_same before image last s was
    (chooses_same before image (Ok last) out.same_length (out.below 0 (omega (arith, fixed.0))) (out.below 8 (omega (arith, fixed.0))) was.chosen)
    (stored_outside (counts_sector g changed its) (counts_sectors g changed) before image last s was.sound out (omega (arith, fixed.1))
    (λ part area is. counts_apart g part changed area its (λ both. differ (sym (ap slot_number both.1) ∙ is))) (stored_of before last s was))

-- nothing is changed that the kept counts name
module _ (t : Tm) (before image : List Sector) (last : Superblock) (s : Store) (sized : length t.metadata_kept ≡ last.geometry.metadata_blocks) (kept : KeepsCounts t last s)
    (same : SameKept t.metadata_kept before image) (was : IsCommit before last s) where
  abbrev g : Geometry
  g = last.geometry

  sector_same : (b i : ℕ) → b < g.metadata_blocks → 0 < count_of s b → i < 8 → sector_at image (8 * b + i) ≡ sector_at before (8 * b + i)
  sector_same b i inside live lt =
      let is : count_of s b ≡ get_or t.metadata_kept b 0 = sym (ap (λ (l : List ℕ). get_or l b 0) kept ∙ get_or-take g.metadata_blocks s.counts b 0 inside) in
      same.named b i (omega (arith, is, live)) lt

  block_same : (b : ℕ) → b < g.metadata_blocks → 0 < count_of s b → block_at image b ≡ block_at before b
  block_same b inside live = bytes_at-same (8 * b) 8 image before same.same_length (λ i low high.
      let e : 8 * b + (i - 8 * b) ≡ i = omega (arith, low) in
      sym (ap (sector_at image) e) ∙ sector_same b (i - 8 * b) inside live (omega (arith, low, high)) ∙ ap (sector_at before) e)

  fixed_same : (b : ℕ) → b < fixed_part g → block_at image b ≡ block_at before b
  fixed_same b h = block_same b (omega (arith, h, was.sound.limits.metadata_least)) (fixed_live g last.root last.held_root s was.sound b h)

  slot_same : (b : ℕ) → b < 2 → sector_at image (8 * b + 0) ≡ sector_at before (8 * b + 0)
  slot_same b h = sector_same b 0 (omega (arith, h, was.sound.limits.metadata_least)) (fixed_live g last.root last.held_root s was.sound b (omega (arith, h))) (omega arith)

  pub commit_kept : IsCommit image last s
  commit_kept =
      commit_same before image last s was (chooses_same before image (Ok last) same.same_length (slot_same 0 (omega arith)) (slot_same 1 (omega arith)) was.chosen)
      (record {
        whole = omega (arith, was.whole, same.same_length);
        counts = λ part area is.
            let h = was.counts part area is in
            let fixed = counts_fixed g part area in
            record {
              long = h.long;
              fit = h.fit;
              spelled = λ j lt.
                  let blocks : j < count_blocks (blocks_of g part) = subst (λ n. j < count_blocks n) h.long lt in
                  fixed_same (counts_start g part area + j) (omega (arith, fixed.1, blocks)) ∙ h.spelled j lt;
            };
        nodes = λ b live ranked.
            spelled_same g.metadata_blocks before image b (node_at s b) (block_same b (omega (arith, inside_nodes s b ranked, was.sound.sized)) live) (was.nodes b live ranked);
      })

-- ---- the data blocks

pub SameData-none : (g : Geometry) (image : List Sector) → SameData g image image
SameData-none g image = record { same_length = refl; same = λ i h. refl }

pub SameData-then : (g : Geometry) (a b c : List Sector) → SameData g a b → SameData g b c → SameData g a c
SameData-then g a b c r s = record { same_length = s.same_length ∙ r.same_length; same = λ i h. s.same i h ∙ r.same i h }

pub data_outside : (g : Geometry) (from m : ℕ) (before image : List Sector) → SameOutside from m before image → from + m ≤ 8 * g.metadata_blocks → SameData g before image
data_outside g from m before image out low = record { same_length = out.same_length; same = λ i h. out.above i (omega (arith, h, low)) }

pub data_kept : (g : Geometry) (kept : List ℕ) (before image : List Sector) → length kept ≡ g.metadata_blocks → SameKept kept before image → SameData g before image
data_kept g kept before image sized same = record { same_length = same.same_length; same = λ i h. same.above i (omega (arith, h, sized)) }
