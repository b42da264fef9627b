-- The image of a pool just formatted is that of a commit.
use Rattle.std.proofs.Common.{◌≡◌, ⊎_elim, ℕ, ◌+◌, ◌-◌, ◌<◌, ◌≤◌, Bool, false, not, List, [], ◌++◌, map, length, refl, sym, ◌∙◌, ap, subst, arith, Option, None, Some}
use Rattle.std.specs.Prelude.{count_by, nat_lt, ◌^◌}
use Rattle.std.specs.List.{range_with_len}
use Rattle.std.proofs.lemmas.Bool.{cases_lt}
use Rattle.std.proofs.lemmas.List.FromFn.{length-range_with_len}
use Rattle.std.proofs.lemmas.List.Sums.{count_by-le-length}
use Rattle.tp_model.specs.Geometry.{Geometry, IsWithinLimits, fixed_part}
use Rattle.tp_model.specs.Sectors.{Sector}
use Rattle.tp_model.proofs.Counting.{count_agree, count_opposite, count_part}
use Rattle.tp_layout.specs.Super.{slot_number}
use Rattle.tp_layout.specs.Entries.{Ascend}
use Rattle.tp_layout.specs.declared.entry.Entry.{Entry}
use Rattle.tp_layout.specs.declared.counts.Part.{Part}
use Rattle.tp_layout.specs.declared.counts.Part.TheVariants.{Data, Metadata}
use Rattle.tp_layout.specs.declared.superblock.SlotId.{SlotId}
use Rattle.tp_layout.specs.declared.superblock.SlotId.TheVariants.{Zero, One}
use Rattle.tp_image.specs.Areas.{HoldsCounts}
use Rattle.tp_image.specs.Fresh.{IsFreshOf, fresh_super}
use Rattle.tp_image.proofs.FreshImage.{fresh_chosen}
use Rattle.tp_refs.specs.Store.{Node, Store, count_of, node_at}
use Rattle.tp_refs.specs.Balance.{occurrences}
use Rattle.tp_trees.specs.Tree.{IsWhole, pairs}
use Rattle.tp_sharing.specs.Forest.{content}
use Rattle.tp_sharing.proofs.Later.{empty_forest}
use Rattle.tp_stored.specs.Commit.{IsCommit, IsSound, counts_of_part, fixed_blocks, use_of}
use Rattle.tp_sharing.specs.Volumes.{AreSized, Volumes, device_from, size_of}
use Rattle.tp_stored.specs.Contents.{contents_of}
use Rattle.tp_stored.proofs.Ranges.{behind, in_range}
use Rattle.tp_meta.specs.Standing.{fresh_contents}
use Rattle.tp_meta.specs.Format.{fresh_nodes, fresh_store}
use Rattle.tp_meta.proofs.Held.{below_no, below_yes, count_is, counts_long, fresh_balanced, long, no_entries, other_is, root_is, spelled}
use Rattle.tp_meta.proofs.Kept.{part_now}

no_size : (o : Option ℕ) (n : ℕ) → o ≡ None → o ≡ Some n → ⊥
no_size o n e f = cc

none_sized : (g : Geometry) → AreSized g []
none_sized g = record { told = λ id size h. absurd (no_size (size_of id []) size refl h); inside = λ id size block place h k. absurd (no_size (size_of id []) size refl h) }

module _ (g : Geometry) (within : IsWithinLimits g) where
  abbrev s : Store
  s = fresh_nodes g

  abbrev root : ℕ
  root = fixed_part g

  low : (b : ℕ) → 0 < occurrences b (fixed_blocks g) → b < root
  low b h = ⊎_elim (λ lt. lt) (λ past. absurd (omega (arith, h, behind b 0 (fixed_part g) (omega (arith, past))))) (cases_lt b (fixed_part g))

  ranked : (node_at s root).rank ≡ 5
  ranked = ap (λ (n : Node). n.rank) (root_is g within)

  whole : IsWhole 5 0 s (2 ^ 24) root
  whole = record {
    tree = (ranked, subst (λ (es : List Entry). Ascend 0 (2 ^ 24) es) (sym (no_entries g within root)) (omega arith));
    branches = λ none. absurd (omega (arith, none));
  }

  once : (b : ℕ) → occurrences b (fixed_blocks g) ≤ 1
  once b = ⊎_elim (λ lt. omega (arith, in_range b 0 (fixed_part g) (omega arith) (omega (arith, lt)))) (λ past. omega (arith, behind b 0 (fixed_part g) (omega (arith, past)))) (cases_lt b (fixed_part g))

  no_nodes : (b : ℕ) → 0 < occurrences b (fixed_blocks g) → (node_at s b).rank ≡ 0
  no_nodes b h = let lt = low b h in ap (λ (n : Node). n.rank) (other_is g within b (λ e. omega (arith, e, lt)))

  inside : (b : ℕ) → 0 < occurrences b (fixed_blocks g) → b < length s.nodes
  inside b h = let lt = low b h in omega (arith, lt, long g within, within.metadata_least)

  no_content : content 5 s root ≡ []
  no_content = let z : (node_at s root).rank - 5 ≡ 0 = omega (arith, ranked) in ap (λ k. pairs k s root) z ∙ no_entries g within root

  sound : IsSound g root 0 s
  sound = record {
    limits = within;
    sized = long g within;
    counted = counts_long g within;
    balanced = fresh_balanced g within;
    forest = (empty_forest s root (fixed_blocks g) (2 ^ 24) whole (no_entries g within root) once no_nodes inside).0;
    copy = tt;
    sizes = subst (λ (es : List Entry). AreSized g (map (device_from g.metadata_blocks s) es ++ [])) (sym no_content) (none_sized g);
    few = omega (arith, ap (length {A = Entry}) no_content);
    few_held = omega arith;
  }

  unused : (b : ℕ) → root + 1 ≤ b → nat_lt 0 (count_of s b) ≡ false
  unused b past = ap (λ n. nat_lt 0 n) (count_is (root + 1) (g.metadata_blocks - (root + 1)) g.data_blocks b ∙ below_no b (root + 1) past)

  few_used : use_of g s ≤ root + 1
  few_used =
      let same = count_part (λ b. nat_lt 0 (count_of s b)) 0 (root + 1) g.metadata_blocks (omega (arith, within.metadata_least)) (λ k h. absurd (omega (arith, h))) (λ k h. unused k (omega (arith, h))) in
      omega (arith, same, count_by-le-length (λ b. nat_lt 0 (count_of s b)) (range_with_len 0 (root + 1)), length-range_with_len 0 (root + 1))

  abbrev test : ℕ → Bool
  test b = nat_lt 0 (count_of s b)

  used_first : (b : ℕ) → b < root + 1 → not (test b) ≡ false
  used_first b lt = ap (λ n. not (nat_lt 0 n)) (count_is (root + 1) (g.metadata_blocks - (root + 1)) g.data_blocks b ∙ below_yes b (root + 1) lt)

  use_is : use_of g s ≡ root + 1
  use_is =
      let same = count_part test 0 (root + 1) g.metadata_blocks (omega (arith, within.metadata_least)) (λ k h. absurd (omega (arith, h))) (λ k h. unused k (omega (arith, h))) in
      let none : count_by (λ k. not (test k)) (range_with_len 0 (root + 1)) ≡ 0 =
      count_agree (λ k. not (test k)) (λ k. false) (root + 1) used_first ∙ count_part (λ k. false) 0 0 (root + 1) (omega arith) (λ k lt. refl) (λ k past. refl) in
      omega (arith, same, none, count_opposite test (root + 1))

  pub first_contents : contents_of (fresh_super g) s ≡ fresh_contents g
  first_contents =
      ap (λ (v : Volumes). record { volumes = v; transaction_id = 0; needs_check = false; meta_used = use_of g s; held_root = 0 }) (ap (λ (es : List Entry). map (device_from g.metadata_blocks s) es ++ []) no_content)
      ∙ ap (λ n. record { volumes = []; transaction_id = 0; needs_check = false; meta_used = n; held_root = 0 }) use_is

  pub first_commit : (image : List Sector) → IsFreshOf g image → IsCommit image (fresh_super g) s
  first_commit image fresh = record {
    chosen = fresh_chosen g image within fresh;
    whole = fresh.size;
    sound = sound;
    of_version = tt;
    kept = refl;
    counts = λ part area is. in_area part area is;
    nodes = λ b live high. spelled g within image fresh b high;
    spare = omega (arith, few_used, within.metadata_least);
  }
    where
      in_area : (part : Part) (area : SlotId) → slot_number area ≡ 0 → HoldsCounts image g part area (counts_of_part g part s.counts)
      in_area Metadata Zero is =
          subst (λ (l : List ℕ). HoldsCounts image g Metadata Zero l) (part_now (fresh_store g) s g.metadata_blocks Metadata (fresh.contents.counts Metadata).long refl g refl) (fresh.contents.counts Metadata)
      in_area Data Zero is =
          subst (λ (l : List ℕ). HoldsCounts image g Data Zero l) (part_now (fresh_store g) s g.metadata_blocks Data (fresh.contents.counts Metadata).long refl g refl) (fresh.contents.counts Data)
      in_area Metadata One is = absurd (omega (arith, is))
      in_area Data One is = absurd (omega (arith, is))
