-- The image of a pool just formatted stands for the pool without volumes.
use Rattle.std.proofs.Common.{zero, suc, rules, length, ◌≡◌, ⊎_elim, ℕ, ◌+◌, ◌-◌, ◌<◌, ◌≤◌, ◌==◌, Bool, false, not, List, [], ◌∷◌, ◌++◌, Some, inl, inr, refl, sym, ap, subst, ◌∙◌, arith, get_or, replicate}
use Rattle.std.specs.Prelude.{Contains, Ok, nat_eq, nat_lt, slice_index, slice_index_or, if◌then◌else◌}
use Rattle.std.specs.List.{IsDistinct, count_by, range_with_len}
use Rattle.std.specs.Option.{option_map, option_map_or}
use Rattle.std.specs.FinMap.{empty, get}
use Rattle.std.proofs.lemmas.Option.{none-some}
use Rattle.std.proofs.lemmas.Bool.{cases_lt, cases_eq, eq-eqb, ne_eqb, lt-ltb, le-ltb}
use Rattle.std.proofs.lemmas.List.{get_or-replicate, get_or_append_left, get_or-append_right, length-replicate}
use Rattle.tp_model.specs.Geometry.{Geometry, IsWithinLimits, fixed_part}
use Rattle.tp_model.specs.Sectors.{Sector}
use Rattle.tp_model.specs.Pool.{Volume, volume_size, slot_at}
use Rattle.tp_model.proofs.Counting.{count_agree, count_opposite, count_part}
use Rattle.tp_model.proofs.Maps.{get_empty}
use Rattle.tp_layout.specs.Node.{NodeValue, IsNode}
use Rattle.tp_layout.specs.Super.{IsGoodSuper}
use Rattle.tp_layout.specs.declared.counts.Part.TheVariants.{Data, Metadata}
use Rattle.tp_layout.specs.declared.entry.Entry.{Entry}
use Rattle.tp_layout.specs.declared.kind.TreeKind.TheVariants.{Device}
use Rattle.tp_layout.specs.declared.superblock.SlotId.TheVariants.{Zero}
use Rattle.tp_layout.specs.declared.superblock.Slot.TheVariants.{Foreign, Good}
use Rattle.tp_image.specs.Slots.{Chooses}
use Rattle.tp_image.specs.Nodes.{IsNodeAt, LeadsTo, ends, goes}
use Rattle.tp_image.specs.Counts.{AreReachable, IsReachable, itself, through, data_count, metadata_count, metadata_names, metadata_use}
use Rattle.tp_image.specs.Stands.{StandsFor}
use Rattle.tp_image.specs.Fresh.{IsFreshOf, empty_pool, fresh_counts, fresh_leaf, fresh_super}
use Rattle.tp_image.proofs.Uniqueness.{IsNodeAt-one}

nothing_in : {X : Type 0} (x : X) → Contains [] x → ⊥
nothing_in x h = omega (arith, h.1)

the_only_one : {X : Type 0} (x y : X) (k : ℕ) → k < 1 → slice_index_or (x ∷ []) k y ≡ y → x ≡ y
the_only_one x y zero lt e = e
the_only_one x y (suc k) lt e = absurd (omega arith)

distinct_one : (b : ℕ) → IsDistinct nat_eq (b ∷ [])
unfolding IsDistinct
distinct_one b = (tt, tt)

-- the root is a tree block
root_inside : (g : Geometry) → IsWithinLimits g → fixed_part g + 1 ≤ g.metadata_blocks
root_inside g within = omega (arith, within.metadata_least)

pub leaf_good : (g : Geometry) → IsWithinLimits g → IsNode (fresh_leaf g)
leaf_good g within = record {
  form = record { level = omega arith; own = omega (arith, within.metadata_least, within.metadata_most); room = omega arith; entries = λ k d lt. absurd (omega (arith, lt)) };
  ascending = search rules;
}

pub good_first : (g : Geometry) → IsWithinLimits g → IsGoodSuper Zero (fresh_super g)
good_first g within = record {
  sequence = omega arith;
  transaction_id = omega arith;
  slot_is = refl;
  geometry = within;
  root = (omega arith, omega (arith, within.metadata_least));
  held = inl refl;
  unheld = λ _. refl;
}

-- the true counts

above : (b n : ℕ) → n ≤ b → (b ≡ n → ⊥) → n + 1 ≤ b
above b n h differ = ⊎_elim (λ lt. absurd (differ (omega (arith, h, lt)))) (λ past. past) (cases_lt b (n + 1))

fresh_metadata : (fixed root b : ℕ) → root ≡ fixed → 0 + 0 + count_by (λ r. b == r) (root ∷ []) + (if nat_lt b fixed then 1 else 0) ≡ (if nat_lt b (fixed + 1) then 1 else 0)
fresh_metadata fixed root b e = ⊎_elim
    (λ lt. rw (ne_eqb b root (λ f. omega (arith, e, f, lt)), lt-ltb b fixed lt, lt-ltb b (fixed + 1) (omega (arith, lt))) refl)
    (λ past. ⊎_elim
    (λ f. rw (eq-eqb b root f, le-ltb b fixed past, lt-ltb b (fixed + 1) (omega (arith, e, f))) refl)
    (λ differ. rw (ne_eqb b root differ, le-ltb b fixed past, le-ltb b (fixed + 1) (above b fixed past (λ f. differ (f ∙ sym e)))) refl)
    (cases_eq b root))
    (cases_lt b fixed)

-- how many names the leaf has for a block
pub fresh_count_is : (g : Geometry) (b : ℕ) → metadata_count g (fixed_part g ∷ []) (fresh_leaf g ∷ []) b ≡ (if nat_lt b (fixed_part g + 1) then 1 else 0)
fresh_count_is g b = fresh_metadata (fixed_part g) (fixed_part g) b refl

ones_then_zeros : (m n b : ℕ) → b < m + n → ◌≡◌ {A = ℕ} (get_or {A = ℕ} (replicate m 1 ++ replicate n 0) b 0) (if nat_lt b m then 1 else 0)
ones_then_zeros m n b h = ⊎_elim
    (λ lt. get_or_append_left (replicate m 1) (replicate n 0) 0 b (omega (arith, lt, length-replicate {A = ℕ} m 1)) ∙ get_or-replicate m b 1 0 lt ∙ (rw (lt-ltb b m lt) refl))
    (λ past. get_or-append_right (replicate m 1) (replicate n 0) m b 0 (length-replicate {A = ℕ} m 1) past ∙ get_or-replicate n (b - m) 0 0 (omega (arith, h, past)) ∙ (rw (le-ltb b m past) refl))
    (cases_lt b m)

pub fresh_counts_true : (g : Geometry) (b : ℕ) → IsWithinLimits g → b < g.metadata_blocks → slice_index (fresh_counts g Metadata) b ≡ metadata_count g (fixed_part g ∷ []) (fresh_leaf g ∷ []) b
fresh_counts_true g b within h =
    ones_then_zeros (fixed_part g + 1) (g.metadata_blocks - (fixed_part g + 1)) b (omega (arith, h, root_inside g within)) ∙ sym (fresh_count_is g b)

pub fresh_data_counts_true : (g : Geometry) (p : ℕ) → p < g.data_blocks → slice_index (fresh_counts g Data) p ≡ data_count (fresh_leaf g ∷ []) p
fresh_data_counts_true g p h = get_or-replicate g.data_blocks p 0 0 h

used_first : (m n : ℕ) → m ≤ n → count_by (λ b. nat_lt 0 (if nat_lt b m then 1 else 0)) (range_with_len 0 n) ≡ m
used_first m n h =
    let p : ℕ → Bool = λ b. nat_lt 0 (if nat_lt b m then 1 else 0) in
    let inside : (k : ℕ) → k < m → not (p k) ≡ false = λ k lt. rw (lt-ltb k m lt) refl in
    let none : count_by (λ k. not (p k)) (range_with_len 0 m) ≡ 0 = count_agree (λ k. not (p k)) (λ k. false) m inside ∙ count_part (λ k. false) 0 0 m (omega arith) (λ k lt. refl) (λ k past. refl) in
    count_part p 0 m n (omega (arith, h)) (λ k lt. absurd (omega (arith, lt))) (λ k past. rw (le-ltb k m (omega (arith, past))) refl)
    ∙ omega (arith, count_opposite p m, none)

fresh_use : (g : Geometry) → IsWithinLimits g → fixed_part g + 1 ≡ metadata_use g (fixed_part g ∷ []) (fresh_leaf g ∷ [])
fresh_use g within =
    sym (count_agree (λ b. nat_lt 0 (metadata_count g (fixed_part g ∷ []) (fresh_leaf g ∷ []) b)) (λ b. nat_lt 0 (if nat_lt b (fixed_part g + 1) then 1 else 0)) g.metadata_blocks (λ b h. ap (λ n. nat_lt 0 n) (fresh_count_is g b))
    ∙ used_first (fixed_part g + 1) g.metadata_blocks (root_inside g within))

module _ (g : Geometry) (image : List Sector) (within : IsWithinLimits g) (fresh : IsFreshOf g image) where
  pub leaf_there : IsNodeAt image (fixed_part g) (fresh_leaf g)
  leaf_there = record { good = leaf_good g within; own = refl; bytes = fresh.contents.leaf }

  only_leaf : (n : NodeValue) → IsNodeAt image (fixed_part g) n → n ≡ fresh_leaf g
  only_leaf n h = IsNodeAt-one image (fixed_part g) n (fresh_leaf g) h leaf_there

  no_entries : (n : NodeValue) (e : Entry) → IsNodeAt image (fixed_part g) n → Contains n.entries e → ⊥
  no_entries n e h there = nothing_in e (subst (λ (m : NodeValue). Contains m.entries e) (only_leaf n h) there)

  no_path : (b : ℕ) (e : Entry) → b ≡ fixed_part g → LeadsTo image Device b e → ⊥
  no_path b e is (ends n at k leaf there) = no_entries n e (subst (λ (x : ℕ). IsNodeAt image x n) is at) there
  no_path b e is (goes n child at k inner there from) = no_entries n child (subst (λ (x : ℕ). IsNodeAt image x n) is at) there

  reached : (n : NodeValue) → IsReachable image (fixed_part g ∷ []) n → n ≡ fresh_leaf g
  reached n (itself root m known at) = only_leaf n (subst (λ (b : ℕ). IsNodeAt image b n) (sym (the_only_one (fixed_part g) root known.0 known.1 known.2)) at)
  reached n (through parent m from named at) =
      absurd (nothing_in n.own (subst (λ (x : NodeValue). Contains (metadata_names x) n.own) (reached parent from) named))

  no_size : (id size : ℕ) → volume_size (empty_pool g) id ≡ Some size → ⊥
  no_size id size h = none-some size (sym (ap (option_map (λ (v : Volume). length v.sectors)) (get_empty id)) ∙ h)

  no_slot : (id block place : ℕ) → slot_at (empty_pool g) id block ≡ Some place → ⊥
  no_slot id block place h = none-some place (sym (ap (λ o. get (option_map_or (λ (v : Volume). v.slots) o empty) block) (get_empty id) ∙ get_empty block) ∙ h)

  pub fresh_chosen : Chooses image (Ok (fresh_super g))
  fresh_chosen = record {
    first = Good (fresh_super g);
    second = Foreign;
    first_is = inl (omega (arith, fresh.size, within.metadata_least), (good_first g within, fresh.first));
    second_is = inl (omega (arith, fresh.size, within.metadata_least), fresh.no_second);
    choice_is = refl;
  }

  pub fresh_reachable : AreReachable image (fixed_part g ∷ []) (fresh_leaf g ∷ [])
  fresh_reachable = record {
    all = λ n h. (0, omega arith, sym (reached n h));
    only = λ n h. subst (λ (m : NodeValue). IsReachable image (fixed_part g ∷ []) m) (the_only_one (fresh_leaf g) n h.0 h.1 h.2) (itself (fixed_part g) (fresh_leaf g) (0, omega arith, refl) leaf_there);
    once = distinct_one (fixed_part g);
  }

  pub fresh_stands : StandsFor image (empty_pool g)
  fresh_stands = record {
    superblock = fresh_super g;
    chosen = fresh_chosen;
    whole = fresh.size;
    geometry = refl;
    transaction_id = refl;
    needs_check = refl;
    mode = refl;
    holds = refl;
    held_root = refl;
    volumes = λ id root mapped size path. elim path [ inl p ↦ absurd (no_path (fixed_part g) _ refl p) | inr c ↦ absurd (omega (arith, c.1)) ];
    no_others = λ id size h. absurd (no_size id size h);
    slots = λ id block place. (λ h. absurd (no_slot id block place h), λ m. elim m [ inl p ↦ absurd (no_path (fixed_part g) _ refl p.device) | inr c ↦ absurd (omega (arith, c.1)) ]);
    sectors = record {
      mapped = λ id k place size h lt slot. absurd (no_size id size h);
      unmapped = λ id k size h lt none. absurd (no_size id size h);
    };
    nodes = fresh_leaf g ∷ [];
    reachable = fresh_reachable;
    meta_used = fresh_use g within;
  }
