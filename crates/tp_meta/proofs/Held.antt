-- The nodes and the counts of a pool just formatted are balanced, and stand on the disk.
use Rattle.std.proofs.Common.{◌≡◌, ⊎_elim, zero, suc, ℕ, ◌+◌, ◌-◌, ◌<◌, ◌≤◌, List, [], ◌∷◌, ◌++◌, length, replicate, get_or, refl, sym, ◌∙◌, ap, subst, arith, append_assoc, length-append}
use Rattle.std.specs.Prelude.{nat_lt, if◌then◌else◌}
use Rattle.std.specs.List.{range_with_len}
use Rattle.std.proofs.lemmas.Bool.{cases_eq, cases_lt, lt-ltb, le-ltb}
use Rattle.std.proofs.lemmas.List.{get_or-replicate, get_or_append_left, get_or-append_right, get_or-set_same, get_or-set_other, get_or_past, length-replicate, length-set, replicate-append-replicate}
use Rattle.tp_model.specs.Geometry.{Geometry, IsWithinLimits, fixed_part}
use Rattle.tp_model.specs.Sectors.{Sector}
use Rattle.tp_model.specs.Disk.{DiskState, seen}
use Rattle.tp_layout.specs.declared.entry.Entry.{Entry}
use Rattle.tp_image.specs.Fresh.{IsFreshOf, fresh_leaf}
use Rattle.tp_image.proofs.FreshImage.{leaf_there}
use Rattle.tp_refs.specs.Store.{Node, Store, children, count_of, no_node, node_at, node_from}
use Rattle.tp_refs.specs.Balance.{Balanced, counted, names_from, occurrences, times_named}
use Rattle.tp_refs.proofs.Steps.{one_other, one_same}
use Rattle.tp_refs.proofs.Sums.{sum_le}
use Rattle.tp_stored.specs.Commit.{held_by}
use Rattle.tp_stored.proofs.Ranges.{behind, in_range}
use Rattle.tp_tm.specs.Tm.{Tm}
use Rattle.tp_tm.specs.Holds.{Holds, IsSpelled}
use Rattle.tp_meta.specs.Format.{fresh_nodes, fresh_store}

-- 1 below m, else 0
abbrev pub below : ℕ → ℕ → ℕ
below b m = if nat_lt b m then 1 else 0

pub below_yes : (b m : ℕ) → b < m → below b m ≡ 1
below_yes b m h = rw (lt-ltb b m h) refl

pub below_no : (b m : ℕ) → m ≤ b → below b m ≡ 0
below_no b m h = rw (le-ltb b m h) refl

-- how often it is held
held_is : (fixed b : ℕ) → occurrences b (fixed ∷ range_with_len 0 fixed) ≡ below b (fixed + 1)
held_is fixed b = ⊎_elim
    (λ lt. omega (arith, one_other fixed b (λ e. absurd (omega (arith, e, lt))), in_range b 0 fixed (omega arith) (omega (arith, lt)), below_yes b (fixed + 1) (omega (arith, lt))))
    (λ past. ⊎_elim
    (λ e. omega (arith, one_same fixed b e, behind b 0 fixed (omega (arith, past)), below_yes b (fixed + 1) (omega (arith, e))))
    (λ differ. omega (arith, one_other fixed b differ, behind b 0 fixed (omega (arith, past)), below_no b (fixed + 1) (above fixed b past differ)))
    (cases_eq fixed b))
    (cases_lt b fixed)
  where
    above : (n b : ℕ) → n ≤ b → (n ≡ b → ⊥) → n + 1 ≤ b
    above n b h differ = ⊎_elim (λ lt. absurd (differ (omega (arith, h, lt)))) (λ past. past) (cases_lt b (n + 1))

-- how often it is counted
zeros_at : (n i : ℕ) → get_or {A = ℕ} (replicate n 0) i 0 ≡ 0
zeros_at n i = ⊎_elim (λ lt. get_or-replicate n i 0 0 lt) (λ past. get_or_past (replicate {A = ℕ} n 0) i 0 (omega (arith, past, length-replicate {A = ℕ} n 0))) (cases_lt i n)

pub count_is : (m n k b : ℕ) → get_or {A = ℕ} ((replicate m 1 ++ replicate n 0) ++ replicate k 0) b 0 ≡ below b m
count_is m n k b =
    ap (λ (l : List ℕ). get_or l b 0) (append_assoc (replicate {A = ℕ} m 1) (replicate n 0) (replicate k 0) ∙ ap (λ (l : List ℕ). replicate {A = ℕ} m 1 ++ l) (replicate-append-replicate {A = ℕ} n k 0))
    ∙ ⊎_elim
    (λ lt. get_or_append_left (replicate {A = ℕ} m 1) (replicate (n + k) 0) 0 b (omega (arith, lt, length-replicate {A = ℕ} m 1)) ∙ get_or-replicate m b 1 0 lt ∙ sym (below_yes b m lt))
    (λ past. get_or-append_right {X = ℕ} (replicate m 1) (replicate (n + k) 0) m b 0 (length-replicate {A = ℕ} m 1) past ∙ zeros_at (n + k) (b - m) ∙ sym (below_no b m past))
    (cases_lt b m)

module _ (g : Geometry) (within : IsWithinLimits g) where
  abbrev pub s : Store
  s = fresh_nodes g

  abbrev pub leaf : Node
  leaf = node_from g.metadata_blocks (fresh_leaf g)

  abbrev pub none : List Node
  none = replicate g.metadata_blocks no_node

  pub long : length s.nodes ≡ g.metadata_blocks
  long = length-set none (fixed_part g) leaf ∙ length-replicate g.metadata_blocks no_node

  pub counts_long : length s.counts ≡ g.metadata_blocks + g.data_blocks
  counts_long =
      omega (
        arith,
        within.metadata_least,
        length-append (replicate {A = ℕ} (fixed_part g + 1) 1 ++ replicate {A = ℕ} (g.metadata_blocks - (fixed_part g + 1)) 0) (replicate {A = ℕ} g.data_blocks 0),
        length-append (replicate {A = ℕ} (fixed_part g + 1) 1) (replicate {A = ℕ} (g.metadata_blocks - (fixed_part g + 1)) 0),
        length-replicate {A = ℕ} (fixed_part g + 1) 1,
        length-replicate {A = ℕ} (g.metadata_blocks - (fixed_part g + 1)) 0,
        length-replicate {A = ℕ} g.data_blocks 0,
      )

  -- the nodes
  pub root_is : node_at s (fixed_part g) ≡ leaf
  root_is = get_or-set_same none (fixed_part g) leaf no_node (omega (arith, within.metadata_least, length-replicate g.metadata_blocks no_node))

  pub other_is : (b : ℕ) → (b ≡ fixed_part g → ⊥) → node_at s b ≡ no_node
  other_is b differ =
      get_or-set_other none (fixed_part g) b leaf no_node differ
      ∙ ⊎_elim (λ lt. get_or-replicate g.metadata_blocks b no_node no_node lt) (λ past. get_or_past none b no_node (omega (arith, past, length-replicate g.metadata_blocks no_node))) (cases_lt b g.metadata_blocks)

  pub no_entries : (b : ℕ) → (node_at s b).entries ≡ []
  no_entries b = ⊎_elim (λ e. ap (λ n. (node_at s n).entries) e ∙ ap (λ (n : Node). n.entries) root_is) (λ differ. ap (λ (n : Node). n.entries) (other_is b differ)) (cases_eq b (fixed_part g))

  no_children : (b : ℕ) → children (node_at s b) ≡ []
  no_children b = ⊎_elim (λ e. ap (λ n. children (node_at s n)) e ∙ ap children root_is) (λ differ. ap children (other_is b differ)) (cases_eq b (fixed_part g))

  counted_none : (n o : ℕ) → counted n o 0 ≡ 0
  counted_none zero o = refl
  counted_none (suc n) zero = refl
  counted_none (suc n) (suc o) = refl

  names_none : (b c : ℕ) → names_from s [] b c ≤ 0
  names_none b c = omega (arith, ap (λ (l : List ℕ). counted (count_of s c) 0 (occurrences b l)) (no_children c), counted_none (count_of s c) 0)

  never_named : (b : ℕ) → times_named s [] b ≡ 0
  unfolding times_named
  never_named b = omega (arith, sum_le (names_from s [] b) (length s.counts) 0 (names_none b))

  pub fresh_balanced : Balanced s [] (held_by g (fixed_part g) 0)
  fresh_balanced = record {
    sized = omega (arith, long, counts_long);
    sized_kept = refl;
    few = omega (arith, counts_long, within.metadata_most, within.data_most);
    small = λ b. omega (arith, ap (length {A = Entry}) (no_entries b));
    true = λ b. omega (arith, count_is (fixed_part g + 1) (g.metadata_blocks - (fixed_part g + 1)) g.data_blocks b, held_is (fixed_part g) b, never_named b);
    private = λ b h. absurd (omega (arith, h));
    unkept = λ b h. absurd (omega (arith, h));
    ranks = λ b c live closed h. absurd (omega (arith, h, ap (λ (l : List ℕ). occurrences c l) (no_children b)));
  }

  pub spelled : (image : List Sector) → IsFreshOf g image → (b : ℕ) → 0 < (node_at s b).rank → IsSpelled g.metadata_blocks image b (node_at s b)
  spelled image fresh b ranked = ⊎_elim {C = IsSpelled g.metadata_blocks image b (node_at s b)}
      (λ e. subst (λ n. IsSpelled g.metadata_blocks image n (node_at s n)) (sym e) (fresh_leaf g, (leaf_there g image within fresh, root_is)))
      (λ differ. absurd (omega (arith, ranked, ap (λ (n : Node). n.rank) (other_is b differ))))
      (cases_eq b (fixed_part g))

  pub fresh_holds : (t : Tm) (disk : DiskState) → t ≡ fresh_store g → IsFreshOf g (seen disk.cells) → Holds t disk [] (held_by g (fixed_part g) 0) s
  fresh_holds t disk e fresh = subst (λ (x : Tm). Holds x disk [] (held_by g (fixed_part g) 0) s) (sym e) (record {
    stands = record { counts = refl; kept = refl; sized = long; nodes = λ b live closed ranked. spelled (seen disk.cells) fresh b ranked };
    balanced = fresh_balanced;
  })
