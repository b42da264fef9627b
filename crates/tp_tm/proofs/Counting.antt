-- The counts of both parts, and the data blocks, by reference.
use Rattle.std.proofs.Common.{◌≡◌, ℕ, ◌+◌, ◌-◌, ◌<◌, List, [], ◌∷◌, ◌++◌, length, get_or, set, refl, sym, ap, subst, ◌∙◌, arith, inl, inr, length-append}
use Rattle.std.proofs.lemmas.Bool.{cases_lt}
use Rattle.std.proofs.lemmas.List.{get_or-append_right, get_or_past, set-append_right}
use Rattle.tp_model.specs.Geometry.{Geometry}
use Rattle.tp_model.specs.Disk.{DiskState}
use Rattle.tp_layout.specs.declared.counts.Part.TheVariants.{Data, Metadata}
use Rattle.tp_counts.specs.Counts.{Counts}
use Rattle.tp_refs.specs.Store.{Node, Store, children, committed, count_of, kept_of, no_node, node_at, with_count}
use Rattle.tp_refs.specs.Balance.{occurrences}
use Rattle.tp_refs.proofs.Steps.{one_other}
use Rattle.tp_refs.proofs.Moves.{closed_empty, kept_changed}
use Rattle.tp_tm.specs.Tm.{AreOfParts, IsRecounted, IsSized, Tm, counts_kept, counts_now, kept_now}
use Rattle.tp_tm.specs.Holds.{Holds}
use Rattle.tp_tm.proofs.Releasing.{held_positive, last_holds, several_holds}
use Rattle.tp_tm.proofs.Standing.{shared_reference, taken_reference}

-- the counts of each part are those of the pool
pub metadata_are : {g : Geometry} {m o : Counts} → AreOfParts g m o → m ≡ record { geometry = g; part = Metadata; now = m.now; kept = m.kept }
metadata_are {g} {m} {o} p = λ i. record { geometry = p.metadata_geometry i; part = p.metadata_part i; now = m.now; kept = m.kept }

pub data_are : {g : Geometry} {m o : Counts} → AreOfParts g m o → o ≡ record { geometry = g; part = Data; now = o.now; kept = o.kept }
data_are {g} {m} {o} p = λ i. record { geometry = p.data_geometry i; part = p.data_part i; now = o.now; kept = o.kept }

-- ---- data blocks

abbrev pub with_data : Tm → ℕ → ℕ → Tm
with_data t p n = record { geometry = t.geometry; metadata_now = t.metadata_now; metadata_kept = t.metadata_kept; data_now = set t.data_now p n; data_kept = t.data_kept; held_root = t.held_root }

module _ (t : Tm) (sized : IsSized t) (p : ℕ) (inside : p < t.geometry.data_blocks) where
  abbrev x : ℕ
  x = t.geometry.metadata_blocks + p

  from_first : x - t.geometry.metadata_blocks ≡ p
  from_first = omega arith

  pub data_at : get_or (counts_now t) x 0 ≡ get_or t.data_now p 0
  data_at = get_or-append_right t.metadata_now t.data_now t.geometry.metadata_blocks x 0 sized.metadata_now (omega arith) ∙ ap (λ i. get_or t.data_now i 0) from_first

  pub kept_data_at : get_or (counts_kept t) x 0 ≡ get_or t.data_kept p 0
  kept_data_at = get_or-append_right t.metadata_kept t.data_kept t.geometry.metadata_blocks x 0 sized.metadata_kept (omega arith) ∙ ap (λ i. get_or t.data_kept i 0) from_first

  pub data_recounted : (n : ℕ) → IsRecounted t (with_data t p n) x n
  data_recounted n = record {
    geometry = refl;
    now = sym (set-append_right t.metadata_now t.data_now t.geometry.metadata_blocks x n sized.metadata_now (omega arith) ∙ ap (λ i. t.metadata_now ++ set t.data_now i n) from_first);
    kept = refl;
    held_root = refl;
  }

  module _ (disk : DiskState) (opens held : List ℕ) (s : Store) where
    childless : length s.nodes ≡ t.geometry.metadata_blocks → children (node_at s x) ≡ []
    childless e = ap children (get_or_past s.nodes x no_node (omega (arith, e)))

    pub data_shared : Holds t disk opens (x ∷ held) s → Holds (with_data t p (get_or t.data_now p 0 + 1)) disk opens (x ∷ x ∷ held) (with_count s x (count_of s x + 1))
    data_shared h = shared_reference t (with_data t p (get_or t.data_now p 0 + 1)) disk opens held s x (subst (λ n. IsRecounted t (with_data t p (get_or t.data_now p 0 + 1)) x (n + 1)) (sym data_at) (data_recounted (get_or t.data_now p 0 + 1))) h

    pub data_released : Holds t disk opens (x ∷ held) s → Holds (with_data t p (get_or t.data_now p 0 - 1)) disk opens held (with_count s x (count_of s x - 1))
    data_released h =
        let u = with_data t p (get_or t.data_now p 0 - 1) in
        let r : IsRecounted t u x (get_or (counts_now t) x 0 - 1) = subst (λ n. IsRecounted t u x (n - 1)) (sym data_at) (data_recounted (get_or t.data_now p 0 - 1)) in
        let is : count_of s x ≡ get_or (counts_now t) x 0 = ap (λ l. get_or l x 0) h.stands.counts in
        elim (cases_lt 1 (get_or (counts_now t) x 0)) [
          | inl more ↦ subst (λ n. Holds u disk opens held (with_count s x (n - 1))) (sym is) (several_holds t u disk opens held s x h r more)
          | inr one ↦
              let none : 0 ≡ count_of s x - 1 = omega arith in
              subst (λ n. Holds u disk opens held (with_count s x n)) none
              (subst (λ l. Holds u disk opens (l ++ held) (with_count s x 0)) (childless h.stands.sized)
              (last_holds t u disk opens held s x h r (omega (arith, one, held_positive t disk opens held s x h))))
        ]

    pub data_taken : get_or t.data_now p 0 ≡ 0 → get_or t.data_kept p 0 ≡ 0 → Holds t disk opens held s → Holds (with_data t p 1) disk opens (x ∷ held) (with_count s x 1)
    data_taken now kept h =
        let is : count_of s x ≡ 0 = ap (λ l. get_or l x 0) h.stands.counts ∙ data_at ∙ now in
        let is_kept : kept_of s x ≡ 0 = ap (λ l. get_or l x 0) h.stands.kept ∙ kept_data_at ∙ kept in
        let below : x < length s.counts = omega (arith, ap length h.stands.counts, length-append t.metadata_now t.data_now, sized.metadata_now, sized.data_now) in
        let q = taken_reference t (with_data t p 1) disk opens held s x below is is_kept (data_recounted 1) h in
        record {
          stands = record {
            counts = q.stands.counts;
            kept = q.stands.kept;
            sized = q.stands.sized;
            nodes = λ b live closed ranked. q.stands.nodes b live (apart b closed ranked) ranked;
          };
          balanced = closed_empty (with_count s x 1) opens held x q.balanced (childless h.stands.sized);
        }
      where
        apart : (b : ℕ) → occurrences b opens ≡ 0 → 0 < (node_at s b).rank → occurrences b (x ∷ opens) ≡ 0
        apart b closed ranked =
            let d = λ (e : b ≡ x). let z : (node_at s b).rank ≡ 0 = ap (λ y. (node_at s y).rank) e ∙ ap (λ (n : Node). n.rank) (get_or_past s.nodes x no_node (omega (arith, h.stands.sized))) in let v : ⊥ = omega arith in v in
            omega (arith, closed, one_other x b (λ e. d (sym e)))

-- ---- a commit

pub keep_holds : (t : Tm) (disk : DiskState) (held : List ℕ) (s : Store) → Holds t disk [] held s → Holds (kept_now t) disk [] held (committed s)
keep_holds t disk held s h = record {
  stands = record { counts = h.stands.counts; kept = h.stands.counts; sized = h.stands.sized; nodes = h.stands.nodes };
  balanced = kept_changed s (committed s) held refl refl refl h.balanced;
}
