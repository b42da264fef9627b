-- The counts of data blocks tell how many the slots have, and how many are free.
use Rattle.std.proofs.Common.{◌≡◌, ℕ, ◌+◌, ◌-◌, ◌≤◌, ◌==◌, ◌&&◌, ◌||◌, not, Bool, true, false, List, length, refl, sym, ap, subst, ◌∙◌, arith}
use Rattle.std.specs.Prelude.{◌↔◌, ◌^◌, nat_lt, slice_index}
use Rattle.std.specs.List.{count_by, range_with_len}
use Rattle.std.proofs.lemmas.Bool.{eq-eqb, eqb-true, false≢true}
use Rattle.std.proofs.lemmas.List.{get_or-append_right}
use Rattle.tp_model.specs.Disk.{DiskState}
use Rattle.tp_model.proofs.Counting.{count_opposite, counts_agree}
use Rattle.tp_counts.specs.Counts.{is_free}
use Rattle.tp_refs.specs.Store.{count_of}
use Rattle.tp_sharing.specs.Volumes.{DevicesAscend, Unused, Volumes, used}
use Rattle.tp_sharing.proofs.InUse.{free_unused, used_different}
use Rattle.tp_stored.specs.Commit.{fixed_blocks}
use Rattle.tp_tm.specs.Tm.{IsSized, Tm, free_data, free_metadata, used_data}
use Rattle.tp_mapping.specs.Mapping.{free_places}
use Rattle.tp_mapping.specs.Slots.{is_used}
use Rattle.tp_mapping.specs.Trees.{StandForVolumes}
use Rattle.tp_mapping.specs.declared.trees.TreeMapping.{TreeMapping}
use Rattle.tp_mapping.proofs.Between.{sound_both}
use Rattle.tp_mapping.proofs.Uses.{slot_from_used, used_from_slot}

zero_if_unused : (n p : ℕ) (ds : Volumes) → DevicesAscend 0 ds → (n ≡ 0) ↔ (Unused p ds) → (n == 0) ≡ not (is_used p ds)
zero_if_unused n p ds a both = go (n == 0) refl (is_used p ds) refl where
  go : (z : Bool) → (n == 0) ≡ z → (u : Bool) → is_used p ds ≡ u → z ≡ not u
  go true e true f = let r = slot_from_used p ds a f in absurd (both.0 (eqb-true n 0 e) r.0 r.1 r.2)
  go true e false f = refl
  go false e true f = refl
  go false e false f = absurd (false≢true (sym e ∙ eq-eqb n 0 (both.1 (λ id block h. false≢true (sym f ∙ used_from_slot id block p ds h)))))

both_not : (a b u v : Bool) → a ≡ not u → b ≡ not v → (a && b) ≡ not (u || v)
both_not a b true v e f = ap (λ z. z && b) e
both_not a b false v e f = ap (λ z. z && b) e ∙ f

module _ (m : TreeMapping) (disk : DiskState) (now kept : Volumes) (s : StandForVolumes m disk now kept) (sized : IsSized m.tm) where
  abbrev blocks : ℕ
  blocks = m.tm.geometry.metadata_blocks

  count_is : (p : ℕ) → count_of s.store (blocks + p) ≡ slice_index m.tm.data_now p
  count_is p =
      ap (λ (l : List ℕ). slice_index l (blocks + p)) s.holds.stands.counts
      ∙ get_or-append_right {X = ℕ} m.tm.metadata_now m.tm.data_now blocks (blocks + p) 0 sized.metadata_now (omega arith)
      ∙ let e : blocks + p - blocks ≡ p = omega arith in ap (slice_index m.tm.data_now) e

  places_many : length s.store.counts - blocks ≡ m.tm.geometry.data_blocks
  places_many = omega (arith, s.sound.counted)

  pub used_is : used_data m.tm ≡ used now
  used_is =
      counts_agree (λ p. nat_lt 0 (slice_index m.tm.data_now p)) (λ p. nat_lt 0 (count_of s.store (blocks + p))) m.tm.geometry.data_blocks (λ p l. ap (nat_lt 0) (sym (count_is p)))
      ∙ ap (λ n. count_by (λ p. nat_lt 0 (count_of s.store (blocks + p))) (range_with_len 0 n)) (sym places_many)
      ∙ used_different blocks s.store m.root m.tm.held_root (fixed_blocks m.tm.geometry) (2 ^ 24) s.sound.balanced (sound_both m.tm.geometry m.root m.tm.held_root s.store s.sound) s.sound.sized
      ∙ ap used (sym s.listed)

  -- a data block's count is 0 exactly where no slot has it
  pub unused_now : (p : ℕ) → (slice_index m.tm.data_now p ≡ 0) ↔ (Unused p now)
  unused_now p =
      let both = free_unused blocks s.store m.root m.tm.held_root (fixed_blocks m.tm.geometry) (2 ^ 24) s.sound.balanced (sound_both m.tm.geometry m.root m.tm.held_root s.store s.sound) s.sound.sized p in (
        λ e. subst (Unused p) (sym s.listed) (both.0 (count_is p ∙ e)),
        λ none. sym (count_is p) ∙ both.1 (subst (Unused p) s.listed none),
      )

  pub free_is : free_data m.tm ≡ free_places m.tm.geometry now kept
  free_is =
      counts_agree (λ p. slice_index m.tm.data_now p == 0 && slice_index m.tm.data_kept p == 0) (λ p. not (is_used p now || is_used p kept)) m.tm.geometry.data_blocks
      (λ p l. both_not (slice_index m.tm.data_now p == 0) (slice_index m.tm.data_kept p == 0) (is_used p now) (is_used p kept)
      (zero_if_unused (slice_index m.tm.data_now p) p now s.within.volumes_now.ascend (unused_now p))
      (zero_if_unused (slice_index m.tm.data_kept p) p kept s.within.volumes_kept.ascend (s.kept_places p l)))

pub free_few : (t : Tm) → free_metadata t ≤ t.geometry.metadata_blocks
free_few t = omega (arith, count_opposite (is_free t.metadata_now t.metadata_kept) t.geometry.metadata_blocks)
