-- Free data blocks, and what stands after one was taken and after a commit was kept.
use Rattle.std.proofs.Common.{◌≡◌, ℕ, suc, zero, ◌+◌, ◌<◌, ◌≤◌, List, [], ◌∷◌, ◌++◌, ◌==◌, ◌&&◌, cond, get_or, refl, sym, ap, subst, ◌∙◌, arith, Bool, true, false}
use Rattle.std.specs.Prelude.{length, ◌^◌}
use Rattle.std.proofs.lemmas.Bool.{and_parts, false≢true}
use Rattle.tp_model.specs.Disk.{DiskState}
use Rattle.tp_model.proofs.Counting.{count_more}
use Rattle.tp_counts.specs.Counts as counts
use Rattle.tp_refs.specs.Store.{Store, committed, with_count}
use Rattle.tp_refs.proofs.Steps.{frame_same}
use Rattle.tp_sharing.specs.Forest.{held_refs}
use Rattle.tp_sharing.specs.Volumes.{AreSized, Volumes}
use Rattle.tp_sharing.proofs.Held.{held_stays}
use Rattle.tp_sharing.proofs.Later.{forest_stays}
use Rattle.tp_stored.specs.Commit.{fixed_blocks, held_by}
use Rattle.tp_tm.specs.Tm.{IsSized, Tm, data_counts, kept_now}
use Rattle.tp_tm.specs.Holds.{Holds}
use Rattle.tp_tm.proofs.Counting.{keep_holds, with_data}
use Rattle.tp_mapping.specs.Mapping.{IsLeastFree, NoneIsFree}
use Rattle.tp_mapping.specs.Trees.{StandForVolumes}
use Rattle.tp_mapping.specs.Held.{HoldTrees}
use Rattle.tp_mapping.specs.declared.trees.TreeMapping.{TreeMapping}
use Rattle.tp_mapping.proofs.Tallying.{unused_now}
use Rattle.tp_mapping.proofs.Holding.{SameCommit, same_trees}

pub fresh_commit : (t u : Tm) (place : ℕ) → u ≡ with_data t place 1 → SameCommit t u
fresh_commit t u place is = record { geometry = ap (λ (t : Tm). t.geometry) is; metadata_kept = ap (λ (t : Tm). t.metadata_kept) is; data_kept = ap (λ (t : Tm). t.data_kept) is; held_root = ap (λ (t : Tm). t.held_root) is }

-- trees where a reference to a data block was taken
pub fresh_held : (t u : Tm) (disk : DiskState) (root : ℕ) (now : Volumes) → HoldTrees t.geometry t disk root [] now → (place : ℕ) → u ≡ with_data t place 1
    → ((disk : DiskState) (opens held : List ℕ) (s : Store) → Holds t disk opens held s → Holds u disk opens ((t.geometry.metadata_blocks + place) ∷ held) (with_count s (t.geometry.metadata_blocks + place) 1))
    → HoldTrees t.geometry u disk root ((t.geometry.metadata_blocks + place) ∷ []) now
fresh_held t u disk root now h place is takes =
    let x = t.geometry.metadata_blocks + place in
    let v = with_count h.store x 1 in
    same_trees t.geometry t disk root [] now h u disk (x ∷ []) v (fresh_commit t u place is) (takes disk [] (held_by t.geometry root t.held_root) h.store h.holds) (frame_same h.store v (held_by t.geometry root t.held_root) refl)

module _ (m : TreeMapping) (disk : DiskState) (now kept : Volumes) (s : StandForVolumes m disk now kept) where
  pub none_is_free : IsSized m.tm → ((b : ℕ) → counts.IsFree (data_counts m.tm) b → ⊥) → NoneIsFree m.tm.geometry now kept
  none_is_free sized none place inside free =
      none place (record { inside = inside; now = (unused_now m disk now kept s sized place).1 free.0; kept = (s.kept_places place inside).1 free.1 })

  pub least_is_free : IsSized m.tm → (place : ℕ) → counts.IsLeastFree (data_counts m.tm) place → IsLeastFree m.tm.geometry now kept place
  least_is_free sized place l = record {
    inside = l.free.inside;
    free = ((unused_now m disk now kept s sized place).0 l.free.now, (s.kept_places place l.free.inside).0 l.free.kept);
    least = λ other less free.
        let low : other < m.tm.geometry.data_blocks = omega (arith, less, l.free.inside) in
        l.least other less (record { inside = low; now = (unused_now m disk now kept s sized other).1 free.0; kept = (s.kept_places other low).1 free.1 });
  }

-- ---- a commit that was kept

pub kept_stand : (m : TreeMapping) (disk : DiskState) (now kept : Volumes) → StandForVolumes m disk now kept → IsSized m.tm → StandForVolumes (record { tm = kept_now m.tm; root = m.root }) disk now now
kept_stand m disk now kept s sized =
    let held = held_by m.tm.geometry m.root m.tm.held_root in
    let h = keep_holds m.tm disk held s.store s.holds in
    let f = forest_stays s.store (committed s.store) m.root (fixed_blocks m.tm.geometry) (2 ^ 24) s.sound.forest refl (frame_same s.store (committed s.store) (m.root ∷ fixed_blocks m.tm.geometry) refl) in
    let c = held_stays s.store (committed s.store) m.tm.held_root (fixed_blocks m.tm.geometry) (2 ^ 24) s.sound.copy refl (frame_same s.store (committed s.store) (held_refs m.tm.held_root ++ fixed_blocks m.tm.geometry) refl) in
    record {
      store = committed s.store;
      holds = h;
      sound = record {
        limits = s.sound.limits;
        sized = s.sound.sized;
        counted = s.sound.counted;
        balanced = h.balanced;
        forest = f.forest;
        sizes = subst (λ (ds : Volumes). AreSized m.tm.geometry ds) (λ i. sym (f.lists m.tm.geometry.metadata_blocks) i ++ sym (c.1 m.tm.geometry.metadata_blocks) i) s.sound.sizes;
        copy = c.0;
        few = omega (arith, ap length f.devices, s.sound.few);
        few_held = omega (arith, ap length (c.1 m.tm.geometry.metadata_blocks), s.sound.few_held);
      };
      listed = s.listed ∙ (λ i. sym (f.lists m.tm.geometry.metadata_blocks) i ++ sym (c.1 m.tm.geometry.metadata_blocks) i);
      within = record { limits = s.within.limits; volumes_now = s.within.volumes_now; volumes_kept = s.within.volumes_now; sized = sized.metadata_now };
      kept_places = λ place inside. unused_now m disk now kept s sized place;
    }

at_most : (s t : Bool) → (s ≡ true → t ≡ true) → cond s 1 0 ≤ cond t 1 0
at_most false t h = omega arith
at_most true true h = omega arith
at_most true false h = absurd (false≢true (h refl))

free_as_kept : (x y : ℕ) → (x == 0 && y == 0) ≡ true → (x == 0 && x == 0) ≡ true
free_as_kept x y h = let parts = and_parts (x == 0) (y == 0) h in (λ i. parts.0 i && parts.0 i)

-- blocks that are free stay free when a commit is kept
pub more_free : (n : ℕ) (now kept : List ℕ) → counts.free_in n now kept ≤ counts.free_in n now now
more_free zero now kept = omega arith
more_free (suc n) now kept =
    let k : n + 1 ≡ suc n = omega arith in
    let before = ap (λ j. counts.free_in j now kept) (sym k) ∙ count_more (counts.is_free now kept) n in
    let after = ap (λ j. counts.free_in j now now) (sym k) ∙ count_more (counts.is_free now now) n in
    omega (arith, before, after, more_free n now kept, at_most (counts.is_free now kept n) (counts.is_free now now n) (free_as_kept (get_or now n 0) (get_or kept n 0)))
