-- From trees that stand for volumes to those that are changed, and back.
use Rattle.std.proofs.Common.{◌≡◌, ℕ, zero, suc, ◌-◌, ◌<◌, ◌≤◌, Bool, true, false, List, [], ◌∷◌, length, refl, sym, ap, subst, ◌∙◌, arith, inl, inr, Option, Some, None, true≢false}
use Rattle.std.specs.Prelude.{Err, IfOk, IsSome, Ok, Result, is_some, ◌↔◌, ◌^◌, slice_index}
use Rattle.tp_model.specs.Geometry.{Geometry}
use Rattle.tp_model.specs.Disk.{DiskState, after_read}
use Rattle.tp_refs.specs.Store.{Store}
use Rattle.tp_sharing.specs.Forest.{Forest, Forests, HeldForest, held_refs}
use Rattle.tp_sharing.specs.Volumes.{AreSized, BlockSlot, DevicesAscend, Unused, Volumes, copy_id, device_of, devices_in, size_of, place_in, place_or_none, with_device, with_place, with_slot, volumes_of}
use Rattle.tp_sharing.proofs.Changed.{with_is_changed}
use Rattle.tp_sharing.proofs.InUse.{slots_are_within}
use Rattle.std.proofs.lemmas.Bool.{cases_lt}
use Rattle.tp_sharing.proofs.Copies.{copies_are_listed, lists_ascend, none_beyond}
use Rattle.tp_sharing.proofs.Held.{forests_of_both}
use Rattle.tp_mapping.proofs.Within.{devices_of_both}
use Rattle.tp_sharing.proofs.Told.{size_changes}
use Rattle.tp_stored.specs.Commit.{IsSound, fixed_blocks, held_by}
use Rattle.tp_tm.specs.Tm.{Tm, free_metadata}
use Rattle.tp_tm.specs.Holds.{Holds}
use Rattle.tp_btree.specs.Inserts.{Ran}
use Rattle.tp_btree.proofs.Running.{ran_read, ran_then}
use Rattle.tp_mapping.specs.Mapping as mapping
use Rattle.tp_mapping.specs.Mapping.{AreWithin, IsWithin}
use Rattle.tp_mapping.specs.Trees.{StandForVolumes}
use Rattle.tp_mapping.specs.Held.{HoldTrees}
use Rattle.tp_mapping.specs.declared.trees.TreeMapping.{TreeMapping}
use Rattle.tp_mapping.proofs.Holding.{SameCommit, both, devices_few, nodes_many}

none_some : {X : Type 0} (y : X) → ◌≡◌ {A = Option X} None (Some y) → ⊥
none_some y h = true≢false (sym (ap is_some h))

-- both forests of sound trees
pub sound_both : (g : Geometry) (root held : ℕ) (s : Store) → IsSound g root held s → Forests s (root ∷ held_refs held) (fixed_blocks g) (2 ^ 24)
sound_both g root held s sound = forests_of_both s root held (fixed_blocks g) (2 ^ 24) sound.forest sound.copy

none_is : {X : Type 0} (o : Option X) (x : X) → o ≡ None → o ≡ Some x → ⊥
none_is o x e h = none_some x (sym e ∙ h)

-- an id of a device, or of a copy of one
copy_low : (g : Geometry) (root held : ℕ) (s : Store) → Forest s root (fixed_blocks g) (2 ^ 24) → HeldForest s held (fixed_blocks g) (2 ^ 24) → (d : ℕ) → 2 ^ 24 ≤ d
    → device_of (copy_id d) (volumes_of g.metadata_blocks s root held) ≡ None
copy_low g root zero s f copy d high = copies_are_listed.none g.metadata_blocks s root (fixed_blocks g) (2 ^ 24) d f
copy_low g root (suc n) s f copy d high =
    copies_are_listed.copy g.metadata_blocks s root n (fixed_blocks g) (2 ^ 24) d f ∙ none_beyond g.metadata_blocks s (suc n) (fixed_blocks g) (2 ^ 24) d copy high

ids_low : (g : Geometry) (root held : ℕ) (s : Store) → IsSound g root held s → (id : ℕ) (slots : List BlockSlot) → device_of id (volumes_of g.metadata_blocks s root held) ≡ Some slots → id < 2 ^ 25
ids_low g root held s sound id slots h =
    elim (cases_lt id (2 ^ 25)) [
      | inl l ↦ l
      | inr ge ↦
          let e : copy_id (id - 2 ^ 24) ≡ id = omega (arith, ge) in
          let none = copy_low g root held s sound.forest sound.copy (id - 2 ^ 24) (omega (arith, ge)) in
          absurd (none_is (device_of id (volumes_of g.metadata_blocks s root held)) slots (subst (λ n. device_of n (volumes_of g.metadata_blocks s root held) ≡ None) e none) h)
    ]

-- each device tells a size
pub size_there : (id : ℕ) (ds : Volumes) (xs : List BlockSlot) → device_of id ds ≡ Some xs → (size : ℕ) × (size_of id ds ≡ Some size)
size_there id ds xs is = go (size_of id ds) refl where
  go : (o : Option ℕ) → size_of id ds ≡ o → (size : ℕ) × (size_of id ds ≡ Some size)
  go (Some n) e = (n, e)
  go None e = absurd (true≢false (sym (ap is_some (sym e) ∙ (size_changes.told id ds ∙ ap is_some is))))

-- the volumes of sound trees are within the sizes
pub sound_within : (g : Geometry) (root held : ℕ) (s : Store) → IsSound g root held s → IsWithin g (volumes_of g.metadata_blocks s root held)
sound_within g root held s sound = record {
  ascend = lists_ascend g.metadata_blocks s root held (fixed_blocks g) (2 ^ 24) (sound_both g root held s sound);
  few = omega (arith, devices_of_both g.metadata_blocks s root held (fixed_blocks g) (2 ^ 24) sound.forest, sound.few);
  ids = ids_low g root held s sound;
  slots = λ id block place h.
      let r = slots_are_within g.metadata_blocks s root held (fixed_blocks g) (2 ^ 24) sound.balanced (sound_both g root held s sound) sound.sized id block place h in
      (r.1, omega (arith, r.2, sound.counted));
  sized = sound.sizes;
}

-- ---- trees that stand

pub held_trees : (m : TreeMapping) (disk : DiskState) (now kept : Volumes) → StandForVolumes m disk now kept → HoldTrees m.tm.geometry m.tm disk m.root [] now
held_trees m disk now kept s = record {
  store = s.store;
  geometry = refl;
  holds = s.holds;
  limits = s.sound.limits;
  counted = s.sound.counted;
  forest = s.sound.forest;
  copy = s.sound.copy;
  listed = s.listed;
  few = omega (arith, s.sound.few, ap devices_in s.listed, devices_of_both m.tm.geometry.metadata_blocks s.store m.root m.tm.held_root (fixed_blocks m.tm.geometry) (2 ^ 24) s.sound.forest);
  few_held = s.sound.few_held;
  sizes = subst (λ (ds : Volumes). AreSized m.tm.geometry ds) (sym s.listed) s.sound.sizes;
}

sound_trees : (g : Geometry) (t : Tm) (disk : DiskState) (root : ℕ) (now : Volumes) → (h : HoldTrees g t disk root [] now) → IsSound g root t.held_root h.store
sound_trees g t disk root now h = record {
  limits = h.limits;
  sized = nodes_many g t disk root [] now h;
  counted = h.counted;
  balanced = h.holds.balanced;
  forest = h.forest;
  copy = h.copy;
  few = devices_few g t disk root [] now h;
  few_held = h.few_held;
  sizes = subst (λ (ds : Volumes). AreSized g ds) h.listed h.sizes;
}

-- trees stand for volumes beside a last commit
module _ (kept : Volumes) (n : TreeMapping) (later : DiskState) (after : Volumes) where
  pub again : (g : Geometry) → n.tm.geometry ≡ g → IsWithin g kept → length n.tm.metadata_kept ≡ g.metadata_blocks → (h : HoldTrees g n.tm later n.root [] after)
      → ((place : ℕ) → place < g.data_blocks → (slice_index n.tm.data_kept place ≡ 0) ↔ Unused place kept) → StandForVolumes n later after kept
  again g e w long h places =
      let sound = sound_trees g n.tm later n.root after h in
      let within : AreWithin g n.tm.metadata_kept after kept = record {
        limits = h.limits;
        volumes_now = subst (λ (ds : Volumes). IsWithin g ds) (sym h.listed) (sound_within g n.root n.tm.held_root h.store sound);
        volumes_kept = w;
        sized = long;
      } in record {
        store = h.store;
        holds = subst (λ (k : Geometry). Holds n.tm later [] (held_by k n.root n.tm.held_root) h.store) (sym e) h.holds;
        sound = subst (λ (k : Geometry). IsSound k n.root n.tm.held_root h.store) (sym e) sound;
        listed = h.listed ∙ ap (λ (k : Geometry). volumes_of k.metadata_blocks h.store n.root n.tm.held_root) (sym e);
        within = subst (λ (k : Geometry). AreWithin k n.tm.metadata_kept after kept) (sym e) within;
        kept_places = λ place lt. places place (omega (arith, lt, ap (λ (k : Geometry). k.data_blocks) e));
      }

-- trees on another disk, or of a later store of nodes, stand for volumes beside the same last commit
module _ (m : TreeMapping) (disk : DiskState) (now kept : Volumes) (s : StandForVolumes m disk now kept) (n : TreeMapping) (later : DiskState) (after : Volumes) (c : SameCommit m.tm n.tm) where
  abbrev g : Geometry
  g = m.tm.geometry

  pub stand_again : HoldTrees m.tm.geometry n.tm later n.root [] after → StandForVolumes n later after kept
  stand_again h =
      again kept n later after m.tm.geometry c.geometry s.within.volumes_kept (ap length c.metadata_kept ∙ s.within.sized) h
      (λ place lt. subst (λ (l : List ℕ). (slice_index l place ≡ 0) ↔ Unused place kept) (sym c.data_kept) (s.kept_places place lt))

-- ---- one device with other slots

module _ (g : Geometry) (t : Tm) (disk : DiskState) (root : ℕ) (more : List ℕ) (now : Volumes) (h : HoldTrees g t disk root more now) where
  pub trees_ascend : DevicesAscend 0 now
  trees_ascend = subst (DevicesAscend 0) (sym h.listed) (lists_ascend g.metadata_blocks h.store root t.held_root (fixed_blocks g) (2 ^ 24) (both g t disk root more now h))

  pub with_slot_is : (device size : ℕ) (x : BlockSlot) (slots : List BlockSlot) → device_of device now ≡ Some slots → size_of device now ≡ Some size
      → with_device (record { id = device; size = size; slots = with_place x slots }) now ≡ with_slot device x now
  with_slot_is device size x slots is told = with_is_changed 0 device size (with_place x) slots now trees_ascend is told

-- ---- what calls leave

pub ran_as : (n k : ℕ) (fault : Bool) (t u : Tm) (a b : DiskState) → n ≤ k → Ran n fault t u a b
    → mapping.Ran k fault (free_metadata t) (free_metadata u) t.metadata_kept u.metadata_kept t.geometry u.geometry a b
ran_as n k fault t u a b fits r = record {
  geometry = r.geometry;
  counts_kept = r.metadata_kept;
  room = omega (arith, fits, r.room);
  any_moment = r.any_moment;
  same_disk = r.same_disk;
  cause = r.cause;
  flushes = r.flushes;
}

-- a read, and then a call
pub read_then : (n m : ℕ) (fault : Bool) (t u : Tm) (a b c : DiskState) → n ≤ m → b ≡ after_read true a → Ran n fault t u b c → Ran m fault t u a c
read_then n m fault t u a b c fits e r = ran_then 0 n m fault t t u a b c (omega (arith, fits)) (ran_read 0 false t t a b refl refl refl refl (omega arith) (omega arith) e) r

-- ---- what is there

pub is_there : {A : Type 0} (o : Option A) (x : A) → o ≡ Some x → IsSome o
is_there o x e = subst IsSome (sym e) refl

pub same_some : {A : Type 0} (x y : A) → Some x ≡ Some y → x ≡ y
same_some x y h = cc

-- two clauses of one answer
pub if_ok_two : {A E : Type 0} {P Q R : A → Type 0} (r : Result A E) → ((x : A) → P x → Q x → R x) → IfOk r P → IfOk r Q → IfOk r R
if_ok_two (Ok x) f p q = f x p q
if_ok_two (Err e) f p q = tt

pub some_there : {A : Type 0} (o : Option A) → IsSome o → (x : A) × (o ≡ Some x)
some_there None h = absurd (true≢false (sym h))
some_there (Some x) h = (x, refl)

pub slots_there : (block : ℕ) (o : Option (List BlockSlot)) → IsSome (place_or_none block o) → (xs : List BlockSlot) × (o ≡ Some xs) × IsSome (place_in block xs)
slots_there block None h = absurd (true≢false (sym h))
slots_there block (Some xs) h = (xs, refl, h)
