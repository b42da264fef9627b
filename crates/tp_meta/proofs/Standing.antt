-- The trees of a commit stand for its contents.
use Rattle.std.proofs.Common.{◌≡◌, inl, ℕ, ◌+◌, ◌-◌, false, List, [], length, get_or, refl, sym, ap, subst, ◌∙◌, arith}
use Rattle.std.specs.Prelude.{◌^◌, IfSome, IsTrue, ◌↔◌, replicate, slice_index, take}
use Rattle.std.proofs.lemmas.List.{get_or-append_right, length-replicate, take_at}
use Rattle.tp_model.specs.Geometry.{Geometry}
use Rattle.tp_model.specs.Disk.{Cell, DiskState, IsSettled, seen}
use Rattle.tp_model.specs.DiskStops.{Leaves}
use Rattle.tp_model.proofs.DiskStopLaws.{AfterStop-seen, leaves_settled}
use Rattle.tp_layout.specs.declared.superblock.Superblock.{Superblock}
use Rattle.tp_refs.specs.Store.{Store, count_of}
use Rattle.tp_sharing.specs.Volumes.{Unused, devices_in, volumes_of}
use Rattle.tp_sharing.proofs.InUse.{free_is_unused}
use Rattle.tp_stored.specs.Commit.{IsCommit, IsSound, fixed_blocks, held_by}
use Rattle.tp_stored.specs.Contents.{contents_of}
use Rattle.tp_counts.specs.Counts.{used_in}
use Rattle.tp_tm.specs.Tm.{IsSized, Tm, counts_now, kept_now}
use Rattle.tp_tm.specs.Holds.{Holds}
use Rattle.tp_mapping.specs.Trees.{StandForVolumes}
use Rattle.tp_mapping.proofs.Between.{sound_both, sound_within}
use Rattle.tp_mapping.specs.declared.trees.TreeMapping.{TreeMapping}
use Rattle.tp_meta.specs.Stale.{AreCurrent}
use Rattle.tp_meta.specs.Standing.{StandsFor}
use Rattle.tp_meta.specs.declared.whole.Meta.{Meta}
use Rattle.tp_meta.proofs.Telling.{used_is_use}

abbrev Stand : TreeMapping → DiskState → Store → Geometry → ℕ → ℕ → Type 0
Stand m disk s g root held =
    Holds m.tm disk [] (held_by g root held) s → IsSound g root held s → s.kept ≡ s.counts → length m.tm.metadata_kept ≡ g.metadata_blocks
    → StandForVolumes m disk (volumes_of g.metadata_blocks s root held) (volumes_of g.metadata_blocks s root held)

stand_here : (m : TreeMapping) (disk : DiskState) (s : Store) → Stand m disk s m.tm.geometry m.root m.tm.held_root
stand_here m disk s holds sound kept long = record {
  store = s;
  holds = holds;
  sound = sound;
  listed = refl;
  within = record {
    limits = sound.limits;
    volumes_now = sound_within m.tm.geometry m.root m.tm.held_root s sound;
    volumes_kept = sound_within m.tm.geometry m.root m.tm.held_root s sound;
    sized = long;
  };
  kept_places = λ place lt.
      let n = m.tm.geometry.metadata_blocks in
      let z : n + place - n ≡ place = omega arith in
      let is : count_of s (n + place) ≡ slice_index m.tm.data_kept place =
      ap (λ (l : List ℕ). get_or l (n + place) 0) (sym kept ∙ holds.stands.kept)
      ∙ get_or-append_right {X = ℕ} m.tm.metadata_kept m.tm.data_kept n (n + place) 0 long (omega arith) ∙ ap (λ i. get_or m.tm.data_kept i 0) z in
      subst (λ k. (k ≡ 0) ↔ Unused place (volumes_of n s m.root m.tm.held_root)) is
      (free_is_unused n s m.root m.tm.held_root (fixed_blocks m.tm.geometry) (2 ^ 24) sound.balanced (sound_both m.tm.geometry m.root m.tm.held_root s sound) sound.sized place);
}

stand : (m : TreeMapping) (disk : DiskState) (s : Store) (g : Geometry) (root held : ℕ) → m.tm.geometry ≡ g → m.root ≡ root → m.tm.held_root ≡ held → Stand m disk s g root held
stand m disk s g root held geometry here copy =
    subst (λ h. Stand m disk s g root h) copy (subst (λ r. Stand m disk s g r m.tm.held_root) here (subst (λ (k : Geometry). Stand m disk s k m.root m.tm.held_root) geometry (stand_here m disk s)))

pub used_now : (n k : ℕ) (s : Store) (t : Tm) → s.counts ≡ counts_now t → n ≡ k → length t.metadata_now ≡ k → used_in n s.counts ≡ used_in k t.metadata_now
used_now n k s t now same long =
    ap (λ j. used_in j s.counts) same ∙ ap (used_in k) now ∙ sym (used_is_use k t.metadata_now t.data_now (omega (arith, long)))

pub stands_unchanged : (m : Meta) (disk : DiskState) (s : Store) → IsTrue disk.is_honest → Leaves (λ image. IsCommit image m.last s) disk.cells
    → Holds m.mapping.tm disk [] (held_by m.last.geometry m.last.root m.last.held_root) s → m.mapping.tm.geometry ≡ m.last.geometry → m.mapping.root ≡ m.last.root → m.mapping.tm.held_root ≡ m.last.held_root
    → IfSome m.devices (λ n. n ≡ devices_in (volumes_of m.last.geometry.metadata_blocks s m.last.root m.last.held_root)) → IsSized m.mapping.tm
    → kept_now m.mapping.tm ≡ m.mapping.tm → m.marks ≡ replicate m.last.geometry.data_blocks false → m.transaction_id ≡ m.last.transaction_id → m.needs_check ≡ m.last.needs_check
    → AreCurrent m.mapping.tm m.stale.value (seen disk.cells) → StandsFor m disk (contents_of m.last s) (contents_of m.last s)
stands_unchanged m disk s honest left holds geometry root held numbered sized alike marks transaction_id needs_check current =
    let c = left (seen disk.cells) (AfterStop-seen disk.cells) in
    let g = m.last.geometry in
    let blocks : m.mapping.tm.geometry.metadata_blocks ≡ g.metadata_blocks = ap (λ (k : Geometry). k.metadata_blocks) geometry in
    record {
      honest = honest;
      mapping = stand m.mapping disk s g m.last.root m.last.held_root geometry root held holds c.sound c.kept (sized.metadata_kept ∙ blocks);
      held_root = held;
      numbered = numbered;
      transaction_id = transaction_id;
      needs_check = needs_check;
      meta_used = used_now g.metadata_blocks m.mapping.tm.geometry.metadata_blocks s m.mapping.tm holds.stands.counts (sym blocks) (sized.metadata_now);
      geometry = geometry;
      commit = s;
      left = left;
      kept_counts = sym (take_at m.mapping.tm.metadata_kept m.mapping.tm.data_kept g.metadata_blocks (sized.metadata_kept ∙ blocks)) ∙ ap (take g.metadata_blocks) (sym holds.stands.kept ∙ c.kept);
      kept_contents = refl;
      sized = sized.metadata_now;
      current = current;
      marks_long = ap length marks ∙ length-replicate g.data_blocks false ∙ ap (λ (k : Geometry). k.data_blocks) (sym geometry);
      tracked = λ id block place h. inl h;
      same_contents = λ unchanged. refl;
      same_counts = λ unchanged. alike;
    }

pub settled_leaves : (last : Superblock) (s : Store) (cells : List Cell) → IsSettled cells → IsCommit (seen cells) last s → Leaves (λ image. IsCommit image last s) cells
settled_leaves last s cells settled commit = leaves_settled (λ image. IsCommit image last s) (seen cells) cells settled commit
