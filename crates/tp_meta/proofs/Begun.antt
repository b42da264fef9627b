-- A commit of metadata in its midst.
use Rattle.std.proofs.Common.{◌≡◌, ◌+◌, ◌<◌, ◌≤◌, ℕ, Bool, true, false, List, length, refl, sym, ap, subst, ◌∙◌, replicate, []}
use Rattle.std.specs.Prelude.{Ok, Err, if◌then◌else◌}
use Rattle.tp_model.specs.Geometry.{fixed_part}
use Rattle.tp_model.specs.Disk.{DiskState, IsSameDisk, seen}
use Rattle.tp_layout.specs.declared.superblock.Superblock.{Superblock}
use Rattle.tp_refs.specs.Store.{Store, committed, node_at}
use Rattle.tp_stored.specs.Contents.{Contents, SameData}
use Rattle.tp_tm.specs.Tm.{IsSized, Tm, free_metadata}
use Rattle.tp_tm.specs.Holds.{Holds}
use Rattle.tp_mapping.proofs.Fresh.{more_free}
use Rattle.tp_stored.specs.Commit.{held_by}
use Rattle.tp_meta.specs.Metadata as calls
use Rattle.tp_meta.specs.Midway.{CommitStage, IsMidway, IsNamed, IsWritten, StoresCommit, TellsFor}
use Rattle.tp_meta.specs.Stale.{AreCurrent}
use Rattle.tp_meta.specs.Standing.{StandsFor, changed_of, geometry_of, marks_of, next_of, room_of}
use Rattle.tp_meta.specs.declared.stale.StaleBlocks.{StaleBlocks}
use Rattle.tp_meta.specs.declared.whole.Meta.{Meta}
use Rattle.tp_meta.proofs.Commits.{SameData-then, bare}
use Rattle.tp_meta.proofs.Committed.{IsCommitted, is_committing, kept_next, none_marked}
use Rattle.tp_meta.proofs.Kept.{store_data}
use Rattle.tp_meta.proofs.Midway.{named_holds}

-- what holds of the parts of the metadata that a call is lent
pub carried : (P : Tm → StaleBlocks → Superblock → Type 0) (m : Meta) (u : Tm) (z : StaleBlocks) (n : Superblock) → u ≡ m.mapping.tm → z ≡ m.stale.value → n ≡ next_of m
    → P u z n → P m.mapping.tm m.stale.value (next_of m)
carried P m u z n own alike named p =
    subst (λ (x : Superblock). P m.mapping.tm m.stale.value x) named
    (subst (λ (y : StaleBlocks). P m.mapping.tm y n) alike (subst (λ (t : Tm). P t z n) own p))

pub lent : (P : Tm → StaleBlocks → Superblock → Type 0) (m : Meta) (u : Tm) (z : StaleBlocks) (n : Superblock) → u ≡ m.mapping.tm → z ≡ m.stale.value → n ≡ next_of m
    → P m.mapping.tm m.stale.value (next_of m) → P u z n
lent P m u z n own alike named p =
    subst (λ (t : Tm). P t z n) (sym own)
    (subst (λ (y : StaleBlocks). P m.mapping.tm y n) (sym alike) (subst (λ (x : Superblock). P m.mapping.tm m.stale.value x) (sym named) p))

at_most_two : {b : Bool} → b ≡ true → (before after : ℕ) → after ≤ before + 2 → after ≤ before + (if b then 2 else 1)
at_most_two changed before after few = subst (λ (b : Bool). after ≤ before + (if b then 2 else 1)) (sym changed) few

module _ (m : Meta) (before after : DiskState) (changed : m.is_changed ≡ true) (sized : IsSized m.mapping.tm) where
  abbrev t : Tm
  t = m.mapping.tm

  -- a part failed
  pub commit_failed : {A E B F : Type 0} (error : E) (other : F) (u : Tm) (stale : StaleBlocks) (new : Meta) → geometry_of new ≡ geometry_of m
      → StoresCommit {A = A} {E = E} t u m.stale.value stale (next_of m) (Err error) before after
      → calls.IsCommitted geometry_of StandsFor marks_of room_of changed_of {A = B} {E = F} m new (Err other) before after
  commit_failed {A} {E} {B} {F} error other u stale new sizes c = record {
    kept = tt;
    marks = tt;
    committing = λ now kept st spare.
        is_committing m before now kept st sized spare t m.stale.value (next_of m) refl refl refl after c.any_moment c.same_data;
    geometry = sizes;
    room = tt;
    unchanged = tt;
    ran = record { time = c.ran.time; same_disk = c.ran.same_disk; cause = c.ran.cause; flushes = (c.ran.flushes.0, at_most_two changed before.flushes after.flushes c.ran.flushes.1); flushed = tt; settled = tt };
  }

  -- all parts were made
  pub commit_made : {A E : Type 0} (value : A) (u : Tm) (stale : StaleBlocks) (new : Meta) (f : IsCommitted m new) → new.mapping.tm ≡ u → new.stale.value ≡ stale → new.is_changed ≡ false
      → StoresCommit {A = A} {E = E} t u m.stale.value stale (next_of m) (Ok value) before after
      → calls.IsCommitted geometry_of StandsFor marks_of room_of changed_of {A = A} {E = E} m new (Ok value) before after
  commit_made {A} {E} value u stale new f own alike unchanged c =
      record {
        kept = λ now kept st spare.
            kept_next m before now kept st sized spare t m.stale.value (next_of m) refl refl refl after new f (c.ran.same_disk.is_honest ∙ st.honest) c.stored
            (λ last x y may. subst (λ (v : Tm). Holds v after [] (held_by (next_of m).geometry (next_of m).root (next_of m).held_root) (committed y)) (sym own) (c.holds last x y may))
            (λ last x y may. subst (λ (v : Tm). AreCurrent v new.stale.value (seen after.cells)) (sym own)
            (subst (λ (z : StaleBlocks). AreCurrent u z (seen after.cells)) (sym alike) (c.current last x y may)));
        marks = none_marked new.mapping.tm.geometry.data_blocks (length m.marks) new.marks f.marks
            ∙ ap (λ (v : Tm). replicate {A = Bool} v.geometry.data_blocks false) f.tm;
        committing = λ now kept st spare.
            is_committing m before now kept st sized spare t m.stale.value (next_of m) refl refl refl after c.any_moment c.same_data;
        geometry = ap (λ (v : Tm). v.geometry) f.tm;
        room = subst (λ (v : Tm). free_metadata t ≤ free_metadata v) (sym f.tm) (more_free t.geometry.metadata_blocks t.metadata_now t.metadata_kept);
        unchanged = unchanged;
        ran = record {
          time = c.ran.time;
          same_disk = c.ran.same_disk;
          cause = c.ran.cause;
          flushes = (c.ran.flushes.0, at_most_two changed before.flushes after.flushes c.ran.flushes.1);
          flushed = subst (λ (b : Bool). after.flushes ≡ before.flushes + (if b then 2 else 1)) (sym changed) c.ran.flushed;
          settled = c.ran.settled;
        };
      }

-- ---- what look-ups tell in between

module _ (m : Meta) (before disk : DiskState) where
  abbrev own : Tm
  own = m.mapping.tm

  tells_still : ((held : List ℕ) (s : Store) → Holds own before [] held s → ((b : ℕ) → b < fixed_part own.geometry → (node_at s b).rank ≡ 0) → Holds own disk [] held s) → IsSameDisk before disk
      → (now kept : Contents) → StandsFor m before now kept → TellsFor m disk now kept
  tells_still holds alike now kept st = record {
    honest = alike.is_honest ∙ st.honest;
    mapping = record {
      store = st.mapping.store;
      holds = holds (held_by own.geometry m.mapping.root own.held_root) st.mapping.store st.mapping.holds (bare own.geometry m.mapping.root own.held_root st.mapping.store st.mapping.sound);
      sound = st.mapping.sound;
      listed = st.mapping.listed;
      within = st.mapping.within;
      kept_places = st.mapping.kept_places;
    };
    marks_long = st.marks_long;
  }

  pub between_written : IsWritten 0 own m.stale.value (next_of m) before disk → calls.IsBetween geometry_of StandsFor TellsFor m before disk
  between_written w = record { told = tells_still w.holds w.same_disk; same_data = w.same_data; same_disk = w.same_disk }

  pub named_same : IsNamed own m.stale.value (next_of m) before disk → IsSameDisk before disk
  named_same nm = record {
    size = ap (λ (d : DiskState). d.size) nm.is ∙ nm.written.same_disk.size;
    is_honest = ap (λ (d : DiskState). d.is_honest) nm.is ∙ nm.written.same_disk.is_honest;
  }

  pub between_named : IsNamed own m.stale.value (next_of m) before disk → calls.IsBetween geometry_of StandsFor TellsFor m before disk
  between_named nm = record {
    told = tells_still (named_holds own m.stale.value (next_of m) before disk nm) (named_same nm);
    same_data = SameData-then own.geometry (seen before.cells) (seen nm.mid.cells) (seen disk.cells) nm.written.same_data
        (store_data own.geometry (next_of m) nm.mid disk nm.written.limits nm.settled nm.outside);
    same_disk = named_same nm;
  }
