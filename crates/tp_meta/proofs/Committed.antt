-- What a commit makes of metadata that stand.
use Rattle.std.proofs.Common.{◌≡◌, ◌⊎◌, inl, ℕ, ◌+◌, ◌≤◌, Bool, true, false, Some, List, [], ◌++◌, length, take, replicate, refl, sym, ap, subst, ◌∙◌, arith}
use Rattle.std.specs.Prelude.{IfSome, IsTrue, Option, Result, Ok, Err, if◌then◌else◌, is_err, is_ok}
use Rattle.std.proofs.lemmas.Bool.{false≢true}
use Rattle.std.proofs.lemmas.List.{length-replicate, replicate-append-replicate, take-replicate}
use Rattle.tp_model.specs.Geometry.{Geometry}
use Rattle.tp_model.specs.Sectors.{Sector}
use Rattle.tp_model.specs.Disk.{DiskState, after_flush, seen}
use Rattle.tp_model.specs.DiskStops.{Leaves, LeavesOnly}
use Rattle.tp_model.proofs.DiskStopLaws.{weakens}
use Rattle.tp_layout.specs.Super.{version_number}
use Rattle.tp_layout.specs.declared.superblock.Superblock.{Superblock}
use Rattle.tp_layout.specs.declared.superblock.Version.TheVariants.{OneSize, OwnSizes}
use Rattle.tp_refs.specs.Store.{Store, committed}
use Rattle.tp_sharing.specs.Volumes.{devices_in, slot_of, volumes_of}
use Rattle.tp_stored.specs.Commit.{IsCommit, IsSound, held_by, use_of}
use Rattle.tp_stored.specs.Contents.{Contents, HoldsContents, IsStill, SameData, contents_of}
use Rattle.tp_tm.specs.Tm.{IsSized, Tm, free_metadata, kept_now, used_metadata}
use Rattle.tp_tm.specs.Holds.{Holds}
use Rattle.tp_mapping.specs.Trees.{StandForVolumes}
use Rattle.tp_mapping.specs.declared.trees.TreeMapping.{TreeMapping}
use Rattle.tp_meta.specs.Committing.{IsNextCommit, IsStillCommit, MayCommit}
use Rattle.tp_meta.specs.Metadata.{IsCommitting, RanWithFlushes}
use Rattle.tp_meta.specs.Standing.{StandsFor, next_of}
use Rattle.tp_meta.specs.Framing.{room_kept}
use Rattle.tp_meta.specs.Stale.{AreCurrent}
use Rattle.tp_meta.specs.declared.stale.StaleBlocks.{StaleBlocks}
use Rattle.tp_meta.specs.declared.whole.Meta.{Meta}
use Rattle.tp_meta.proofs.Changing.{committed_contents, committing}
use Rattle.tp_meta.proofs.Commits.{SameData-none}
use Rattle.tp_meta.proofs.Contents.{is_settled}
use Rattle.tp_meta.proofs.Kept.{holds_seen}
use Rattle.tp_meta.proofs.Standing.{stands_unchanged, used_now}
use Rattle.tp_meta.proofs.Times.{later_flush}

-- ---- in memory

pub none_marked : (n k : ℕ) (marks : List Bool) → marks ≡ replicate k false → take n (marks ++ replicate n false) ≡ replicate n false
none_marked n k marks e =
    ap (λ (l : List Bool). take n (l ++ replicate n false)) e ∙ ap (λ (l : List Bool). take n l) (replicate-append-replicate {A = Bool} k n false)
    ∙ take-replicate n (k + n) false (omega arith)

sized_kept : (t : Tm) → IsSized t → IsSized (kept_now t)
sized_kept t sized =
    record { metadata_now = sized.metadata_now; metadata_kept = sized.metadata_now; data_now = sized.data_now; data_kept = sized.data_now }

-- the versions differ
two_versions : OwnSizes ≡ OneSize → ⊥
two_versions e = omega (arith, ap version_number e)

-- in memory all is as after a commit
pub record IsCommitted (old new : Meta) : Type 0 where
  pub tm : new.mapping.tm ≡ kept_now old.mapping.tm
  pub root : new.mapping.root ≡ old.mapping.root
  pub devices : new.devices ≡ old.devices
  pub last : new.last ≡ next_of old
  pub transaction_id : new.transaction_id ≡ old.transaction_id
  pub needs_check : new.needs_check ≡ old.needs_check
  pub marks : new.marks ≡ replicate (length old.marks) false

-- in memory all is as before but for the marks
pub record IsUnmarked (old new : Meta) : Type 0 where
  pub mapping : new.mapping ≡ old.mapping
  pub devices : new.devices ≡ old.devices
  pub last : new.last ≡ old.last
  pub transaction_id : new.transaction_id ≡ old.transaction_id
  pub needs_check : new.needs_check ≡ old.needs_check
  pub marks : new.marks ≡ replicate (length old.marks) false
  pub stale : new.stale.value ≡ old.stale.value

-- what stands was kept
abbrev pub IsKept : Meta → Geometry → Contents → DiskState → DiskState → Type 0
IsKept new g now before after =
    StandsFor new after now now × (free_metadata new.mapping.tm + now.meta_used ≡ g.metadata_blocks)
    × Leaves (λ image. HoldsContents g now image × SameData g (seen before.cells) image) after.cells

module _ (m : Meta) (disk : DiskState) (now kept : Contents) (st : StandsFor m disk now kept) where
  abbrev t : Tm
  t = m.mapping.tm

  abbrev next : Superblock
  next = next_of m

  abbrev s : Store
  s = st.mapping.store

  -- ---- where the last commit stays

  pub is_still : (after : DiskState) → LeavesOnly disk after (IsStillCommit m.last st.commit disk.cells) → seen after.cells ≡ seen disk.cells
      → IsCommitting t.geometry now kept disk after
  is_still after run same = record {
    any_moment =
        weakens {Q = λ image. IsStill t.geometry kept disk.cells image ⊎
        (HoldsContents t.geometry now image × SameData t.geometry (seen disk.cells) image)}
        (λ image still. inl (
          still.0,
          still.1,
          (m.last, st.commit, still.2, sym st.geometry, st.kept_contents),
          subst (λ (g : Geometry). SameData g still.0 image) (sym st.geometry) still.3,
        )) run;
    same_data = subst (λ (l : List Sector). SameData t.geometry (seen disk.cells) l) (sym same) (SameData-none t.geometry (seen disk.cells));
  }

  module _ (unchanged : m.is_changed ≡ false) (new : Meta) (f : IsUnmarked m new) (after : DiskState) (honest : IsTrue after.is_honest)
      (sees : seen after.cells ≡ seen disk.cells)
      (left : Leaves (λ image. IsCommit image m.last st.commit × SameData m.last.geometry (seen disk.cells) image) after.cells) where
    same : now ≡ kept
    same = st.same_contents unchanged

    mapping : StandForVolumes m.mapping after now.volumes kept.volumes
    mapping = record {
      store = s;
      holds = holds_seen t disk after [] (held_by t.geometry m.mapping.root t.held_root) s sees st.mapping.holds;
      sound = st.mapping.sound;
      listed = st.mapping.listed;
      within = st.mapping.within;
      kept_places = st.mapping.kept_places;
    }

    rests : StandsFor new after now kept
    rests = record {
      honest = honest;
      mapping = subst (λ (x : TreeMapping). StandForVolumes x after now.volumes kept.volumes) (sym f.mapping) mapping;
      held_root = ap (λ (x : TreeMapping). x.tm.held_root) f.mapping ∙ st.held_root;
      numbered = subst (λ (o : Option ℕ). IfSome o (λ n. n ≡ devices_in now.volumes)) (sym f.devices) st.numbered;
      transaction_id = f.transaction_id ∙ st.transaction_id;
      needs_check = f.needs_check ∙ st.needs_check;
      meta_used = st.meta_used ∙ ap (λ (x : TreeMapping). used_metadata x.tm) (sym f.mapping);
      geometry = ap (λ (x : TreeMapping). x.tm.geometry) f.mapping ∙ st.geometry ∙ ap (λ (b : Superblock). b.geometry) (sym f.last);
      commit = st.commit;
      left = λ image stop. subst (λ (b : Superblock). IsCommit image b st.commit) (sym f.last) (left image stop).0;
      kept_counts = ap (λ (x : TreeMapping). x.tm.metadata_kept) f.mapping ∙ st.kept_counts
          ∙ ap (λ (b : Superblock). take b.geometry.metadata_blocks st.commit.counts) (sym f.last);
      kept_contents = st.kept_contents ∙ ap (λ (b : Superblock). contents_of b st.commit) (sym f.last);
      sized = ap (λ (x : TreeMapping). length x.tm.metadata_now) f.mapping ∙ st.sized ∙ ap (λ (x : TreeMapping). x.tm.geometry.metadata_blocks) (sym f.mapping);
      current = subst (λ (x : TreeMapping). AreCurrent x.tm new.stale.value (seen after.cells)) (sym f.mapping)
          (subst (λ (z : StaleBlocks). AreCurrent m.mapping.tm z (seen after.cells)) (sym f.stale)
          (subst (λ (l : List Sector). AreCurrent m.mapping.tm m.stale.value l) (sym sees) st.current));
      marks_long = ap length f.marks ∙ length-replicate (length m.marks) false ∙ st.marks_long
          ∙ ap (λ (x : TreeMapping). x.tm.geometry.data_blocks) (sym f.mapping);
      tracked = λ id block place h. inl (subst (λ (c : Contents). slot_of id block c.volumes ≡ Some place) (sym same) h);
      same_contents = λ u. same;
      same_counts = λ u. subst (λ (x : TreeMapping). kept_now x.tm ≡ x.tm) (sym f.mapping) (st.same_counts unchanged);
    }

    room : free_metadata t + now.meta_used ≡ t.geometry.metadata_blocks
    room =
        ap (λ k. free_metadata t + k) st.meta_used ∙ ap (λ (u : Tm). free_metadata u + used_metadata t) (sym (st.same_counts unchanged))
        ∙ room_kept t.geometry.metadata_blocks t.metadata_now

    pub kept_still : IsKept new t.geometry now disk after
    kept_still = (
      subst (λ (c : Contents). StandsFor new after now c) (sym same) rests,
      ap (λ (x : TreeMapping). free_metadata x.tm + now.meta_used) f.mapping ∙ room,
      λ image stop. (
        (m.last, st.commit, (left image stop).0, sym st.geometry, same ∙ st.kept_contents),
        subst (λ (g : Geometry). SameData g (seen disk.cells) image) (sym st.geometry) (left image stop).1,
      ),
    )

  -- ---- where the next one is stored

  module _ (sized : IsSized t) where
    holds : Holds t disk [] (held_by next.geometry next.root next.held_root) s
    holds = subst (λ (g : Geometry). Holds t disk [] (held_by g m.mapping.root t.held_root) s) st.geometry st.mapping.holds

    sound : IsSound next.geometry next.root next.held_root s
    sound = subst (λ (g : Geometry). IsSound g m.mapping.root t.held_root s) st.geometry st.mapping.sound

    blocks : t.geometry.metadata_blocks ≡ next.geometry.metadata_blocks
    blocks = ap (λ (g : Geometry). g.metadata_blocks) st.geometry

    now_is : now ≡ contents_of next s
    now_is =
        let volumes : now.volumes ≡ volumes_of next.geometry.metadata_blocks s next.root next.held_root = st.mapping.listed
        ∙ ap (λ n. volumes_of n s m.mapping.root t.held_root) blocks in
        let used : now.meta_used ≡ use_of next.geometry s =
        st.meta_used ∙ sym (used_now next.geometry.metadata_blocks t.geometry.metadata_blocks s t st.mapping.holds.stands.counts
        (sym blocks) sized.metadata_now) in
        λ i. record { volumes = volumes i; transaction_id = sym st.transaction_id i; needs_check = sym st.needs_check i; meta_used = used i; held_root = sym st.held_root i }

    -- the store of nodes and the superblock that are to be stored are those of the metadata, and so are the stale blocks that are lent
    module _ (spare : now.meta_used + 128 ≤ t.geometry.metadata_blocks) (u : Tm) (lent : StaleBlocks) (n : Superblock) (own : u ≡ t)
        (alike : lent ≡ m.stale.value) (named : n ≡ next) (after : DiskState) where
      may : MayCommit u lent disk m.last n st.commit s
      may =
          let used : now.meta_used ≡ use_of next.geometry s = ap (λ (c : Contents). c.meta_used) now_is in
          let here : MayCommit t m.stale.value disk m.last next st.commit s = record {
            left = st.left;
            kept_is = st.kept_counts;
            geometry = st.geometry;
            same_geometry = refl;
            follows = refl;
            holds = holds;
            sound = sound;
            of_version = tt;
            unheld = λ e. absurd (two_versions e);
            current = st.current;
            spare = omega (arith, used, spare, blocks);
          } in
          subst (λ (z : StaleBlocks). MayCommit u z disk m.last n st.commit s) (sym alike)
          (subst (λ (v : Tm). MayCommit v m.stale.value disk m.last n st.commit s) (sym own)
          (subst (λ (b : Superblock). MayCommit t m.stale.value disk m.last b st.commit s) (sym named) here))

      pub is_committing : ((last : Superblock) (x y : Store) → MayCommit u lent disk last n x y
          → LeavesOnly disk after (λ image. IsStillCommit last x disk.cells image ⊎ IsNextCommit n y disk.cells image))
          → SameData u.geometry (seen disk.cells) (seen after.cells) → IsCommitting t.geometry now kept disk after
      is_committing runs others =
          let run = subst (λ (b : Superblock). LeavesOnly disk after
          (λ image. IsStillCommit m.last st.commit disk.cells image ⊎ IsNextCommit b s disk.cells image)) named (runs m.last st.commit s may) in
          let same = subst (λ (g : Geometry). SameData g (seen disk.cells) (seen after.cells))
          (ap (λ (v : Tm). v.geometry) own ∙ st.geometry) others in
          let here = committing m.last next st.commit s disk after refl sound run same in
          subst (λ (g : Geometry). IsCommitting g now kept disk after) (sym st.geometry)
          (subst (λ (c : Contents). IsCommitting m.last.geometry now c disk after) (sym st.kept_contents)
          (subst (λ (c : Contents). IsCommitting m.last.geometry c (contents_of m.last st.commit) disk after) (sym now_is) here))

      module _ (new : Meta) (f : IsCommitted m new) (honest : IsTrue after.is_honest)
          (stored : (last : Superblock) (x y : Store) → MayCommit u lent disk last n x y → Leaves (IsNextCommit n y disk.cells) after.cells)
          (stand : (last : Superblock) (x y : Store) → MayCommit u lent disk last n x y → Holds new.mapping.tm after [] (held_by n.geometry n.root n.held_root)
          (committed y))
          (areas : (last : Superblock) (x y : Store) → MayCommit u lent disk last n x y → AreCurrent new.mapping.tm new.stale.value (seen after.cells)) where
        left : Leaves (IsNextCommit next s disk.cells) after.cells
        left = subst (λ (b : Superblock). Leaves (IsNextCommit b s disk.cells) after.cells) named (stored m.last st.commit s may)

        here : Holds new.mapping.tm after [] (held_by new.last.geometry new.last.root new.last.held_root) (committed s)
        here =
            subst (λ (b : Superblock). Holds new.mapping.tm after [] (held_by b.geometry b.root b.held_root) (committed s)) (named ∙ sym f.last)
            (stand m.last st.commit s may)

        contents : contents_of new.last (committed s) ≡ now
        contents = ap (λ (b : Superblock). contents_of b (committed s)) f.last ∙ sym (committed_contents next s sound) ∙ sym now_is

        numbered : IfSome new.devices (λ n. n ≡ devices_in (volumes_of new.last.geometry.metadata_blocks (committed s) new.last.root new.last.held_root))
        numbered =
            subst (λ (o : Option ℕ). IfSome o (λ n. n ≡ devices_in (volumes_of new.last.geometry.metadata_blocks (committed s) new.last.root new.last.held_root))) (sym f.devices)
            (subst (λ (c : Contents). IfSome m.devices (λ n. n ≡ devices_in c.volumes)) (sym contents) st.numbered)

        stands : StandsFor new after (contents_of new.last (committed s)) (contents_of new.last (committed s))
        stands =
            stands_unchanged new after (committed s) honest
            (λ image stop. subst (λ (b : Superblock). IsCommit image b (committed s)) (sym f.last) (left image stop).0) here
            (ap (λ (v : Tm). v.geometry) f.tm ∙ st.geometry ∙ ap (λ (b : Superblock). b.geometry) (sym f.last))
            (f.root ∙ ap (λ (b : Superblock). b.root) (sym f.last)) (ap (λ (v : Tm). v.held_root) f.tm ∙ ap (λ (b : Superblock). b.held_root) (sym f.last)) numbered
            (subst (λ (v : Tm). IsSized v) (sym f.tm) (sized_kept t sized)) (subst (λ (v : Tm). kept_now v ≡ v) (sym f.tm) refl)
            (f.marks ∙ ap (λ k. replicate {A = Bool} k false)
            (st.marks_long ∙ ap (λ (g : Geometry). g.data_blocks) st.geometry ∙ ap (λ (b : Superblock). b.geometry.data_blocks) (sym f.last)))
            (f.transaction_id ∙ ap (λ (b : Superblock). b.transaction_id) (sym f.last))
            (f.needs_check ∙ ap (λ (b : Superblock). b.needs_check) (sym f.last)) (areas m.last st.commit s may)

        pub kept_next : IsKept new t.geometry now disk after
        kept_next = (
          subst (λ (c : Contents). StandsFor new after c c) contents stands,
          ap (λ (v : Tm). free_metadata v + now.meta_used) f.tm ∙ ap (λ k. free_metadata (kept_now t) + k) st.meta_used
              ∙ room_kept t.geometry.metadata_blocks t.metadata_now,
          λ image stop. (
            (next, committed s, (left image stop).0, sym st.geometry, now_is ∙ committed_contents next s sound),
            subst (λ (g : Geometry). SameData g (seen disk.cells) image) (sym st.geometry) (left image stop).1,
          ),
        )

-- where nothing has changed, a commit is a flush alone
pub flush_alone : {A E : Type 0} (changed : Bool) → changed ≡ false → (result : Result A E) (before after : DiskState) → after ≡ after_flush (is_ok result) before
    → RanWithFlushes (if changed then 2 else 1) (if changed then 2 else 1) (is_err result) result before after
flush_alone changed unchanged (Ok value) before after is =
    let failures : after.failures ≡ before.failures = ap (λ (x : DiskState). x.failures) is in
    let flushes : after.flushes ≡ before.flushes + 1 = ap (λ (x : DiskState). x.flushes) is in
    record {
      time = later_flush true before after is;
      same_disk = record { size = ap (λ (x : DiskState). x.size) is; is_honest = ap (λ (x : DiskState). x.is_honest) is };
      cause = record { no_fewer = omega (arith, failures); more = λ yes. absurd (false≢true yes); none = λ _. failures };
      flushes = (omega (arith, flushes), subst (λ (b : Bool). after.flushes ≤ before.flushes + (if b then 2 else 1)) (sym unchanged) (omega (arith, flushes)));
      flushed = subst (λ (b : Bool). after.flushes ≡ before.flushes + (if b then 2 else 1)) (sym unchanged) flushes;
      settled = is_settled before after is;
    }
flush_alone changed unchanged (Err error) before after is =
    let failures : after.failures ≡ before.failures + 1 = ap (λ (x : DiskState). x.failures) is in
    let flushes : after.flushes ≡ before.flushes + 1 = ap (λ (x : DiskState). x.flushes) is in
    record {
      time = later_flush false before after is;
      same_disk = record { size = ap (λ (x : DiskState). x.size) is; is_honest = ap (λ (x : DiskState). x.is_honest) is };
      cause = record { no_fewer = omega (arith, failures); more = λ _. omega (arith, failures); none = λ none. absurd (false≢true none) };
      flushes = (omega (arith, flushes), subst (λ (b : Bool). after.flushes ≤ before.flushes + (if b then 2 else 1)) (sym unchanged) (omega (arith, flushes)));
      flushed = tt;
      settled = tt;
    }
