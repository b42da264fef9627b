-- What a stop leaves while a commit runs.
use Rattle.std.proofs.Common.{◌≡◌, ◌⊎◌, inl, inr, ⊎_elim, ℕ, ◌+◌, ◌*◌, ◌<◌, ◌≤◌, Bool, true, false, List, [], length, take, drop, refl, sym, ap, subst, ◌∙◌, arith}
use Rattle.std.specs.Prelude.{Ok, ◌%◌, ◌^◌}
use Rattle.std.proofs.lemmas.List.{take_at, drop_at}
use Rattle.tp_model.specs.Geometry.{Geometry, IsWithinLimits, fixed_part, sectors_of_image}
use Rattle.tp_model.specs.Sectors.{Sector}
use Rattle.tp_model.specs.Disk.{Cell, DiskState, IsSettled, after_flush, seen, settled}
use Rattle.tp_model.specs.DiskStops.{AfterStop, IsFrom, Leaves, LeavesOnly, LeavesOutside, SameOutside}
use Rattle.tp_model.proofs.DiskLaws.{seen-settled}
use Rattle.tp_model.proofs.DiskStopLaws.{AfterStop-seen, goes_on_flush, joins, leaves_settled, now, settled_keeps, starts, weakens}
use Rattle.tp_layout.specs.Super.{IsGoodSuper, slot_number}
use Rattle.tp_layout.specs.declared.counts.Part.{Part}
use Rattle.tp_layout.specs.declared.counts.Part.TheVariants.{Data, Metadata}
use Rattle.tp_layout.specs.declared.superblock.SlotId.{SlotId}
use Rattle.tp_layout.specs.declared.superblock.SlotId.TheVariants.{Zero, One}
use Rattle.tp_layout.specs.declared.superblock.Superblock.{Superblock}
use Rattle.tp_layout.specs.declared.superblock.Version.TheVariants.{OneSize}
use Rattle.tp_image.specs.Areas.{HoldsCounts, counts_sector, counts_sectors}
use Rattle.tp_image.specs.Slots.{Chooses, next_sequence}
use Rattle.tp_image.proofs.AreaLaws.{HoldsCounts-outside, counts_apart, counts_fixed}
use Rattle.tp_super.specs.Store.{IsNext, IsStoring, super_sector}
use Rattle.tp_refs.specs.Store.{Store, committed, node_at}
use Rattle.tp_sharing.specs.Volumes.{volumes_of}
use Rattle.tp_stored.specs.Commit.{IsCommit, IsOfVersion, IsSound, counts_of_part, held_by, use_of}
use Rattle.tp_stored.specs.Contents.{SameData}
use Rattle.tp_tm.specs.Tm.{IsSized, Tm, counts_kept, counts_now, kept_now, kept_of, now_of}
use Rattle.tp_tm.specs.Holds.{Holds, IsSpelled, Stands}
use Rattle.tp_tm.specs.Keeps.{LeavesKept, SameKept}
use Rattle.tp_meta.specs.Committing.{IsNextCommit, IsStillCommit, KeepsCounts, MayCommit}
use Rattle.tp_counts.specs.Counts.{SameUnmarked, SpellUnmarked}
use Rattle.tp_meta.specs.Stale.{NameFixed, in_area, marks_in}
use Rattle.tp_meta.specs.declared.stale.AreaMarks.{AreaMarks}
use Rattle.tp_meta.specs.declared.stale.StaleBlocks.{StaleBlocks}
use Rattle.tp_meta.proofs.Areas.{Joined, left_out, named_fixed}
use Rattle.tp_meta.proofs.Telling.{commit_holds}
use Rattle.tp_meta.proofs.Commits.{IsStored, SameData-none, SameData-then, bare, commit_beside, commit_kept, commit_under, data_kept, data_outside, held_inside, next_commit, root_inside, stored_under}

abbrev LeavesCommit : Superblock → Store → List Cell → Type 0
LeavesCommit last s cells = Leaves (λ image. IsCommit image last s) cells

abbrev IsRun : Superblock → Store → DiskState → DiskState → Type 0
IsRun last s a b = LeavesOnly a b (IsStillCommit last s a.cells)

-- ---- runs under a commit that stays

pub still_starts : (last : Superblock) (s : Store) (disk : DiskState) → LeavesCommit last s disk.cells → IsRun last s disk disk
still_starts last s disk was = starts {P = IsStillCommit last s disk.cells} disk (λ image stop. (image, stop, was image stop, SameData-none last.geometry image))

pub still_leaves : (last : Superblock) (s : Store) (a b : DiskState) → IsRun last s a b → LeavesCommit last s b.cells
still_leaves last s a b r image stop = (now r image stop).2

pub still_then : (last : Superblock) (s : Store) (a b c : DiskState) → IsRun last s a b → IsRun last s b c → IsRun last s a c
still_then last s a b c r q =
    joins {P = IsStillCommit last s a.cells} r
    (weakens {Q = IsStillCommit last s a.cells} (λ image still. let was = now r still.0 still.1 in (was.0, was.1, still.2, SameData-then last.geometry was.0 still.0 image was.3 still.3)) q)

pub still_flush : (last : Superblock) (s : Store) (ok : Bool) (a b : DiskState) → LeavesCommit last s a.cells → b ≡ after_flush ok a → IsRun last s a b
still_flush last s ok a b was e = goes_on_flush {P = IsStillCommit last s a.cells} ok (still_starts last s a was) e

pub still_nodes : (last : Superblock) (s : Store) (t : Tm) (a b : DiskState) → LeavesCommit last s a.cells → length t.metadata_kept ≡ last.geometry.metadata_blocks → KeepsCounts t last s
    → LeavesKept t.metadata_kept a b → IsRun last s a b
still_nodes last s t a b was sized kept r =
    weakens {Q = IsStillCommit last s a.cells}
    (λ image from. (from.0, from.1, commit_kept t from.0 image last s sized kept from.2 (was from.0 from.1), data_kept last.geometry t.metadata_kept from.0 image sized from.2)) r.stops

counts_low : (g : Geometry) (part : Part) (area : SlotId) → IsWithinLimits g → counts_sector g part area + counts_sectors g part ≤ 8 * g.metadata_blocks
counts_low g part area within = omega (arith, (counts_fixed g part area).1, within.metadata_least)

pub still_area : (last : Superblock) (s : Store) (g : Geometry) (part : Part) (area : SlotId) (a b : DiskState) → IsWithinLimits g → g ≡ last.geometry → LeavesCommit last s a.cells → (slot_number area ≡ last.sequence % 2 → ⊥)
    → LeavesOutside (counts_sector g part area) (counts_sectors g part) a b → IsRun last s a b
still_area last s g part area a b within same was differ r =
    let q = subst (λ (k : Geometry). LeavesOutside (counts_sector k part area) (counts_sectors k part) a b) same r in
    let limits = subst (λ (k : Geometry). IsWithinLimits k) same within in
    weakens {Q = IsStillCommit last s a.cells}
    (λ image from. (
      from.0,
      from.1,
      commit_beside part area from.0 image last s differ from.2 (was from.0 from.1),
      data_outside last.geometry (counts_sector last.geometry part area) (counts_sectors last.geometry part) from.0 image from.2 (counts_low last.geometry part area limits),
    )) q

-- the store of nodes is written
module _ (last : Superblock) (kept : Store) (t : Tm) (area : SlotId) (old : DiskState) (within : IsWithinLimits t.geometry) (sized : IsSized t) (was : LeavesCommit last kept old.cells)
    (is : KeepsCounts t last kept) (same : t.geometry ≡ last.geometry) (differ : slot_number area ≡ last.sequence % 2 → ⊥) where
  pub after_nodes : (a : DiskState) → LeavesKept t.metadata_kept old a → IsRun last kept old a
  after_nodes a r = still_nodes last kept t old a was (sized.metadata_kept ∙ ap (λ (g : Geometry). g.metadata_blocks) same) is r

  pub after_area : (u : Tm) (part : Part) (a b : DiskState) → u ≡ t → IsRun last kept old a → LeavesOutside (counts_sector u.geometry part area) (counts_sectors u.geometry part) a b → IsRun last kept old b
  after_area u part a b e run r =
      still_then last kept old a b run
      (still_area last kept t.geometry part area a b within same (still_leaves last kept old a run) differ
      (subst (λ (v : Tm). LeavesOutside (counts_sector v.geometry part area) (counts_sectors v.geometry part) a b) e r))

-- ---- what reads give

pub area_data : (g : Geometry) (part : Part) (area : SlotId) (before image : List Sector) → IsWithinLimits g → SameOutside (counts_sector g part area) (counts_sectors g part) before image → SameData g before image
area_data g part area before image within out = data_outside g (counts_sector g part area) (counts_sectors g part) before image out (counts_low g part area within)

part_apart : ◌≡◌ {A = Part} Metadata Data → ⊥
part_apart e = omega (arith, ap (λ (p : Part). number p) e)
  where
    number : Part → ℕ
    number Metadata = 0
    number Data = 1

-- the counts of both parts, once the data blocks' are written behind the others
pub both_written : (g : Geometry) (t : Tm) (area : SlotId) (one two : List Sector) → HoldsCounts one g Metadata area t.metadata_now
    → SameOutside (counts_sector g Data area) (counts_sectors g Data) one two → HoldsCounts two g Data area t.data_now → (part : Part) → HoldsCounts two g part area (now_of t part)
both_written g t area one two first out second Metadata = HoldsCounts-outside g Metadata area t.metadata_now out (counts_apart g Metadata Data area area (λ both. part_apart both.0)) first
both_written g t area one two first out second Data = second

pub flushed_sees : (ok : Bool) (a b : DiskState) → b ≡ after_flush ok a → seen b.cells ≡ seen a.cells
flushed_sees true a b e = ap (λ (d : DiskState). seen d.cells) e ∙ seen-settled (seen a.cells)
flushed_sees false a b e = ap (λ (d : DiskState). seen d.cells) e

pub holds_seen : (t : Tm) (a b : DiskState) (opens held : List ℕ) (s : Store) → seen b.cells ≡ seen a.cells → Holds t a opens held s → Holds t b opens held s
holds_seen t a b opens held s e h = record { stands = subst (λ (image : List Sector). Stands t image opens s) (sym e) h.stands; balanced = h.balanced }

-- ---- the superblock

pub other_area : (n m : ℕ) (area : SlotId) → m ≡ next_sequence n → slot_number area ≡ m % 2 → slot_number area ≡ n % 2 → ⊥
other_area n m area e here there = omega (arith, e, here, there)

pub slot_same : (a b : SlotId) → slot_number a ≡ slot_number b → a ≡ b
slot_same Zero Zero e = refl
slot_same Zero One e = absurd (omega (arith, e))
slot_same One Zero e = absurd (omega (arith, e))
slot_same One One e = refl

-- the counts of both parts that were found in an area
pub found_parts : (image : List Sector) (g : Geometry) (slot : SlotId) (t : Tm) → HoldsCounts image g Metadata slot t.metadata_now → HoldsCounts image g Data slot t.data_now
    → (part : Part) (area : SlotId) → slot_number slot ≡ slot_number area → HoldsCounts image g part area (now_of t part)
found_parts image g slot t metadata others Metadata area is = subst (λ (a : SlotId). HoldsCounts image g Metadata a t.metadata_now) (slot_same slot area is) metadata
found_parts image g slot t metadata others Data area is = subst (λ (a : SlotId). HoldsCounts image g Data a t.data_now) (slot_same slot area is) others

pub part_now : (t : Tm) (s : Store) (m : ℕ) (part : Part) → length t.metadata_now ≡ m → s.counts ≡ counts_now t → (g : Geometry) → g.metadata_blocks ≡ m → now_of t part ≡ counts_of_part g part s.counts
part_now t s m Metadata long is g e = sym (ap (λ (l : List ℕ). take g.metadata_blocks l) is ∙ take_at t.metadata_now t.data_now g.metadata_blocks (long ∙ sym e))
part_now t s m Data long is g e = sym (ap (λ (l : List ℕ). drop g.metadata_blocks l) is ∙ drop_at t.metadata_now t.data_now g.metadata_blocks (long ∙ sym e))

-- what was written behind the superblocks
pub stored_there : (t : Tm) (disk : DiskState) (next : Superblock) (s : Store) (area : SlotId) → t.geometry ≡ next.geometry → sectors_of_image next.geometry ≤ length (seen disk.cells)
    → length t.metadata_now ≡ t.geometry.metadata_blocks → slot_number area ≡ next.sequence % 2 → ((part : Part) → HoldsCounts (seen disk.cells) t.geometry part area (now_of t part))
    → Holds t disk [] (held_by next.geometry next.root next.held_root) s → IsStored (seen disk.cells) next s
stored_there t disk next s area geometry whole sized here has h = record {
  whole = whole;
  counts = λ part its is.
      let m = t.geometry.metadata_blocks in
      let blocks : next.geometry.metadata_blocks ≡ m = ap (λ (k : Geometry). k.metadata_blocks) (sym geometry) in
      subst (λ (l : List ℕ). HoldsCounts (seen disk.cells) next.geometry part its l) (part_now t s m part sized h.stands.counts next.geometry blocks)
      (subst (λ (a : SlotId). HoldsCounts (seen disk.cells) next.geometry part a (now_of t part)) (slot_same area its (here ∙ sym is))
      (subst (λ (k : Geometry). HoldsCounts (seen disk.cells) k part area (now_of t part)) geometry (has part)));
  nodes = λ b live ranked. subst (λ (k : Geometry). IsSpelled k.metadata_blocks (seen disk.cells) b (node_at s b)) geometry (h.stands.nodes b live refl ranked);
}

pub good_next : (next : Superblock) (slot : SlotId) (s : Store) (n : ℕ) → next.sequence ≡ next_sequence n → next.transaction_id < 2 ^ 64 → slot_number slot ≡ next.sequence % 2
    → IsSound next.geometry next.root next.held_root s → (next.version ≡ OneSize → next.held_root ≡ 0) → IsGoodSuper slot next
good_next next slot s n follows small here sound unheld = record {
  sequence = omega (arith, follows);
  transaction_id = small;
  slot_is = sym here;
  geometry = sound.limits;
  root = root_inside next.geometry next.root next.held_root s sound;
  held = held_inside next.geometry next.root next.held_root s sound;
  unheld = unheld;
}

settled_one : (disk : DiskState) (before : List Sector) → IsSettled disk.cells → AfterStop disk.cells before → before ≡ seen disk.cells
settled_one disk before settled stop = settled_keeps (seen disk.cells) before (subst (λ (l : List Cell). AfterStop l before) settled stop)

-- while the superblock is stored, its sector alone is changed
pub store_seen : (next : Superblock) (d e : DiskState) → IsSettled d.cells → LeavesOutside (super_sector next) 1 d e → SameOutside (super_sector next) 1 (seen d.cells) (seen e.cells)
store_seen next d e settled q =
    let from = now q (seen e.cells) (AfterStop-seen e.cells) in
    subst (λ (x : List Sector). SameOutside (super_sector next) 1 x (seen e.cells)) (settled_one d from.0 settled from.1) from.2

-- no data block changes then
pub store_data : (g : Geometry) (next : Superblock) (d e : DiskState) → IsWithinLimits g → IsSettled d.cells → LeavesOutside (super_sector next) 1 d e → SameData g (seen d.cells) (seen e.cells)
store_data g next d e within settled q =
    data_outside g (super_sector next) 1 (seen d.cells) (seen e.cells) (store_seen next d e settled q)
    (omega (arith, within.metadata_least))

-- the store of nodes was written and flushed, from a to d, and the superblock is stored, from d to e
module _ (last next : Superblock) (kept s : Store) (a d e : DiskState) (sound : IsSound next.geometry next.root next.held_root s) (of_version : IsOfVersion next.version (volumes_of next.geometry.metadata_blocks s next.root next.held_root)) (spare : use_of next.geometry s + 128 ≤ next.geometry.metadata_blocks)
    (settled : IsSettled d.cells) (run : IsRun last kept a d) (others : SameData next.geometry (seen a.cells) (seen d.cells)) (has : IsStored (seen d.cells) next s) where
  next_here : (image : List Sector) → IsFrom (super_sector next) 1 d.cells image → Chooses image (Ok next) → IsNextCommit next s a.cells image
  next_here image from chosen =
      let out = subst (λ (x : List Sector). SameOutside (super_sector next) 1 x image) (settled_one d from.0 settled from.1) from.2 in (
        next_commit image next s sound of_version spare chosen (stored_under next (seen d.cells) image next s sound out has),
        SameData-then next.geometry (seen a.cells) (seen d.cells) image others (data_outside next.geometry (super_sector next) 1 (seen d.cells) image out (omega (arith, sound.limits.metadata_least))),
      )

  last_here : (image : List Sector) → IsFrom (super_sector next) 1 d.cells image → Chooses image (Ok last) → IsStillCommit last kept a.cells image
  last_here image from chosen =
      let was = now run from.0 from.1 in (
        was.0,
        was.1,
        commit_under next from.0 image last kept from.2 chosen was.2,
        SameData-then last.geometry was.0 from.0 image was.3 (data_outside last.geometry (super_sector next) 1 from.0 image from.2 (omega (arith, was.2.sound.limits.metadata_least))),
      )

  pub commit_run : LeavesOnly d e (IsStoring (Ok last) next d.cells) → LeavesOnly a e (λ image. IsStillCommit last kept a.cells image ⊎ IsNextCommit next s a.cells image)
  commit_run q =
      joins {P = λ image. IsStillCommit last kept a.cells image ⊎ IsNextCommit next s a.cells image}
      (weakens {Q = λ image. IsStillCommit last kept a.cells image ⊎ IsNextCommit next s a.cells image} (λ image still. inl still) run)
      (weakens {Q = λ image. IsStillCommit last kept a.cells image ⊎ IsNextCommit next s a.cells image}
      (λ image is. ⊎_elim {C = IsStillCommit last kept a.cells image ⊎ IsNextCommit next s a.cells image} (λ c. inl (last_here image is.1 c)) (λ c. inr (next_here image is.1 c)) is.0) q)

  pub commit_leaves : LeavesOutside (super_sector next) 1 d e → Leaves (λ image. Chooses image (Ok next)) e.cells → Leaves (IsNextCommit next s a.cells) e.cells
  commit_leaves q chosen image stop = next_here image (now q image stop) (chosen image stop)

-- ---- a flush alone

pub flush_keeps : (last : Superblock) (s : Store) (a b : DiskState) → LeavesCommit last s a.cells → b ≡ after_flush true a
    → Leaves (λ image. IsCommit image last s × SameData last.geometry (seen a.cells) image) b.cells
flush_keeps last s a b was e =
    leaves_settled (λ image. IsCommit image last s × SameData last.geometry (seen a.cells) image) (seen a.cells) b.cells (ap (λ (d : DiskState). d.cells) e)
    (was (seen a.cells) (AfterStop-seen a.cells), SameData-none last.geometry (seen a.cells))

-- what reads give of data blocks while the store of nodes is written
pub written_data : (t : Tm) (area : SlotId) (a b c d : List Sector) → IsWithinLimits t.geometry → IsSized t → SameKept t.metadata_kept a b
    → SameOutside (counts_sector t.geometry Metadata area) (counts_sectors t.geometry Metadata) b c → SameOutside (counts_sector t.geometry Data area) (counts_sectors t.geometry Data) c d → SameData t.geometry a d
written_data t area a b c d within sized nodes metadata others =
    SameData-then t.geometry a c d (SameData-then t.geometry a b c (data_kept t.geometry t.metadata_kept a b sized.metadata_kept nodes) (area_data t.geometry Metadata area b c within metadata))
    (area_data t.geometry Data area c d within others)

-- ---- the counts of the next commit

-- what a commit writes and what it leaves out are the counts of now
pub counted : (t : Tm) (stale : StaleBlocks) (area : SlotId) (here changed marks : AreaMarks) (old : DiskState) (last next : Superblock) (kept s : Store) → MayCommit t stale old last next kept s
    → here ≡ in_area stale area → ((part : Part) → SameUnmarked (now_of t part) (kept_of t part) (marks_in changed part))
    → ((part : Part) → Joined (marks_in marks part) (marks_in here part) (marks_in changed part)) → {new : List Sector}
    → (NameFixed t → ((part : Part) → SpellUnmarked (seen old.cells) t.geometry part area (now_of t part) (marks_in marks part)) → (part : Part) → HoldsCounts new t.geometry part area (now_of t part))
    → (part : Part) → HoldsCounts new t.geometry part area (now_of t part)
counted t stale area here changed marks old last next kept s may is same joined write =
    write (named_fixed t last kept (seen old.cells) (may.left (seen old.cells) (AfterStop-seen old.cells)) may.kept_is may.geometry)
    (left_out t stale area here changed marks (seen old.cells) may.current is same joined)

-- ---- the whole call

-- the store of nodes was written and flushed, from old to d
module _ (last next : Superblock) (kept s : Store) (t : Tm) (area : SlotId) (old d : DiskState) (stale : StaleBlocks) (may : MayCommit t stale old last next kept s) (small : next.transaction_id < 2 ^ 64)
    (here : slot_number area ≡ next.sequence % 2) (sized : IsSized t) (whole : sectors_of_image t.geometry ≤ length (seen d.cells)) (settled : IsSettled d.cells) (run : IsRun last kept old d)
    (others : SameData t.geometry (seen old.cells) (seen d.cells)) (has : (part : Part) → HoldsCounts (seen d.cells) t.geometry part area (now_of t part))
    (holds : (held : List ℕ) (x : Store) → Holds t old [] held x → ((b : ℕ) → b < fixed_part t.geometry → (node_at x b).rank ≡ 0) → Holds t d [] held x) where
  same : t.geometry ≡ next.geometry
  same = may.geometry ∙ sym may.same_geometry

  there : IsStored (seen d.cells) next s
  there =
      let none = subst (λ (g : Geometry). (b : ℕ) → b < fixed_part g → (node_at s b).rank ≡ 0) (sym same) (bare next.geometry next.root next.held_root s may.sound) in
      stored_there t d next s area same (subst (λ (g : Geometry). sectors_of_image g ≤ length (seen d.cells)) same whole) sized.metadata_now here has
      (holds (held_by next.geometry next.root next.held_root) s may.holds none)

  good : IsGoodSuper area next
  good = good_next next area s last.sequence may.follows small here may.sound may.unheld

  leaves : Leaves (λ image. Chooses image (Ok last)) d.cells
  leaves image stop = (now run image stop).2.chosen

  same_others : SameData next.geometry (seen old.cells) (seen d.cells)
  same_others = subst (λ (g : Geometry). SameData g (seen old.cells) (seen d.cells)) same others

  pub whole_run : (e : DiskState) → (IsGoodSuper area next → IsNext (Ok last) next → Leaves (λ image. Chooses image (Ok last)) d.cells → LeavesOnly d e (IsStoring (Ok last) next d.cells))
      → LeavesOnly old e (λ image. IsStillCommit last kept old.cells image ⊎ IsNextCommit next s old.cells image)
  whole_run e stores = commit_run last next kept s old d e may.sound may.of_version may.spare settled run same_others there (stores good (may.same_geometry, may.follows) leaves)

  pub whole_leaves : (e : DiskState) → LeavesOutside (super_sector next) 1 d e
      → (IsGoodSuper area next → IsNext (Ok last) next → Leaves (λ image. Chooses image (Ok last)) d.cells → Leaves (λ image. Chooses image (Ok next)) e.cells)
      → Leaves (IsNextCommit next s old.cells) e.cells
  whole_leaves e outside stored = commit_leaves last next kept s old d e may.sound may.of_version may.spare settled run same_others there outside (stored good (may.same_geometry, may.follows) leaves)

  pub whole_holds : (u : Tm) (e : DiskState) → u ≡ kept_now t → Leaves (IsNextCommit next s old.cells) e.cells → Holds u e [] (held_by next.geometry next.root next.held_root) (committed s)
  whole_holds u e is left =
      commit_holds u e next (committed s) (left (seen e.cells) (AfterStop-seen e.cells)).0 (ap (λ (v : Tm). v.geometry) is ∙ same) (may.holds.stands.counts ∙ sym (ap counts_now is))
      (may.holds.stands.counts ∙ sym (ap counts_kept is))

pub not_stored : (last next : Superblock) (kept s : Store) (old d : DiskState) → IsRun last kept old d → LeavesOnly old d (λ image. IsStillCommit last kept old.cells image ⊎ IsNextCommit next s old.cells image)
not_stored last next kept s old d run = weakens {Q = λ image. IsStillCommit last kept old.cells image ⊎ IsNextCommit next s old.cells image} (λ image still. inl still) run
