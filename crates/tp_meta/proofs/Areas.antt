-- What the two areas of counts hold.
use Rattle.std.proofs.Common.{below_more, ◌≡◌, ◌≢◌, ◌⊎◌, inl, inr, ⊎_elim, ℕ, ◌+◌, ◌-◌, ◌*◌, ◌<◌, ◌≤◌, Bool, true, false, ◌||◌, List, length, get_or, replicate, set, refl, sym, ap, subst, ◌∙◌, arith}
use Rattle.std.proofs.lemmas.Bool.{cases_lt, false≢true}
use Rattle.std.proofs.lemmas.List.{get_or-replicate, get_or-set_other, get_or-set_same, get_or-take, get_or_default, get_or_past, length-replicate, length-set}
use Rattle.tp_model.specs.Geometry.{Geometry, count_blocks, fixed_part}
use Rattle.tp_model.specs.Sectors.{Sector, sector_at}
use Rattle.tp_model.specs.DiskStops.{SameOutside}
use Rattle.tp_model.proofs.DiskStopLaws.{bytes_at-outside, bytes_at-same}
use Rattle.tp_layout.specs.Counts.{counts_bytes}
use Rattle.tp_layout.specs.declared.counts.Part.{Part}
use Rattle.tp_layout.specs.declared.counts.Part.TheVariants.{Data, Metadata}
use Rattle.tp_layout.specs.declared.superblock.SlotId.{SlotId}
use Rattle.tp_layout.specs.declared.superblock.SlotId.TheVariants.{Zero, One}
use Rattle.tp_layout.specs.declared.superblock.Superblock.{Superblock}
use Rattle.tp_image.specs.Areas.{HoldsCounts, blocks_of, counts_in, counts_sector, counts_sectors, counts_start}
use Rattle.tp_image.specs.Nodes.{block_at}
use Rattle.tp_image.proofs.AreaLaws.{counts_apart, counts_fixed}
use Rattle.tp_counts.specs.Counts.{DifferMarked, IsUnmarked, SameUnmarked, SpellUnmarked}
use Rattle.tp_super.specs.Store.{super_sector}
use Rattle.tp_refs.specs.Store.{Store}
use Rattle.tp_stored.specs.Commit.{IsCommit}
use Rattle.tp_tm.specs.Tm.{Tm, kept_now, kept_of, now_of}
use Rattle.tp_tm.specs.Keeps.{SameKept}
use Rattle.tp_meta.specs.Committing.{KeepsCounts}
use Rattle.tp_meta.specs.Stale.{AreCurrent, NameFixed, SameArea, in_area, marks_in}
use Rattle.tp_meta.specs.declared.stale.AreaMarks.{AreaMarks}
use Rattle.tp_meta.specs.declared.stale.StaleBlocks.{StaleBlocks}
use Rattle.tp_meta.proofs.Commits.{fixed_live}

-- ---- marks

all_marked : (j : ℕ) → get_or {A = Bool} (replicate 1024 true) j true ≡ true
all_marked j =
    ⊎_elim (λ lt. get_or-replicate {A = Bool} 1024 j true true lt)
    (λ past. get_or_past (replicate {A = Bool} 1024 true) j true (omega (arith, past, length-replicate {A = Bool} 1024 true))) (cases_lt j 1024)

none_unmarked : (marks : List Bool) (j : ℕ) → marks ≡ replicate 1024 true → IsUnmarked marks j → ⊥
none_unmarked marks j all unmarked = false≢true (sym unmarked ∙ ap (λ (l : List Bool). get_or l j true) all ∙ all_marked j)

-- where each block is marked, nothing is said of what stands there
pub none_spelled : (image : List Sector) (g : Geometry) (part : Part) (area : SlotId) (counts : List ℕ) (marks : List Bool) → marks ≡ replicate 1024 true → SpellUnmarked image g part area counts marks
none_spelled image g part area counts marks all j lt unmarked = absurd (none_unmarked marks j all unmarked)

pub all_current : (t : Tm) (stale : StaleBlocks) (image : List Sector) → ((area : SlotId) (part : Part) → marks_in (in_area stale area) part ≡ replicate 1024 true) → AreCurrent t stale image
all_current t stale image all area part = none_spelled image t.geometry part area (kept_of t part) (marks_in (in_area stale area) part) (all area part)

-- the marks of both parts, one by one

pub all_parts : (marks : AreaMarks) → marks.metadata ≡ replicate 1024 true → marks.data ≡ replicate 1024 true → (part : Part) → marks_in marks part ≡ replicate 1024 true
all_parts marks metadata others Metadata = metadata
all_parts marks metadata others Data = others

pub no_parts : (marks : AreaMarks) → marks.metadata ≡ replicate 1024 false → marks.data ≡ replicate 1024 false → (part : Part) → marks_in marks part ≡ replicate 1024 false
no_parts marks metadata others Metadata = metadata
no_parts marks metadata others Data = others

pub all_areas : (stale : StaleBlocks) → ((part : Part) → marks_in stale.zero part ≡ replicate 1024 true) → ((part : Part) → marks_in stale.one part ≡ replicate 1024 true)
    → (area : SlotId) (part : Part) → marks_in (in_area stale area) part ≡ replicate 1024 true
all_areas stale zeroth first Zero part = zeroth part
all_areas stale zeroth first One part = first part

pub changed_parts : (t : Tm) (marks : AreaMarks) → SameUnmarked t.metadata_now t.metadata_kept marks.metadata → SameUnmarked t.data_now t.data_kept marks.data
    → (part : Part) → SameUnmarked (now_of t part) (kept_of t part) (marks_in marks part)
changed_parts t marks metadata others Metadata = metadata
changed_parts t marks metadata others Data = others

pub differing_parts : (t : Tm) (marks : AreaMarks) → DifferMarked t.metadata_now t.metadata_kept marks.metadata → DifferMarked t.data_now t.data_kept marks.data
    → (part : Part) → DifferMarked (now_of t part) (kept_of t part) (marks_in marks part)
differing_parts t marks metadata others Metadata = metadata
differing_parts t marks metadata others Data = others

abbrev pub Joined : List Bool → List Bool → List Bool → Type 0
Joined marks first second = (j : ℕ) → IsUnmarked marks j → IsUnmarked first j × IsUnmarked second j

pub joined_parts : (marks first second : AreaMarks) → Joined marks.metadata first.metadata second.metadata → Joined marks.data first.data second.data
    → (part : Part) → Joined (marks_in marks part) (marks_in first part) (marks_in second part)
joined_parts marks first second metadata others Metadata = metadata
joined_parts marks first second metadata others Data = others

-- nothing else is marked
abbrev pub JoinedOnly : List Bool → List Bool → List Bool → Type 0
JoinedOnly marks first second = (j : ℕ) → IsUnmarked first j → IsUnmarked second j → IsUnmarked marks j

pub joined_only_parts : (marks first second : AreaMarks) → JoinedOnly marks.metadata first.metadata second.metadata → JoinedOnly marks.data first.data second.data
    → (part : Part) → JoinedOnly (marks_in marks part) (marks_in first part) (marks_in second part)
joined_only_parts marks first second metadata others Metadata = metadata
joined_only_parts marks first second metadata others Data = others

-- of the marks of either list the first j are made
pub record HaveJoined (first second : List Bool) (j : ℕ) (marks : List Bool) : Type 0 where
  pub long : length marks ≡ 1024
  pub made : (i : ℕ) → i < j → IsUnmarked marks i → IsUnmarked first i × IsUnmarked second i
  pub only : (i : ℕ) → i < j → IsUnmarked first i → IsUnmarked second i → IsUnmarked marks i
  pub rest : (i : ℕ) → j ≤ i → get_or marks i true ≡ true

pub joins_none : (first second : List Bool) → HaveJoined first second 0 (replicate 1024 true)
joins_none first second = record { long = length-replicate {A = Bool} 1024 true; made = λ i h. absurd (omega (arith, h)); only = λ i h. absurd (omega (arith, h)); rest = λ i h. all_marked i }

neither : (s t : Bool) → (s || t) ≡ false → (s ≡ false) × (t ≡ false)
neither false false e = (refl, refl)
neither false true e = absurd (false≢true (sym e))
neither true t e = absurd (false≢true (sym e))

either_clear : (s t : Bool) → s ≡ false → t ≡ false → (s || t) ≡ false
either_clear s t e f = ap (λ (x : Bool). x || t) e ∙ f

pub joins_more : (first second : List Bool) (j : ℕ) (marks : List Bool) (v : Bool) → HaveJoined first second j marks → j < 1024 → length first ≡ 1024 → length second ≡ 1024
    → v ≡ (get_or first j false || get_or second j false) → HaveJoined first second (j + 1) (set marks j v)
joins_more first second j marks v so_far low first_long second_long is = record {
  long = length-set marks j v ∙ so_far.long;
  made = below_more (λ i. IsUnmarked (set marks j v) i → IsUnmarked first i × IsUnmarked second i) j
      (λ i h unmarked. so_far.made i h (sym (get_or-set_other marks j i v true (λ e. omega (arith, e, h))) ∙ unmarked))
      (λ unmarked.
      let both = neither (get_or first j false) (get_or second j false) (sym is ∙ sym (get_or-set_same marks j v true (omega (arith, so_far.long, low))) ∙ unmarked) in
      (get_or_default first j true false (omega (arith, first_long, low)) ∙ both.0, get_or_default second j true false (omega (arith, second_long, low)) ∙ both.1));
  only = below_more (λ i. IsUnmarked first i → IsUnmarked second i → IsUnmarked (set marks j v) i) j
      (λ i h clear others. get_or-set_other marks j i v true (λ e. omega (arith, e, h)) ∙ so_far.only i h clear others)
      (λ clear others. get_or-set_same marks j v true (omega (arith, so_far.long, low)) ∙ is
      ∙ either_clear (get_or first j false) (get_or second j false)
      (get_or_default first j false true (omega (arith, first_long, low)) ∙ clear) (get_or_default second j false true (omega (arith, second_long, low)) ∙ others));
  rest = λ i h. get_or-set_other marks j i v true (λ e. omega (arith, e, h)) ∙ so_far.rest i (omega (arith, h));
}

pub joins_all : (first second : List Bool) (j : ℕ) (marks : List Bool) → HaveJoined first second j marks → Joined marks first second
joins_all first second j marks done i unmarked =
    ⊎_elim (λ lt. done.made i lt unmarked) (λ past. absurd (false≢true (sym unmarked ∙ done.rest i past))) (cases_lt i j)

pub joins_only : (first second : List Bool) (j : ℕ) (marks : List Bool) → HaveJoined first second j marks → 1024 ≤ j → length first ≡ 1024 → JoinedOnly marks first second
joins_only first second j marks done whole first_long i clear others =
    ⊎_elim (λ lt. done.only i lt clear others)
    (λ past. absurd (false≢true (sym clear ∙ get_or_past first i true (omega (arith, past, whole, first_long))))) (cases_lt i j)

-- ---- images with the same count blocks

pub SameArea-none : (g : Geometry) (area : SlotId) (image : List Sector) → SameArea g area image image
SameArea-none g area image part j lt = refl

pub SameArea-then : (g : Geometry) (area : SlotId) (a b c : List Sector) → SameArea g area a b → SameArea g area b c → SameArea g area a c
SameArea-then g area a b c r s part j lt = s part j lt ∙ r part j lt

pub still_spelled : (g : Geometry) (part : Part) (area : SlotId) (counts : List ℕ) (marks : List Bool) (before image : List Sector) → SameArea g area before image
    → SpellUnmarked before g part area counts marks → SpellUnmarked image g part area counts marks
still_spelled g part area counts marks before image same was j lt unmarked = same part j lt ∙ was j lt unmarked

-- sectors apart from a part's are changed
part_outside : (g : Geometry) (from m : ℕ) (part : Part) (area : SlotId) (before image : List Sector) → SameOutside from m before image
    → (counts_sector g part area + counts_sectors g part ≤ from) ⊎ (from + m ≤ counts_sector g part area)
    → (j : ℕ) → j < count_blocks (blocks_of g part) → block_at image (counts_start g part area + j) ≡ block_at before (counts_start g part area + j)
part_outside g from m part area before image out (inl low) j lt = bytes_at-outside (8 * (counts_start g part area + j)) 8 out (inl (omega (arith, low, lt)))
part_outside g from m part area before image out (inr high) j lt = bytes_at-outside (8 * (counts_start g part area + j)) 8 out (inr (omega (arith, high)))

-- one part of the other area is written
pub area_outside : (g : Geometry) (changed : Part) (its area : SlotId) (before image : List Sector) → area ≢ its → SameOutside (counts_sector g changed its) (counts_sectors g changed) before image
    → SameArea g area before image
area_outside g changed its area before image differ out part =
    part_outside g (counts_sector g changed its) (counts_sectors g changed) part area before image out (counts_apart g part changed area its (λ both. differ both.1))

-- the other part of an area is written
pub other_part : (g : Geometry) (area : SlotId) (counts : List ℕ) (marks : List Bool) (before image : List Sector) → SameOutside (counts_sector g Metadata area) (counts_sectors g Metadata) before image
    → SpellUnmarked before g Data area counts marks → SpellUnmarked image g Data area counts marks
other_part g area counts marks before image out was j lt unmarked =
    part_outside g (counts_sector g Metadata area) (counts_sectors g Metadata) Data area before image out (counts_apart g Data Metadata area area (λ both. differ both.0)) j lt ∙ was j lt unmarked
  where
    number : Part → ℕ
    number Metadata = 0
    number Data = 1

    differ : ◌≡◌ {A = Part} Data Metadata → ⊥
    differ e = omega (arith, ap (λ (p : Part). number p) e)

-- a superblock is written
pub super_outside : (g : Geometry) (which : Superblock) (area : SlotId) (before image : List Sector) → SameOutside (super_sector which) 1 before image → SameArea g area before image
super_outside g which area before image out part =
    part_outside g (super_sector which) 1 part area before image out (inr (omega (arith, (counts_fixed g part area).0)))

-- ---- what the counts of the last commit name

-- they name the fixed part
pub named_fixed : (t : Tm) (last : Superblock) (kept : Store) (image : List Sector) → IsCommit image last kept → KeepsCounts t last kept → t.geometry ≡ last.geometry → NameFixed t
named_fixed t last kept image was is same b low =
    let g = last.geometry in
    let fixed : b < fixed_part g = subst (λ (k : Geometry). b < fixed_part k) same low in
    let inside : b < g.metadata_blocks = omega (arith, fixed, was.sound.limits.metadata_least) in
    omega (arith, ap (λ (l : List ℕ). get_or l b 0) is ∙ get_or-take g.metadata_blocks kept.counts b 0 inside, fixed_live g last.root last.held_root kept was.sound b fixed)

-- nothing is changed that they name
pub kept_area : (t : Tm) (area : SlotId) (before image : List Sector) → NameFixed t → SameKept t.metadata_kept before image → SameArea t.geometry area before image
kept_area t area before image named same part j lt =
    let b = counts_start t.geometry part area + j in
    let fixed : b < fixed_part t.geometry = omega (arith, lt, (counts_fixed t.geometry part area).1) in
    bytes_at-same (8 * b) 8 image before same.same_length (λ i low high.
    let e : 8 * b + (i - 8 * b) ≡ i = omega (arith, low) in
    sym (ap (sector_at image) e) ∙ same.named b (i - 8 * b) (named b fixed) (omega (arith, low, high)) ∙ ap (sector_at before) e)

-- ---- the counts of the last commit

-- the same where the store of nodes keeps the same
pub same_current : (t u : Tm) (stale : StaleBlocks) (image : List Sector) → u.geometry ≡ t.geometry → u.metadata_kept ≡ t.metadata_kept → u.data_kept ≡ t.data_kept
    → AreCurrent t stale image → AreCurrent u stale image
same_current t u stale image geometry metadata others was area Metadata =
    subst (λ (g : Geometry). SpellUnmarked image g Metadata area u.metadata_kept (marks_in (in_area stale area) Metadata)) (sym geometry)
    (subst (λ (l : List ℕ). SpellUnmarked image t.geometry Metadata area l (marks_in (in_area stale area) Metadata)) (sym metadata) (was area Metadata))
same_current t u stale image geometry metadata others was area Data =
    subst (λ (g : Geometry). SpellUnmarked image g Data area u.data_kept (marks_in (in_area stale area) Data)) (sym geometry)
    (subst (λ (l : List ℕ). SpellUnmarked image t.geometry Data area l (marks_in (in_area stale area) Data)) (sym others) (was area Data))

-- nothing was changed that the last commit names
pub still_current : (t : Tm) (stale : StaleBlocks) (before image : List Sector) → NameFixed t → SameKept t.metadata_kept before image → AreCurrent t stale before → AreCurrent t stale image
still_current t stale before image named same was area part =
    still_spelled t.geometry part area (kept_of t part) (marks_in (in_area stale area) part) before image (kept_area t area before image named same) (was area part)

-- what a commit leaves out is there
pub left_out : (t : Tm) (stale : StaleBlocks) (area : SlotId) (here changed marks : AreaMarks) (image : List Sector) → AreCurrent t stale image → here ≡ in_area stale area
    → ((part : Part) → SameUnmarked (now_of t part) (kept_of t part) (marks_in changed part)) → ((part : Part) → Joined (marks_in marks part) (marks_in here part) (marks_in changed part))
    → (part : Part) → SpellUnmarked image t.geometry part area (now_of t part) (marks_in marks part)
left_out t stale area here changed marks image was is same joined part j lt unmarked =
    let two = joined part j unmarked in
    let fresh = subst (λ (m : AreaMarks). IsUnmarked (marks_in m part) j) is two.0 in
    was area part j lt fresh ∙ ap counts_bytes (sym (same part j two.1))

same_slot : (a b : SlotId) → (a ≡ b) ⊎ (a ≢ b)
same_slot Zero Zero = inl refl
same_slot Zero One = inr (λ e. omega (arith, ap (λ (s : SlotId). number s) e))
  where
    number : SlotId → ℕ
    number Zero = 0
    number One = 1
same_slot One Zero = inr (λ e. omega (arith, ap (λ (s : SlotId). number s) e))
  where
    number : SlotId → ℕ
    number Zero = 0
    number One = 1
same_slot One One = inl refl

kept_is_now : (t : Tm) (part : Part) → now_of t part ≡ kept_of (kept_now t) part
kept_is_now t Metadata = refl
kept_is_now t Data = refl

-- a commit was kept
module _ (t : Tm) (stale new : StaleBlocks) (area : SlotId) (changed : AreaMarks) (before image : List Sector) (was : AreCurrent t stale before)
    (same : (part : Part) → SameUnmarked (now_of t part) (kept_of t part) (marks_in changed part)) (has : (part : Part) → HoldsCounts image t.geometry part area (now_of t part))
    (beside : (other : SlotId) → other ≢ area → SameArea t.geometry other before image)
    (marked : (other : SlotId) (part : Part) (j : ℕ) → other ≢ area → IsUnmarked (marks_in (in_area new other) part) j
    → IsUnmarked (marks_in (in_area stale other) part) j × IsUnmarked (marks_in changed part) j) where
  spelled_now : (at : SlotId) (part : Part) → SpellUnmarked image t.geometry part at (now_of t part) (marks_in (in_area new at) part)
  spelled_now at part j lt unmarked =
      ⊎_elim
      (λ e. subst (λ (a : SlotId). block_at image (counts_start t.geometry part a + j) ≡ counts_bytes (counts_in (now_of t part) j)) (sym e)
      ((has part).spelled j (subst (λ n. j < count_blocks n) (sym (has part).long) lt)))
      (λ differ.
      let two = marked at part j differ unmarked in
      beside at differ part j lt ∙ was at part j lt two.0 ∙ ap counts_bytes (sym (same part j two.1)))
      (same_slot at area)

  pub next_current : (u : Tm) → u ≡ kept_now t → AreCurrent u new image
  next_current u is =
      subst (λ (v : Tm). AreCurrent v new image) (sym is)
      (λ at part. subst (λ (l : List ℕ). SpellUnmarked image t.geometry part at l (marks_in (in_area new at) part)) (kept_is_now t part) (spelled_now at part))
