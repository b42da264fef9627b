-- A cache through each kind of step.
use Rattle.std.proofs.Common.{◌≡◌, inl, inr, ⊎_elim, ℕ, ◌+◌, ◌-◌, ◌*◌, ◌/◌, ◌≢◌, ◌<◌, ◌≤◌, Bool, true, false, List, [], ◌∷◌, length, drop, replicate, refl, sym, ◌∙◌, ap, subst, arith}
use Rattle.std.specs.List.{AllByRecursion}
use Rattle.std.specs.Prelude.{◌%◌, slice_set, Result, Ok, Err, is_ok, OnOk, OnErr, if◌then◌else◌}
use Rattle.std.proofs.lemmas.List.{get_or-replicate, get_or-set_same, get_or-set_other, get_or_past, length-replicate, length-set, set-get_or}
use Rattle.std.proofs.lemmas.List.Elements.{All-append, All-drop, All-from_recursion, recursion_from_All}
use Rattle.tp_disk.specs.declared.disk.Fault.{Fault}
use Rattle.std.proofs.lemmas.Bool.{cases_eq, cases_lt}
use Rattle.tp_model.specs.Sectors.{Sector, sectors_of}
use Rattle.tp_model.specs.Disk.{Cell, DiskState, IsSameDisk, IsWellFormed, IsWholeCell, Touched, Writes, after_flush, after_read, after_write, cell_at, newest, seen, settled, written}
use Rattle.tp_model.specs.DiskStops.{moments}
use Rattle.tp_model.proofs.DiskLaws.{IsWellFormed-flushed, IsWellFormed-written, Touched-none, Writes-after_write, length-sectors_of, whole-sectors_of}
use Rattle.tp_cache.specs.declared.step.Step.TheVariants.{NoChange, Keep, Pass, Unwritten, Flush}
use Rattle.tp_cache.specs.Line.{IsLine, IsTwin, Line, Moved, after_pass, after_step, after_unwritten, begun, followed, grown, since}
use Rattle.tp_cache.specs.Table.{Holds, IsAfter, IsCache, IsClean, IsRecent, IsTable, TiedCell, slot_of}
use Rattle.tp_cache.proofs.Cells.{TiedCell-same, follow}
use Rattle.tp_cache.proofs.Moments.{HasMoments-begun, HasMoments-more, HasMoments-stay, Moved-none, Moved-one, Moved-writes}
use Rattle.tp_cache.proofs.Tables.{Holds-emptied, Holds-flushed, Holds-followed, Holds-kept, Holds-passed, Touched-followed, length-followed, settled_same, tied_covers}

-- ---- in general

module _ (index : List ℕ) (slots : List (List ℕ)) (next used : ℕ) (line : Line) (cache : IsCache index slots next used line) (old : DiskState) (is : old ≡ line.inner)
    (index' : List ℕ) (slots' : List (List ℕ)) (next' used' : ℕ) (outer new : DiskState) (same : IsSameDisk line.outer outer) (inner_same : IsSameDisk old new)
    (failures : new.failures ≡ outer.failures) (flushes : new.flushes ≤ outer.flushes) (long : length index' ≡ length index) (table : IsTable index' slots' next' used')
    (holds : Holds index' slots' outer.cells new.cells) where
  twin : IsTwin outer new
  twin = record {
    size = inner_same.size ∙ ap (λ (d : DiskState). d.size) is ∙ cache.twin.size ∙ sym same.size;
    is_honest = inner_same.is_honest ∙ ap (λ (d : DiskState). d.is_honest) is ∙ cache.twin.is_honest ∙ sym same.is_honest;
    failures = failures;
    flushes = flushes;
  }

  -- the outer disk has the same cells
  pub stay_cache : outer.cells ≡ line.outer.cells → outer.past ≡ line.outer.past → Moved line.outer.cells old new
      → IsCache index' slots' next' used' (record { outer = outer; inner = new; under = grown (since line.inner new) line.under })
  stay_cache cells past moved = record {
    twin = twin;
    well_formed = subst (λ n. IsWellFormed n outer.cells) (sym same.size) (subst (λ (l : List Cell). IsWellFormed line.outer.size l) (sym cells) cache.well_formed);
    blocks = omega (arith, long, cache.blocks, same.size);
    table = table;
    holds = holds;
    moments = HasMoments-stay line outer new cache.moments (ap (λ (l : List Cell). l ∷ outer.past) cells ∙ ap (λ (l : List (List Cell)). line.outer.cells ∷ l) past)
        (subst (λ (d : DiskState). Moved line.outer.cells d new) is moved) (tied_covers index' outer.cells new.cells holds.tied);
  }

  -- the outer disk has others
  pub more_cache : IsWellFormed line.outer.size outer.cells → outer.past ≡ moments line.outer → Moved outer.cells old new
      → IsCache index' slots' next' used' (record { outer = outer; inner = new; under = since line.inner new ∷ line.under })
  more_cache well past moved = record {
    twin = twin;
    well_formed = subst (λ n. IsWellFormed n outer.cells) (sym same.size) well;
    blocks = omega (arith, long, cache.blocks, same.size);
    table = table;
    holds = holds;
    moments = HasMoments-more line outer new cache.moments past (subst (λ (d : DiskState). Moved outer.cells d new) is moved) (tied_covers index' outer.cells new.cells holds.tied);
  }

pub empty_table : (index index' : List ℕ) (slots : List (List ℕ)) (next used : ℕ) → IsTable index slots next used → ((block : ℕ) → slot_of index' block ≡ 0) → IsTable index' slots next 0
empty_table index index' slots next used t none = record {
  few = t.few;
  fits = omega arith;
  hand = t.hand;
  inside = λ block. omega (arith, none block);
  recent = λ block some. absurd (omega (arith, some, none block));
}

same_disk : (d : DiskState) → IsSameDisk d d
same_disk d = record { size = refl; is_honest = refl }

fails_by : (ok : Bool) (one other : ℕ) → one ≡ other → (if ok then one else one + 1) ≡ (if ok then other else other + 1)
fails_by ok one other e = ap (λ n. if ok then n else n + 1) e

-- ---- a call that changes no sector of the outer disk

module _ (index : List ℕ) (slots : List (List ℕ)) (next used : ℕ) (line : Line) (cache : IsCache index slots next used line) (old new : DiskState) (is : old ≡ line.inner) where
  was_failures : old.failures ≡ line.outer.failures
  was_failures = ap (λ (d : DiskState). d.failures) is ∙ cache.twin.failures

  was_flushes : old.flushes ≤ line.outer.flushes
  was_flushes = let e = ap (λ (d : DiskState). d.flushes) is in omega (arith, e, cache.twin.flushes)

  pub was_well : IsWellFormed old.size line.outer.cells
  was_well = subst (λ n. IsWellFormed n line.outer.cells) (sym (ap (λ (d : DiskState). d.size) is ∙ cache.twin.size)) cache.well_formed

  pub was_held : Holds index slots line.outer.cells old.cells
  was_held = subst (λ (d : DiskState). Holds index slots line.outer.cells d.cells) (sym is) cache.holds

  -- a read
  pub read_cache : (ok : Bool) → new ≡ after_read ok old → IsCache index slots next used (after_step (NoChange ok) [] line new)
  read_cache ok e =
      let cells = ap (λ (d : DiskState). d.cells) e in
      let flushes : new.flushes ≡ old.flushes = ap (λ (d : DiskState). d.flushes) e in
      stay_cache index slots next used line cache old is index slots next used (after_read ok line.outer) new (record { size = refl; is_honest = refl })
      (record { size = ap (λ (d : DiskState). d.size) e; is_honest = ap (λ (d : DiskState). d.is_honest) e })
      (ap (λ (d : DiskState). d.failures) e ∙ fails_by ok old.failures line.outer.failures was_failures)
      (omega (arith, flushes, was_flushes)) refl cache.table
      (subst (λ (l : List Cell). Holds index slots line.outer.cells l) (sym cells) was_held) refl refl
      (Moved-none line.outer.cells old new (ap moments e))

  module _ (same : IsSameDisk old new) (flushes : new.flushes ≡ old.flushes)
      (out : (outer : List Cell) → IsWellFormed old.size outer → Holds index slots outer old.cells → Holds index slots outer new.cells × Moved outer old new) where
    -- dirty blocks written out, all of them
    pub out_cache : (index' : List ℕ) → new.failures ≡ old.failures → ((i : ℕ) → newest (cell_at new.cells i) ≡ newest (cell_at line.outer.cells i)) → ((block : ℕ) → slot_of index' block ≡ 0) → length index' ≡ length index
        → IsCache index' slots next 0 (after_step (NoChange true) [] line new)
    out_cache index' failures newest_are none long =
        let after = out line.outer.cells was_well was_held in
        stay_cache index slots next used line cache old is index' slots next 0 line.outer new (same_disk line.outer) same (failures ∙ was_failures) (omega (arith, flushes, was_flushes)) long
        (empty_table index index' slots next used cache.table none) (Holds-emptied index index' slots slots line.outer.cells new.cells after.0 newest_are none long) refl refl after.1

    -- the same with the table as it was
    pub out_kept_cache : new.failures ≡ old.failures → IsCache index slots next used (after_step (NoChange true) [] line new)
    out_kept_cache failures =
        let after = out line.outer.cells was_well was_held in
        stay_cache index slots next used line cache old is index slots next used line.outer new (same_disk line.outer) same (failures ∙ was_failures) (omega (arith, flushes, was_flushes)) refl
        cache.table after.0 refl refl after.1

    -- some of them, for a write that failed with that
    pub unwritten_cache : new.failures ≡ old.failures + 1 → IsCache index slots next used (after_step Unwritten [] line new)
    unwritten_cache failures =
        let after = out line.outer.cells was_well was_held in
        more_cache index slots next used line cache old is index slots next used (after_unwritten line.outer) new (record { size = refl; is_honest = refl }) same (failures ∙ ap (λ n. n + 1) was_failures) (omega (arith, flushes, was_flushes)) refl
        cache.table after.0 cache.well_formed refl after.1

    -- some of them, in a flush
    pub no_flush_cache : new.failures ≡ old.failures + 1 → IsCache index slots next used (after_step (Flush false) [] line new)
    no_flush_cache failures =
        let after = out line.outer.cells was_well was_held in
        stay_cache index slots next used line cache old is index slots next used (after_flush false line.outer) new (record { size = refl; is_honest = refl }) same (failures ∙ ap (λ n. n + 1) was_failures) (omega (arith, flushes, was_flushes)) refl
        cache.table after.0 refl refl after.1

-- ---- a write that goes to the inner disk

whole_follow : (s o n : Cell) → IsWholeCell s → IsWholeCell n → IsWholeCell (follow s o n)
whole_follow s o n hs hn =
    let P : List ℕ → Type 0 = λ value. length value ≡ 512 in
    (hs.0, All-append P s.later (drop (length o.later) n.later) hs.1 (All-drop P (length o.later) n.later hn.1))

whole_followed : (ss os ns : List Cell) → AllByRecursion IsWholeCell ss → AllByRecursion IsWholeCell ns → AllByRecursion IsWholeCell (followed ss os ns)
unfolding followed
whole_followed [] os ns hs hn = tt
whole_followed (s ∷ ss) [] ns hs hn = hs
whole_followed (s ∷ ss) (o ∷ os) [] hs hn = hs
whole_followed (s ∷ ss) (o ∷ os) (n ∷ ns) hs hn = (whole_follow s o n hs.0 hn.0, whole_followed ss os ns hs.1 hn.1)

well_followed : {size more : ℕ} (ss os ns : List Cell) → IsWellFormed size ss → IsWellFormed more ns → IsWellFormed size (followed ss os ns)
well_followed ss os ns hs hn = record {
  fits = hs.fits;
  size_is = length-followed ss os ns ∙ hs.size_is;
  whole = All-from_recursion IsWholeCell (followed ss os ns) (whole_followed ss os ns (recursion_from_All IsWholeCell ss hs.whole) (recursion_from_All IsWholeCell ns hn.whole));
}

-- the state of the outer disk, and the cache, after the write
pub record Passes (index : List ℕ) (slots : List (List ℕ)) (next used : ℕ) (at : ℕ) (values : List Sector) (outer : DiskState) (after : Line) : Type 0 where
  pub writes : Writes at values outer after.outer
  pub cache : IsCache index slots next used after

module _ (index : List ℕ) (slots : List (List ℕ)) (next used : ℕ) (line : Line) (cache : IsCache index slots next used line) (old new : DiskState) (is : old ≡ line.inner)
    (at : ℕ) (bytes : List ℕ) (whole : length bytes % 512 ≡ 0) (fits : at + length bytes / 512 ≤ line.outer.size) (clean : IsClean index at (length bytes / 512)) (writes : Writes at (sectors_of bytes) old new) where
  abbrev values : List Sector
  values = sectors_of bytes

  held : Holds index slots line.outer.cells line.inner.cells
  held = cache.holds

  many : length values ≡ length bytes / 512
  many = length-sectors_of bytes

  all_clean : IsClean index at (length values)
  all_clean i low high = clean i low (omega (arith, high, many))

  whole_fits : at + length values ≤ length line.outer.cells
  whole_fits = omega (arith, fits, many, cache.well_formed.size_is)

  now_same : IsSameDisk old new
  now_same = record { size = writes.size; is_honest = writes.is_honest }

  flushed : new.flushes ≤ line.outer.flushes
  flushed = let e = ap (λ (d : DiskState). d.flushes) is in omega (arith, e, cache.twin.flushes, writes.flushes)

  pass_cache : new ≡ after_write at values old → Passes index slots next used at values line.outer (after_step (Pass at true) bytes line new)
  pass_cache e =
      let outer' = after_write at values line.outer in
      let cells : new.cells ≡ written at values line.inner.cells = ap (λ (d : DiskState). d.cells) e ∙ ap (λ (d : DiskState). written at values d.cells) is in
      let holds : Holds index slots outer'.cells new.cells = subst (λ (l : List Cell). Holds index slots outer'.cells l) (sym cells) (Holds-passed index slots line.outer.cells line.inner.cells at values held all_clean whole_fits) in
      let failures : new.failures ≡ line.outer.failures = ap (λ (d : DiskState). d.failures) e ∙ ap (λ (d : DiskState). d.failures) is ∙ cache.twin.failures in
      record {
        writes = Writes-after_write at values line.outer outer' true refl whole_fits;
        cache = more_cache index slots next used line cache old is index slots next used outer' new (record { size = refl; is_honest = refl }) now_same failures flushed refl cache.table holds
            (IsWellFormed-written at values (whole-sectors_of bytes whole) cache.well_formed) refl (Moved-writes outer'.cells old new writes (tied_covers index outer'.cells new.cells holds.tied));
      }

  unpass_cache : new.failures ≡ old.failures + 1 → IsWellFormed new.size new.cells → Passes index slots next used at values line.outer (after_step (Pass at false) bytes line new)
  unpass_cache e well =
      let outer' = after_pass at values false line.outer line.inner new in
      let touched : Touched at values line.inner.cells new.cells = subst (λ (d : DiskState). Touched at values d.cells new.cells) is writes.touched in
      let holds : Holds index slots outer'.cells new.cells = Holds-followed index slots line.outer.cells line.inner.cells new.cells at values held all_clean touched in
      let failures : new.failures ≡ line.outer.failures + 1 = e ∙ ap (λ n. n + 1) (ap (λ (d : DiskState). d.failures) is ∙ cache.twin.failures) in
      record {
        writes = record {
          size = refl;
          is_honest = refl;
          touched = Touched-followed index slots line.outer.cells line.inner.cells new.cells at values held all_clean touched;
          past = inl refl;
          flushes = refl;
        };
        cache = more_cache index slots next used line cache old is index slots next used outer' new (record { size = refl; is_honest = refl }) now_same failures flushed refl cache.table holds
            (well_followed line.outer.cells line.inner.cells new.cells cache.well_formed well) refl (Moved-writes outer'.cells old new writes (tied_covers index outer'.cells new.cells holds.tied));
      }

  pub passes : (r : Result (Unit {0}) Fault) → OnOk r (new ≡ after_write at values old) → OnErr r (new.failures ≡ old.failures + 1) → IsWellFormed new.size new.cells
      → Passes index slots next used at values line.outer (after_step (Pass at (is_ok r)) bytes line new)
  passes (Ok x) ok err well = pass_cache ok
  passes (Err x) ok err well = unpass_cache err well

-- ---- a flush of the inner disk

module _ (index : List ℕ) (slots : List (List ℕ)) (next used : ℕ) (line : Line) (cache : IsCache index slots next used line) (old new : DiskState) (is : old ≡ line.inner) where
  pub flush_cache : (index' : List ℕ) → new ≡ after_flush true old → ((i : ℕ) → newest (cell_at old.cells i) ≡ newest (cell_at line.outer.cells i)) → ((block : ℕ) → slot_of index' block ≡ 0) → length index' ≡ length index
      → IsCache index' slots next 0 (after_step (Flush true) [] line new)
  flush_cache index' e same none long =
      let outer' = after_flush true line.outer in
      let cells : new.cells ≡ settled (seen old.cells) = ap (λ (d : DiskState). d.cells) e in
      let holds : Holds index' slots outer'.cells new.cells
      = subst (λ (l : List Cell). Holds index' slots outer'.cells l) (sym cells)
      (Holds-flushed index index' slots slots line.outer.cells old.cells (was_held index slots next used line cache old new is) same none) in
      let flushes : new.flushes ≡ old.flushes + 1 = ap (λ (d : DiskState). d.flushes) e in
      more_cache index slots next used line cache old is index' slots next 0 outer' new (record { size = refl; is_honest = refl })
      (record { size = ap (λ (d : DiskState). d.size) e; is_honest = ap (λ (d : DiskState). d.is_honest) e })
      (ap (λ (d : DiskState). d.failures) e ∙ was_failures index slots next used line cache old new is) (let was = was_flushes index slots next used line cache old new is in omega (arith, flushes, was)) long
      (empty_table index index' slots next used cache.table none) holds
      (IsWellFormed-flushed cache.well_formed) refl (Moved-one outer'.cells old new (ap (λ (d : DiskState). d.past) e) (tied_covers index' outer'.cells new.cells holds.tied))

  pub unflushed_cache : new ≡ after_flush false old → IsCache index slots next used (after_step (Flush false) [] line new)
  unflushed_cache e =
      let cells = ap (λ (d : DiskState). d.cells) e in
      let flushes : new.flushes ≡ old.flushes + 1 = ap (λ (d : DiskState). d.flushes) e in
      stay_cache index slots next used line cache old is index slots next used (after_flush false line.outer) new (record { size = refl; is_honest = refl })
      (record { size = ap (λ (d : DiskState). d.size) e; is_honest = ap (λ (d : DiskState). d.is_honest) e })
      (ap (λ (d : DiskState). d.failures) e ∙ ap (λ n. n + 1) (was_failures index slots next used line cache old new is)) (let was = was_flushes index slots next used line cache old new is in omega (arith, flushes, was)) refl cache.table
      (subst (λ (l : List Cell). Holds index slots line.outer.cells l) (sym cells) (was_held index slots next used line cache old new is)) refl refl (Moved-none line.outer.cells old new (ap moments e))

-- ---- a write that is kept in memory

module _ (index : List ℕ) (slots : List (List ℕ)) (next used : ℕ) (line : Line) (cache : IsCache index slots next used line) (old : DiskState) (is : old ≡ line.inner)
    (block slot : ℕ) (bytes : List ℕ) (long : length bytes ≡ 4096) (inside : block < length index) (some : 0 < slot) (room : slot ≤ length slots) where
  pub keep_cache : (next' used' at : ℕ) → at ≡ 8 * block → IsTable (slice_set index block slot) (slice_set slots (slot - 1) bytes) next' used' → ((c : ℕ) → c ≢ block → 0 < slot_of index c → slot_of index c ≢ slot)
      → IsCache (slice_set index block slot) (slice_set slots (slot - 1) bytes) next' used' (after_step (Keep at) bytes line old)
  keep_cache next' used' at at_is table apart =
      let index' = slice_set index block slot in
      let slots' = slice_set slots (slot - 1) bytes in
      let outer' = after_write at (sectors_of bytes) line.outer in
      let fits : 8 * block + 8 ≤ line.outer.size = omega (arith, cache.blocks, inside) in
      let first : Holds index' slots' (written (8 * block) (sectors_of bytes) line.outer.cells) line.inner.cells
      = Holds-kept index slots line.outer.cells line.inner.cells block slot bytes cache.holds cache.well_formed long inside fits some room apart in
      let holds : Holds index' slots' outer'.cells old.cells
      = subst (λ (d : DiskState). Holds index' slots' outer'.cells d.cells) (sym is) (subst (λ n. Holds index' slots' (written n (sectors_of bytes) line.outer.cells) line.inner.cells) (sym at_is) first) in
      more_cache index slots next used line cache old is index' slots' next' used' outer' old (record { size = refl; is_honest = refl }) (same_disk old)
      (was_failures index slots next used line cache old old is) (was_flushes index slots next used line cache old old is) (length-set index block slot) table holds
      (IsWellFormed-written at (sectors_of bytes) (whole-sectors_of bytes (omega (arith, long))) cache.well_formed) refl (Moved-none outer'.cells old old refl)

pub table_again : (index : List ℕ) (slots : List (List ℕ)) (next used block slot : ℕ) (bytes : List ℕ) → IsTable index slots next used → slot ≡ slot_of index block → 0 < slot → IsTable (slice_set index block slot) (slice_set slots (slot - 1) bytes) next used
table_again index slots next used block slot bytes t e some =
    let same : slice_set index block slot ≡ index = ap (slice_set index block) e ∙ set-get_or index block 0 in
    let n : length (slice_set slots (slot - 1) bytes) ≡ length slots = length-set slots (slot - 1) bytes in
    subst (λ (l : List ℕ). IsTable l (slice_set slots (slot - 1) bytes) next used) (sym same)
    (record {
      few = omega (arith, n, t.few);
      fits = omega (arith, n, t.fits);
      hand = omega (arith, n, t.hand);
      inside = λ c. let h = t.inside c in omega (arith, n, h);
      recent = λ c pos. subst (λ m. IsRecent next used m (slot_of index c - 1)) (sym n) (t.recent c pos);
    })

-- a slot that was among the last ones is so when one more was taken
recent_on : (next next' used room slot : ℕ) → next < room → slot < room → IsAfter room next next' → IsRecent next used room slot → slot ≢ next → IsRecent next' (used + 1) room slot
recent_on next next' used room slot hand lt after (inl h) ne =
    ⊎_elim {C = IsRecent next' (used + 1) room slot} (λ more. let e = after.step more in inl (omega (arith, h.0, e), omega (arith, h.1, e)))
    (λ last. let e = after.wrap (omega (arith, last, hand)) in inr (omega (arith, e), omega (arith, e, h.1, last))) (cases_lt (next + 1) room)
recent_on next next' used room slot hand lt after (inr h) ne =
    let past : next + 1 ≤ slot = omega (arith, h.0, ne) in
    let more : next + 1 < room = omega (arith, past, lt) in
    let e = after.step more in
    inr (omega (arith, past, e), omega (arith, h.1, e))

recent_now : (next next' used room : ℕ) → next < room → used < room → IsAfter room next next' → IsRecent next' (used + 1) room next
recent_now next next' used room hand few after =
    ⊎_elim {C = IsRecent next' (used + 1) room next} (λ more. let e = after.step more in inl (omega (arith, e), omega (arith, e)))
    (λ last. let e = after.wrap (omega (arith, last, hand)) in inr (omega (arith, e), omega (arith, e, last))) (cases_lt (next + 1) room)

-- the next slot is not among them where not all are
pub not_recent : (next used room : ℕ) → used < room → IsRecent next used room next → ⊥
not_recent next used room few (inl h) = omega (arith, h.0)
not_recent next used room few (inr h) = omega (arith, h.1, few)

pub apart_next : (index : List ℕ) (slots : List (List ℕ)) (next used : ℕ) → IsTable index slots next used → used < length slots → (c : ℕ) → 0 < slot_of index c → slot_of index c ≢ next + 1
apart_next index slots next used t room c some e =
    let slot : slot_of index c - 1 ≡ next = omega (arith, e) in
    not_recent next used (length slots) room (subst (λ s. IsRecent next used (length slots) s) slot (t.recent c some))

pub table_more : (index : List ℕ) (slots : List (List ℕ)) (next used next' block : ℕ) (bytes : List ℕ) → IsTable index slots next used → used < length slots → block < length index → IsAfter (length slots) next next'
    → IsTable (slice_set index block (next + 1)) (slice_set slots (next + 1 - 1) bytes) next' (used + 1)
table_more index slots next used next' block bytes t room lt after =
    let index' = slice_set index block (next + 1) in
    let slots' = slice_set slots (next + 1 - 1) bytes in
    let n : length slots' ≡ length slots = length-set slots (next + 1 - 1) bytes in
    let here : slot_of index' block ≡ next + 1 = get_or-set_same index block (next + 1) 0 lt in
    let there : (c : ℕ) → c ≢ block → slot_of index' c ≡ slot_of index c = λ c ne. get_or-set_other index block c (next + 1) 0 ne in
    let cell : slot_of index' block - 1 ≡ next = omega (arith, here) in
    record {
      few = omega (arith, n, t.few);
      fits = omega (arith, n, room);
      hand = ⊎_elim {C = next' < length slots'} (λ more. let e = after.step more in omega (arith, e, more, n)) (λ last. let e = after.wrap (omega (arith, last, t.hand)) in omega (arith, e, n, t.hand)) (cases_lt (next + 1) (length slots));
      inside = λ c. ⊎_elim {C = slot_of index' c ≤ length slots'} (λ e. let h = ap (slot_of index') e in omega (arith, h, here, n, t.hand))
          (λ ne. let h = there c ne in let k = t.inside c in omega (arith, h, k, n)) (cases_eq c block);
      recent = λ c some. subst (λ m. IsRecent next' (used + 1) m (slot_of index' c - 1)) (sym n)
          (⊎_elim {C = IsRecent next' (used + 1) (length slots) (slot_of index' c - 1)}
          (λ e. subst (λ s. IsRecent next' (used + 1) (length slots) s) (sym (ap (λ d. slot_of index' d - 1) e ∙ cell)) (recent_now next next' used (length slots) t.hand room after))
          (λ ne.
          let h = there c ne in
          let pos : 0 < slot_of index c = omega (arith, some, h) in
          let s = t.inside c in
          let free = apart_next index slots next used t room c pos in
          subst (λ m. IsRecent next' (used + 1) (length slots) (m - 1)) (sym h)
          (recent_on next next' used (length slots) (slot_of index c - 1) t.hand (omega (arith, pos, s)) after (t.recent c pos) (λ e. free (omega (arith, e, pos)))))
          (cases_eq c block));
    }

-- ---- a new one

pub no_slots : (index : List ℕ) (blocks : ℕ) → index ≡ replicate blocks 0 → (block : ℕ) → slot_of index block ≡ 0
no_slots index blocks e block =
    ap (λ (l : List ℕ). slot_of l block) e ∙ ⊎_elim {C = slot_of (replicate blocks 0) block ≡ 0} (λ lt. get_or-replicate blocks block 0 0 lt)
    (λ past. get_or_past (replicate blocks 0) block 0 (let n = length-replicate {A = ℕ} blocks 0 in omega (arith, n, past))) (cases_lt block blocks)

pub begun_cache : (index : List ℕ) (slots : List (List ℕ)) (disk : DiskState) (blocks : ℕ) → index ≡ replicate blocks 0 → 0 < length slots → length slots < 65536 → 8 * blocks ≤ disk.size → IsWellFormed disk.size disk.cells
    → IsCache index slots 0 0 (begun disk)
begun_cache index slots disk blocks e some few fits well =
    let none : (block : ℕ) → slot_of index block ≡ 0 = no_slots index blocks e in
    record {
      twin = record { size = refl; is_honest = refl; failures = refl; flushes = omega arith };
      well_formed = well;
      blocks = let n = ap length e in let m = length-replicate {A = ℕ} blocks 0 in omega (arith, n, m, fits);
      table = record {
        few = few;
        fits = omega arith;
        hand = some;
        inside = λ block. let h = none block in omega (arith, h);
        recent = λ block pos. let h = none block in absurd (omega (arith, pos, h));
      };
      holds = record {
        value = λ block some. let h = none block in absurd (omega (arith, some, h));
        tied = record { same_length = refl; each = λ i. subst (λ n. TiedCell n (cell_at disk.cells i) (cell_at disk.cells i)) (sym (none (i / 8))) (TiedCell-same (cell_at disk.cells i)); beyond = λ i past. refl };
      };
      moments = HasMoments-begun disk;
    }

-- a write of a whole block
pub writes_by : (at : ℕ) (values : List Sector) (old new : DiskState) (ok : Bool) → new ≡ (if ok then after_write at values old else after_unwritten old) → at + length values ≤ length old.cells → Writes at values old new
writes_by at values old new true e fits = Writes-after_write at values old new true e fits
writes_by at values old new false e fits = record {
  size = ap (λ (d : DiskState). d.size) e;
  is_honest = ap (λ (d : DiskState). d.is_honest) e;
  touched = subst (λ (l : List Cell). Touched at values old.cells l) (sym (ap (λ (d : DiskState). d.cells) e)) (Touched-none at values old.cells);
  past = inl (ap (λ (d : DiskState). d.past) e);
  flushes = ap (λ (d : DiskState). d.flushes) e;
}

pub line_is : (index : List ℕ) (slots : List (List ℕ)) (next used : ℕ) (line : Line) → IsCache index slots next used line → IsLine line
line_is index slots next used line cache = record {
  twin = cache.twin;
  well_formed = cache.well_formed;
  moments = cache.moments;
  settled = λ e. settled_same index slots line.outer.cells line.inner.cells cache.holds e;
}
