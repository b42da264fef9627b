-- The parts of a commit of a store of nodes.
use Rattle.std.proofs.Common.{◌≡◌, ◌≢◌, ◌⊎◌, inl, inr, ⊎_elim, ℕ, ◌+◌, ◌*◌, ◌<◌, ◌≤◌, true, false, List, [], ◌∷◌, length, refl, sym, ap, subst, ◌∙◌, arith}
use Rattle.std.specs.Prelude.{Result, Ok, Err, ◌%◌, ◌^◌}
use Rattle.std.proofs.lemmas.Bool.{false≢true}
use Rattle.std.proofs.lemmas.List.{ext_get_or}
use Rattle.tp_model.specs.declared.refusal.Refusal.{Refusal}
use Rattle.tp_model.specs.Geometry.{Geometry, fixed_part, metadata_sector, sectors_of_image}
use Rattle.tp_model.specs.Sectors.{Sector}
use Rattle.tp_model.specs.Disk.{Cell, DiskState, IsSameDisk, IsSettled, Writes, after_flush, after_write, seen, settled_cell}
use Rattle.tp_model.specs.DiskStops.{Leaves, LeavesOnly, LeavesOutside, SameOutside, moments}
use Rattle.tp_model.proofs.DiskStopLaws.{goes_on_flush, leaves_settled, moves, now, stays}
use Rattle.tp_layout.specs.Super.{IsGoodSuper, slot_number, super_bytes}
use Rattle.tp_layout.specs.declared.counts.Part.{Part}
use Rattle.tp_layout.specs.declared.superblock.SlotId.{SlotId}
use Rattle.tp_layout.specs.declared.superblock.Superblock.{Superblock}
use Rattle.tp_image.specs.Areas.{HoldsCounts}
use Rattle.tp_image.specs.Slots.{Chooses}
use Rattle.tp_image.proofs.AreaLaws.{HoldsCounts-outside, counts_fixed}
use Rattle.tp_super.specs.Store.{IsNext, IsStoring, super_sector}
use Rattle.tp_refs.specs.Store.{Store, committed, node_at}
use Rattle.tp_stored.specs.Contents.{SameData}
use Rattle.tp_counts.specs.Counts.{IsUnmarked, SameUnmarked}
use Rattle.tp_tm.specs.Tm.{Tm, kept_now, kept_of, now_of}
use Rattle.tp_tm.specs.Holds.{Holds}
use Rattle.tp_tm.proofs.Standing.{spelled_outside}
use Rattle.tp_meta.specs.Committing.{IsNextCommit, IsStillCommit, MayCommit}
use Rattle.tp_meta.specs.Metadata.{IsLater, RanWithFlushes}
use Rattle.tp_meta.specs.Midway.{IsNamed, IsWritten, StoresCommit}
use Rattle.tp_meta.specs.Stale.{SameArea, in_area, marks_in}
use Rattle.tp_meta.specs.declared.stale.AreaMarks.{AreaMarks}
use Rattle.tp_meta.specs.declared.stale.StaleBlocks.{StaleBlocks}
use Rattle.tp_meta.proofs.Areas.{SameArea-then, next_current, super_outside}
use Rattle.tp_meta.proofs.Commits.{SameData-then}
use Rattle.tp_meta.proofs.Contents.{is_settled}
use Rattle.tp_meta.proofs.Kept.{flushed_sees, holds_seen, not_stored, slot_same, store_data, store_seen, whole_holds, whole_leaves, whole_run}
use Rattle.tp_meta.proofs.Times.{later_flush, later_run, later_then}

module _ (t : Tm) (stale : StaleBlocks) (next : Superblock) (before : DiskState) where
  -- ---- behind the first part

  -- the same sectors, once more
  module _ (n m : ℕ) (d e : DiskState) (w : IsWritten n t stale next before d) (same : seen e.cells ≡ seen d.cells) (later : IsLater d e) (alike : IsSameDisk d e)
      (run : (last : Superblock) (kept : Store) → LeavesOnly before d (IsStillCommit last kept before.cells) → LeavesOnly before e (IsStillCommit last kept before.cells))
      (failures : e.failures ≡ d.failures) (flushes : e.flushes + n ≡ d.flushes + m) where
    pub written_on : IsWritten m t stale next before e
    written_on = record {
      area = w.area;
      its = w.its;
      limits = w.limits;
      sized = w.sized;
      run = λ last kept s may. run last kept (w.run last kept s may);
      holds = λ held s h bare. holds_seen t d e [] held s same (w.holds held s h bare);
      counts = λ last kept s may part. subst (λ (image : List Sector). HoldsCounts image t.geometry part w.area (now_of t part)) (sym same) (w.counts last kept s may part);
      beside = λ last kept s may other differ.
          subst (λ (image : List Sector). SameArea t.geometry other (seen before.cells) image) (sym same) (w.beside last kept s may other differ);
      same_data = subst (λ (image : List Sector). SameData t.geometry (seen before.cells) image) (sym same) w.same_data;
      time = later_then w.time later;
      same_disk = record { size = alike.size ∙ w.same_disk.size; is_honest = alike.is_honest ∙ w.same_disk.is_honest };
      failures = failures ∙ w.failures;
      flushes = omega (arith, flushes, w.flushes);
    }

  -- a call of the disk failed
  module _ {A E : Type 0} (error : E) (n : ℕ) (few : n ≤ 1) (d e : DiskState) (w : IsWritten n t stale next before d) (same : seen e.cells ≡ seen d.cells) (later : IsLater d e) (alike : IsSameDisk d e)
      (run : (last : Superblock) (kept : Store) → LeavesOnly before d (IsStillCommit last kept before.cells) → LeavesOnly before e (IsStillCommit last kept before.cells))
      (failures : d.failures < e.failures) (no_fewer : d.flushes ≤ e.flushes) (flushes : e.flushes ≤ d.flushes + 1) where
    abbrev result : Result A E
    result = Err error

    pub written_failed : StoresCommit t t stale stale next result before e
    written_failed = record {
      any_moment = λ last kept s may. not_stored last next kept s before e (run last kept (w.run last kept s may));
      stored = tt;
      holds = tt;
      current = tt;
      same_data = subst (λ (image : List Sector). SameData t.geometry (seen before.cells) image) (sym same) w.same_data;
      kept = tt;
      unchanged = refl;
      ran = record {
        time = later_then w.time later;
        same_disk = record { size = alike.size ∙ w.same_disk.size; is_honest = alike.is_honest ∙ w.same_disk.is_honest };
        cause = record {
          no_fewer = omega (arith, failures, w.failures);
          more = λ _. omega (arith, failures, w.failures);
          none = λ none. absurd (false≢true none);
        };
        flushes = (omega (arith, no_fewer, w.flushes), omega (arith, flushes, w.flushes, few));
        flushed = tt;
        settled = tt;
      };
    }

  pub flushed_on : (d e : DiskState) → IsWritten 0 t stale next before d → e ≡ after_flush true d → IsWritten 1 t stale next before e
  flushed_on d e w is =
      let flushes : e.flushes ≡ d.flushes + 1 = ap (λ (x : DiskState). x.flushes) is in
      written_on 0 1 d e w (flushed_sees true d e is) (later_flush true d e is)
      (record { size = ap (λ (x : DiskState). x.size) is; is_honest = ap (λ (x : DiskState). x.is_honest) is })
      (λ last kept r. goes_on_flush {P = IsStillCommit last kept before.cells} true r is) (ap (λ (x : DiskState). x.failures) is) (omega (arith, flushes))

  pub flush_failed : {A E : Type 0} (error : E) (d e : DiskState) → IsWritten 0 t stale next before d → e ≡ after_flush false d → StoresCommit {A = A} {E = E} t t stale stale next (Err error) before e
  flush_failed {A} {E} error d e w is =
      let failures : e.failures ≡ d.failures + 1 = ap (λ (x : DiskState). x.failures) is in
      let flushes : e.flushes ≡ d.flushes + 1 = ap (λ (x : DiskState). x.flushes) is in
      written_failed {A = A} {E = E} error 0 (omega arith) d e w (flushed_sees false d e is) (later_flush false d e is)
      (record { size = ap (λ (x : DiskState). x.size) is; is_honest = ap (λ (x : DiskState). x.is_honest) is })
      (λ last kept r. goes_on_flush {P = IsStillCommit last kept before.cells} false r is) (omega (arith, failures)) (omega (arith, flushes)) (omega (arith, flushes))

  -- ---- a write of no sectors

  module _ (values : List Sector) (none : length values ≡ 0) (d e : DiskState) (writes : Writes 0 values d e) where
    same_cells : e.cells ≡ d.cells
    same_cells = ext_get_or (settled_cell []) e.cells d.cells writes.touched.same_length (λ i lt. writes.touched.above i (omega (arith, none)))

    seen_on : seen e.cells ≡ seen d.cells
    seen_on = ap (λ (l : List Cell). seen l) same_cells

    run_on : (last : Superblock) (kept : Store) → LeavesOnly before d (IsStillCommit last kept before.cells) → LeavesOnly before e (IsStillCommit last kept before.cells)
    run_on last kept r =
        let here : Leaves (IsStillCommit last kept before.cells) e.cells = subst (λ (l : List Cell). Leaves (IsStillCommit last kept before.cells) l) (sym same_cells) (now r) in
        ⊎_elim {C = LeavesOnly before e (IsStillCommit last kept before.cells)} (λ p. moves {P = IsStillCommit last kept before.cells} r p here)
        (λ same. stays {P = IsStillCommit last kept before.cells} r (ap (λ (l : List Cell). l ∷ e.past) same.1 ∙ ap (λ (l : List (List Cell)). d.cells ∷ l) same.0)) writes.past

    later_on : IsLater d e
    later_on =
        ⊎_elim {C = IsLater d e} (λ p. record { between = e.cells ∷ []; joined = ap (λ (l : List (List Cell)). e.cells ∷ l) p })
        (λ same. record { between = []; joined = ap (λ (l : List Cell). l ∷ e.past) same.1 ∙ ap (λ (l : List (List Cell)). d.cells ∷ l) same.0 }) writes.past

    alike_on : IsSameDisk d e
    alike_on = record { size = writes.size; is_honest = writes.is_honest }

    pub back_on : IsWritten 0 t stale next before d → e.failures ≡ d.failures → IsWritten 0 t stale next before e
    back_on w failures = written_on 0 0 d e w seen_on later_on alike_on run_on failures (omega (arith, writes.flushes))

    pub back_failed : {A E : Type 0} (error : E) → IsWritten 0 t stale next before d → d.failures < e.failures → StoresCommit {A = A} {E = E} t t stale stale next (Err error) before e
    back_failed {A} {E} error w failures =
        written_failed {A = A} {E = E} error 0 (omega arith) d e w seen_on later_on alike_on run_on failures (omega (arith, writes.flushes)) (omega (arith, writes.flushes))

  -- ---- the superblock

  module _ (mid : DiskState) (w : IsWritten 1 t stale next before mid) (settled : IsSettled mid.cells) (whole : sectors_of_image t.geometry ≤ length (seen mid.cells)) (small : next.transaction_id < 2 ^ 64) (e : DiskState)
      (runs : (slot : SlotId) (one : Result Superblock Refusal) → IsGoodSuper slot next → IsNext one next → Leaves (λ image. Chooses image one) mid.cells → LeavesOnly mid e (IsStoring one next mid.cells))
      (outside : LeavesOutside (super_sector next) 1 mid e) (alike : IsSameDisk mid e) where
    named_run : (last : Superblock) (kept s : Store) → MayCommit t stale before last next kept s
        → LeavesOnly before e (λ image. IsStillCommit last kept before.cells image ⊎ IsNextCommit next s before.cells image)
    named_run last kept s may =
        whole_run last next kept s t w.area before mid stale may small w.its w.sized whole settled (w.run last kept s may) w.same_data (w.counts last kept s may) w.holds e (runs w.area (Ok last))

    named_data : SameData t.geometry (seen before.cells) (seen e.cells)
    named_data = SameData-then t.geometry (seen before.cells) (seen mid.cells) (seen e.cells) w.same_data (store_data t.geometry next mid e w.limits settled outside)

    together : IsSameDisk before e
    together = record { size = alike.size ∙ w.same_disk.size; is_honest = alike.is_honest ∙ w.same_disk.is_honest }

    pub named_failed : {A E : Type 0} (error : E) → mid.failures < e.failures → mid.flushes ≤ e.flushes → e.flushes ≤ mid.flushes + 1 → StoresCommit {A = A} {E = E} t t stale stale next (Err error) before e
    named_failed {A} {E} error failures no_fewer flushes = record {
      any_moment = named_run;
      stored = tt;
      holds = tt;
      current = tt;
      same_data = named_data;
      kept = tt;
      unchanged = refl;
      ran = record {
        time = later_then w.time (later_run outside);
        same_disk = together;
        cause = record {
          no_fewer = omega (arith, failures, w.failures);
          more = λ _. omega (arith, failures, w.failures);
          none = λ none. absurd (false≢true none);
        };
        flushes = (omega (arith, no_fewer, w.flushes), omega (arith, flushes, w.flushes));
        flushed = tt;
        settled = tt;
      };
    }

    -- it was flushed, and kept in memory
    module _ (stored : (slot : SlotId) (one : Result Superblock Refusal) → IsGoodSuper slot next → IsNext one next → Leaves (λ image. Chooses image one) mid.cells → Leaves (λ image. Chooses image (Ok next)) e.cells)
        (u : Tm) (new : StaleBlocks) (changed : AreaMarks) (area : SlotId) (its : slot_number area ≡ next.sequence % 2) (is : u ≡ kept_now t)
        (alike_counts : (part : Part) → SameUnmarked (now_of t part) (kept_of t part) (marks_in changed part))
        (marked : (other : SlotId) (part : Part) (j : ℕ) → other ≢ area → IsUnmarked (marks_in (in_area new other) part) j
        → IsUnmarked (marks_in (in_area stale other) part) j × IsUnmarked (marks_in changed part) j) where
      same_area : w.area ≡ area
      same_area = slot_same w.area area (w.its ∙ sym its)

      leaves : (last : Superblock) (kept s : Store) → MayCommit t stale before last next kept s → Leaves (IsNextCommit next s before.cells) e.cells
      leaves last kept s may =
          whole_leaves last next kept s t w.area before mid stale may small w.its w.sized whole settled (w.run last kept s may) w.same_data (w.counts last kept s may) w.holds e outside (stored w.area (Ok last))

      out : SameOutside (super_sector next) 1 (seen mid.cells) (seen e.cells)
      out = store_seen next mid e settled outside

      pub named_kept : {A E : Type 0} (value : A) → IsSettled e.cells → e.failures ≡ mid.failures → e.flushes ≡ mid.flushes + 1 → StoresCommit {A = A} {E = E} t u stale new next (Ok value) before e
      named_kept {A} {E} value all_settled failures flushes = record {
        any_moment = named_run;
        stored = leaves;
        holds = λ last kept s may.
            whole_holds last next kept s t w.area before mid stale may small w.its w.sized whole settled (w.run last kept s may) w.same_data (w.counts last kept s may) w.holds u e is (leaves last kept s may);
        current = λ last kept s may.
            next_current t stale new area changed (seen before.cells) (seen e.cells) may.current alike_counts
            (λ part. subst (λ (a : SlotId). HoldsCounts (seen e.cells) t.geometry part a (now_of t part)) same_area
            (HoldsCounts-outside t.geometry part w.area (now_of t part) out (inr (omega (arith, (counts_fixed t.geometry part w.area).0))) (w.counts last kept s may part)))
            (λ other differ. SameArea-then t.geometry other (seen before.cells) (seen mid.cells) (seen e.cells) (w.beside last kept s may other (λ same. differ (same ∙ same_area))) (super_outside t.geometry next other (seen mid.cells) (seen e.cells) out))
            marked u is;
        same_data = named_data;
        kept = is;
        unchanged = tt;
        ran = record {
          time = later_then w.time (later_run outside);
          same_disk = together;
          cause = record { no_fewer = omega (arith, failures, w.failures); more = λ yes. absurd (false≢true yes); none = λ _. failures ∙ w.failures };
          flushes = (omega (arith, flushes, w.flushes), omega (arith, flushes, w.flushes));
          flushed = omega (arith, flushes, w.flushes);
          settled = all_settled;
        };
      }

  -- ---- what look-ups read

  -- behind the superblock's write the nodes stand as they did
  pub named_holds : (disk : DiskState) → IsNamed t stale next before disk → (held : List ℕ) (s : Store) → Holds t before [] held s → ((b : ℕ) → b < fixed_part t.geometry → (node_at s b).rank ≡ 0)
      → Holds t disk [] held s
  named_holds disk nm held s h bare =
      let mid = nm.mid in
      let x = next.sequence % 2 in
      let was = nm.written.holds held s h bare in
      let one = store_seen next mid disk nm.settled nm.outside in
      let out : SameOutside (metadata_sector x) 8 (seen mid.cells) (seen disk.cells) = record { same_length = one.same_length; below = one.below; above = λ i past. one.above i (omega (arith, past)) } in
      record {
        stands = record {
          counts = was.stands.counts;
          kept = was.stands.kept;
          sized = was.stands.sized;
          nodes = λ b live closed ranked.
              spelled_outside t.geometry.metadata_blocks x b (seen mid.cells) (seen disk.cells) (node_at s b) out (λ same. let low : b < fixed_part t.geometry = omega (arith, same) in omega (arith, ranked, bare b low))
              (was.stands.nodes b live closed ranked);
        };
        balanced = was.balanced;
      }
