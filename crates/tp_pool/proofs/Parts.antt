-- A flush in parts.
use Rattle.std.proofs.Common.{◌≡◌, inl, ℕ, ◌+◌, ◌*◌, ◌/◌, ◌%◌, ◌<◌, ◌≤◌, Bool, true, false, None, Some, Ok, Err, Result, List, refl, sym, ◌∙◌, ap, subst, arith}
use Rattle.std.specs.Prelude.{IfErr, IsSome, MatchResult, OnOk, Option, if◌then◌else◌, map}
use Rattle.std.specs.List.{concat, range_with_len}
use Rattle.tp_model.specs.declared.mode.Mode.TheVariants as mode
use Rattle.tp_model.specs.declared.refusal.Refusal.{Refusal}
use Rattle.tp_model.specs.declared.refusal.Refusal.TheVariants.{Fault}
use Rattle.tp_model.specs.Geometry.{Geometry, data_sector}
use Rattle.tp_model.specs.Sectors.{Sector, sectors_of}
use Rattle.tp_model.specs.Calls.{Call, Flush, is_failed}
use Rattle.tp_model.specs.Clauses.{EndsInVolume}
use Rattle.tp_model.specs.Disk.{DiskState, seen}
use Rattle.tp_model.specs.Refusals.{is_fault}
use Rattle.tp_model.specs.DiskStops.{LeavesOnly}
use Rattle.tp_sharing.specs.Volumes.{Volumes, device_of, slot_of}
use Rattle.tp_stored.specs.Contents.{Contents, SameData}
use Rattle.tp_shown.specs.Shown.{value_at, value_of, values_at}
use Rattle.tp_meta.specs.Metadata.{IsCommitted, RanWithFlushes}
use Rattle.tp_pool.specs.Held.{Held, IsFlush, LiesIn, failed_by, view}
use Rattle.tp_pool.specs.Midway.{IsFlushed, IsMidFlush}
use Rattle.tp_pool.specs.Shared.{IsSharedRead}
use Rattle.tp_pool.specs.Unkept.{IsMade}
use Rattle.tp_pool.specs.Writing.{IsKept, IsReclaiming}
use Rattle.tp_pool.proofs.Answering.{flush_tried, flush_writes, settled_answers}
use Rattle.tp_pool.proofs.Calling.{Laws, settled}
use Rattle.tp_pool.proofs.Flushing.{flush_flushes, two_at_most}
use Rattle.tp_pool.proofs.Keeping.{flushes_are, keep_tried}
use Rattle.tp_pool.proofs.Looking.{shared_read}
use Rattle.tp_pool.proofs.Meeting.{met_same}

-- ---- the pool is failed where it has to be

pub settled_flush : {M : Type 0} (F : Held M → Result (Unit {0}) Refusal → Type 0) (mid new : Held M) (answer result : Result (Unit {0}) Refusal) → OnOk answer (F mid answer)
    → IfErr answer (λ reason. F (failed_by reason mid) (Err reason)) → result ≡ answer → OnOk answer (new ≡ mid) → IfErr answer (λ reason. new ≡ failed_by reason mid) → F new result
settled_flush {M} F mid new (Ok x) result done failed same ok err = subst (λ (r : Result (Unit {0}) Refusal). F new r) (sym same) (subst (λ (h : Held M). F h (Ok x)) (sym ok) done)
settled_flush {M} F mid new (Err reason) result done failed same ok err =
    subst (λ (r : Result (Unit {0}) Refusal). F new r) (sym same) (subst (λ (h : Held M). F h (Err reason)) (sym err) failed)

-- ---- data blocks that stay

value_same : (g : Geometry) (before image : List Sector) → SameData g before image → (o : Option ℕ) (offset : ℕ) → value_of g image o offset ≡ value_of g before o offset
value_same g before image same None offset = refl
value_same g before image same (Some place) offset = same.same (data_sector g place + offset) (omega arith)

values_same : (g : Geometry) (volumes : Volumes) (before image : List Sector) (id sector n : ℕ) → SameData g before image → values_at g volumes image id sector n ≡ values_at g volumes before id sector n
values_same g volumes before image id sector n same =
    let each : value_at g volumes image id ≡ value_at g volumes before id = λ i. λ k. value_same g before image same (slot_of id (k / g.block_sectors) volumes) (k % g.block_sectors) i in
    ap (λ (f : ℕ → Sector). map f (range_with_len sector n)) each

module _ {M : Type 0} {geometry : M → Geometry} {stands : M → DiskState → Contents → Contents → Type 0} {marks : M → List Bool} {room : M → ℕ} (laws : Laws geometry stands marks room) (changed : M → Bool) where
  -- ---- the whole

  module _ (old : Held M) (works : old.mode ≡ mode.Writable) (disk : DiskState) (metadata : M) (sizes : geometry metadata ≡ geometry old.metadata) where
    abbrev mid : Held M
    mid = record old { disk = disk; metadata = metadata }

    same_sizes : (result : Result (Unit {0}) Refusal) (new : Held M) → OnOk result (new ≡ mid) → IfErr result (λ reason. new ≡ failed_by reason mid) → geometry new.metadata ≡ geometry old.metadata
    same_sizes (Ok x) new done failed = ap (λ (h : Held M). geometry h.metadata) done ∙ sizes
    same_sizes (Err reason) new done failed = ap (λ (h : Held M). geometry h.metadata) failed ∙ sizes

    same_holders : (result : Result (Unit {0}) Refusal) (new : Held M) → OnOk result (new ≡ mid) → IfErr result (λ reason. new ≡ failed_by reason mid) → new.holders ≡ old.holders
    same_holders (Ok x) new done failed = ap (λ (h : Held M). h.holders) done
    same_holders (Err reason) new done failed = ap (λ (h : Held M). h.holders) failed

    -- a commit is all of FLUSH and of closing
    keeps_by : (call : Call) → IsFlush call → (result : Result (Unit {0}) Refusal) → IfErr result (λ reason. reason ≡ Fault)
        → OnOk result ((now kept : Contents) → stands old.metadata old.disk now kept → now.meta_used + 128 ≤ (geometry old.metadata).metadata_blocks
        → IsKept geometry stands marks old.metadata metadata old.disk disk now × (room metadata + now.meta_used ≡ (geometry old.metadata).metadata_blocks))
        → ((now kept : Contents) → stands old.metadata old.disk now kept → now.meta_used + 128 ≤ (geometry old.metadata).metadata_blocks → LeavesOnly old.disk disk (IsReclaiming (geometry old.metadata) now kept old.disk))
        → RanWithFlushes (if changed old.metadata then 2 else 1) 2 (is_fault result) result old.disk disk → OnOk result (changed metadata ≡ false)
        → (new : Held M) → OnOk result (new ≡ mid) → IfErr result (λ reason. new ≡ failed_by reason mid) → IsMade geometry stands marks room changed old new call result
    keeps_by call is result only kept left ran unchanged new done failed = record {
      called =
          settled laws call old mid new result result refl done failed
          (keep_tried {marks = marks} {room = room} laws call (flushes_are call is) old disk metadata works sizes ran.time left result ran.cause only kept);
      answered = settled_answers geometry stands call old mid new result result (flush_writes geometry stands call is) refl done failed (flush_tried geometry stands call is old mid result works refl only);
      flushes = flush_flushes geometry stands marks room changed call is old mid new works ran.flushes result result refl done failed ran.flushed unchanged only;
    }

    pub keeps_made : {A E : Type 0} (call : Call) → IsFlush call → (value : A) → IsCommitted geometry stands marks room changed {A = A} {E = E} old.metadata metadata (Ok value) old.disk disk → (new : Held M) → new ≡ mid
        → IsMade geometry stands marks room changed old new call (Ok tt)
    keeps_made call is value c new same =
        keeps_by call is (Ok tt) tt
        (λ now kept st spare.
        let k = c.kept now kept st spare in
        (record { standing = k.0; unmarked = c.marks; same_data = (c.committing now kept st spare).same_data; left = k.2; settled = c.ran.settled }, k.1))
        (λ now kept st spare. (c.committing now kept st spare).any_moment)
        (record { time = c.ran.time; same_disk = c.ran.same_disk; cause = c.ran.cause; flushes = (c.ran.flushes.0, two_at_most (changed old.metadata) old.disk.flushes disk.flushes c.ran.flushes.1); flushed = c.ran.flushed; settled = c.ran.settled })
        c.unchanged new same tt

    pub keeps_failed : {A E : Type 0} (call : Call) → IsFlush call → (error : E) → IsCommitted geometry stands marks room changed {A = A} {E = E} old.metadata metadata (Err error) old.disk disk → (new : Held M)
        → new ≡ failed_by Fault mid → IsMade geometry stands marks room changed old new call (Err Fault)
    keeps_failed call is error c new same =
        keeps_by call is (Err Fault) refl tt
        (λ now kept st spare. (c.committing now kept st spare).any_moment)
        (record { time = c.ran.time; same_disk = c.ran.same_disk; cause = c.ran.cause; flushes = (c.ran.flushes.0, two_at_most (changed old.metadata) old.disk.flushes disk.flushes c.ran.flushes.1); flushed = tt; settled = tt })
        tt new tt same

    flushed_so : (result : Result (Unit {0}) Refusal) (new : Held M) → OnOk result (new ≡ mid) → IfErr result (λ reason. new ≡ failed_by reason mid) → IsMade geometry stands marks room changed old new Flush result
        → IsFlushed geometry stands marks room changed old new result
    flushed_so result new done failed k =
        met_same geometry stands marks room changed old new Flush (same_sizes result new done failed) result (λ answer. refl) (same_holders result new done failed) k.called k.answered k.flushes

    pub flush_made : {A E : Type 0} (value : A) → IsCommitted geometry stands marks room changed {A = A} {E = E} old.metadata metadata (Ok value) old.disk disk → (new : Held M) → new ≡ mid
        → IsFlushed geometry stands marks room changed old new (Ok tt)
    flush_made value c new is = flushed_so (Ok tt) new is tt (keeps_made Flush (inl refl) value c new is)

    pub flush_failed : {A E : Type 0} (error : E) → IsCommitted geometry stands marks room changed {A = A} {E = E} old.metadata metadata (Err error) old.disk disk → (new : Held M) → new ≡ failed_by Fault mid
        → IsFlushed geometry stands marks room changed old new (Err Fault)
    flush_failed error c new is = flushed_so (Err Fault) new tt is (keeps_failed Flush (inl refl) error c new is)

  -- ---- reads in between

  module _ (tells : M → DiskState → Contents → Contents → Type 0) (midway : M → Bool → DiskState → DiskState → Type 0) where
    pub read_between : (old : Held M) (is_named : Bool) (disk : DiskState) (id sector n : ℕ) (out : List ℕ) → IsMidFlush geometry stands tells midway old is_named disk → LiesIn geometry stands old id (sector + n)
        → ((now kept : Contents) → tells old.metadata disk now kept → IsSome (device_of id now.volumes) × (out ≡ concat (values_at (geometry old.metadata) now.volumes (seen disk.cells) id sector n)))
        → IsSharedRead geometry stands marks room changed old id sector n (sectors_of out)
    read_between old is_named disk id sector n out mid lies told =
        shared_read laws changed old id sector n out (ap is_failed mid.works)
        (λ now kept st. (told now kept (mid.between.told now kept st)).0)
        lies mid.formed mid.room
        (λ now kept st. (told now kept (mid.between.told now kept st)).1
        ∙ ap concat (values_same (geometry old.metadata) now.volumes (seen old.disk.cells) (seen disk.cells) id sector n mid.between.same_data))
