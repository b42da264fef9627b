-- Zeros at both edges of a range, and the blocks between them unmapped: what that makes of the contents.
use Rattle.std.proofs.Common.{◌≡◌, ◌⊎◌, ℕ, ◌+◌, ◌%◌, ◌<◌, Bool, false, List, sym, ◌∙◌, subst}
use Rattle.std.specs.Option.{IsSome}
use Rattle.tp_model.specs.Geometry.{Geometry, IsWithinLimits}
use Rattle.tp_model.specs.Pool.{PlainPool}
use Rattle.tp_model.specs.Calls.{Call, Trim, WriteZeroes}
use Rattle.tp_model.specs.Disk.{DiskState, seen}
use Rattle.tp_sharing.specs.Volumes.{device_of, slot_of}
use Rattle.tp_stored.specs.Contents.{Contents, HasContents}
use Rattle.tp_shown.specs.Shown.{EditsLists}
use Rattle.tp_shown.proofs.Edited.{edits_are_listed}
use Rattle.tp_pool.specs.Trimming.{HasUnmapped}
use Rattle.tp_pool.specs.Zeroing.{HasBlanked, HasCleared}
use Rattle.tp_pool.proofs.Composing.{edits_both, still_between}
use Rattle.tp_pool.proofs.Edges.{head_parts, tail_parts}

module _ {M : Type 0} (geometry : M → Geometry) (stands : M → DiskState → Contents → Contents → Type 0) (marks : M → List Bool) (id sector head middle tail first n : ℕ) (m0 m1 m2 m3 : M) (d0 d1 d2 d3 : DiskState)
    (now kept : Contents) (pos : 0 < (geometry m0).block_sectors) (small_head : head < (geometry m0).block_sectors) (small_tail : tail < (geometry m0).block_sectors)
    (cut : (middle + tail ≡ 0) ⊎ ((sector + head) % (geometry m0).block_sectors ≡ 0)) (whole : middle % (geometry m0).block_sectors ≡ 0)
    (same : geometry m1 ≡ geometry m0) (x : HasCleared geometry stands marks id sector head m0 m1 d0 d1 now kept) where
  abbrev g : Geometry
  g = geometry m0

  abbrev behind_head : Contents
  behind_head = record now { volumes = x.volumes; meta_used = x.meta_used }

  module _ (y : HasCleared geometry stands marks id (sector + head + middle) tail m1 m2 d1 d2 behind_head kept) where
    abbrev behind_tail : Contents
    behind_tail = record now { volumes = y.volumes; meta_used = y.meta_used }

    module _ (z : HasUnmapped geometry stands marks id first n m3 d3 behind_tail kept)
        (trimmed : EditsLists g (Trim id sector (head + middle + tail) false) id y.volumes z.volumes (seen d2.cells) (seen d3.cells)) where
      abbrev rest : Call
      rest = WriteZeroes id (sector + head) (middle + tail) false false

      abbrev last : Call
      last = WriteZeroes id (sector + head + middle) tail false false

      abbrev trim : Call
      trim = Trim id sector (head + middle + tail) false

      at_tail : EditsLists g last id x.volumes y.volumes (seen d1.cells) (seen d2.cells)
      at_tail = subst (λ (s : Geometry). EditsLists s last id x.volumes y.volumes (seen d1.cells) (seen d2.cells)) same y.edits

      behind : EditsLists g rest id x.volumes z.volumes (seen d1.cells) (seen d3.cells)
      behind =
          edits_both g last trim rest (tail_parts g pos id sector head middle tail small_head small_tail cut whole) id x.volumes y.volumes z.volumes (seen d1.cells) (seen d2.cells) (seen d3.cells) at_tail trimmed

      pub cleared_by : HasCleared geometry stands marks id sector (head + (middle + tail)) m0 m3 d0 d3 now kept
      cleared_by = record {
        volumes = z.volumes;
        meta_used = z.meta_used;
        standing = z.standing;
        edits = edits_both g (WriteZeroes id sector head false false) rest (WriteZeroes id sector (head + (middle + tail)) false false) (head_parts g pos id sector head (middle + tail) cut) id
            now.volumes x.volumes z.volumes (seen d0.cells) (seen d1.cells) (seen d3.cells) x.edits behind;
        untouched = λ all.
            let at_head : (block : ℕ) → slot_of id block x.volumes ≡ slot_of id block now.volumes =
            still_between g (WriteZeroes id sector head false false) rest (WriteZeroes id sector (head + (middle + tail)) false false) (head_parts g pos id sector head (middle + tail) cut) id
            now.volumes x.volumes z.volumes (seen d0.cells) (seen d1.cells) (seen d3.cells) x.edits behind all in
            let since_head : (block : ℕ) → slot_of id block z.volumes ≡ slot_of id block x.volumes = λ block. all block ∙ sym (at_head block) in
            let between : (block : ℕ) → slot_of id block y.volumes ≡ slot_of id block x.volumes =
            still_between g last trim rest (tail_parts g pos id sector head middle tail small_head small_tail cut whole) id x.volumes y.volumes z.volumes (seen d1.cells) (seen d2.cells) (seen d3.cells) at_tail trimmed since_head in
            z.untouched (λ block. since_head block ∙ sym (between block)) ∙ (y.untouched between ∙ x.untouched at_head);
      }

-- ---- the plain pool that it makes

pub cleared_blanks : {M : Type 0} (geometry : M → Geometry) (stands : M → DiskState → Contents → Contents → Type 0) (marks : M → List Bool) (id sector count : ℕ) (no_hole : Bool) (before after : M) (old new : DiskState) (now kept : Contents) (s : PlainPool)
    → no_hole ≡ false → IsWithinLimits (geometry before) → geometry after ≡ geometry before → IsSome (device_of id now.volumes) → HasContents (geometry before) now (seen old.cells) s
    → HasCleared geometry stands marks id sector count before after old new now kept → HasBlanked geometry stands marks id sector count no_hole after new kept s
cleared_blanks geometry stands marks id sector count no_hole before after old new now kept s no_it limits same device has x =
    let g = geometry before in
    let c : Contents = record now { volumes = x.volumes; meta_used = x.meta_used } in
    let w = edits_are_listed g now (seen old.cells) (seen new.cells) s limits has (WriteZeroes id sector count false false) id x.volumes x.meta_used device x.edits x.untouched in
    subst (λ b. HasBlanked geometry stands marks id sector count b after new kept s) (sym no_it)
    (record {
      contents = c;
      pool = w.0;
      standing = x.standing;
      has = subst (λ (z : Geometry). HasContents z c (seen new.cells) w.0) (sym same) w.1;
      edits = w.2;
    })
