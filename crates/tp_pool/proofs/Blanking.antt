-- A write of zeros to all of a range is a write of sectors that are zeros.
use Rattle.std.proofs.Common.{◌≡◌, ℕ, zero, suc, ◌+◌, ◌-◌, ◌/◌, ◌<◌, Bool, true, false, not, Option, None, Some, List, length, map, replicate, refl, sym, ◌∙◌, ap, subst, arith}
use Rattle.std.specs.Prelude.{MatchOption, nat_le, nat_lt, slice_index_or, ◌&&◌, if◌then◌else◌}
use Rattle.std.specs.List.{count_by, enumerate_from, range_with_len}
use Rattle.std.proofs.lemmas.Bool.{and_parts, leb-true, ltb-true}
use Rattle.std.proofs.lemmas.List.{length-replicate}
use Rattle.tp_model.specs.declared.refusal.Refusal.{Refusal}
use Rattle.tp_model.specs.Geometry.{Geometry}
use Rattle.tp_model.specs.Sectors.{Sector, zero_sector}
use Rattle.tp_model.specs.Pool.{PlainPool, is_exclusive, used, volume_sectors, volume_slots}
use Rattle.tp_model.specs.Disk.{DiskState}
use Rattle.tp_model.proofs.Counting.{count_agree_from}
use Rattle.tp_sharing.specs.Volumes.{Volumes, slot_of}
use Rattle.tp_stored.specs.Contents.{Contents}
use Rattle.tp_shown.specs.Shown.{blocks_touched, first_block, owns_block}
use Rattle.tp_shown.proofs.Blocks.{touched_inside}
use Rattle.tp_pool.specs.Writing.{HasWritten, blocks_taken, blocks_taken_by, takes_block}
use Rattle.tp_pool.specs.Zeroing.{HasBlanked}
use Rattle.tp_model.specs.Calls.{Answer, Call, Done, Edits, Keeps, Makes, Owns, Refused, SlotAfter, Step, Write, WriteZeroes, after_refusal, is_owning, is_within, refusal_of, refusal_of_request, sector_after, slot_effect, touches}

in_zeros : (n j : ℕ) (old : Sector) → j < n → slice_index_or (replicate n zero_sector) j old ≡ zero_sector
in_zeros zero j old lt = absurd (omega (arith, lt))
in_zeros (suc n) zero old lt = refl
in_zeros (suc n) (suc j) old lt = in_zeros n j old (omega (arith, lt))

module _ (id sector count : ℕ) (fua : Bool) where
  abbrev xs : List Sector
  xs = replicate count zero_sector

  abbrev written : Call
  written = Write id sector xs fua

  abbrev zeroed : Call
  zeroed = WriteZeroes id sector count true fua

  long : length xs ≡ count
  long = length-replicate count zero_sector

  -- the same tests
  pub refused_alike : (s : PlainPool) → refusal_of s zeroed ≡ refusal_of s written
  refused_alike s =
      ap (λ n. refusal_of_request s id n 512
      (nat_le (used s + count_by (λ block. is_owning (if touches s.geometry sector n block then Owns else Keeps) && not (is_exclusive s id block))
      (range_with_len 0 (length (volume_sectors s id) / s.geometry.block_sectors))) s.geometry.data_blocks)) (sym long)

  -- the same sectors
  by_place : (k : ℕ) (old : Sector) (b : Bool) → is_within sector count k ≡ b → (if is_within sector count k then slice_index_or xs (k - sector) old else old) ≡ (if is_within sector count k then zero_sector else old)
  by_place k old true e =
      let two = and_parts (nat_le sector k) (nat_lt k (sector + count)) e in
      let low = leb-true sector k two.0 in
      let high = ltb-true k (sector + count) two.1 in
      ap (λ (x : Sector). if is_within sector count k then x else old) (in_zeros count (k - sector) old (omega (arith, low, high)))
  by_place k old false e = (λ i. if e i then slice_index_or xs (k - sector) old else old) ∙ sym (λ i. if e i then zero_sector else old)

  pub sector_alike : (g : Geometry) (k : ℕ) (old : Sector) → sector_after g written k old ≡ sector_after g zeroed k old
  sector_alike g k old =
      ap (λ n. if is_within sector n k then slice_index_or xs (k - sector) old else old) long ∙ by_place k old (is_within sector count k) refl

  pub makes_alike : (s q : PlainPool) → Edits s written id q → Edits s zeroed id q
  makes_alike s q e = record {
    rest = e.rest;
    others = e.others;
    volume = e.volume
        ∙ (λ i. Some (record { sectors = map (λ x. sector_alike s.geometry x.0 x.1 i) (enumerate_from 0 (volume_sectors s id)); slots = volume_slots q id }));
    slots = λ block. subst (λ n. SlotAfter (if touches s.geometry sector n block then Owns else Keeps) s q id block) long (e.slots block);
    untouched = e.untouched;
  }

  -- the same steps
  step_by : (s q : PlainPool) (answer : Answer) (o : Option Refusal) → refusal_of s written ≡ o → Step s written answer q → Step s zeroed answer q
  step_by s q answer None e step =
      let made = subst (λ o. MatchOption o ((answer ≡ Done) × Makes s written q) (λ reason. (answer ≡ Refused reason) × (q ≡ after_refusal reason s))) e step in
      subst (λ o. MatchOption o ((answer ≡ Done) × Makes s zeroed q) (λ reason. (answer ≡ Refused reason) × (q ≡ after_refusal reason s))) (sym (refused_alike s ∙ e)) (made.0, makes_alike s q made.1)
  step_by s q answer (Some reason) e step =
      let made = subst (λ o. MatchOption o ((answer ≡ Done) × Makes s written q) (λ reason. (answer ≡ Refused reason) × (q ≡ after_refusal reason s))) e step in
      subst (λ o. MatchOption o ((answer ≡ Done) × Makes s zeroed q) (λ reason. (answer ≡ Refused reason) × (q ≡ after_refusal reason s))) (sym (refused_alike s ∙ e)) made

  pub step_alike : (s q : PlainPool) (answer : Answer) → Step s written answer q → Step s zeroed answer q
  step_alike s q answer = step_by s q answer (refusal_of s written) refl

-- ---- all of its blocks are written

-- a block that the range touches has a data block of its own then
pub owns_touched : (g : Geometry) (id sector count : ℕ) (fua : Bool) (block : ℕ) (o : Option ℕ) → touches g sector count block ≡ true → slot_effect g (WriteZeroes id sector count true fua) block o ≡ Owns
owns_touched g id sector count fua block o t = (λ i. if t i then Owns else Keeps)

-- so each of them that has none takes one
pub all_taken : (g : Geometry) → 0 < g.block_sectors → (id sector count : ℕ) (fua : Bool) (volumes : Volumes) (marks : List Bool)
    → blocks_taken_by g (WriteZeroes id sector count true fua) id volumes marks (first_block g sector) (blocks_touched g sector count) ≡ blocks_taken id volumes marks (first_block g sector) (blocks_touched g sector count)
all_taken g pos id sector count fua volumes marks =
    count_agree_from (λ block. owns_block g (WriteZeroes id sector count true fua) id volumes block && takes_block id volumes marks block) (takes_block id volumes marks) (first_block g sector) (blocks_touched g sector count)
    (λ block low high. ap (λ e. is_owning e && takes_block id volumes marks block) (owns_touched g id sector count fua block (slot_of id block volumes) (touched_inside g sector count block pos low high)))

-- what was written
pub written_blanks : {M : Type 0} (geometry : M → Geometry) (stands : M → DiskState → Contents → Contents → Type 0) (marks : M → List Bool) (id sector count : ℕ) (no_hole : Bool) (xs : List Sector) (after : M) (new : DiskState) (kept : Contents) (s : PlainPool)
    → no_hole ≡ true → xs ≡ replicate count zero_sector → HasWritten geometry stands marks id sector xs after new kept s → HasBlanked geometry stands marks id sector count no_hole after new kept s
written_blanks geometry stands marks id sector count no_hole xs after new kept s yes_it is w =
    subst (λ b. HasBlanked geometry stands marks id sector count b after new kept s) (sym yes_it)
    (record {
      contents = w.contents;
      pool = w.pool;
      standing = w.standing;
      has = w.has;
      edits = makes_alike id sector count false s w.pool (subst (λ (l : List Sector). Edits s (Write id sector l false) id w.pool) is w.edits);
    })
