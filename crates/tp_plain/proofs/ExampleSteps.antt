-- The examples, proved.
use Rattle.std.proofs.Common.{ap, length, sym, ◌∙◌, subst, ◌≡◌, ℕ, zero, suc, ◌+◌, ◌*◌, ◌/◌, ◌<◌, ◌≤◌, ◌==◌, ◌-◌, ◌^◌, Bool, true, false, cond, [], ◌∷◌, Some, None, ◌⊎◌, inl, inr, refl, arith}
use Rattle.std.specs.Prelude.{codes}
use Rattle.std.specs.Fmt.{digits}
use Rattle.std.specs.Ordering.{nat_cmp}
use Rattle.std.specs.FinMap.{empty, get, insert, remove, retain_keys}
use Rattle.tp_model.specs.declared.refusal.Refusal.TheVariants.{BadSize, Busy, NoSuchDevice, NoDataSpace, NoMetadataSpace, StaleTransactionId, Exists}
use Rattle.tp_model.specs.declared.refusal.NbdError.TheVariants.{Invalid, NoSpace}
use Rattle.tp_model.specs.Sectors.{Sector, zero_sector}
use Rattle.tp_model.specs.Pool.{PlainPool, copy_id, is_now, used, volume_size, volume_sector, slot_at, IsExclusive}
use Rattle.tp_model.specs.Calls.{Answer, Call, Grow, HeldRead, ReserveMetadataSnap, ReleaseMetadataSnap, held_of, Makes, SlotEffect, Read, Trim, Write, CreateThin, CreateSnap, Delete, SetTransactionId, Sized, VolumeBlocks, Walk, Listed, after_refusal, Done, Gave, Refused, grown, volume_blocks, volume_of, reply, refusal_of, Step, SlotAfter, Keeps, Owns, Takes, effect_at, may_reclaim, need}
use Rattle.tp_model.specs.PoolStops.{MayReopen}
use Rattle.tp_model.specs.Status.{pool_line, volume_line}
use Rattle.tp_model.proofs.CopiesStay.{copies_stay}
use Rattle.tp_model.proofs.Found.{shared_stays}
use Rattle.tp_model.proofs.Maps.{get_retain, map_values, same_nat_map}
use Rattle.tp_model.proofs.Sharing.{Decides-is_exclusive}
use Rattle.tp_model.proofs.Steps.{step_accepted, step_refused, not_touched_past, not_covered_past, other_of_insert}
use Rattle.std.proofs.lemmas.Bool.{cases_eq, eq-eqb, ltb-false, ltb-true, ne_eqb, true≢false}
use Rattle.std.proofs.lemmas.List.{length-replicate}
use Rattle.std.proofs.lemmas.Option.{none-some, same_Some, MatchOption-at_none}
use Rattle.std.proofs.lemmas.Bool.Decides.{nat_tests}
use Rattle.tp_plain.specs.Examples.{with_data, z, a, b, c, formatted, thin, across, wrote_across, two_blocks, full, snapped, overwrite, rewritten, shared_block, origin_written, both_written, trim, trimmed, nearly_full, sevened, kept_own, found_new, overwritten, on_wire, thin_and_snapshot, zeroes, zeroed_with_hole, zeroed_whole, first_block, grown_own, shows_old_data, as_large, held_own, pool, reserved, written_since, written_in_place, released}

pub not_zero : (n : ℕ) → (suc n == 0) ≡ false
not_zero n = ne_eqb (suc n) 0 (λ e. omega arith)

pub not_one : (n : ℕ) → (suc (suc n) == 1) ≡ false
not_one n = ne_eqb (suc (suc n)) 1 (λ e. omega arith)

-- ---- an empty pool, and a first volume

pub formatted_line : pool_line formatted ≡ codes "0 9/2048 0/4 - rw no_discard_passdown error_if_no_space - 512"
unfolding digits
formatted_line = simp map_values

pub creates : Step formatted (CreateThin 0) Done thin
creates = step_accepted formatted (CreateThin 0) thin (simp map_values) (record { is = refl; taken = omega arith })

pub exists_already : refusal_of thin (CreateThin 0) ≡ Some Exists
exists_already = simp map_values

-- ---- a write of two sectors across the end of a block takes two data blocks, whose rest is zero

pub across_need : need thin across 0 ≡ 2
across_need = simp map_values

pub across_slots : (block : ℕ) → SlotAfter (effect_at thin across 0 block) thin wrote_across 0 block
across_slots zero = (Decides-is_exclusive wrote_across 0 0).0 (simp map_values)
across_slots (suc zero) = (Decides-is_exclusive wrote_across 0 1).0 (simp map_values)
across_slots (suc (suc n)) =
    let past : 1 + 2 ≤ suc (suc n) * 2 = omega arith in
    rw (not_touched_past (with_data 4) 1 2 (suc (suc n)) past) (simp (map_values, not_zero, not_one))

pub across_step : Step thin across Done wrote_across
across_step = step_accepted thin across wrote_across (simp map_values) (record {
  rest = refl;
  others = λ i apart. other_of_insert _ 0 _ i apart;
  volume = simp map_values;
  slots = across_slots;
  untouched = λ _. refl;
})

pub across_read : reply wrote_across (Read 0 0 4) ≡ Gave (z ∷ a ∷ a ∷ z ∷ [])
across_read = simp map_values

pub across_line : pool_line wrote_across ≡ codes "0 10/2048 2/4 - rw no_discard_passdown error_if_no_space - 512"
unfolding digits
across_line = simp map_values

pub across_volume_line : volume_line wrote_across 0 ≡ codes "4 3"
unfolding digits
across_volume_line = simp map_values

-- ---- the pool is full: a snapshot's origin has no room for a copy, until the snapshot is gone

pub full_line : pool_line full ≡ codes "0 10/2048 2/2 - out_of_data_space no_discard_passdown error_if_no_space - 512"
unfolding digits
full_line = simp map_values

pub snaps : Step full (CreateSnap 1 0) Done snapped
snaps = step_accepted full (CreateSnap 1 0) snapped (simp map_values) (record { is = simp map_values; taken = λ _. omega arith })

pub takes_three : (n : ℕ) → Makes full (CreateSnap 1 0) (record snapped { meta_used = n }) → n ≤ 13
takes_three n makes = makes.taken refl

pub snapped_used : used snapped ≡ 2
snapped_used = simp map_values

pub has_no_room : refusal_of snapped overwrite ≡ Some NoDataSpace
has_no_room = simp map_values

pub refused_without_change : Step snapped overwrite (Refused NoDataSpace) snapped
refused_without_change = step_refused snapped overwrite NoDataSpace has_no_room

pub removed : remove {R = nat_cmp} (insert (insert empty 0 two_blocks) 1 two_blocks) 1 ≡ insert empty 0 two_blocks
removed = same_nat_map _ _ (λ i. grind (arith, map_values, nat_tests))

pub deletes : Step snapped (Delete 1) Done full
deletes = step_accepted snapped (Delete 1) full (simp map_values) (record { is = rw removed refl; taken = λ _. omega arith })

pub takes_none : (n : ℕ) → Makes snapped (Delete 1) (record full { meta_used = n }) → n ≤ 10
takes_none n makes = makes.taken refl

pub now_in_place : need full overwrite 0 ≡ 0
now_in_place = simp map_values

pub now_has_room : refusal_of full overwrite ≡ None
now_has_room = simp map_values

pub rewritten_slots : (block : ℕ) → SlotAfter (effect_at full overwrite 0 block) full rewritten 0 block
rewritten_slots zero = (Decides-is_exclusive rewritten 0 0).0 (simp map_values)
rewritten_slots (suc n) =
    let past : 0 + 2 ≤ suc n * 2 = omega arith in
    rw (not_touched_past (with_data 2) 0 2 (suc n) past) (simp map_values)

pub rewrites : Step full overwrite Done rewritten
rewrites = step_accepted full overwrite rewritten now_has_room (record {
  rest = refl;
  others = λ i apart. other_of_insert _ 0 _ i apart;
  volume = simp map_values;
  slots = rewritten_slots;
  untouched = λ _. refl;
})

pub rewritten_line : pool_line rewritten ≡ codes "0 10/2048 2/2 - out_of_data_space no_discard_passdown error_if_no_space - 512"
unfolding digits
rewritten_line = simp map_values

-- ---- what was shared is written on both sides

-- the origin's block has another data block than it had
moved : slot_at origin_written 0 0 ≡ slot_at shared_block 0 0 → ⊥
moved same =
    let is : slot_at origin_written 0 0 ≡ Some 1 = simp map_values in
    let was : slot_at shared_block 0 0 ≡ Some 0 = simp map_values in
    let one : 1 ≡ 0 = same_Some 1 0 (sym is ∙ (same ∙ was)) in
    absurd (omega (arith, one))

pub one_more : need shared_block overwrite 0 ≡ 1
one_more = simp map_values

pub origin_slots : (block : ℕ) → SlotAfter (effect_at shared_block overwrite 0 block) shared_block origin_written 0 block
origin_slots zero = (Decides-is_exclusive origin_written 0 0).0 (simp map_values)
origin_slots (suc n) =
    let past : 0 + 2 ≤ suc n * 2 = omega arith in
    rw (not_touched_past (with_data 2) 0 2 (suc n) past) (simp (map_values, not_zero))

pub writes_origin : Step shared_block overwrite Done origin_written
writes_origin = step_accepted shared_block overwrite origin_written (simp map_values) (record {
  rest = refl;
  others = λ i apart. other_of_insert _ 0 _ i apart;
  volume = simp map_values;
  slots = origin_slots;
  untouched = λ same. absurd (moved (same 0));
})

pub origin_written_line : pool_line origin_written ≡ codes "0 11/2048 2/2 - out_of_data_space no_discard_passdown error_if_no_space - 512"
unfolding digits
origin_written_line = simp map_values

-- the snapshot's block is its own now
pub none_more : need origin_written (Write 1 0 (c ∷ c ∷ []) false) 1 ≡ 0
none_more = simp map_values

pub snapshot_has_room : refusal_of origin_written (Write 1 0 (c ∷ c ∷ []) false) ≡ None
snapshot_has_room = simp map_values

pub both_slots : (block : ℕ) → SlotAfter (effect_at origin_written (Write 1 0 (c ∷ c ∷ []) false) 1 block) origin_written both_written 1 block
both_slots zero = (Decides-is_exclusive both_written 1 0).0 (simp map_values)
both_slots (suc n) =
    let past : 0 + 2 ≤ suc n * 2 = omega arith in
    rw (not_touched_past (with_data 2) 0 2 (suc n) past) (simp map_values)

pub writes_snapshot : Step origin_written (Write 1 0 (c ∷ c ∷ []) false) Done both_written
writes_snapshot = step_accepted origin_written (Write 1 0 (c ∷ c ∷ []) false) both_written snapshot_has_room (record {
  rest = refl;
  others = λ i apart. other_of_insert _ 1 _ i apart;
  volume = simp map_values;
  slots = both_slots;
  untouched = λ _. refl;
})

pub both_line : pool_line both_written ≡ codes "0 11/2048 2/2 - out_of_data_space no_discard_passdown error_if_no_space - 512"
unfolding digits
both_line = simp map_values

pub snapshot_keeps : reply origin_written (Read 1 0 4) ≡ Gave (a ∷ a ∷ z ∷ z ∷ [])
snapshot_keeps = simp map_values

-- ---- a trim from the middle of a block keeps that block and unmaps the next

pub trimmed_slots : (block : ℕ) → SlotAfter (effect_at full trim 0 block) full trimmed 0 block
trimmed_slots zero = simp map_values
trimmed_slots (suc zero) = simp map_values
trimmed_slots (suc (suc n)) =
    let past : 1 + 3 < (suc (suc n) + 1) * 2 = omega arith in
    rw (not_covered_past (with_data 2) 1 3 (suc (suc n)) past) (simp (map_values, not_zero, not_one))

pub trims : Step full trim Done trimmed
trims = step_accepted full trim trimmed (simp map_values) (record {
  rest = refl;
  others = λ i apart. other_of_insert _ 0 _ i apart;
  volume = simp map_values;
  slots = trimmed_slots;
  untouched = λ _. refl;
})

pub trimmed_volume_line : volume_line trimmed 0 ≡ codes "2 1"
unfolding digits
trimmed_volume_line = simp map_values

-- ---- where no slot changes, no metadata block is taken or freed

made_by : (p : PlainPool) (call : Call) (q : PlainPool) → refusal_of p call ≡ None → Step p call Done q → Makes p call q
made_by p call q none step = (MatchOption-at_none _ _ none step).1

pub in_place_takes_none : (n : ℕ) → Step full overwrite Done (record rewritten { meta_used = n }) → n ≡ 10
in_place_takes_none n step = (made_by full overwrite (record rewritten { meta_used = n }) now_has_room step).untouched (λ block. simp map_values)

pub trim_of_none_frees_none : (n : ℕ) → Step thin (Trim 0 0 4 false) Done (record thin { meta_used = n }) → n ≡ 10
trim_of_none_frees_none n step = (made_by thin (Trim 0 0 4 false) (record thin { meta_used = n }) (simp map_values) step).untouched (λ block. refl)

-- ---- want of metadata room

pub no_metadata_room : refusal_of nearly_full (CreateThin 0) ≡ Some NoMetadataSpace
no_metadata_room = simp map_values

pub now_read_only : pool_line (after_refusal NoMetadataSpace nearly_full) ≡ codes "0 1537/2048 0/4 - ro no_discard_passdown error_if_no_space needs_check 512"
unfolding digits
now_read_only = simp map_values

-- the last block but one is enough
pub enough_metadata_room : refusal_of (record formatted { meta_used = 1536 }) (CreateThin 0) ≡ None
enough_metadata_room = simp map_values

-- ---- a transaction id, and a request of length 0

pub sets_seven : Step formatted (SetTransactionId 0 7) Done sevened
sets_seven = step_accepted formatted (SetTransactionId 0 7) sevened refl refl

pub not_again : refusal_of sevened (SetTransactionId 0 7) ≡ Some StaleTransactionId
not_again = refl

pub nothing_written : (block : ℕ) → effect_at thin (Write 0 1 [] true) 0 block ≡ Keeps
nothing_written block = refl

-- ---- a stop: a block of its own may have a new value, a shared one has not

pub found_sectors : (id k : ℕ) → (volume_sector found_new id k ≡ volume_sector kept_own id k)
    ⊎ ((x : Sector) × IsExclusive kept_own id (k / 2) × (volume_sector found_new id k ≡ Some x) × overwritten id k x)
found_sectors zero zero = inr (b, (Decides-is_exclusive kept_own 0 0).0 (simp map_values), simp map_values, (refl, omega arith, refl))
found_sectors zero (suc k) = inl (simp map_values)
found_sectors (suc id) k = inl (simp (map_values, not_zero))

pub found_sizes : (id : ℕ) → volume_size found_new id ≡ volume_size kept_own id
found_sizes zero = simp map_values
found_sizes (suc id) = simp (map_values, not_zero)

pub found_slots : (id block : ℕ) → slot_at found_new id block ≡ slot_at kept_own id block
found_slots zero block = simp map_values
found_slots (suc id) block = simp (map_values, not_zero)

-- after a write in place without a flush, one sector may be new and the next one old
pub may_be_found : MayReopen kept_own overwritten found_new
may_be_found = record {
  geometry = refl;
  ids_and_sizes = found_sizes;
  slots = found_slots;
  transaction_id = refl;
  needs_check = refl;
  meta_used = refl;
  held_root = refl;
  mode = refl;
  holds = refl;
  sectors = found_sectors;
}

-- ---- requests on the wire, to a volume of 1048576 bytes

pub write_at_511 : on_wire 1 511 512 ≡ Some Invalid
write_at_511 = refl

pub write_past_end : on_wire 1 1048576 512 ≡ Some NoSpace
write_past_end = refl

pub read_past_end : on_wire 0 1048576 512 ≡ Some Invalid
read_past_end = refl

pub read_nothing_at_end : on_wire 0 1048576 0 ≡ None
read_nothing_at_end = refl

-- ---- a snapshot of a volume without blocks

pub thin_volume_line : volume_line thin 0 ≡ codes "0 -"
unfolding digits
thin_volume_line = simp map_values

pub thin_line : pool_line thin ≡ codes "0 10/2048 0/4 - rw no_discard_passdown error_if_no_space - 512"
unfolding digits
thin_line = simp map_values

pub snaps_thin : Step thin (CreateSnap 1 0) Done thin_and_snapshot
snaps_thin = step_accepted thin (CreateSnap 1 0) thin_and_snapshot (simp map_values) (record { is = simp map_values; taken = λ _. omega arith })

pub snapped_line : pool_line thin_and_snapshot ≡ codes "0 10/2048 0/4 - rw no_discard_passdown error_if_no_space - 512"
unfolding digits
snapped_line = simp map_values

pub snap_of_itself : refusal_of thin (CreateSnap 0 0) ≡ Some Exists
snap_of_itself = simp map_values

pub snap_of_none : refusal_of thin (CreateSnap 0 1) ≡ Some NoSuchDevice
snap_of_none = simp map_values

pub seven_line : pool_line sevened ≡ codes "7 9/2048 0/4 - rw no_discard_passdown error_if_no_space - 512"
unfolding digits
seven_line = simp map_values

-- ---- zeros

hole_slots : (block : ℕ) → SlotAfter (effect_at full (zeroes false) 0 block) full zeroed_with_hole 0 block
hole_slots zero =
    let owns : effect_at full (zeroes false) 0 0 ≡ Owns = simp map_values in
    subst (λ (f : SlotEffect). SlotAfter f full zeroed_with_hole 0 0) (sym owns) ((Decides-is_exclusive zeroed_with_hole 0 0).0 (simp map_values))
hole_slots (suc zero) = simp map_values
hole_slots (suc (suc n)) =
    let past : 1 + 3 ≤ suc (suc n) * 2 = omega arith in
    let over : 1 + 3 < (suc (suc n) + 1) * 2 = omega arith in
    rw (not_covered_past (with_data 2) 1 3 (suc (suc n)) over, not_touched_past (with_data 2) 1 3 (suc (suc n)) past) (simp (map_values, not_zero, not_one))

pub zeroes_with_hole : Step full (zeroes false) Done zeroed_with_hole
zeroes_with_hole = step_accepted full (zeroes false) zeroed_with_hole (simp map_values) (record {
  rest = refl;
  others = λ i apart. other_of_insert _ 0 _ i apart;
  volume = simp map_values;
  slots = hole_slots;
  untouched = λ _. refl;
})

pub hole_line : volume_line zeroed_with_hole 0 ≡ codes "2 1"
unfolding digits
hole_line = simp map_values

pub hole_used : used zeroed_with_hole ≡ 1
hole_used = simp map_values

whole_slots : (block : ℕ) → SlotAfter (effect_at full (zeroes true) 0 block) full zeroed_whole 0 block
whole_slots zero = (Decides-is_exclusive zeroed_whole 0 0).0 (simp map_values)
whole_slots (suc zero) = (Decides-is_exclusive zeroed_whole 0 1).0 (simp map_values)
whole_slots (suc (suc n)) =
    let past : 1 + 3 ≤ suc (suc n) * 2 = omega arith in
    rw (not_touched_past (with_data 2) 1 3 (suc (suc n)) past) (simp (map_values, not_zero, not_one))

pub zeroes_whole : Step full (zeroes true) Done zeroed_whole
zeroes_whole = step_accepted full (zeroes true) zeroed_whole (simp map_values) (record {
  rest = refl;
  others = λ i apart. other_of_insert _ 0 _ i apart;
  volume = simp map_values;
  slots = whole_slots;
  untouched = λ _. refl;
})

pub whole_line : volume_line zeroed_whole 0 ≡ codes "4 3"
unfolding digits
whole_line = simp map_values

pub whole_used : used zeroed_whole ≡ 2
whole_used = simp map_values

-- ---- what was shared is found as it was

shared_not_exclusive : IsExclusive shared_block 0 0 → ⊥
shared_not_exclusive x = let one_is_zero = (x.alone 1 0 (simp map_values)).0 in omega (arith, one_is_zero)

pub shared_is_found : (P : PlainPool) (given : ℕ → ℕ → Sector → Type 0) → MayReopen shared_block given P → volume_sector P 0 0 ≡ Some a
shared_is_found P given h = shared_stays shared_block P given h 0 0 shared_not_exclusive ∙ simp map_values

-- ---- an unknown command

pub unknown_command : on_wire 5 0 0 ≡ Some Invalid
unknown_command = refl

-- ---- a volume grows

two_blocks_own : volume_blocks kept_own 0 ≡ 2
two_blocks_own = simp map_values

pub grows : Step kept_own (Grow 0 4) Done grown_own
grows = step_accepted kept_own (Grow 0 4) grown_own (simp map_values) (record {
  is = simp map_values;
  taken = λ _. omega arith;
  untouched = λ same. absurd (omega (arith, same, two_blocks_own));
})

pub four_blocks : reply grown_own (VolumeBlocks 0) ≡ Sized 4
four_blocks = simp map_values

pub grown_read : reply grown_own (Read 0 2 6) ≡ Gave (z ∷ z ∷ z ∷ z ∷ z ∷ z ∷ [])
grown_read = simp map_values

pub grown_line : volume_line grown_own 0 ≡ codes "2 1"
unfolding digits
grown_line = simp map_values

pub no_old_data : Makes kept_own (Grow 0 4) shows_old_data → ⊥
unfolding zero_sector
no_old_data h =
    let is : volume_sector shows_old_data 0 4 ≡ Some b = simp map_values in
    let wanted : volume_sector (record kept_own { volumes = insert kept_own.volumes 0 (grown kept_own.geometry 4 (volume_of kept_own 0)); meta_used = 11 }) 0 4 ≡ Some z = simp map_values in
    let same : b ≡ z = same_Some b z (sym is ∙ ap (λ (p : PlainPool). volume_sector p 0 4) h.is ∙ wanted) in
    let most : ℕ = 512 in
    let value : ℕ = 0 in
    let short : 1 ≡ 512 = ap length same ∙ length-replicate {A = ℕ} most value in
    absurd (omega (arith, short))

pub same_size_takes_none : (n : ℕ) → Step kept_own (Grow 0 2) Done (as_large n) → n ≡ 10
same_size_takes_none n step = (made_by kept_own (Grow 0 2) (as_large n) (simp map_values) step).untouched (sym two_blocks_own)

pub grows_none : refusal_of held_own (Grow 1 4) ≡ Some NoSuchDevice
grows_none = simp map_values

pub grows_none_held : refusal_of held_own (Grow 0 1) ≡ Some Busy
grows_none_held = simp map_values

pub shrinks_none : refusal_of kept_own (Grow 0 1) ≡ Some BadSize
shrinks_none = simp map_values

pub grows_too_far : refusal_of kept_own (Grow 0 16777217) ≡ Some BadSize
grows_too_far = simp map_values

pub grows_far : refusal_of kept_own (Grow 0 16777216) ≡ None
grows_far = simp map_values

pub grows_without_room : refusal_of (record kept_own { meta_used = 1537 }) (Grow 0 2) ≡ Some NoMetadataSpace
grows_without_room = simp map_values

-- ---- a root is held

-- what stands at a key behind the keys of devices, and before them
key_of_copy : (id : ℕ) → is_now id ≡ true → (id == copy_id 0) ≡ false
key_of_copy id here = let low = ltb-true id (2 ^ 24) here in ne_eqb id (copy_id 0) (λ e. omega (arith, low, e))

key_of_none : (id : ℕ) → is_now id ≡ false → (id == 0) ≡ false
key_of_none id past = ne_eqb id 0 (λ e. true≢false (sym (ap is_now e) ∙ past))

at_held : (id : ℕ) (here : Bool) → is_now id ≡ here
    → cond (id == copy_id 0) (Some first_block) (cond (id == 0) (Some first_block) None) ≡ cond ((cond here id (id - 2 ^ 24)) == 0) (Some first_block) None
at_held id true is = ap (λ t. cond t (Some first_block) (cond (id == 0) (Some first_block) None)) (key_of_copy id is)
at_held id false is =
    ap (λ t. cond (id == copy_id 0) (Some first_block) (cond t (Some first_block) None)) (key_of_none id is)
    ∙ ap (λ t. cond t (Some first_block) None) (shifted id is)
  where
    shifted : (id : ℕ) → is_now id ≡ false → (id == copy_id 0) ≡ ((id - 2 ^ 24) == 0)
    shifted id past = elim (cases_eq id (copy_id 0)) [
      | inl same ↦ eq-eqb id (copy_id 0) same ∙ sym (eq-eqb (id - 2 ^ 24) 0 (omega (arith, same)))
      | inr apart ↦ ne_eqb id (copy_id 0) apart ∙ sym (ne_eqb (id - 2 ^ 24) 0 (λ e. apart (omega (arith, e, ltb-false id (2 ^ 24) past))))
    ]

held_volumes : (id : ℕ) → get reserved.volumes id ≡ get kept_own.volumes (held_of id)
held_volumes id =
    let now : get reserved.volumes id ≡ cond (id == copy_id 0) (Some first_block) (cond (id == 0) (Some first_block) None) = simp map_values in
    let was : get kept_own.volumes (held_of id) ≡ cond (held_of id == 0) (Some first_block) None = simp map_values in
    now ∙ (at_held id (is_now id) refl ∙ sym was)

pub reserves : Step kept_own ReserveMetadataSnap Done reserved
reserves = step_accepted kept_own ReserveMetadataSnap reserved refl (record { rest = refl; held = omega arith; volumes = held_volumes })

pub reserved_line : pool_line reserved ≡ codes "0 10/2048 1/4 8 rw no_discard_passdown error_if_no_space - 512"
unfolding digits
reserved_line = simp map_values

moved_since : slot_at written_since 0 0 ≡ slot_at reserved 0 0 → ⊥
moved_since same =
    let is : slot_at written_since 0 0 ≡ Some 1 = simp map_values in
    let was : slot_at reserved 0 0 ≡ Some 0 = simp map_values in
    let one : 1 ≡ 0 = same_Some 1 0 (sym is ∙ (same ∙ was)) in
    absurd (omega (arith, one))

slots_since : (block : ℕ) → SlotAfter (effect_at reserved overwrite 0 block) reserved written_since 0 block
slots_since zero = (Decides-is_exclusive written_since 0 0).0 (simp map_values)
slots_since (suc n) =
    let past : 0 + 2 ≤ suc n * 2 = omega arith in
    rw (not_touched_past (with_data 4) 0 2 (suc n) past) (simp (map_values, not_zero))

pub writes_since : Step reserved overwrite Done written_since
writes_since = step_accepted reserved overwrite written_since (simp map_values) (record {
  rest = refl;
  others = λ i apart. other_of_insert _ 0 _ i apart;
  volume = simp map_values;
  slots = slots_since;
  untouched = λ same. absurd (moved_since (same 0));
})

pub read_since : reply written_since (Read 0 0 4) ≡ Gave (b ∷ b ∷ z ∷ z ∷ [])
read_since = simp map_values

pub held_since : reply written_since (HeldRead 0 0 4) ≡ Gave (a ∷ a ∷ z ∷ z ∷ [])
held_since = simp map_values

pub used_since : used written_since ≡ 2
used_since = simp map_values

pub not_in_place : Makes reserved overwrite written_in_place → ⊥
not_in_place h =
    let own : IsExclusive written_in_place 0 0 = h.slots 0 in
    let there : slot_at written_in_place (copy_id 0) 0 ≡ slot_at written_in_place 0 0 = simp map_values in
    let zero_is : copy_id 0 ≡ 0 = (own.alone (copy_id 0) 0 there).0 in
    absurd (omega (arith, zero_is))

-- what is held stays where its volume is removed
pub copy_is_left : (answer : Answer) (made : PlainPool) → Takes reserved (Delete 0) answer made (record reserved { volumes = empty }) → ⊥
copy_is_left answer made takes =
    let kept = copies_stay reserved (Delete 0) answer made (record reserved { volumes = empty }) tt takes
    (λ e. true≢false (ap may_reclaim e)) (λ e. true≢false (ap may_reclaim e)) in
    let was : get reserved.volumes (copy_id 0) ≡ Some first_block = simp map_values in
    let is : get (record reserved { volumes = empty }).volumes (copy_id 0) ≡ None = simp map_values in
    none-some first_block (sym is ∙ kept.1 0 ∙ was)

released_volumes : (id : ℕ) → get released.volumes id ≡ get (retain_keys written_since.volumes is_now) id
released_volumes id = at_released id (is_now id) refl ∙ sym (get_retain written_since.volumes is_now id)
  where
    at_released : (id : ℕ) (here : Bool) → is_now id ≡ here → get released.volumes id ≡ cond here (get written_since.volumes id) None
    at_released id true is = simp (map_values, key_of_copy id is)
    at_released id false is = simp (map_values, key_of_none id is)

pub releases : Step written_since ReleaseMetadataSnap Done released
releases = step_accepted written_since ReleaseMetadataSnap released refl (record {
  is = ap (λ m. pool 4 12 m) (same_nat_map released.volumes (retain_keys written_since.volumes is_now) released_volumes);
  taken = omega arith;
})

pub used_released : used released ≡ 1
used_released = simp map_values

pub copy_is_none : refusal_of reserved (HeldRead 1 0 1) ≡ Some NoSuchDevice
copy_is_none = simp map_values

pub removes_without_room : refusal_of (record reserved { meta_used = 1793 }) (Delete 0) ≡ Some NoMetadataSpace
removes_without_room = simp map_values

pub removes_with_room : refusal_of (record reserved { meta_used = 1792 }) (Delete 0) ≡ None
removes_with_room = simp map_values

pub removes_without_root : refusal_of (record kept_own { meta_used = 2048 }) (Delete 0) ≡ None
removes_without_root = simp map_values

-- ---- the slots of a volume

pub walked_all : reply zeroed_whole (Walk 0 0) ≡ Listed ((0, 0) ∷ (1, 1) ∷ [])
walked_all = simp map_values

pub walked_later : reply zeroed_whole (Walk 0 1) ≡ Listed ((1, 1) ∷ [])
walked_later = simp map_values

pub walked_none : reply zeroed_with_hole (Walk 0 1) ≡ Listed []
walked_none = simp map_values
