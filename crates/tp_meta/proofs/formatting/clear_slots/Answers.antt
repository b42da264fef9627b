use Rattle.std.proofs.Common.{◌≡◌, ◌≤◌, List, length, sym, ap, subst, arith, true}
use Rattle.std.specs.Prelude.{Ok, is_ok, ◌∷◌, []}
use Rattle.std.proofs.lemmas.Result.{on_ok_weaker}
use Rattle.tp_model.specs.Sectors.{zero_sector}
use Rattle.tp_model.specs.Disk.{Cell, DiskState, after_flush, after_write, seen}
use Rattle.tp_model.specs.DiskStops.{Leaves, LeavesOnly}
use Rattle.tp_model.proofs.DiskStopLaws.{AfterStop-seen}
use Rattle.tp_layout.specs.declared.superblock.SlotId.{SlotId}
use Rattle.tp_image.specs.Slots.{Chooses, slot_sector}
use Rattle.tp_meta.specs.Format.{IsClearing}
use Rattle.tp_meta.proofs.Clearing.{both_cleared, first_clears, is_other, read_alone, second_clears, since_read}
use Rattle.tp_meta.proofs.formatting.clear_slots.Goals as goal

pub returns-in_err-slot-clause-any_moment : goal.returns-in_err-slot-clause-any_moment
returns-in_err-slot-clause-any_moment g c last honest was =
    read_alone last (is_ok c.chosen_slot.result) (g.D.Disk.state c.args.disk.now) (g.D.Disk.state c.chosen_slot.new.disk) c.chosen_slot.ensures.state was

pub returns-in_err-clear-clause-any_moment : goal.returns-in_err-clear-clause-any_moment
returns-in_err-clear-clause-any_moment g c last honest was =
    let old = g.D.Disk.state c.args.disk.now in
    let a = g.D.Disk.state c.chosen_slot.new.disk in
    let slot = c.in_ok-slot.slot in
    let same = ap (λ (d : DiskState). d.cells) c.chosen_slot.ensures.state in
    let is = c.in_ok-slot.ensures.found last honest (was (seen old.cells) (AfterStop-seen old.cells)) in
    let long : 9 ≤ length a.cells = omega (arith, (g.met.D.Disk.well_formed c.chosen_slot.new.disk).size_is, ap (λ (d : DiskState). d.size) c.chosen_slot.ensures.state, c.requires) in
    since_read last (is_ok c.chosen_slot.result) old a (g.D.Disk.state c.clear.new.disk) c.chosen_slot.ensures.state was
    (first_clears slot last a is long (subst (λ (cells : List Cell). Leaves (λ image. Chooses image (Ok last)) cells) (sym same) was) (g.D.Disk.state c.clear.new.disk)
    (subst (λ (s : SlotId). LeavesOnly a (g.D.Disk.state c.clear.new.disk) (IsClearing s a.cells)) (is_other slot c.other.result c.other.ensures) c.clear.ensures.any_moment))

pub returns-clause-any_moment : goal.returns-clause-any_moment
returns-clause-any_moment g c last honest was =
    let old = g.D.Disk.state c.args.disk.now in
    let a = g.D.Disk.state c.chosen_slot.new.disk in
    let b = g.D.Disk.state c.clear.new.disk in
    let slot = c.in_ok-slot.slot in
    let other = is_other slot c.other.result c.other.ensures in
    let same = ap (λ (d : DiskState). d.cells) c.chosen_slot.ensures.state in
    let is = c.in_ok-slot.ensures.found last honest (was (seen old.cells) (AfterStop-seen old.cells)) in
    let size = ap (λ (d : DiskState). d.size) c.chosen_slot.ensures.state in
    let long : 9 ≤ length a.cells = omega (arith, (g.met.D.Disk.well_formed c.chosen_slot.new.disk).size_is, size, c.requires) in
    let longer : 9 ≤ length b.cells = omega (arith, (g.met.D.Disk.well_formed c.clear.new.disk).size_is, size, c.clear.ensures.same.size, c.requires) in
    let was_then = subst (λ (cells : List Cell). Leaves (λ image. Chooses image (Ok last)) cells) (sym same) was in
    let first = first_clears slot last a is long was_then b (subst (λ (s : SlotId). LeavesOnly a b (IsClearing s a.cells)) other c.clear.ensures.any_moment) in
    since_read last (is_ok c.chosen_slot.result) old a (g.D.Disk.state c.clear-2.new.disk) c.chosen_slot.ensures.state was
    (second_clears slot last a is long was_then b (g.D.Disk.state c.clear-2.new.disk) first longer
    (subst (λ (s : SlotId). b ≡ after_flush true (after_write (slot_sector s) (zero_sector ∷ []) a)) other c.in_ok-clear.ensures.ok) c.clear-2.ensures.any_moment)

pub returns-clause-blank : goal.returns-clause-blank
returns-clause-blank g c =
    let a = g.D.Disk.state c.chosen_slot.new.disk in
    let b = g.D.Disk.state c.clear.new.disk in
    let slot = c.in_ok-slot.slot in
    let size = ap (λ (d : DiskState). d.size) c.chosen_slot.ensures.state in
    let long : 9 ≤ length a.cells = omega (arith, (g.met.D.Disk.well_formed c.chosen_slot.new.disk).size_is, size, c.requires) in
    let longer : 9 ≤ length b.cells = omega (arith, (g.met.D.Disk.well_formed c.clear.new.disk).size_is, size, c.clear.ensures.same.size, c.requires) in
    on_ok_weaker c.clear-2.result
    (both_cleared slot a b (g.D.Disk.state c.clear-2.new.disk) long longer
    (subst (λ (s : SlotId). b ≡ after_flush true (after_write (slot_sector s) (zero_sector ∷ []) a)) (is_other slot c.other.result c.other.ensures) c.in_ok-clear.ensures.ok)) c.clear-2.ensures.ok
