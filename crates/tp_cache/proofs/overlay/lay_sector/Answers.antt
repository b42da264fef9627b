use Rattle.std.proofs.Common.{◌≡◌, ◌+◌, ◌-◌, ◌*◌, ◌/◌, ◌<◌, [], length, take, drop, sym, ◌∙◌, ap, arith}
use Rattle.std.specs.Prelude.{◌%◌, slice_index_or}
use Rattle.tp_cache.specs.Table.{slot_of}
use Rattle.tp_cache.proofs.Overlays.{mixed_clean, mixed_held}
use Rattle.tp_cache.proofs.overlay.lay_sector.Goals as goal

pub returns-then-slot-eq0-clause-mixed : goal.returns-then-slot-eq0-clause-mixed
returns-then-slot-eq0-clause-mixed c size index owners outer inner wo wi fits t h e =
    mixed_clean index c.args.held.now owners c.args.slots.now size outer inner wo wi t h c.args.at (length c.args.out.now / 512) c.args.k c.requires.number fits c.args.out.now (sym c.slot_in-slot.ensures ∙ c.if-slot-eq0.true) e

pub returns-clause-mixed : goal.returns-clause-mixed
returns-clause-mixed c size index owners outer inner wo wi fits t h e =
    let some : 0 < slot_of c.args.held.now ((c.args.at + c.args.k) / 8) = omega (arith, c.slot_in-slot.ensures, c.if-slot-eq0.false) in
    let from = 512 * ((c.args.at + c.args.k) % 8) in
    let size_is : from + 512 - from ≡ 512 = omega arith in
    c.put_bytes.ensures.out ∙ mixed_held index c.args.held.now owners c.args.slots.now size outer inner wo wi t h c.args.at (length c.args.out.now / 512) c.args.k c.requires.number fits c.args.out.now _ some e
    (ap (λ m. take m (drop from (slice_index_or c.args.slots.now (c.slot_in-slot.result - 1) []))) size_is
    ∙ ap (λ m. take 512 (drop from (slice_index_or c.args.slots.now (m - 1) []))) c.slot_in-slot.ensures)
