use Rattle.std.proofs.Common.{ℕ, ◌+◌, ◌<◌, List, length, min, refl, sym, subst, arith}
use Rattle.std.specs.Prelude.{slice_index}
use Rattle.tp_check.proofs.Numbering.{AreCounted, count_next}
use Rattle.tp_image.proofs.Uniqueness.{contains_at}
use Rattle.tp_check.proofs.walk.count.Goals as goal

pub name-requires : goal.name-requires
name-requires c =
    let lt = c.requires.inside c.entry.result (contains_at c.args.node.now.entries c.loop-i.i c.entry.result c.entry.ensures) in omega (arith, lt, c.loop-i.auto.names)

pub loop-i-preserved : goal.loop-i-preserved
loop-i-preserved c =
    let es = c.args.node.now.entries in
    let place = c.entry.result.value in
    let sum : ℕ = min (slice_index c.loop-i.names place + 1) 4294967295 in
    let lt : place < length c.args.names.now = c.requires.inside c.entry.result (contains_at es c.loop-i.i c.entry.result c.entry.ensures) in
    subst (λ (xs : List ℕ). AreCounted c.args.names.now xs es (c.loop-i.i + 1)) (sym c.name.ensures)
    (count_next c.args.names.now c.loop-i.names es c.loop-i.i place sum c.entry.result c.entry.ensures refl (omega (arith, lt, c.loop-i.auto.names)) (λ h. omega (arith, h)) c.loop-i.invariant)
