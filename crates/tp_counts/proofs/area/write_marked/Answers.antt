use Rattle.std.proofs.Common.{◌<◌, ◌+◌, true, false, length, sym, ap, subst, ◌∙◌, arith}
use Rattle.std.proofs.lemmas.List.{get_or_default}
use Rattle.tp_model.specs.Geometry.{count_blocks}
use Rattle.tp_model.specs.Disk.{DiskState}
use Rattle.tp_layout.specs.Counts.{counts_bytes}
use Rattle.tp_counts.proofs.Pieces.{all_fit, piece}
use Rattle.tp_counts.proofs.Writing.{HaveWritten, any_moment_more, outside_more, goes_on, leaves_out}
use Rattle.tp_counts.proofs.area.write_marked.Goals as goal
use Rattle.tp_counts.proofs.area.write_marked.Goals.{then-marks-j+in_ok-write_one, else-marks-j}

pub write_one-requires-clause-disk : goal.write_one-requires-clause-disk
write_one-requires-clause-disk g c = omega (arith, c.new.ensures, c.loop-j-test.true, c.div_ceil-j-end.ensures, c.loop-j.invariant.same_disk.size, c.requires.disk)

pub returns-in_err-write_one-clause-any_moment : goal.returns-in_err-write_one-clause-any_moment
returns-in_err-write_one-clause-any_moment g c =
    any_moment_more c.args.first (count_blocks (length c.args.counts.now)) c.args.counts.now c.args.marks.now c.loop-j.j _ c.new.result (g.D.Disk.state c.args.disk.now) (g.D.Disk.state c.loop-j.disk) (g.D.Disk.state c.write_one.new.disk)
    c.loop-j.invariant c.new.ensures (omega (arith, c.loop-j-test.true, c.div_ceil-j-end.ensures)) c.write_one.ensures.long c.write_one.ensures.any

pub returns-in_err-write_one-clause-outside : goal.returns-in_err-write_one-clause-outside
returns-in_err-write_one-clause-outside g c =
    outside_more c.args.first (count_blocks (length c.args.counts.now)) c.args.counts.now c.args.marks.now c.loop-j.j _ c.new.result (g.D.Disk.state c.args.disk.now) (g.D.Disk.state c.loop-j.disk) (g.D.Disk.state c.write_one.new.disk)
    c.loop-j.invariant c.new.ensures (omega (arith, c.loop-j-test.true, c.div_ceil-j-end.ensures)) c.write_one.ensures.long c.write_one.ensures.any

pub returns-in_err-write_one-clause-fit : goal.returns-in_err-write_one-clause-fit
returns-in_err-write_one-clause-fit g c = all_fit _ (λ i. omega (arith, c.type_inv.counts i))

pub loop-j-preserved : goal.loop-j-preserved
loop-j-preserved g c =
    let counts = c.args.counts.now in
    let marks = c.args.marks.now in
    let n = count_blocks (length counts) in
    let j = c.loop-j.j in
    let old = g.D.Disk.state c.args.disk.now in
    let was = g.D.Disk.state c.loop-j.disk in
    let below : j < n = omega (arith, c.loop-j-test.true, c.div_ceil-j-end.ensures) in
    elim c.if-marks-j.branch [
      | then-marks-j+in_ok-write_one w ↦
          subst (λ (d : DiskState). HaveWritten c.args.first n counts marks (j + 1) old d) (ap g.D.Disk.state (sym w.disk-is))
          (goes_on c.args.first n counts marks j _ w.new.result old was (g.D.Disk.state w.write_one.new.disk)
          c.loop-j.invariant w.new.ensures below w.write_one.ensures.long w.write_one.ensures.any
          (ap counts_bytes (piece counts j w.min-to.result (omega (arith, below)) w.min-to.ensures))
          (g.met.D.Disk.well_formed c.loop-j.disk) (omega (arith, c.loop-j.invariant.same_disk.size, c.requires.disk)) w.in_ok-write_one.ensures.ok)
      | else-marks-j w ↦
          subst (λ (d : DiskState). HaveWritten c.args.first n counts marks (j + 1) old d) (ap g.D.Disk.state (sym w.disk-is))
          (leaves_out c.args.first n counts marks j old was c.loop-j.invariant
          (get_or_default marks j true false (omega (arith, below, c.requires.few, c.told-marks)) ∙ w.if-marks-j.false))
    ]

pub returns-clause-written : goal.returns-clause-written
returns-clause-written g c others j inside = c.loop-j.invariant.written others j (omega (arith, inside, c.loop-j-test.false, c.div_ceil-j-end.ensures)) inside

pub returns-clause-fit : goal.returns-clause-fit
returns-clause-fit g c = all_fit _ (λ i. omega (arith, c.type_inv.counts i))
