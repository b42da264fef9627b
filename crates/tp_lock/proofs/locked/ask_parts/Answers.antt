use Rattle.std.proofs.Common.{◌<◌, ◌+◌, arith}
use Rattle.tp_lock.proofs.Locking.{in_no_parts, in_parts, of_parts}
use Rattle.tp_lock.proofs.locked.ask_parts.Goals.{else-ran-eq0-via-then-ran-eq0+else-ran-eq0-2, else-ran-eq0-via-else-ran-eq0}
use Rattle.tp_lock.proofs.locked.ask_parts.Goals as goal

pub returns-then-ran-eq0-2-clause-asked : goal.returns-then-ran-eq0-2-clause-asked
returns-then-ran-eq0-2-clause-asked g c =
    let seen = c.ask_for-seen in
    of_parts g.V.Volumes.view c.args.number c.args.piece.now seen.result.ran.events seen.result.ran.bytes c.args.out.now seen.new.out
    (in_no_parts g.V.Volumes.view c.args.number seen.result.is_at_work c.args.piece.now seen.result.ran.events seen.result.ran.bytes c.args.out.now seen.new.out c.if-ran-eq0.true c.if-ran-eq0-2.true seen.ensures.told)

pub returns-then-ran-eq0-2-clause-parts : goal.returns-then-ran-eq0-2-clause-parts
returns-then-ran-eq0-2-clause-parts g c =
    let seen = c.ask_for-seen in
    in_no_parts g.V.Volumes.view c.args.number seen.result.is_at_work c.args.piece.now seen.result.ran.events seen.result.ran.bytes c.args.out.now seen.new.out c.if-ran-eq0.true c.if-ran-eq0-2.true seen.ensures.told

pub returns-clause-asked : goal.returns-clause-asked
returns-clause-asked g c =
    let seen = c.ask_for-seen in
    let ran = c.ask_for-seen.result.ran in
    let some : 0 < ran.events + ran.bytes =
    elim c.else-ran-eq0.branch [ else-ran-eq0-via-then-ran-eq0+else-ran-eq0-2 w ↦ omega (arith, w.if-ran-eq0-2.false) | else-ran-eq0-via-else-ran-eq0 w ↦ omega (arith, w.if-ran-eq0.false) ] in
    of_parts g.V.Volumes.view c.args.number c.args.piece.now ran.events ran.bytes c.args.out.now c.make_parts.new.out
    (in_parts g.V.Volumes.view c.args.number seen.result.is_at_work c.args.piece.now ran.events ran.bytes c.args.out.now seen.new.out c.make_parts.new.out some seen.ensures.told c.make_parts.ensures)

pub returns-clause-parts : goal.returns-clause-parts
returns-clause-parts g c =
    let seen = c.ask_for-seen in
    let ran = c.ask_for-seen.result.ran in
    let some : 0 < ran.events + ran.bytes =
    elim c.else-ran-eq0.branch [ else-ran-eq0-via-then-ran-eq0+else-ran-eq0-2 w ↦ omega (arith, w.if-ran-eq0-2.false) | else-ran-eq0-via-else-ran-eq0 w ↦ omega (arith, w.if-ran-eq0.false) ] in
    in_parts g.V.Volumes.view c.args.number seen.result.is_at_work c.args.piece.now ran.events ran.bytes c.args.out.now seen.new.out c.make_parts.new.out some seen.ensures.told c.make_parts.ensures
