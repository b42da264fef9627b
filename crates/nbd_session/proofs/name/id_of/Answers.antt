use Rattle.std.proofs.Common.{◌≡◌, length, get_or, arith}
use Rattle.nbd_session.proofs.Names.{empty_no_name, long_no_name, zero_no_name, other_no_name, found_name, no_name}
use Rattle.nbd_session.proofs.name.id_of.Goals.{else-digits-gt1-via-then-digits-gt1+else-name-eq48, else-digits-gt1-via-else-digits-gt1}
use Rattle.nbd_session.proofs.name.id_of.Goals as goal

pub returns-then-digits-eq0-clause-none : goal.returns-then-digits-eq0-clause-none
returns-then-digits-eq0-clause-none c = empty_no_name c.args.name.now (omega arith)

pub returns-then-digits-gt8-clause-none : goal.returns-then-digits-gt8-clause-none
returns-then-digits-gt8-clause-none c = long_no_name c.args.name.now c.if-digits-gt8.true

pub returns-then-name-eq48-clause-none : goal.returns-then-name-eq48-clause-none
returns-then-name-eq48-clause-none c = zero_no_name c.args.name.now c.if-digits-gt1.true c.if-name-eq48.true

pub returns-in-None-clause-none : goal.returns-in-None-clause-none
returns-in-None-clause-none c = other_no_name c.args.name.now c.in-None.ensures

pub returns-in-Some-clause-found : goal.returns-in-Some-clause-found
returns-in-Some-clause-found c =
    let first : get_or c.args.name.now 0 0 ≡ 48 → length c.args.name.now ≡ 1 = λ e. elim c.else-digits-gt1.branch [ else-digits-gt1-via-then-digits-gt1+else-name-eq48 w ↦ absurd (w.if-name-eq48.false e) | else-digits-gt1-via-else-digits-gt1 w ↦ omega arith ] in
    found_name c.args.name.now c.in-Some.number c.checked.result c.in-Some.ensures.0 c.in-Some.ensures.1 (omega arith) first c.checked.ensures

pub returns-in-Some-clause-none : goal.returns-in-Some-clause-none
returns-in-Some-clause-none c = no_name c.args.name.now c.in-Some.number c.checked.result c.in-Some.ensures.1 c.checked.ensures
