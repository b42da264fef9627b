use Rattle.std.proofs.Common.{ℕ, Bool, true, false, sym, subst}
use Rattle.std.specs.Prelude.{Ok}
use Rattle.tp_model.specs.Clauses.{PoolCall}
use Rattle.nbd_session.specs.Looking.{LooksUp, Sought}
use Rattle.nbd_session.specs.Session.{limit_of}
use Rattle.nbd_session.proofs.Looking.{sought, sought_refused, unsought}
use Rattle.nbd_session.proofs.options.seek.Goals as goal

pub returns-in_default : goal.returns-in_default
returns-in_default g c =
    let v = g.V.Volumes.view in
    unsought v.outline (PoolCall v) (limit_of c.args.profile) c.args.text.now c.args.pool.now c.in_default.ensures.none

pub returns-in-Ok-true : goal.returns-in-Ok-true
returns-in-Ok-true g c =
    let v = g.V.Volumes.view in
    let P : Bool → Type 0 = λ b. LooksUp v.outline (PoolCall v) c.in-Some.id (Ok b) c.args.pool.now c.look_up.new.pool in
    let Q : ℕ → Type 0 = λ n. Sought v.outline (PoolCall v) (limit_of c.args.profile) c.args.text.now (Ok n) c.args.pool.now c.look_up.new.pool in
    subst Q (sym c.number.ensures.value)
    (sought v.outline (PoolCall v) true (limit_of c.args.profile) c.args.text.now c.in-Some.id c.args.pool.now c.look_up.new.pool c.in-Some.ensures.found (subst P c.in-Ok-true.field-0-test c.in-Ok-true.ensures.looks))

pub returns-in-Ok-false : goal.returns-in-Ok-false
returns-in-Ok-false g c =
    let v = g.V.Volumes.view in
    let P : Bool → Type 0 = λ b. LooksUp v.outline (PoolCall v) c.in-Some.id (Ok b) c.args.pool.now c.look_up.new.pool in
    sought v.outline (PoolCall v) false (limit_of c.args.profile) c.args.text.now c.in-Some.id c.args.pool.now c.look_up.new.pool c.in-Some.ensures.found (subst P c.in-Ok-false.field-0-test c.in-Ok-false.ensures.looks)

pub returns-in-Err : goal.returns-in-Err
returns-in-Err g c =
    let v = g.V.Volumes.view in
    sought_refused v.outline (PoolCall v) (limit_of c.args.profile) c.args.text.now c.in-Some.id c.args.pool.now c.look_up.new.pool c.in-Err.refusal c.in-Some.ensures.found c.in-Err.ensures.looks
