use Rattle.std.proofs.Common.{Bool, subst}
use Rattle.std.specs.Prelude.{Ok}
use Rattle.tp_model.specs.Clauses.{PoolCall}
use Rattle.nbd_session.specs.Looking.{LooksUp}
use Rattle.nbd_session.proofs.Looking.{hold_refused, learns_held}
use Rattle.nbd_session.proofs.options.find_and_hold.Goals as goal

pub returns-in-Ok : goal.returns-in-Ok
returns-in-Ok g c =
    let v = g.V.Volumes.view in
    let P : Bool → Type 0 = λ b. LooksUp v.outline (PoolCall v) c.args.volume (Ok b) c.args.pool.now c.look_up.new.pool in
    learns_held v.outline (PoolCall v) c.geometry-geometry.result c.args.volume c.args.pool.now c.look_up.new.pool c.take_hold.new.pool c.geometry-geometry.ensures c.in-Ok.size
    (subst P c.in-Ok-true.field-0-test c.in-Ok-true.ensures.looks) c.in-Ok.ensures

pub returns-in-Err-take_hold : goal.returns-in-Err-take_hold
returns-in-Err-take_hold g c =
    let v = g.V.Volumes.view in
    let P : Bool → Type 0 = λ b. LooksUp v.outline (PoolCall v) c.args.volume (Ok b) c.args.pool.now c.look_up.new.pool in
    hold_refused v.outline (PoolCall v) c.geometry-geometry.result c.args.volume c.args.pool.now c.look_up.new.pool c.take_hold.new.pool c.geometry-geometry.ensures c.in-Err-take_hold.refusal
    (subst P c.in-Ok-true.field-0-test c.in-Ok-true.ensures.looks) c.in-Err-take_hold.ensures
