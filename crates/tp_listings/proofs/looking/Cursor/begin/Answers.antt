use Rattle.std.proofs.Common.{refl}
use Rattle.std.proofs.lemmas.Result.{err_from_is_err_and}
use Rattle.tp_model.specs.declared.refusal.Refusal.{Refusal}
use Rattle.tp_model.specs.Pool.{PlainPool}
use Rattle.tp_model.specs.Calls.{Listed, Walk}
use Rattle.tp_listings.specs.Refusing.{IsRefusal}
use Rattle.tp_model.specs.Slots.{listed}
use Rattle.tp_listings.proofs.Looked.{refusal_on, refused_as, told, walk_refusal}
use Rattle.tp_listings.proofs.looking.Cursor.begin.Goals as goal

pub returns-in_err-walk-clause-looks : goal.returns-in_err-walk-clause-looks
returns-in_err-walk-clause-looks g c =
    let p = err_from_is_err_and c.from_residual.result c.from_residual.ensures.1 in
    refused_as g.V.Volumes.view c.args.pool.now c.walk.new.self (Walk c.args.id c.new.result) c.in_err-walk.field-0.0 p.0 c.from_residual.result p.1 p.2 refl c.in_err-walk.ensures

pub returns-clause-looks : goal.returns-clause-looks
returns-clause-looks g c = told g.V.Volumes.view c.args.pool.now c.walk.new.self (Walk c.args.id c.new.result) (Listed (listed c.walk.new.slots.items)) _ refl c.in_ok-walk.ensures

pub returns-in_err-walk-clause-refused : goal.returns-in_err-walk-clause-refused
returns-in_err-walk-clause-refused g c =
    let p = err_from_is_err_and c.from_residual.result c.from_residual.ensures.1 in
    refusal_on g.V.Volumes.view c.args.pool.now (λ (s : PlainPool) (x : Refusal). IsRefusal s c.args.id x) c.in_err-walk.field-0.0 p.0 c.from_residual.result p.1 p.2
    (walk_refusal g.V.Volumes.view c.args.pool.now c.walk.new.self c.args.id c.new.result c.in_err-walk.field-0.0 c.in_err-walk.ensures)
