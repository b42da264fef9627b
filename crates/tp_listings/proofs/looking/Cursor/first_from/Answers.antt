use Rattle.std.proofs.Common.{refl}
use Rattle.std.proofs.lemmas.Result.{err_from_is_err_and}
use Rattle.tp_model.specs.declared.refusal.Refusal.{Refusal}
use Rattle.tp_model.specs.Pool.{PlainPool}
use Rattle.tp_model.specs.Calls.{Listed, Walk}
use Rattle.tp_listings.specs.Refusing.{IsRefusal}
use Rattle.tp_model.specs.Slots.{listed}
use Rattle.tp_listings.proofs.Found.{after_skip, after_walk}
use Rattle.tp_listings.proofs.Looked.{refusal_on, refused_as, told, walk_refusal}
use Rattle.tp_listings.proofs.looking.Cursor.first_from.Goals as goal

pub returns-then-not-is_used_up-clause-first : goal.returns-then-not-is_used_up-clause-first
returns-then-not-is_used_up-clause-first g c s low shown le reads =
    after_skip s c.args.self.now.id low c.args.from c.args.self.now.slots.items c.args.self.now.at c.skip-self.result c.is_used_up.result c.slot_of.result c.deref.result.now c.deref-2.result.now
    c.deref-then-not-is_used_up.result.now le reads c.deref.ensures.0 c.deref-2.ensures.0 c.deref-then-not-is_used_up.ensures.0 c.skip-self.ensures.below c.skip-self.ensures.later
    c.is_used_up.ensures c.if-not-is_used_up.true c.slot_of.ensures

pub returns-in_err-walk-clause-looks : goal.returns-in_err-walk-clause-looks
returns-in_err-walk-clause-looks g c =
    let p = err_from_is_err_and c.from_residual.result c.from_residual.ensures.1 in
    refused_as g.V.Volumes.view c.args.pool.now c.walk.new.self (Walk c.args.self.now.id c.new.result) c.in_err-walk.field-0.0 p.0 c.from_residual.result p.1 p.2 refl c.in_err-walk.ensures

pub returns-clause-looks : goal.returns-clause-looks
returns-clause-looks g c = told g.V.Volumes.view c.args.pool.now c.walk.new.self (Walk c.args.self.now.id c.new.result) (Listed (listed c.walk.new.slots.items)) _ refl c.in_ok-walk.ensures

pub returns-clause-first : goal.returns-clause-first
returns-clause-first g c s low shown le reads =
    after_walk g.V.Volumes.view c.args.pool.now c.walk.new.self s c.args.self.now.id c.args.from c.new.result c.walk.new.slots.items c.skip-self-2.result c.slot_of-2.result c.deref-3.result.now
    c.deref-4.result.now shown c.new.ensures c.in_ok-walk.ensures c.deref-3.ensures.0 c.deref-4.ensures.0 c.skip-self-2.ensures.below c.skip-self-2.ensures.later c.slot_of-2.ensures

pub returns-in_err-walk-clause-refused : goal.returns-in_err-walk-clause-refused
returns-in_err-walk-clause-refused g c =
    let p = err_from_is_err_and c.from_residual.result c.from_residual.ensures.1 in
    refusal_on g.V.Volumes.view c.args.pool.now (λ (s : PlainPool) (x : Refusal). IsRefusal s c.args.self.now.id x) c.in_err-walk.field-0.0 p.0 c.from_residual.result p.1 p.2
    (walk_refusal g.V.Volumes.view c.args.pool.now c.walk.new.self c.args.self.now.id c.new.result c.in_err-walk.field-0.0 c.in_err-walk.ensures)
