use Rattle.std.proofs.Common.{arith, refl, ap, ◌+◌}
use Rattle.std.proofs.lemmas.Result.{err_from_is_err_and}
use Rattle.std.specs.FinMap.{entries}
use Rattle.tp_model.specs.Pool.{volume_slots}
use Rattle.tp_model.specs.Calls.{Listed, Refused, Walk}
use Rattle.tp_model.specs.Slots.{listed}
use Rattle.tp_listings.proofs.Beyond.{none_beyond}
use Rattle.tp_listings.proofs.Looked.{walk_still, walked}
use Rattle.tp_listings.proofs.Marking.{left_first, left_walked}
use Rattle.tp_listings.proofs.Steps.{begun, call_refused, call_told, joined}
use Rattle.tp_model.specs.declared.refusal.Refusal.{Refusal}
use Rattle.tp_model.specs.Pool.{PlainPool}
use Rattle.tp_listings.specs.Refusing.{IsRefusal}
use Rattle.tp_listings.proofs.Looked.{refusal_on, walk_refusal}
use Rattle.tp_listings.proofs.owners.mark_volume.Goals as goal

pub loop-from-init : goal.loop-from-init
loop-from-init g c = record {
  looked = begun g.V.Volumes.view c.args.pool.now (tt {0});
  most = omega arith;
  few = omega arith;
  left = λ s shown. left_first (entries (volume_slots s c.args.id)) c.args.mine c.args.owners.now;
}

pub returns-in_err-walk-clause-looked : goal.returns-in_err-walk-clause-looked
returns-in_err-walk-clause-looked g c =
    let p = err_from_is_err_and c.from_residual.result c.from_residual.ensures.1 in
    joined g.V.Volumes.view c.args.pool.now c.loop-from.pool c.walk.new.self (tt {0}) c.from_residual.result c.loop-from.invariant.looked
    (call_refused g.V.Volumes.view c.loop-from.pool c.walk.new.self (Walk c.args.id c.new.result) c.in_err-walk.field-0.0 p.0 c.from_residual.result p.1 p.2 refl
    (walk_still g.V.Volumes.view c.loop-from.pool c.walk.new.self c.args.id c.new.result (Refused c.in_err-walk.field-0.0) c.in_err-walk.ensures) c.in_err-walk.ensures)

pub loop-from-preserved : goal.loop-from-preserved
loop-from-preserved g c = record {
  looked =
      joined g.V.Volumes.view c.args.pool.now c.loop-from.pool c.walk.new.self (tt {0}) _ c.loop-from.invariant.looked
      (call_told g.V.Volumes.view c.loop-from.pool c.walk.new.self (Walk c.args.id c.new.result) (Listed (listed c.walk.new.slots.items)) (tt {0}) refl
      (walk_still g.V.Volumes.view c.loop-from.pool c.walk.new.self c.args.id c.new.result (Listed (listed c.walk.new.slots.items)) c.in_ok-walk.ensures) c.in_ok-walk.ensures);
  most = c.behind-from.ensures.most;
  few = omega (arith, c.loop-from.invariant.few, c.len-listed.ensures.fits, c.behind-from.ensures.further);
  left = λ s shown.
      let shown_now = c.loop-from.invariant.looked.still s shown in
      let w = walked g.V.Volumes.view c.loop-from.pool c.walk.new.self s c.args.id c.new.result (listed c.walk.new.slots.items) shown_now c.in_ok-walk.ensures in
      left_walked s c.args.id c.walk.new.slots.items c.deref.result.now c.deref-in-loop-from.result.now c.args.mine c.loop-from.from c.new.result c.behind-from.result c.loop-from.mapped _
      c.args.owners.now c.loop-from.owners c.mark.new.owners c.requires c.deref.ensures.0 c.deref-in-loop-from.ensures.0 c.new.ensures
      (λ block far. none_beyond g.V.Volumes.view g.met.V.Volumes.laws c.loop-from.pool s c.args.id block shown_now w.0 far) w.2 c.behind-from.ensures.rest c.mark.ensures.marks c.mark.ensures.below
      (ap (λ n. c.loop-from.mapped + n) c.len-listed.ensures.value) c.behind-from.ensures.most (c.loop-from.invariant.left s shown);
}

pub returns-in_err-walk-clause-refused : goal.returns-in_err-walk-clause-refused
returns-in_err-walk-clause-refused g c =
    let p = err_from_is_err_and c.from_residual.result c.from_residual.ensures.1 in
    refusal_on g.V.Volumes.view c.args.pool.now (λ (s : PlainPool) (x : Refusal). IsRefusal s c.args.id x) c.in_err-walk.field-0.0 p.0 c.from_residual.result p.1 p.2
    (λ s shown. walk_refusal g.V.Volumes.view c.loop-from.pool c.walk.new.self c.args.id c.new.result c.in_err-walk.field-0.0 c.in_err-walk.ensures s (c.loop-from.invariant.looked.still s shown))
