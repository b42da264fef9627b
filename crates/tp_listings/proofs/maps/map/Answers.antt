use Rattle.std.proofs.Common.{◌∙◌, List, arith, subst, sym, ℕ}
use Rattle.std.specs.Prelude.{Ok}
use Rattle.std.proofs.lemmas.Result.{err_from_is_err_and}
use Rattle.tp_listings.specs.declared.extent.Extent.{Extent}
use Rattle.tp_listings.specs.Listings.{AreRunsOf}
use Rattle.tp_listings.specs.Refusing.{IsRefusal}
use Rattle.tp_model.specs.Pool.{PlainPool}
use Rattle.tp_model.specs.declared.refusal.Refusal.{Refusal}
use Rattle.tp_listings.proofs.Looked.{both, given_on, gives, still_both, refusal_on}
use Rattle.tp_listings.proofs.Mapped.{Before, map_begins, map_is, map_step}
use Rattle.tp_listings.proofs.maps.map.Goals as goal

pub loop-from-init : goal.loop-from-init
loop-from-init g c = record {
  looks = gives g.V.Volumes.view c.args.pool.now c.begin.new.pool _ (tt {0}) c.in_ok-volume.ensures.looks;
  still = c.begin.ensures.still;
  most = omega arith;
  id = c.in_ok-volume.ensures.id;
  exact = λ s shown. (
    c.in_ok-volume.ensures.reads s shown,
    subst (λ (l : List Extent). AreRunsOf l (Before s c.args.id 0)) (sym c.new-extents.ensures.items) (map_begins s c.args.id),
  );
}

pub loop-from-preserved : goal.loop-from-preserved
loop-from-preserved g c =
    let was = c.loop-from.invariant in
    let view = g.V.Volumes.view in
    record {
      looks = gives view c.args.pool.now c.list_next.new.pool c.in_ok-from.from (tt {0})
          (both view c.args.pool.now c.loop-from.pool c.list_next.new.pool (tt {0}) (Ok c.in_ok-from.from) was.looks c.in_ok-from.ensures.looks);
      still = still_both view c.args.pool.now c.loop-from.pool c.list_next.new.pool was.still c.list_next.ensures.still;
      most = c.in_ok-from.ensures.further.1;
      id = c.list_next.ensures.id ∙ was.id;
      exact = λ s shown.
          map_step s c.loop-from.volume.id c.args.id c.loop-from.from c.in_ok-from.from c.loop-from.volume.slots.items c.list_next.new.volume.slots.items c.loop-from.volume.at
          c.list_next.new.volume.at c.loop-from.extents.items c.list_next.new.extents.items was.id (c.in_ok-from.ensures.exact s (was.still s shown)) (was.exact s shown);
    }

pub returns-in_err-from-clause-looks : goal.returns-in_err-from-clause-looks
returns-in_err-from-clause-looks g c =
    let p = err_from_is_err_and c.from_residual-in_err-from.result c.from_residual-in_err-from.ensures.1 in
    given_on g.V.Volumes.view c.args.pool.now c.loop-from.pool c.list_next.new.pool (tt {0}) c.in_err-from.field-0.0 p.0 c.from_residual-in_err-from.result p.1 p.2 c.loop-from.invariant.looks
    c.in_err-from.ensures.looks

pub returns-in_err-from-clause-still : goal.returns-in_err-from-clause-still
returns-in_err-from-clause-still g c =
    still_both g.V.Volumes.view c.args.pool.now c.loop-from.pool c.list_next.new.pool c.loop-from.invariant.still c.list_next.ensures.still

pub returns-clause-looks : goal.returns-clause-looks
returns-clause-looks g c = gives g.V.Volumes.view c.args.pool.now c.loop-from.pool (tt {0}) _ c.loop-from.invariant.looks

pub returns-clause-still : goal.returns-clause-still
returns-clause-still g c = c.loop-from.invariant.still

pub returns-clause-exact : goal.returns-clause-exact
returns-clause-exact g c s shown =
    let was = c.loop-from.invariant in
    map_is g.V.Volumes.view g.met.V.Volumes.laws c.args.pool.now s c.args.id c.loop-from.from c.loop-from.volume.slots.items c.loop-from.volume.at c.loop-from.extents.items shown
    (omega (arith, c.loop-from-test.false)) (was.exact s shown)

pub returns-in_err-from-clause-refused : goal.returns-in_err-from-clause-refused
returns-in_err-from-clause-refused g c =
    let r = c.from_residual-in_err-from in
    let p = err_from_is_err_and r.result r.ensures.1 in
    refusal_on g.V.Volumes.view c.args.pool.now (λ (s : PlainPool) (x : Refusal). IsRefusal s c.args.id x) c.in_err-from.field-0.0 p.0 r.result p.1 p.2
    (λ s shown. subst (λ (i : ℕ). IsRefusal s i c.in_err-from.field-0.0) c.loop-from.invariant.id (c.in_err-from.ensures.refused s (c.loop-from.invariant.still s shown)))
