use Rattle.std.proofs.Common.{◌∙◌, List, arith, refl, subst, sym, inl, inr, ◌⊎◌, ℕ}
use Rattle.std.specs.Prelude.{Ok}
use Rattle.std.proofs.lemmas.Result.{err_from_is_err_and}
use Rattle.tp_model.specs.Calls.{Sized, VolumeBlocks}
use Rattle.tp_listings.specs.declared.extent.Extent.{Extent}
use Rattle.tp_listings.specs.Listings.{AreRunsOf}
use Rattle.tp_listings.specs.Refusing.{IsRefusal}
use Rattle.tp_model.specs.Pool.{PlainPool}
use Rattle.tp_model.specs.declared.refusal.Refusal.{Refusal}
use Rattle.tp_listings.proofs.Looked.{blocks_still, both, given_on, gives, refused_as, sized, still_both, told, refusal_on, blocks_refusal}
use Rattle.tp_listings.proofs.Differing.{Differ, delta_begins, delta_is, delta_step}
use Rattle.tp_listings.proofs.deltas.delta.Goals as goal

pub loop-from-init : goal.loop-from-init
loop-from-init g c =
    let view = g.V.Volumes.view in
    let start = c.args.pool.now in
    let mid = c.volume_blocks.new.self in
    let met = c.in_ok-blocks.ensures.told in
    let still = still_both view start mid c.begin.new.pool (blocks_still view start mid c.args.new (Sized c.in_ok-blocks.blocks) met) c.begin.ensures.still in
    record {
      looks = gives view start c.begin-2.new.pool c.in_ok-other.other (tt {0})
          (both view start c.begin.new.pool c.begin-2.new.pool c.in_ok-one.one (Ok c.in_ok-other.other)
          (both view start mid c.begin.new.pool (tt {0}) (Ok c.in_ok-one.one) (told view start mid (VolumeBlocks c.args.new) (Sized c.in_ok-blocks.blocks) (tt {0}) refl met) c.in_ok-one.ensures.looks)
          c.in_ok-other.ensures.looks);
      still = still_both view start c.begin.new.pool c.begin-2.new.pool still c.begin-2.ensures.still;
      most = omega arith;
      few = c.in_ok-blocks.ensures.most;
      sized = λ s shown. sized view start mid s c.args.new c.in_ok-blocks.blocks shown met;
      one = c.in_ok-one.ensures.id;
      other = c.in_ok-other.ensures.id;
      exact = λ s shown. (
        c.in_ok-one.ensures.reads s (blocks_still view start mid c.args.new (Sized c.in_ok-blocks.blocks) met s shown),
        c.in_ok-other.ensures.reads s (still s shown),
        subst (λ (l : List Extent). AreRunsOf l (Differ s c.args.old c.args.new 0)) (sym c.new-extents.ensures.items) (delta_begins s c.args.old c.args.new),
      );
    }

pub loop-from-preserved : goal.loop-from-preserved
loop-from-preserved g c =
    let was = c.loop-from.invariant in
    let view = g.V.Volumes.view in
    record {
      looks = gives view c.args.pool.now c.list_next.new.pool c.in_ok-from.from (tt {0})
          (both view c.args.pool.now c.loop-from.pool c.list_next.new.pool (tt {0}) (Ok c.in_ok-from.from) was.looks c.in_ok-from.ensures.looks);
      still = still_both view c.args.pool.now c.loop-from.pool c.list_next.new.pool was.still c.list_next.ensures.still;
      most = c.in_ok-from.ensures.further.1;
      few = was.few;
      sized = was.sized;
      one = c.list_next.ensures.one ∙ was.one;
      other = c.list_next.ensures.other ∙ was.other;
      exact = λ s shown.
          delta_step s c.loop-from.one.id c.loop-from.other.id c.args.old c.args.new c.loop-from.from c.in_ok-from.from c.loop-from.one.slots.items c.list_next.new.one.slots.items
          c.loop-from.other.slots.items c.list_next.new.other.slots.items c.loop-from.one.at c.list_next.new.one.at c.loop-from.other.at c.list_next.new.other.at c.loop-from.extents.items
          c.list_next.new.extents.items was.one was.other (c.in_ok-from.ensures.exact s (was.still s shown)) (was.exact s shown);
    }

pub returns-in_err-from-clause-looks : goal.returns-in_err-from-clause-looks
returns-in_err-from-clause-looks g c =
    let p = err_from_is_err_and c.from_residual-in_err-from.result c.from_residual-in_err-from.ensures.1 in
    given_on g.V.Volumes.view c.args.pool.now c.loop-from.pool c.list_next.new.pool (tt {0}) c.in_err-from.field-0.0 p.0 c.from_residual-in_err-from.result p.1 p.2 c.loop-from.invariant.looks
    c.in_err-from.ensures.looks

pub returns-in_err-from-clause-still : goal.returns-in_err-from-clause-still
returns-in_err-from-clause-still g c =
    still_both g.V.Volumes.view c.args.pool.now c.loop-from.pool c.list_next.new.pool c.loop-from.invariant.still c.list_next.ensures.still

pub returns-clause-looks : goal.returns-clause-looks
returns-clause-looks g c = gives g.V.Volumes.view c.args.pool.now c.loop-from.pool (tt {0}) _ c.loop-from.invariant.looks

pub returns-clause-still : goal.returns-clause-still
returns-clause-still g c = c.loop-from.invariant.still

pub returns-clause-exact : goal.returns-clause-exact
returns-clause-exact g c s shown =
    let was = c.loop-from.invariant in
    delta_is s c.args.old c.args.new c.loop-from.from c.in_ok-blocks.blocks c.loop-from.one.slots.items c.loop-from.other.slots.items c.loop-from.one.at c.loop-from.other.at
    c.loop-from.extents.items was.most (omega (arith, c.loop-from-test.false)) (was.sized s shown) (was.exact s shown)

pub returns-in_err-blocks-clause-looks : goal.returns-in_err-blocks-clause-looks
returns-in_err-blocks-clause-looks g c =
    let p = err_from_is_err_and c.from_residual.result c.from_residual.ensures.1 in
    refused_as g.V.Volumes.view c.args.pool.now c.volume_blocks.new.self (VolumeBlocks c.args.new) c.in_err-blocks.field-0.0 p.0 c.from_residual.result p.1 p.2 refl c.in_err-blocks.ensures.told

pub returns-in_err-one-clause-looks : goal.returns-in_err-one-clause-looks
returns-in_err-one-clause-looks g c =
    let view = g.V.Volumes.view in
    let start = c.args.pool.now in
    let mid = c.volume_blocks.new.self in
    let p = err_from_is_err_and c.from_residual-in_err-one.result c.from_residual-in_err-one.ensures.1 in
    given_on view start mid c.begin.new.pool (tt {0}) c.in_err-one.field-0.0 p.0 c.from_residual-in_err-one.result p.1 p.2
    (told view start mid (VolumeBlocks c.args.new) (Sized c.in_ok-blocks.blocks) (tt {0}) refl c.in_ok-blocks.ensures.told) c.in_err-one.ensures.looks

pub returns-in_err-other-clause-looks : goal.returns-in_err-other-clause-looks
returns-in_err-other-clause-looks g c =
    let view = g.V.Volumes.view in
    let start = c.args.pool.now in
    let mid = c.volume_blocks.new.self in
    let p = err_from_is_err_and c.from_residual-in_err-other.result c.from_residual-in_err-other.ensures.1 in
    given_on view start c.begin.new.pool c.begin-2.new.pool c.in_ok-one.one c.in_err-other.field-0.0 p.0 c.from_residual-in_err-other.result p.1 p.2
    (both view start mid c.begin.new.pool (tt {0}) (Ok c.in_ok-one.one) (told view start mid (VolumeBlocks c.args.new) (Sized c.in_ok-blocks.blocks) (tt {0}) refl c.in_ok-blocks.ensures.told) c.in_ok-one.ensures.looks)
    c.in_err-other.ensures.looks

pub returns-in_err-blocks-clause-refused : goal.returns-in_err-blocks-clause-refused
returns-in_err-blocks-clause-refused g c =
    let r = c.from_residual in
    let p = err_from_is_err_and r.result r.ensures.1 in
    refusal_on g.V.Volumes.view c.args.pool.now (λ (s : PlainPool) (x : Refusal). IsRefusal s c.args.old x ⊎ IsRefusal s c.args.new x) c.in_err-blocks.field-0.0 p.0 r.result p.1 p.2
    (λ s shown. inr (blocks_refusal g.V.Volumes.view c.args.pool.now c.volume_blocks.new.self c.args.new c.in_err-blocks.field-0.0 c.in_err-blocks.ensures.told s shown))

pub returns-in_err-one-clause-refused : goal.returns-in_err-one-clause-refused
returns-in_err-one-clause-refused g c =
    let r = c.from_residual-in_err-one in
    let p = err_from_is_err_and r.result r.ensures.1 in
    let still = blocks_still g.V.Volumes.view c.args.pool.now c.volume_blocks.new.self c.args.new (Sized c.in_ok-blocks.blocks) c.in_ok-blocks.ensures.told in
    refusal_on g.V.Volumes.view c.args.pool.now (λ (s : PlainPool) (x : Refusal). IsRefusal s c.args.old x ⊎ IsRefusal s c.args.new x) c.in_err-one.field-0.0 p.0 r.result p.1 p.2
    (λ s shown. inl (c.in_err-one.ensures.refused s (still s shown)))

pub returns-in_err-other-clause-refused : goal.returns-in_err-other-clause-refused
returns-in_err-other-clause-refused g c =
    let r = c.from_residual-in_err-other in
    let p = err_from_is_err_and r.result r.ensures.1 in
    let still = blocks_still g.V.Volumes.view c.args.pool.now c.volume_blocks.new.self c.args.new (Sized c.in_ok-blocks.blocks) c.in_ok-blocks.ensures.told in
    refusal_on g.V.Volumes.view c.args.pool.now (λ (s : PlainPool) (x : Refusal). IsRefusal s c.args.old x ⊎ IsRefusal s c.args.new x) c.in_err-other.field-0.0 p.0 r.result p.1 p.2
    (λ s shown. inr (c.in_err-other.ensures.refused s (c.begin.ensures.still s (still s shown))))

pub returns-in_err-from-clause-refused : goal.returns-in_err-from-clause-refused
returns-in_err-from-clause-refused g c =
    let r = c.from_residual-in_err-from in
    let p = err_from_is_err_and r.result r.ensures.1 in
    let was = c.loop-from.invariant in
    refusal_on g.V.Volumes.view c.args.pool.now (λ (s : PlainPool) (x : Refusal). IsRefusal s c.args.old x ⊎ IsRefusal s c.args.new x) c.in_err-from.field-0.0 p.0 r.result p.1 p.2
    (λ s shown. elim (c.in_err-from.ensures.refused s (was.still s shown)) [
      | inl a ↦ inl (subst (λ (i : ℕ). IsRefusal s i c.in_err-from.field-0.0) was.one a)
      | inr b ↦ inr (subst (λ (i : ℕ). IsRefusal s i c.in_err-from.field-0.0) was.other b)
    ])
