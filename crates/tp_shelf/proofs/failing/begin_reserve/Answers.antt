use Rattle.std.proofs.Common.{false, inl, refl, true}
use Rattle.tp_model.specs.declared.refusal.Refusal.TheVariants.{Failed}
use Rattle.tp_model.specs.Calls.{Refused, ReserveMetadataSnap}
use Rattle.tp_shelf.proofs.Breaking.{meets, unkept}
use Rattle.tp_shelf.proofs.failing.begin_reserve.Goals as goal

pub returns-then-has_failed : goal.returns-then-has_failed
returns-then-has_failed c =
    meets _ _ _ c.args.shelf.now c.args.shelf.now ReserveMetadataSnap (Refused Failed) true true c.if-has_failed.true c.if-has_failed.true refl refl (inl refl) refl refl (λ flushes done. absurd cc)
    (λ id blocks is tells. absurd cc)

pub returns : goal.returns
returns c = unkept _ _ _ c.args.shelf.now c.args.shelf.now ReserveMetadataSnap c.if-has_failed.false c.if-has_failed.false refl refl
