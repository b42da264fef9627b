use Rattle.std.proofs.Common.{inl, refl}
use Rattle.tp_model.specs.declared.refusal.Refusal.TheVariants.{StaleTransactionId}
use Rattle.tp_model.specs.Calls.{Refused, SetTransactionId}
use Rattle.tp_shelf.proofs.Shelving.{meets, unkept}
use Rattle.tp_shelf.proofs.shelf.begin_exchange.Goals as goal

pub returns-then-id-current : goal.returns-then-id-current
returns-then-id-current c = meets _ _ _ c.args.shelf.now _ (SetTransactionId c.args.current c.args.next) (Refused StaleTransactionId) refl refl refl (λ is. absurd cc) (inl refl) refl refl (λ id blocks is tells. absurd cc)

pub returns : goal.returns
returns c = unkept _ _ _ c.args.shelf.now _ (SetTransactionId c.args.current c.args.next) refl refl refl
