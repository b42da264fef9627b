use Rattle.std.proofs.Common.{◌≡◌, ◌++◌, ℕ, refl, arith}
use Rattle.nbd_wire.specs.Numbers.{bytes}
use Rattle.nbd_wire.proofs.ReceivedChunks.{all_again, all_found, all_none, error_again, error_takes}
use Rattle.nbd_wire.proofs.chunk_reading.read_error.Goals as goal

pub returns-clause-found : goal.returns-clause-found
returns-clause-found c =
    all_found _ _ (λ (x : ℕ). c.args.payload.now ≡ bytes 4 x ++ bytes 2 0) c.error_at.ensures (λ x e. error_takes c.args.payload.now x (λ i. omega (arith, c.type_inv.payload i)) e)

pub returns-clause-none : goal.returns-clause-none
returns-clause-none c = all_none _ _ _ c.error_at.ensures (λ none error h is. let s = error_again c.args.payload.now error h is in absurd cc)

pub returns-clause-again : goal.returns-clause-again
returns-clause-again c = λ error h is. all_again _ _ error _ c.error_at.ensures (error_again c.args.payload.now error h is) refl
