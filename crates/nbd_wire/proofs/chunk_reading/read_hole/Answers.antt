use Rattle.std.proofs.Common.{◌≡◌, ◌++◌, ℕ, refl, arith}
use Rattle.nbd_wire.specs.Numbers.{bytes}
use Rattle.nbd_wire.proofs.ReceivedChunks.{all_again, all_found, all_none, hole_again, hole_takes}
use Rattle.nbd_wire.proofs.chunk_reading.read_hole.Goals as goal

pub returns-clause-found : goal.returns-clause-found
returns-clause-found c =
    all_found _ _ (λ (x : ℕ × ℕ). c.args.payload.now ≡ bytes 8 x.0 ++ bytes 4 x.1) c.hole_at.ensures (λ x e. hole_takes c.args.payload.now x (λ i. omega (arith, c.type_inv.payload i)) e)

pub returns-clause-none : goal.returns-clause-none
returns-clause-none c = all_none _ _ _ c.hole_at.ensures (λ none offset len h k is. let s = hole_again c.args.payload.now offset len h k is in absurd cc)

pub returns-clause-again : goal.returns-clause-again
returns-clause-again c = λ offset len h k is. all_again _ _ (offset, len) _ c.hole_at.ensures (hole_again c.args.payload.now offset len h k is) (refl, refl)
