use Rattle.std.proofs.Common.{◌≡◌, ◌++◌, ℕ, List, ap, arith}
use Rattle.nbd_wire.specs.Contexts.{extent_text}
use Rattle.nbd_wire.proofs.Received.{again_of, found_of, none_of}
use Rattle.nbd_wire.proofs.ReceivedChunks.{extent_again, extent_takes}
use Rattle.nbd_wire.proofs.chunk_reading.read_extent.Goals as goal

pub returns-clause-found : goal.returns-clause-found
returns-clause-found c =
    found_of _ _ _ (λ (x : (ℕ × ℕ) × List ℕ). c.args.text.now ≡ extent_text x.0.0 x.0.1 ++ x.1) c.extent_at.ensures (λ x e. extent_takes c.args.text.now x (λ i. omega (arith, c.type_inv.text i)) e)

pub returns-clause-none : goal.returns-clause-none
returns-clause-none c = none_of _ _ _ _ c.extent_at.ensures (λ none len flags rest h k is. let s = extent_again c.args.text.now len flags rest h k is in absurd cc)

pub returns-clause-again : goal.returns-clause-again
returns-clause-again c = λ len flags rest h k is.
    again_of _ _ _ ((len, flags), rest) _ c.extent_at.ensures (extent_again c.args.text.now len flags rest h k is)
    (λ y same. (ap (λ (x : (ℕ × ℕ) × List ℕ). x.0.0) same, ap (λ (x : (ℕ × ℕ) × List ℕ). x.0.1) same, ap (λ (x : (ℕ × ℕ) × List ℕ). x.1) same))
