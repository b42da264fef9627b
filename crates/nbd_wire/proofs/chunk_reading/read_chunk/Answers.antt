use Rattle.std.proofs.Common.{◌≡◌, ◌<◌, ◌^◌, ◌++◌, length, ap, arith}
use Rattle.nbd_wire.specs.Chunks.{chunk}
use Rattle.nbd_wire.proofs.Received.{again_of, found_of, none_of}
use Rattle.nbd_wire.proofs.ReceivedChunks.{Given, chunk_again, chunk_takes}
use Rattle.nbd_wire.proofs.chunk_reading.read_chunk.Goals as goal

pub returns-clause-found : goal.returns-clause-found
returns-clause-found c =
    found_of _ _ _ (λ (x : Given). (length x.3 < 2 ^ 32) × (c.args.text.now ≡ chunk x.0 x.1 x.2 x.3 ++ x.4)) c.chunk_at.ensures (λ x e. chunk_takes c.args.text.now x (λ i. omega (arith, c.type_inv.text i)) e)

pub returns-clause-none : goal.returns-clause-none
returns-clause-none c = none_of _ _ _ _ c.chunk_at.ensures (λ none is_last kind cookie payload rest h k is. let s = chunk_again c.args.text.now is_last kind cookie payload rest h k is in absurd cc)

pub returns-clause-again : goal.returns-clause-again
returns-clause-again c = λ is_last kind cookie payload rest h k is.
    again_of _ _ _ (is_last, kind, cookie, payload, rest) _ c.chunk_at.ensures (chunk_again c.args.text.now is_last kind cookie payload rest h k is)
    (λ y same. (ap (λ (x : Given). x.0) same, ap (λ (x : Given). x.1) same, ap (λ (x : Given). x.2) same, ap (λ (x : Given). x.3) same, ap (λ (x : Given). x.4) same))
