use Rattle.std.proofs.Common.{◌≡◌, ℕ, List, arith}
use Rattle.nbd_wire.specs.Contexts.{context_data}
use Rattle.nbd_wire.proofs.Received.{found_of, none_of, pair_again}
use Rattle.nbd_wire.proofs.ReceivedChunks.{context_data_again, context_data_takes}
use Rattle.nbd_wire.proofs.chunk_reading.read_context_data.Goals as goal

pub returns-clause-found : goal.returns-clause-found
returns-clause-found c =
    found_of _ _ _ (λ (x : ℕ × List ℕ). c.args.payload.now ≡ context_data x.0 x.1) c.context_data_at.ensures (λ x e. context_data_takes c.args.payload.now x (λ i. omega (arith, c.type_inv.payload i)) e)

pub returns-clause-none : goal.returns-clause-none
returns-clause-none c = none_of _ _ _ _ c.context_data_at.ensures (λ none id name h is. let s = context_data_again c.args.payload.now id name h is in absurd cc)

pub returns-clause-again : goal.returns-clause-again
returns-clause-again c = λ id name h is. pair_again _ _ id name c.context_data_at.ensures (context_data_again c.args.payload.now id name h is)
