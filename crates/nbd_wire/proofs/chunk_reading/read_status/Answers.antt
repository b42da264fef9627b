use Rattle.std.proofs.Common.{◌≡◌, ◌++◌, ℕ, List, arith}
use Rattle.nbd_wire.specs.declared.contexts.MetaContext.{MetaContext}
use Rattle.nbd_wire.specs.Numbers.{bytes}
use Rattle.nbd_wire.specs.Contexts.{context_code}
use Rattle.nbd_wire.proofs.Received.{found_of, none_of, pair_again}
use Rattle.nbd_wire.proofs.ReceivedChunks.{status_again, status_takes}
use Rattle.nbd_wire.proofs.chunk_reading.read_status.Goals as goal

pub returns-clause-found : goal.returns-clause-found
returns-clause-found c =
    found_of _ _ _ (λ (x : MetaContext × List ℕ). c.args.payload.now ≡ bytes 4 (context_code x.0) ++ x.1) c.status_at.ensures (λ x e. status_takes c.args.payload.now x (λ i. omega (arith, c.type_inv.payload i)) e)

pub returns-clause-none : goal.returns-clause-none
returns-clause-none c = none_of _ _ _ _ c.status_at.ensures (λ none context rest is. let s = status_again c.args.payload.now context rest is in absurd cc)

pub returns-clause-again : goal.returns-clause-again
returns-clause-again c = λ context rest is. pair_again _ _ context rest c.status_at.ensures (status_again c.args.payload.now context rest is)
