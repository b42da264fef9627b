use Rattle.std.proofs.Common.{◌≡◌, ◌++◌, ℕ, List, arith}
use Rattle.nbd_wire.specs.Numbers.{bytes}
use Rattle.nbd_wire.proofs.Received.{found_of, none_of, pair_again}
use Rattle.nbd_wire.proofs.ReceivedChunks.{data_again, data_takes}
use Rattle.nbd_wire.proofs.chunk_reading.read_data.Goals as goal

pub returns-clause-found : goal.returns-clause-found
returns-clause-found c =
    found_of _ _ _ (λ (x : ℕ × List ℕ). c.args.payload.now ≡ bytes 8 x.0 ++ x.1) c.data_at.ensures (λ x e. data_takes c.args.payload.now x (λ i. omega (arith, c.type_inv.payload i)) e)

pub returns-clause-none : goal.returns-clause-none
returns-clause-none c = none_of _ _ _ _ c.data_at.ensures (λ none offset given h is. let s = data_again c.args.payload.now offset given h is in absurd cc)

pub returns-clause-again : goal.returns-clause-again
returns-clause-again c = λ offset given h is. pair_again _ _ offset given c.data_at.ensures (data_again c.args.payload.now offset given h is)
