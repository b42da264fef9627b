use Rattle.std.proofs.Common.{◌≡◌, ◌++◌, ℕ, List, arith}
use Rattle.nbd_wire.specs.declared.replies.BlockSizes.{BlockSizes}
use Rattle.nbd_wire.specs.Replies.{block_size_info}
use Rattle.nbd_wire.proofs.Received.{block_size_info_again, block_size_info_takes, found_of, none_of, pair_again}
use Rattle.nbd_wire.proofs.replies.read_block_size_info.Goals as goal

pub returns-clause-found : goal.returns-clause-found
returns-clause-found c =
    found_of _ _ _ (λ (x : BlockSizes × List ℕ). c.args.text.now ≡ block_size_info x.0.least x.0.preferred x.0.most ++ x.1) c.block_size_info_at.ensures (λ x e. block_size_info_takes c.args.text.now x (λ i. omega (arith, c.type_inv.text i)) e)

pub returns-clause-none : goal.returns-clause-none
returns-clause-none c = none_of _ _ _ _ c.block_size_info_at.ensures (λ none x rest h k l is. let s = block_size_info_again c.args.text.now x rest h k l is in absurd cc)

pub returns-clause-again : goal.returns-clause-again
returns-clause-again c = λ x rest h k l is. pair_again _ _ x rest c.block_size_info_at.ensures (block_size_info_again c.args.text.now x rest h k l is)
