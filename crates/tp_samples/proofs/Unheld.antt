-- Volumes that nobody holds.
use Rattle.std.proofs.Common.{◌≡◌, List, [], ap}
use Rattle.std.specs.FinMap.{empty}
use Rattle.tp_holders.specs.Holders.{Holding, counts_of, holds_of}

-- where the list of those who hold volumes is empty, there are no holds
pub unheld : (holders : List Holding) → holders ≡ [] → holds_of holders ≡ empty
unfolding counts_of
unheld holders none = ap holds_of none
