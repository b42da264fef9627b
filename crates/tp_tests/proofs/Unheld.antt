-- A pool of which no volume is held takes one more client.
use Rattle.std.proofs.Common.{◌≡◌, ◌∙◌, List, [], ap}
use Rattle.tp_holders.specs.Holders.{Holding, holds_of}
use Rattle.tp_holders.proofs.Rows.{holds_none}
use Rattle.nbd_session.specs.Clauses.{HoldsBeside}
use Rattle.nbd_session.proofs.Counting.{none_beside}

pub unheld : (holders : List Holding) → holders ≡ [] → HoldsBeside [] (holds_of holders)
unheld holders none = none_beside (holds_of holders) (ap (λ (l : List Holding). holds_of l) none ∙ holds_none)
