use Rattle.std.proofs.Common.{None}
use Rattle.tp_hub.proofs.Placing.{none_by, none_open, serves_none}
use Rattle.tp_hub.proofs.hub.Hub.new.Goals as goal

pub invariant_of-result : goal.invariant_of-result
invariant_of-result g c = serves_none _ _ c.from_fn.result c.from_fn.ensures.items.long c.requires (none_by c.from_fn.result 64 c.from_fn.ensures.items.long (λ n lt. let a = c.from_fn.ensures.items.at n None lt in a.2.met))

pub returns-clause-sessions : goal.returns-clause-sessions
returns-clause-sessions g c = none_open c.from_fn.result (none_by c.from_fn.result 64 c.from_fn.ensures.items.long (λ n lt. let a = c.from_fn.ensures.items.at n None lt in a.2.met))
