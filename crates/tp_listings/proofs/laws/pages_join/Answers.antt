use Rattle.tp_listings.proofs.Joining.{all_joined, runs_join}
use Rattle.tp_listings.proofs.laws.pages_join.Goals as goal

pub returns-clause-so_far : goal.returns-clause-so_far
returns-clause-so_far c s old new from mid end es fs low high one two = runs_join s old new from mid end es fs low high one two

pub returns-clause-whole : goal.returns-clause-whole
returns-clause-whole c s old new es one other runs = all_joined s old new es one other runs
