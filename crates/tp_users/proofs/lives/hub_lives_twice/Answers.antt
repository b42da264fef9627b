use Rattle.tp_image.specs.Fresh.{empty_pool}
use Rattle.tp_users.proofs.Leading.{found_after, two_lived}
use Rattle.tp_users.proofs.OnCaches.{All, laws_on}
use Rattle.tp_users.proofs.lives.hub_lives_twice.Goals as goal

pub next_life-requires-clause-found : goal.next_life-requires-clause-found
next_life-requires-clause-found c = found_after All laws_on c.hub_lives_are_plain.ensures (empty_pool c.args.geometry) _ _ _ _ c.in_ok-one.ensures.lived

pub returns-clause-lives : goal.returns-clause-lives
returns-clause-lives c = two_lived All laws_on c.hub_lives_are_plain.ensures (empty_pool c.args.geometry) _ _ _ _ _ _ _ _ c.in_ok-one.ensures.lived c.in_ok-two.ensures.lived
