use Rattle.std.proofs.lemmas.Result.{IfOk-weaker}
use Rattle.tp_image.specs.Fresh.{empty_pool}
use Rattle.tp_users.proofs.Leading.{first_lived, free_as}
use Rattle.tp_users.proofs.OnCaches.{All, laws_on}
use Rattle.tp_users.proofs.lives.first_life.Goals as goal

pub lived-requires-clause-free : goal.lived-requires-clause-free
lived-requires-clause-free c = free_as All laws_on (empty_pool c.args.geometry) c.in_ok-pool.pool c.in_ok-pool.ensures.opened

pub returns-clause-lived : goal.returns-clause-lived
returns-clause-lived c =
    IfOk-weaker c.lived.result _ _
    (λ r life. first_lived All laws_on (empty_pool c.args.geometry) c.in_ok-pool.pool _ c.args.out.now c.lived.new.out _ c.in_ok-pool.ensures.opened life) c.lived.ensures.lived

pub returns-clause-honest : goal.returns-clause-honest
returns-clause-honest c = c.lived.ensures.honest

pub returns-clause-settled : goal.returns-clause-settled
returns-clause-settled c = c.lived.ensures.settled

pub returns-clause-left : goal.returns-clause-left
returns-clause-left c = IfOk-weaker c.lived.result _ _ (λ r left. left (empty_pool c.args.geometry) c.in_ok-pool.ensures.opened) c.lived.ensures.left

pub returns-clause-only : goal.returns-clause-only
returns-clause-only c = c.lived.ensures.only
