use Rattle.std.proofs.Common.{refl}
use Rattle.std.proofs.lemmas.Result.{on_ok_weaker}
use Rattle.tp_model.specs.PoolStops.{reopened}
use Rattle.tp_users.proofs.Given.{sized}
use Rattle.tp_users.proofs.Plain.{reopened_bears}
use Rattle.tp_users.proofs.parted.open_and_read.Goals as goal

pub read_both-requires-clause-geometry : goal.read_both-requires-clause-geometry
read_both-requires-clause-geometry c =
    let k = c.requires.kept in
    sized c.in_ok-pool.pool c.args.origin c.args.sector k.1 k.0 k.2 (c.in_ok-pool.ensures.shows k.0 k.3)

pub returns : goal.returns
returns c =
    on_ok_weaker c.read_both.result
    (λ read s first second kept origin copy long_second long_first.
    let it = read (reopened s) first second (c.in_ok-pool.ensures.shows s kept)
    (reopened_bears c.args.origin c.args.sector second s (reopened s) origin refl)
    (reopened_bears c.args.copy c.args.sector first s (reopened s) copy refl) long_second long_first in
    (it.0, it.1)) c.read_both.ensures.read
