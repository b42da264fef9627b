use Rattle.std.proofs.Common.{refl}
use Rattle.std.proofs.lemmas.Result.{on_ok_weaker}
use Rattle.tp_model.specs.PoolStops.{reopened}
use Rattle.tp_users.proofs.Copies.{reopened_copy}
use Rattle.tp_users.proofs.Given.{sized}
use Rattle.tp_users.proofs.Plain.{reopened_bears}
use Rattle.tp_users.proofs.held.open_and_read.Goals as goal

pub read_with_copy-requires-clause-geometry : goal.read_with_copy-requires-clause-geometry
read_with_copy-requires-clause-geometry c =
    let k = c.requires.kept in
    sized c.in_ok-pool.pool c.args.id c.args.sector k.1 k.0 k.2 (c.in_ok-pool.ensures.shows k.0 k.3)

pub returns : goal.returns
returns c =
    on_ok_weaker c.read_with_copy.result
    (λ read s first second kept volume copy long_second long_first.
    let it = read (reopened s) first second (c.in_ok-pool.ensures.shows s kept)
    (reopened_bears c.args.id c.args.sector second s (reopened s) volume refl)
    (reopened_copy c.args.id c.args.sector first s volume.clean copy) long_second long_first in
    (it.0, it.1)) c.read_with_copy.ensures.read
