use Rattle.std.proofs.Common.{refl}
use Rattle.nbd_session.specs.declared.phase.Profile.TheVariants.{Strict}
use Rattle.tp_model.specs.Clauses.{PoolCall}
use Rattle.tp_hub.specs.Serving.{sessions_of}
use Rattle.tp_hub.proofs.Pairing.{whole_pair}
use Rattle.tp_users.proofs.pairs.serve_two.Goals as goal

pub returns-clause-serves : goal.returns-clause-serves
returns-clause-serves g c =
    let view = g.V.Volumes.view in
    let r = c.run-ran in (
      sessions_of r.new.self.slots,
      r.new.self.pool,
      λ four. whole_pair view.outline (PoolCall view) Strict Strict c.args.pool _ r.new.self.pool _ _ c.args.out.now r.new.out _ (sessions_of r.new.self.slots) _ r.result.events r.result.bytes c.new-hub.ensures.sessions c.new-hub.ensures.pool refl four r.ensures.runs,
      c.into_pool.ensures.leaves,
    )
