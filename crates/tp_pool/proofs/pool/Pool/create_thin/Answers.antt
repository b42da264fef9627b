use Rattle.std.proofs.Common.{refl}
use Rattle.tp_model.specs.Calls.{CreateThin}
use Rattle.tp_pool.proofs.pool.Pool.create_thin.Goals as goal

pub returns-clause-called : goal.returns-clause-called
returns-clause-called g c = (c.keep_made.ensures.made c.args.self.now (CreateThin c.args.id) refl refl c.begin_create-begun.ensures.begun).called

pub returns-clause-answered : goal.returns-clause-answered
returns-clause-answered g c = (c.keep_made.ensures.made c.args.self.now (CreateThin c.args.id) refl refl c.begin_create-begun.ensures.begun).answered

pub returns-clause-flushes : goal.returns-clause-flushes
returns-clause-flushes g c = (c.keep_made.ensures.made c.args.self.now (CreateThin c.args.id) refl refl c.begin_create-begun.ensures.begun).flushes
