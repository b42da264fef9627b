use Rattle.std.proofs.Common.{refl}
use Rattle.tp_model.specs.Calls.{CreateSnap}
use Rattle.tp_pool.proofs.pool.Pool.create_snap.Goals as goal

pub returns-clause-called : goal.returns-clause-called
returns-clause-called g c = (c.keep_made.ensures.made c.args.self.now (CreateSnap c.args.id c.args.origin) refl refl c.begin_create-begun.ensures.begun).called

pub returns-clause-answered : goal.returns-clause-answered
returns-clause-answered g c = (c.keep_made.ensures.made c.args.self.now (CreateSnap c.args.id c.args.origin) refl refl c.begin_create-begun.ensures.begun).answered

pub returns-clause-flushes : goal.returns-clause-flushes
returns-clause-flushes g c = (c.keep_made.ensures.made c.args.self.now (CreateSnap c.args.id c.args.origin) refl refl c.begin_create-begun.ensures.begun).flushes
