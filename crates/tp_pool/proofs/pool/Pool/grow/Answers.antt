use Rattle.std.proofs.Common.{refl}
use Rattle.tp_model.specs.Calls.{Grow}
use Rattle.tp_pool.proofs.pool.Pool.grow.Goals as goal

pub returns-clause-called : goal.returns-clause-called
returns-clause-called g c = (c.keep_made.ensures.made c.args.self.now (Grow c.args.id c.args.blocks) refl refl c.begin_grow-begun.ensures.begun).called

pub returns-clause-answered : goal.returns-clause-answered
returns-clause-answered g c = (c.keep_made.ensures.made c.args.self.now (Grow c.args.id c.args.blocks) refl refl c.begin_grow-begun.ensures.begun).answered

pub returns-clause-flushes : goal.returns-clause-flushes
returns-clause-flushes g c = (c.keep_made.ensures.made c.args.self.now (Grow c.args.id c.args.blocks) refl refl c.begin_grow-begun.ensures.begun).flushes
