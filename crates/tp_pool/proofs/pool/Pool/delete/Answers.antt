use Rattle.std.proofs.Common.{refl}
use Rattle.tp_model.specs.Calls.{Delete}
use Rattle.tp_pool.proofs.Deleting.{never_short}
use Rattle.tp_pool.proofs.pool.Pool.delete.Goals as goal

pub returns-clause-called : goal.returns-clause-called
returns-clause-called g c = (c.keep_made.ensures.made c.args.self.now (Delete c.args.id) refl refl c.begin_delete-begun.ensures.begun).called

pub returns-clause-answered : goal.returns-clause-answered
returns-clause-answered g c = (c.keep_made.ensures.made c.args.self.now (Delete c.args.id) refl refl c.begin_delete-begun.ensures.begun).answered

pub returns-clause-flushes : goal.returns-clause-flushes
returns-clause-flushes g c = (c.keep_made.ensures.made c.args.self.now (Delete c.args.id) refl refl c.begin_delete-begun.ensures.begun).flushes

pub returns-clause-room : goal.returns-clause-room
returns-clause-room g c is s shown none =
    let made = c.keep_made.ensures.made c.args.self.now (Delete c.args.id) refl refl c.begin_delete-begun.ensures.begun in
    never_short g.M.Metadata.geometry g.M.Metadata.stands c.args.self.now c.keep_made.new.self c.args.id c.keep_made.result made.called is s shown none
