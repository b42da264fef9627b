use Rattle.std.proofs.Common.{refl}
use Rattle.tp_model.specs.Calls.{ReleaseMetadataSnap}
use Rattle.tp_pool.proofs.Reserving.{release_never_short}
use Rattle.tp_pool.proofs.pool.Pool.release_metadata_snap.Goals as goal

pub returns-clause-called : goal.returns-clause-called
returns-clause-called g c = (c.keep_made.ensures.made c.args.self.now ReleaseMetadataSnap refl refl c.begin_release-begun.ensures.begun).called

pub returns-clause-answered : goal.returns-clause-answered
returns-clause-answered g c = (c.keep_made.ensures.made c.args.self.now ReleaseMetadataSnap refl refl c.begin_release-begun.ensures.begun).answered

pub returns-clause-flushes : goal.returns-clause-flushes
returns-clause-flushes g c = (c.keep_made.ensures.made c.args.self.now ReleaseMetadataSnap refl refl c.begin_release-begun.ensures.begun).flushes

pub returns-clause-room : goal.returns-clause-room
returns-clause-room g c =
    let made = c.keep_made.ensures.made c.args.self.now ReleaseMetadataSnap refl refl c.begin_release-begun.ensures.begun in
    release_never_short g.M.Metadata.geometry g.M.Metadata.stands c.args.self.now c.keep_made.new.self c.keep_made.result made.answered
