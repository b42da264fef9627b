use Rattle.tp_users.proofs.Freeing.{release_shown}
use Rattle.tp_users.proofs.held.released_blocks_are_free.Goals as goal

pub returns : goal.returns
returns c =
    release_shown c.in_ok-pool.pool c.release_metadata_snap.new.self c.args.id c.args.sector c.args.first.now c.args.second.now c.requires.whole
    c.in_ok-pool.ensures.shows c.in_ok-release_metadata_snap.ensures.called
