use Rattle.tp_users.proofs.parted.parted_pool.Goals as goal

pub returns-clause-shows : goal.returns-clause-shows
returns-clause-shows c =
    let w = c.in_ok-pool.ensures.shows in
    c.in_ok-part.ensures.shows c.args.first.now c.requires.same w.0 w.1 w.2
