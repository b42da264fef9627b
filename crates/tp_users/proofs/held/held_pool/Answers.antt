use Rattle.tp_users.proofs.held.held_pool.Goals as goal

pub returns-clause-shows : goal.returns-clause-shows
returns-clause-shows c =
    let w = c.in_ok-pool.ensures.shows in
    c.in_ok-hold_between.ensures.shows w.0 w.1 w.2
