use Rattle.tp_users.proofs.grown.grown_pool.Goals as goal

pub fill_and_grow-requires-clause-shows : goal.fill_and_grow-requires-clause-shows
fill_and_grow-requires-clause-shows c = c.in_ok-pool.ensures.shows

pub returns-clause-shows : goal.returns-clause-shows
returns-clause-shows c = c.in_ok-fill_and_grow.ensures.shows
