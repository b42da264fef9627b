use Rattle.tp_crowd.proofs.crowd.behind_all.Goals as goal

pub returns-clause-refused : goal.returns-clause-refused
returns-clause-refused g c = c.count_set.ensures.count
