use Rattle.tp_btree.proofs.growth.+add.Given as goal

-- the level is at most this, and falls
abbrev pub decreases-add : goal.decreases-add
decreases-add g l = l.top
