use Rattle.tp_btree.proofs.removal.+take_below.Given as goal

-- the level is at most this, and falls
abbrev pub decreases-take_below : goal.decreases-take_below
decreases-take_below g l = l.top
