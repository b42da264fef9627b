use Rattle.tp_btree.proofs.extent.+last_below.Given as goal

-- the level is at most this, and falls
abbrev pub decreases-last_below : goal.decreases-last_below
decreases-last_below g l = l.top
