use Rattle.tp_btree.proofs.look_up.+look_below.Given as goal

-- the level is at most this, and falls
abbrev pub decreases-look_below : goal.decreases-look_below
decreases-look_below g l = l.top
