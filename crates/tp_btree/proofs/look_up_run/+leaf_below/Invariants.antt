use Rattle.tp_btree.proofs.look_up_run.+leaf_below.Given as goal

-- the level is at most this, and falls
abbrev pub decreases-leaf_below : goal.decreases-leaf_below
decreases-leaf_below g l = l.top
