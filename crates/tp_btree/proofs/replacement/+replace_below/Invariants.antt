use Rattle.tp_btree.proofs.replacement.+replace_below.Given as goal

-- the level is at most this, and falls
abbrev pub decreases-replace_below : goal.decreases-replace_below
decreases-replace_below g l = l.top
