use Rattle.tp_store_tests.proofs.forest.+is_shaped.Given as goal

-- the level falls by one
abbrev pub decreases-is_shaped : goal.decreases-is_shaped
decreases-is_shaped g l = l.level
