use Rattle.tp_users.proofs.cached.flush_cache_twice.Given as goal

abbrev pub ghosts-run : goal.ghosts-run
ghosts-run g a = record { start = a.cache.core }
