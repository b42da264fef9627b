use Rattle.tp_served.proofs.flushing.begin_parts.Given as goal

abbrev pub ghosts-begin_flush_on : goal.ghosts-begin_flush_on
ghosts-begin_flush_on g a = record { start = a.inside.cache }
