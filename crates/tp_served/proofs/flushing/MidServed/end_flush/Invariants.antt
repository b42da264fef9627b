use Rattle.tp_served.proofs.flushing.MidServed.end_flush.Given as goal

abbrev pub ghosts-end_flush_on : goal.ghosts-end_flush_on
ghosts-end_flush_on g a = record { start = a.past.now.held }
