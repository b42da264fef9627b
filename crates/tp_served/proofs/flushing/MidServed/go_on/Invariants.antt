use Rattle.tp_served.proofs.flushing.MidServed.go_on.Given as goal

abbrev pub ghosts-go_on_flush_on : goal.ghosts-go_on_flush_on
ghosts-go_on_flush_on g a = record { start = a.past.now.held }

abbrev pub ghosts-end_flush_on : goal.ghosts-end_flush_on
ghosts-end_flush_on g a = record { start = a.past.now.held }
