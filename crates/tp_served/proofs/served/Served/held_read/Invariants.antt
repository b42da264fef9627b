use Rattle.tp_served.specs.Served.{got}
use Rattle.tp_served.proofs.served.Served.held_read.Given as goal

abbrev pub ghosts-held_read_on : goal.ghosts-held_read_on
ghosts-held_read_on g a = record { start = (got a.lent.now.inside a.lent.now.there).cache }
