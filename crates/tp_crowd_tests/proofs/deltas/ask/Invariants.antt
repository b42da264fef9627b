use Rattle.tp_crowd_tests.proofs.deltas.ask.Given as goal

abbrev pub ghosts-ask_since : goal.ghosts-ask_since
ghosts-ask_since g a = record { opening = record { reader = a.ends.input.ghost_name; writer = a.ends.output.ghost_name; left = g.R.Read.remaining a.ends.input.now; told = g.W.Write.contents a.ends.output.now } }
