use Rattle.tp_hub_tests.proofs.lines.play_all.Given as goal

abbrev pub ghosts-play : goal.ghosts-play
ghosts-play g a = record { opening = record { reader = a.ends.input.ghost_name; writer = a.ends.output.ghost_name; left = g.R.Read.remaining a.ends.input.now; told = g.W.Write.contents a.ends.output.now } }
