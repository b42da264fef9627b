use Rattle.tp_hub_tests.proofs.lines.attend_all.Given as goal

abbrev pub ghosts-attend : goal.ghosts-attend
ghosts-attend g a = record { opening = record { reader = a.ends.input.ghost_name; writer = a.ends.output.ghost_name; left = g.R.Read.remaining a.ends.input.now; told = g.W.Write.contents a.ends.output.now } }
