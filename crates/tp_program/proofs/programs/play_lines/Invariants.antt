use Rattle.tp_program.proofs.programs.play_lines.Given as goal

abbrev pub ghosts-play_since : goal.ghosts-play_since
ghosts-play_since g a = record { opening = record { reader = a.ends.input.ghost_name; writer = a.ends.output.ghost_name; left = g.R.Read.remaining a.ends.input.now; told = g.W.Write.contents a.ends.output.now } }
