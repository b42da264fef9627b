use Rattle.tp_program.proofs.programs.perform_piped.Given as goal

abbrev pub ghosts-perform_since : goal.ghosts-perform_since
ghosts-perform_since g a = record { opening = record { reader = a.ends.input.ghost_name; writer = a.ends.output.ghost_name; left = g.R.Read.remaining a.ends.input.now; told = g.W.Write.contents a.ends.output.now } }
