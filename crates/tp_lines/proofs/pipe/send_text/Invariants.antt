use Rattle.tp_lines.proofs.pipe.send_text.Given as goal

abbrev pub ghosts-send_since : goal.ghosts-send_since
ghosts-send_since g a = record { opening = record { reader = a.ends.input.ghost_name; writer = a.ends.output.ghost_name; left = g.R.Read.remaining a.ends.input.now; told = g.W.Write.contents a.ends.output.now } }
