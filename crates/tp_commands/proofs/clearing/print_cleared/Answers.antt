use Rattle.std.proofs.Common.{inl, Ok, Err, refl}
use Rattle.tp_commands.proofs.clearing.print_cleared.Goals as goal

pub returns-in-Ok : goal.returns-in-Ok
returns-in-Ok g c = λ clean. inl (clean, Ok (tt {0}), c.in-Ok.ensures clean, c.print_line.ensures)

pub returns-in-Err : goal.returns-in-Err
returns-in-Err g c = λ clean. inl (clean, Err c.in-Err.reason, c.in-Err.ensures clean, (refl, refl))
