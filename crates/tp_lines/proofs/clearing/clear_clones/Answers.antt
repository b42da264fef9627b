use Rattle.std.proofs.Common.{[], refl}
use Rattle.tp_lines.proofs.clearing.clear_clones.Goals as goal

pub returns-in-Ok : goal.returns-in-Ok
returns-in-Ok g c = let cleared = c.clear_all.ensures in (cleared.0, cleared.1, (cleared.2, cleared.3))

pub returns-in-Err : goal.returns-in-Err
returns-in-Err g c = ([], refl, refl)
