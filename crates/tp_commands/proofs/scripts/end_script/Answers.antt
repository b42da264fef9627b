use Rattle.std.proofs.Common.{ℕ, Result, Err, ap, sym}
use Rattle.tp_commands.specs.declared.scripts.Unplayed.{Unplayed}
use Rattle.tp_commands.specs.declared.scripts.Unplayed.TheVariants.{BadLine}
use Rattle.tp_failures.specs.Failures.{number_of}
use Rattle.tp_commands.specs.Scripts.{is_bad}
use Rattle.tp_commands.proofs.Playing.{match_no, match_yes}
use Rattle.tp_commands.proofs.scripts.end_script.Goals as goal

pub told-requires : goal.told-requires
told-requires g c = sym c.if-is_at_bad_line.ensures

pub returns-then-is_at_bad_line : goal.returns-then-is_at_bad_line
returns-then-is_at_bad_line g c =
    let bad : Unplayed → Result (Unit {0}) Unplayed = λ why. Err why in
    match_yes (is_bad c.args.ended.result) _ _ (sym c.if-is_at_bad_line.ensures) (ap (λ (n : ℕ). bad (BadLine n)) c.saturating_add.ensures, c.leave_hub.ensures)

pub returns : goal.returns
returns g c = match_no (is_bad c.args.ended.result) _ _ (sym c.if-is_at_bad_line.ensures) (number_of c.end_hub-disk.result.1, c.told.ensures, c.end_hub-disk.ensures)
