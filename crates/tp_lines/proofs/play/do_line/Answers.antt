use Rattle.std.proofs.Common.{[], refl, subst, sym}
use Rattle.std.specs.Prelude.{Ok}
use Rattle.tp_lines.specs.Plays.{Does}
use Rattle.tp_lines.specs.declared.line.ScriptLine.{ScriptLine}
use Rattle.tp_lines.proofs.Doing.{leads_none}
use Rattle.tp_lines.proofs.play.do_line.Goals as goal

pub returns-in-Nothing-clause-done : goal.returns-in-Nothing-clause-done
returns-in-Nothing-clause-done g c =
    leads_none g.D.Desk.asks (λ asks did. Does c.args.profile.now c.args.line asks did (Ok (tt {0}))) c.args.desk.now (g.S.Stream.calls c.args.stream.now) (subst (λ (l : ScriptLine). Does c.args.profile.now l [] [] (Ok (tt {0}))) (sym c.in-Nothing.is) (refl, refl, refl))
