use Rattle.std.proofs.Common.{◌∙◌, ap, subst}
use Rattle.std.specs.Prelude.{IfOk}
use Rattle.std.proofs.lemmas.Result.{IfOk-weaker}
use Rattle.clap.specs.Words.{App, app_of, with_subcommand}
use Rattle.tp_words.specs.Commands.{IsMade}
use Rattle.tp_words.proofs.command_line.add_made.Goals as goal

pub returns-in-Ok : goal.returns-in-Ok
returns-in-Ok c more is =
    let next : IsMade more c.in-Ok.command = subst (λ r. IfOk r (IsMade more)) c.in-Ok.is is in
    IfOk-weaker c.add.result _ _ (λ all h. h ∙ ap (λ (a : App). with_subcommand (app_of c.args.known) a.top) next.0) (c.add.ensures next.1)
