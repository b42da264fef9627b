use Rattle.std.proofs.Common.{◌≡◌, ◌∙◌, ap, subst}
use Rattle.std.specs.Prelude.{IfOk}
use Rattle.std.proofs.lemmas.Result.{IfOk-weaker}
use Rattle.clap.specs.Words.{App, app_of, with_rule, with_subcommand}
use Rattle.tp_tasks.specs.CommandLine.{explain_rule}
use Rattle.tp_words.proofs.command_line.add_to_made.Goals as goal

pub returns-in-Ok : goal.returns-in-Ok
returns-in-Ok c before more was is =
    let known : app_of c.in-Ok.commands ≡ before = subst (λ r. IfOk r (λ commands. app_of commands ≡ before)) c.in-Ok.is was in
    let explained = c.with-made.ensures more explain_rule is (c.explain.ensures.rule, c.explain.ensures.local) in
    IfOk-weaker c.add_made.result _ _ (λ all h. h ∙ ap (λ (a : App). with_subcommand a (with_rule more explain_rule).top) known) (c.add_made.ensures (with_rule more explain_rule) explained)
