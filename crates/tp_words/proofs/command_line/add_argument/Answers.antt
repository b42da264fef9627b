use Rattle.std.proofs.Common.{◌∙◌, ◌||◌, Bool, ap₂}
use Rattle.std.proofs.lemmas.Result.{IfOk-weaker}
use Rattle.clap.specs.Words.{with_rule}
use Rattle.tp_words.proofs.command_line.add_argument.Goals as goal

pub returns : goal.returns
returns c before rule was is =
    IfOk-weaker c.arg.result _ _ (λ made a. (a.shape is.1 ∙ ap₂ with_rule was.0 is.0, a.globals ∙ ap₂ (λ (x y : Bool). x || y) was.1 is.1)) c.arg.ensures
