use Rattle.std.proofs.lemmas.Result.{IfOk-weaker}
use Rattle.tp_words.proofs.command_line.add.Goals as goal

pub returns : goal.returns
returns c local = IfOk-weaker c.subcommand.result _ _ (λ made a. a.shape local) c.subcommand.ensures
