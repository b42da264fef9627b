use Rattle.std.proofs.Common.{◌∙◌}
use Rattle.clap.proofs.WalkLemmas.{first_value-rows}
use Rattle.clap.specs.Words.{found_of, rows_of}
use Rattle.tp_tasks.proofs.Arguments.{text_read}
use Rattle.tp_tasks.proofs.tasks.text_of.Goals as goal

pub returns : goal.returns
returns c = text_read c.args.id.now (rows_of (found_of c.args.arguments.now)) c.get_str.result (c.get_str.ensures ∙ first_value-rows (found_of c.args.arguments.now) c.args.id.now)
