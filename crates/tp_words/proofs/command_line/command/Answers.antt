use Rattle.std.proofs.Common.{map}
use Rattle.tp_words.proofs.command_line.command.Goals as goal

pub returns-in-Ok : goal.returns-in-Ok
returns-in-Ok g c = c.read.ensures (map g.S.AsStr.text c.args.words.now) c.in-Ok.ensures c.without_flag-explains.ensures.rest c.without_flag-explains.ensures.flag
