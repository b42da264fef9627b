use Rattle.tp_crowd.proofs.Commanding.{commanded}
use Rattle.tp_crowd.proofs.ruling.ask_line.Goals as goal

pub returns-after-matches : goal.returns-after-matches
returns-after-matches g c =
    commanded g.V.Volumes.view c.args.line.now c.in-Some.command c.obey.result.events c.obey.result.bytes c.args.out.now c.obey.new.out (c.command_of.ensures.some c.in-Some.command c.in-Some.is) c.obey.ensures
