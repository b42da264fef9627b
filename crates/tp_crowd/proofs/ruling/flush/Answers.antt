use Rattle.tp_crowd.proofs.Commanding.{flush_asked}
use Rattle.tp_crowd.proofs.ruling.flush.Goals as goal

pub returns : goal.returns
returns g c = flush_asked g.V.Volumes.view c.args.line.now c.ask.result.events c.ask.result.bytes c.args.out.now c.ask.new.out c.ask.ensures
