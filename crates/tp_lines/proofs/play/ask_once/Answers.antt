use Rattle.tp_lines.proofs.Playing.{asks_so}
use Rattle.tp_lines.proofs.play.ask_once.Goals as goal

pub returns-clause-asked : goal.returns-clause-asked
returns-clause-asked g c = asks_so g.D.Desk.asks _ _ _ _ _ c.args.out.now c.ask-ran.new.out _ _ _ c.ask-ran.ensures c.requires.empty c.requires.fits c.tell-is_told.ensures
