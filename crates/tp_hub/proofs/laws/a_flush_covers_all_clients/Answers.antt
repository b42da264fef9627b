use Rattle.tp_hub.proofs.Covering.{covered_alone, flush_covers, written_stays}
use Rattle.tp_hub.proofs.laws.a_flush_covers_all_clients.Goals as goal

pub returns-clause-found : goal.returns-clause-found
returns-clause-found g c s P before behind flush current are flushed found = flush_covers g.V.Volumes.view s P before behind flush current are flushed found

pub returns-clause-alone : goal.returns-clause-alone
returns-clause-alone g c s P events last covers = covered_alone s events last P covers

pub returns-clause-written : goal.returns-clause-written
returns-clause-written g c s P earlier between later write id k covers = written_stays s P earlier between later write id k covers
