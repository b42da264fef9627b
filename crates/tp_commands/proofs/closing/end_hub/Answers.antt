use Rattle.std.proofs.Common.{sym}
use Rattle.std.proofs.lemmas.Option.{none-some}
use Rattle.tp_commands.proofs.Ending.{where_done}
use Rattle.tp_commands.proofs.closing.end_hub.Goals as goal

pub returns : goal.returns
returns g c = record {
  last = c.into_pool.result;
  leave = c.into_pool.ensures.leaves;
  traced = c.into_pool.ensures.traced;
  back = c.finish.ensures.back;
  line = λ none. absurd (none-some _ (sym none));
  settled = λ same. where_done _ c.finish.result.1 c.finish.ensures.settled same;
  known = c.finish.ensures.known;
}
