use Rattle.std.proofs.lemmas.Option.{none-some}
use Rattle.tp_model.specs.Calls.{Done}
use Rattle.tp_commands.proofs.closing.leave_hub.Goals as goal

pub returns : goal.returns
returns g c = record {
  last = c.into_pool-pool.result;
  leave = c.into_pool-pool.ensures.leaves;
  traced = c.into_pool-pool.ensures.traced;
  back = c.into_disk.ensures;
  line = λ none. let known = c.facts.ensures in known.line;
  settled = λ same. absurd (none-some Done same);
  known = tt;
}
