use Rattle.std.proofs.Common.{arith, rules}
use Rattle.tp_counts.proofs.Runs.{none_behind}
use Rattle.tp_counts.proofs.next_to_look_at.Goals as goal

pub returns-then-free_by_run-run-eq0-clause-used : goal.returns-then-free_by_run-run-eq0-clause-used
returns-then-free_by_run-run-eq0-clause-used c b more within inside =
    none_behind c.args.now.now c.args.kept.now c.args.free_by_run.now c.requires.runs c.requires.few c.args.block c.if-free_by_run-run-eq0.true b more (omega (arith, within)) inside

pub returns-then-free_by_run-run-eq0-clause-run : goal.returns-then-free_by_run-run-eq0-clause-run
returns-then-free_by_run-run-eq0-clause-run c = search rules

pub returns-clause-lanes : goal.returns-clause-lanes
returns-clause-lanes c = search rules
