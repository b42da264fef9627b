use Rattle.tp_texts.proofs.Back.{delta_reads_back, runs_read_back, usages_read_back}
use Rattle.tp_texts.proofs.objects.texts_read_back.Goals as goal

pub returns-clause-runs : goal.returns-clause-runs
returns-clause-runs c = runs_read_back

pub returns-clause-delta : goal.returns-clause-delta
returns-clause-delta c = delta_reads_back

pub returns-clause-usages : goal.returns-clause-usages
returns-clause-usages c = usages_read_back
