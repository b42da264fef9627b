use Rattle.std.proofs.Common.{ap, sym}
use Rattle.std.specs.Prelude.{length, take, ◌-◌, if◌then◌else◌}
use Rattle.tp_tasks.proofs.Decimals.{not_binary}
use Rattle.tp_tasks.proofs.creating.without_binary.Goals as goal

pub returns-in-None-clause-binary : goal.returns-in-None-clause-binary
returns-in-None-clause-binary c = sym (not_binary c.args.text.now c.in-None.ensures.cases)

pub returns-in-None-clause-short : goal.returns-in-None-clause-short
returns-in-None-clause-short c = ap (λ b. if b then take (length c.args.text.now - 2) c.args.text.now else c.args.text.now) (sym (not_binary c.args.text.now c.in-None.ensures.cases))
