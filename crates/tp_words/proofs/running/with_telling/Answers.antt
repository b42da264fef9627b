use Rattle.std.specs.Prelude.{codes}
use Rattle.clap.specs.Words.{with_rule}
use Rattle.tp_tasks.specs.CommandLine.{flag_rule, number_option_rule}
use Rattle.tp_words.proofs.running.with_telling.Goals as goal

pub returns : goal.returns
returns c before is =
    let low = number_option_rule (codes "LOW_WATER") (codes "low-water") in
    c.with.ensures (with_rule before low) (flag_rule (codes "QUIET") (codes "quiet"))
    (c.with-made.ensures before low is (c.number_option.ensures.rule, c.number_option.ensures.local)) (c.flag.ensures.rule, c.flag.ensures.local)
