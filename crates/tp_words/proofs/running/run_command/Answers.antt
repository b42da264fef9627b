use Rattle.std.specs.Prelude.{codes}
use Rattle.clap.specs.Words.{with_rule}
use Rattle.tp_tasks.specs.CommandLine.{flag_rule, image_app, number_option_rule, option_rule, repeated_rule, told_app}
use Rattle.tp_words.proofs.running.run_command.Goals as goal

pub returns : goal.returns
returns c =
    let listen = repeated_rule (codes "LISTEN") (codes "listen") in
    let control = option_rule (codes "CONTROL") (codes "control") in
    let default = number_option_rule (codes "DEFAULT") (codes "default") in
    let one = with_rule (image_app (codes "run")) listen in
    let two = with_rule one control in
    let three = with_rule two default in
    let clones = flag_rule (codes "CLONES") (codes "clones") in
    let four = with_rule three clones in
    let through = flag_rule (codes "WRITE_THROUGH") (codes "write-through") in
    let five = with_rule four through in
    let ends = flag_rule (codes "EXIT_ON_FAILURE") (codes "exit-on-failure") in
    c.with_rights.ensures (told_app (with_rule five ends))
    (c.with_telling.ensures (with_rule five ends)
    (c.with-made-6.ensures five ends
    (c.with-made-5.ensures four through
    (c.with-made-4.ensures three clones
    (c.with-made-3.ensures two default
    (c.with-made-2.ensures one control
    (c.with-made.ensures (image_app (codes "run")) listen c.of_image-made.ensures (c.repeated.ensures.rule, c.repeated.ensures.local))
    (c.option.ensures.rule, c.option.ensures.local))
    (c.number_option.ensures.rule, c.number_option.ensures.local))
    (c.flag.ensures.rule, c.flag.ensures.local))
    (c.flag-2.ensures.rule, c.flag-2.ensures.local))
    (c.flag-3.ensures.rule, c.flag-3.ensures.local)))
