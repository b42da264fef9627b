use Rattle.std.specs.Prelude.{codes}
use Rattle.clap.specs.Words.{new_app, with_rule}
use Rattle.tp_tasks.specs.CommandLine.{optional_rule, text_rule}
use Rattle.tp_words.proofs.running.ask_command.Goals as goal

pub returns : goal.returns
returns c =
    let one = with_rule (new_app (codes "ask")) (text_rule (codes "WHERE")) in
    let two = with_rule one (text_rule (codes "LINE")) in
    let three = with_rule two (optional_rule (codes "LINE2")) in
    let four = with_rule three (optional_rule (codes "LINE3")) in
    c.with.ensures four (optional_rule (codes "LINE4"))
    (c.with-made-4.ensures three (optional_rule (codes "LINE3"))
    (c.with-made-3.ensures two (optional_rule (codes "LINE2"))
    (c.with-made-2.ensures one (text_rule (codes "LINE"))
    (c.with-made.ensures (new_app (codes "ask")) (text_rule (codes "WHERE")) (c.named.ensures.app, c.named.ensures.local) (c.text.ensures.rule, c.text.ensures.local))
    (c.text-2.ensures.rule, c.text-2.ensures.local))
    (c.optional.ensures.rule, c.optional.ensures.local))
    (c.optional-2.ensures.rule, c.optional-2.ensures.local))
    (c.optional-3.ensures.rule, c.optional-3.ensures.local)
