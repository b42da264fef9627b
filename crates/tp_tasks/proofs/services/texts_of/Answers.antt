use Rattle.std.proofs.Common.{map, rules, sym, ◌∙◌}
use Rattle.clap.proofs.WalkLemmas.{raw_values-rows}
use Rattle.clap.specs.Words.{found_of, rows_of}
use Rattle.tp_tasks.proofs.Arguments.{no_texts, texts_among}
use Rattle.tp_tasks.proofs.services.texts_of.Goals as goal

pub returns-in_err-texts : goal.returns-in_err-texts
returns-in_err-texts c =
    let found = found_of c.args.arguments.now in
    let lacks = no_texts c.args.id.now (rows_of found) (sym (c.in_err-texts.ensures ∙ raw_values-rows found c.args.id.now)) in
    search (rules, lacks)

pub returns : goal.returns
returns c =
    let found = found_of c.args.arguments.now in
    texts_among c.args.id.now (rows_of found) (map (λ text. text.now) c.in_ok-texts.texts.now) c.four_of.result (sym (c.in_ok-texts.ensures ∙ raw_values-rows found c.args.id.now)) c.four_of.ensures
