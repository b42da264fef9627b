use Rattle.std.proofs.Common.{◌∙◌, ap, map, refl, subst, sym}
use Rattle.clap.specs.Words.{App, HasKind, Kinds, fault_of, is_simple, is_simple_and_free, subcommand_of}
use Rattle.tp_tasks.specs.CommandLine.{thinpool_app, without_flag}
use Rattle.tp_words.proofs.CommandLine.{is_plain, is_free}
use Rattle.tp_words.proofs.Flag.{same_fault, same_subcommand}
use Rattle.tp_words.proofs.command_line.read.Goals as goal

pub returns-in-Ok : goal.returns-in-Ok
returns-in-Ok g c words app_is same flag =
    let read = map g.S.AsStr.text c.args.rest.now in
    let free = ap is_simple_and_free app_is ∙ is_free in
    let plain = ap is_simple app_is ∙ is_plain in
    let met = c.in-Ok.ensures in
    c.asked_in.ensures words
    (sym (same_fault thinpool_app read (without_flag words) refl same) ∙ (ap (λ (a : App). fault_of a read) (sym app_is) ∙ met.kinds free))
    ((met.ok.2 plain).1 ∙ (ap (λ (a : App). subcommand_of a read) app_is ∙ same_subcommand thinpool_app read (without_flag words) refl same)) flag

pub returns-in-Err : goal.returns-in-Err
returns-in-Err g c words app_is same flag =
    let read = map g.S.AsStr.text c.args.rest.now in
    let free = ap is_simple_and_free app_is ∙ is_free in
    let P : App → Type 0 = λ a. HasKind (fault_of a read) c.in-Err.error in
    let Q : Kinds → Type 0 = λ kinds. HasKind kinds c.in-Err.error in
    c.unread.ensures words (subst Q (same_fault thinpool_app read (without_flag words) refl same) (subst P app_is (c.in-Err.ensures.kinds free)))
