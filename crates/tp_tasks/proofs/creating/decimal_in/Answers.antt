use Rattle.std.proofs.Common.{Some, arith}
use Rattle.std.proofs.lemmas.Str.Pattern.{split_once_first}
use Rattle.tp_tasks.proofs.Decimals.{parted}
use Rattle.tp_tasks.proofs.creating.decimal_in.Goals as goal

pub returns-in-Some : goal.returns-in-Some
returns-in-Some c =
    let first = split_once_first 46 c.args.text.now (Some (c.in-Some.whole, c.in-Some.fraction)) c.in-Some.ensures.cases (omega arith) in
    parted c.args.text.now c.in-Some.whole.now c.in-Some.fraction.now c.joined.result first.0 first.1 first.2 c.joined.ensures
