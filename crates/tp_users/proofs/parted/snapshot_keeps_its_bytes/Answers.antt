use Rattle.std.proofs.Common.{◌∙◌, sym}
use Rattle.std.proofs.lemmas.Result.{on_ok_weaker}
use Rattle.tp_users.proofs.Growth.{ok_always}
use Rattle.tp_users.proofs.parted.snapshot_keeps_its_bytes.Goals as goal

pub open_and_read-requires-clause-kept : goal.open_and_read-requires-clause-kept
open_and_read-requires-clause-kept c = let k = c.in_ok-disk.ensures.kept in (k.0, c.args.second.now, k.1, k.3)

pub returns-clause-before : goal.returns-clause-before
returns-clause-before c = ok_always _ c.open_and_read.result c.in_ok-disk.ensures.before

pub returns-clause-again : goal.returns-clause-again
returns-clause-again c =
    let k = c.in_ok-disk.ensures.kept in
    on_ok_weaker c.open_and_read.result
    (λ read. read k.0 c.args.first.now c.args.second.now k.3 k.1 k.2 (c.requires.same ∙ sym c.requires.origin_again) (sym c.requires.origin_again)) c.open_and_read.ensures
