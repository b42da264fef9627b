use Rattle.std.proofs.Common.{sym, ◌∙◌}
use Rattle.nbd_session.proofs.Names.{clone_found, clone_none, other_no_clone, short_no_clone}
use Rattle.nbd_session.proofs.name.origin_of.Goals as goal

pub returns-then-len-lt6-clause-none : goal.returns-then-len-lt6-clause-none
returns-then-len-lt6-clause-none c = short_no_clone c.args.name.now c.if-len-lt6.true

pub returns-then-not-has_clone_prefix-clause-none : goal.returns-then-not-has_clone_prefix-clause-none
returns-then-not-has_clone_prefix-clause-none c = other_no_clone c.args.name.now (sym c.has_clone_prefix.ensures ∙ c.if-not-has_clone_prefix.true)

pub returns-clause-found : goal.returns-clause-found
returns-clause-found c =
    clone_found c.args.name.now c.behind_prefix.result.now c.named_below.result c.behind_prefix.ensures (sym c.has_clone_prefix.ensures ∙ c.if-not-has_clone_prefix.false) c.named_below.ensures.found

pub returns-clause-none : goal.returns-clause-none
returns-clause-none c = clone_none c.args.name.now c.behind_prefix.result.now c.named_below.result c.behind_prefix.ensures c.named_below.ensures.none
