use Rattle.std.proofs.Common.{◌∙◌, sym}
use Rattle.nbd_session.specs.Session.{default_of, limit_of}
use Rattle.nbd_session.proofs.Names.{blank, found_in, no_default, none_in, some_bytes}
use Rattle.nbd_session.proofs.name.meant.Goals as goal

pub returns-then-is_empty-clause-none : goal.returns-then-is_empty-clause-none
returns-then-is_empty-clause-none c =
    no_default c.default_of.result (default_of c.args.profile) (limit_of c.args.profile) c.args.name.now c.default_of.ensures (blank c.args.name.now (sym c.is_empty.ensures ∙ c.if-is_empty.true))

pub returns-clause-found : goal.returns-clause-found
returns-clause-found c = found_in (default_of c.args.profile) (limit_of c.args.profile) c.args.name.now c.named_in.result c.named_in.ensures.found

pub returns-clause-none : goal.returns-clause-none
returns-clause-none c =
    none_in (default_of c.args.profile) (limit_of c.args.profile) c.args.name.now c.named_in.result (some_bytes c.args.name.now (sym c.is_empty.ensures ∙ c.if-is_empty.false)) c.named_in.ensures.none
