use Rattle.std.proofs.Common.{arith, take}
use Rattle.nbd_session.proofs.Telling.{none_told, one_told}
use Rattle.nbd_session.proofs.options.put_since.Goals as goal

pub returns-then-since-ge-NO_VOLUME-clause-reply : goal.returns-then-since-ge-NO_VOLUME-clause-reply
returns-then-since-ge-NO_VOLUME-clause-reply c = none_told c.args.option c.args.code c.args.since (take c.args.at c.args.out.now) (omega (arith, c.if-since-ge-NO_VOLUME.true))

pub returns-clause-reply : goal.returns-clause-reply
returns-clause-reply c =
    one_told c.args.option c.args.code c.args.since (take c.args.at c.args.out.now) (take c.put_since_id.result c.put_since_id.new.out) (omega (arith, c.if-since-ge-NO_VOLUME.false)) c.put_since_id.ensures.reply
