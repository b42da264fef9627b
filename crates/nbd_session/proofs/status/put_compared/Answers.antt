use Rattle.std.proofs.Common.{take}
use Rattle.tp_model.specs.Slots.{listed}
use Rattle.nbd_session.proofs.Telling.{both_told, since_alone}
use Rattle.nbd_session.proofs.status.put_compared.Goals as goal

pub returns-then-tells_blocks-clause-status : goal.returns-then-tells_blocks-clause-status
returns-then-tells_blocks-clause-status c =
    both_told c.args.unit c.args.request.now (listed c.args.old.now) (listed c.args.new.now) c.args.tells_blocks (take c.put_allocation-start.result c.put_allocation-start.new.out)
    (take c.put_since.result c.put_since.new.out) c.if-tells_blocks.true c.put_allocation-start.ensures.status c.put_since.ensures.status

pub returns-clause-status : goal.returns-clause-status
returns-clause-status c =
    since_alone c.args.unit c.args.request.now (listed c.args.old.now) (listed c.args.new.now) c.args.tells_blocks (take c.put_since-2.result c.put_since-2.new.out) c.if-tells_blocks.false
    c.put_since-2.ensures.status
