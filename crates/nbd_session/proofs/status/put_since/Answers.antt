use Rattle.std.proofs.Common.{take}
use Rattle.tp_model.specs.Slots.{listed}
use Rattle.nbd_session.proofs.Telling.{since_told}
use Rattle.nbd_session.proofs.status.put_since.Goals as goal

pub returns-clause-status : goal.returns-clause-status
returns-clause-status c =
    since_told c.args.unit c.args.request.now (listed c.args.old.now) (listed c.args.new.now) c.args.from c.blocks_to.result c.page_of-page.result.end c.page_of-page.result.extents.items c.deref.result.now
    (take c.args.start c.args.out.now) (take c.put_page.result c.put_page.new.out) c.requires.from c.blocks_to.ensures.value c.deref.ensures.0 c.page_of-page.ensures.page c.put_page.ensures.chunk
