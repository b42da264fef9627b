use Rattle.std.proofs.Common.{[], take}
use Rattle.tp_model.specs.Slots.{listed}
use Rattle.nbd_wire.specs.declared.contexts.MetaContext.TheVariants.{Allocation}
use Rattle.nbd_session.proofs.Telling.{status_told}
use Rattle.nbd_session.proofs.status.put_allocation.Goals as goal

pub returns-clause-status : goal.returns-clause-status
returns-clause-status c =
    status_told c.args.is_last Allocation c.args.unit c.args.request.now [] (listed c.args.slots.now) c.args.from c.blocks_to.result c.page_of-page.result.end c.page_of-page.result.extents.items c.deref.result.now
    (take c.put_page.result c.put_page.new.out) c.requires.from c.blocks_to.ensures.value c.deref.ensures.0 c.page_of-page.ensures.page c.put_page.ensures.chunk
