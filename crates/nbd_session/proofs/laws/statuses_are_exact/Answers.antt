use Rattle.std.proofs.Common.{refl}
use Rattle.nbd_session.specs.Status.{blocks_to, first_block, unit_of}
use Rattle.nbd_session.proofs.Exact.{allocation_tells, holes_are_blank}
use Rattle.nbd_session.proofs.laws.statuses_are_exact.Goals as goal

pub returns-clause-exact : goal.returns-clause-exact
returns-clause-exact c s id is_last r sent some unit few status =
    let from = first_block (unit_of s.geometry) r in
    let most = blocks_to (unit_of s.geometry) r in
    let laws = c.pages_are_exact.ensures in
    let page = status.page refl (laws.ordered s id from) in
    allocation_tells s id is_last r status.runs status.blocks some unit few (laws.mapped s id from most status.blocks status.runs page)
    (λ lt. laws.upward s id from most status.blocks status.runs lt few page) (laws.within _ _ from most status.blocks status.runs page) sent status.sent_is

pub returns-clause-zeros : goal.returns-clause-zeros
returns-clause-zeros c s id at extents sound told = holes_are_blank s id at extents sound told
