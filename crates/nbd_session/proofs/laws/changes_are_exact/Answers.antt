use Rattle.std.proofs.Common.{true}
use Rattle.nbd_session.specs.Status.{blocks_to, first_block, unit_of}
use Rattle.nbd_session.proofs.Exact.{clean_is_equal, since_tells}
use Rattle.nbd_session.proofs.laws.changes_are_exact.Goals as goal

pub returns-clause-exact : goal.returns-clause-exact
returns-clause-exact c s old id r sent some unit few status =
    let from = first_block (unit_of s.geometry) r in
    let most = blocks_to (unit_of s.geometry) r in
    let laws = c.pages_are_exact.ensures in
    let page = status.page (laws.ordered s old from) (laws.ordered s id from) in
    since_tells s old id true r status.runs status.blocks some unit few (laws.differ s old id from most status.blocks status.runs page)
    (λ lt. laws.onward s old id from most status.blocks status.runs lt few page) (laws.within _ _ from most status.blocks status.runs page) sent status.sent_is

pub returns-clause-equal : goal.returns-clause-equal
returns-clause-equal c s old id at extents sound told = clean_is_equal s old id at extents sound told
