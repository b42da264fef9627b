use Rattle.nbd_session.specs.Holes.{read_extents}
use Rattle.nbd_session.specs.Status.{IsUnmapped, blocks_to, first_block, unit_of}
use Rattle.nbd_session.proofs.Exact.{read_tells}
use Rattle.nbd_session.proofs.Filling.{filled_is, tells_holes}
use Rattle.nbd_session.proofs.laws.holes_are_exact.Goals as goal

pub returns-clause-exact : goal.returns-clause-exact
returns-clause-exact c s id r given sent some long unit few holed =
    let from = first_block (unit_of s.geometry) r in
    let most = blocks_to (unit_of s.geometry) r in
    let laws = c.pages_are_exact.ensures in
    let page = holed.page (laws.ordered s id from) in
    let reads = read_tells s id r holed.runs holed.blocks some unit few (laws.mapped s id from most holed.blocks holed.runs page)
    (λ lt. laws.upward s id from most holed.blocks holed.runs lt few page) (laws.within _ _ from most holed.blocks holed.runs page) in
    tells_holes (IsUnmapped s id) r (read_extents (unit_of s.geometry) r holed.runs holed.blocks) given sent some long reads.0 reads.1 holed.sent_is

pub returns-clause-filled : goal.returns-clause-filled
returns-clause-filled c s id r extents sound aligned even inside told sum = filled_is s id sound r aligned even inside extents told sum
