use Rattle.nbd_session.proofs.Parting.{cut_whole}
use Rattle.nbd_session.proofs.parts.up_to_cut.Goals as goal

pub returns-clause-some : goal.returns-clause-some
returns-clause-some c = (cut_whole c.args.rest.now.offset c.part_bytes-most.result c.requires.offset c.part_bytes-most.ensures.whole c.part_bytes-most.ensures.some).0

pub returns-clause-whole : goal.returns-clause-whole
returns-clause-whole c = (cut_whole c.args.rest.now.offset c.part_bytes-most.result c.requires.offset c.part_bytes-most.ensures.whole c.part_bytes-most.ensures.some).1
