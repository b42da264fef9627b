use Rattle.nbd_session.proofs.Holing.{data_put}
use Rattle.nbd_session.proofs.holes.put_data.Goals as goal

pub returns-clause-bytes : goal.returns-clause-bytes
returns-clause-bytes c =
    data_put c.args.out.now c.put_data_head-place.new.out c.copy_within.new.self c.args.at c.args.from c.args.len c.args.cookie c.args.offset c.put_data_head-place.result c.args.is_last
    c.requires.ahead c.requires.inside c.put_data_head-place.ensures.bytes c.put_data_head-place.ensures.end c.copy_within.ensures.after
