use Rattle.nbd_wire.proofs.Queries as queries
use Rattle.nbd_wire.proofs.laws.one_query.Goals as goal

pub returns : goal.returns
returns c = queries.one_query
