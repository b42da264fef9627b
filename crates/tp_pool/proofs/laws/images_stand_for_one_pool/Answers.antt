use Rattle.tp_pool.proofs.Images.{one_pool}
use Rattle.tp_pool.proofs.laws.images_stand_for_one_pool.Goals as goal

pub returns : goal.returns
returns c = one_pool
