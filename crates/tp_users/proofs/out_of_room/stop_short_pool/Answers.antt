use Rattle.tp_users.proofs.out_of_room.stop_short_pool.Goals as goal

pub returns : goal.returns
returns c = c.leave_short_pool.ensures
