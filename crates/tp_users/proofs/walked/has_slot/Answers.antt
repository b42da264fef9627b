use Rattle.std.proofs.Common.{ap, ◌∙◌}
use Rattle.tp_served.specs.Served.{cached}
use Rattle.tp_users.specs.Walked.{begins_at}
use Rattle.tp_users.proofs.Walks.{has}
use Rattle.tp_users.proofs.walked.has_slot.Goals as goal

pub returns : goal.returns
returns g c = λ s shown.
    let M = g.M.Metadata in
    c.begins_at.ensures ∙ (ap (begins_at c.args.block) c.deref.ensures.0
    ∙ has (cached M.geometry M.stands M.marks M.room M.changed) c.args.pool.now c.walk.new.self s c.args.id c.args.block c.walk.new.slots.items shown c.in_ok-walk.ensures)
