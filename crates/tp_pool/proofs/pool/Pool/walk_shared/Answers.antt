use Rattle.std.proofs.Common.{subst}
use Rattle.tp_model.specs.Calls.{Listed, Walk}
use Rattle.tp_pool.specs.Held.{Held}
use Rattle.tp_model.specs.Slots.{listed}
use Rattle.tp_pool.specs.Shared.{IsSharedCall}
use Rattle.tp_pool.proofs.pool.Pool.walk_shared.Goals as goal

pub returns : goal.returns
returns g c =
    let M = g.M.Metadata in
    λ yes.
    subst (λ (h : Held g.row.M.Denot). IsSharedCall M.geometry M.stands M.marks M.room M.changed h (Walk c.args.id c.args.from) (Listed (listed c.list_parts.new.slots.items))) c.self.view_is
    (c.list_parts.ensures.listed yes c.self.inside.holders.items)
