use Rattle.std.proofs.Common.{subst}
use Rattle.tp_model.specs.Calls.{Listed, Walk}
use Rattle.tp_model.specs.Slots.{listed}
use Rattle.tp_pool.specs.Shared.{IsSharedCall}
use Rattle.tp_served.specs.Served.{Cached, on_cache}
use Rattle.tp_served.proofs.Looking.{walk_under}
use Rattle.tp_served.proofs.inside.Inside.walk_shared.Goals as goal

pub returns : goal.returns
returns g c =
    let M = g.M.Metadata in
    let slots = listed c.walk_shared.new.slots.items in
    λ yes.
    walk_under M.geometry M.stands M.marks M.room M.changed g.met.M.Metadata.left c.args.self.now c.args.id c.args.from slots c.facts.ensures
    (subst (λ (i : Cached g.row.M.Denot). IsSharedCall M.geometry M.stands M.marks M.room M.changed (on_cache i) (Walk c.args.id c.args.from) (Listed slots)) c.self.view_is (c.walk_shared.ensures yes))
