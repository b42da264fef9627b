use Rattle.std.proofs.Common.{subst}
use Rattle.tp_model.specs.Calls.{Listed, Walk}
use Rattle.tp_model.specs.Clauses.{Meets}
use Rattle.tp_model.specs.Slots.{listed}
use Rattle.tp_served.specs.Midway.{Midst}
use Rattle.tp_served.specs.Served.{Cached, cached}
use Rattle.tp_served.proofs.Looking.{walk_under}
use Rattle.tp_served.proofs.flushing.MidServed.walk_shared.Goals as goal

pub returns : goal.returns
returns g c =
    let M = g.M.Metadata in
    let slots = listed c.walk_midway.new.slots.items in
    let old : Cached g.row.M.Denot = record { cache = c.self.inside.past.held; besides = c.self.inside.inside.besides } in
    let mid = c.self.invariant in
    λ yes.
    subst (λ (i : Midst g.row.M.Denot). Meets (cached M.geometry M.stands M.marks M.room M.changed) i.was i.was (Walk c.args.id c.args.from) (Listed slots)) c.self.view_is
    (walk_under M.geometry M.stands M.marks M.room M.changed g.met.M.Metadata.left old c.args.id c.args.from slots mid.known
    (c.walk_midway.ensures yes old c.self.inside.is_named mid))
