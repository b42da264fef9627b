use Rattle.std.proofs.Common.{◌+◌, ◌/◌, length, subst, sym}
use Rattle.tp_model.specs.Sectors.{sectors_of}
use Rattle.tp_model.specs.Calls.{Gave, Read}
use Rattle.tp_model.specs.Clauses.{EndsInVolume, Meets}
use Rattle.tp_pool.proofs.Ranges.{range_fits}
use Rattle.tp_served.specs.Midway.{Midst}
use Rattle.tp_served.specs.Served.{Cached, cached, on_cache}
use Rattle.tp_served.proofs.Looking.{shared_under}
use Rattle.tp_served.proofs.flushing.MidServed.read_shared.Goals as goal

pub returns-clause-met : goal.returns-clause-met
returns-clause-met g c =
    let M = g.M.Metadata in
    let n = length c.args.out.now / 512 in
    let sectors = sectors_of c.read_midway.new.out in
    let old : Cached g.row.M.Denot = record { cache = c.self.inside.past.held; besides = c.self.inside.inside.besides } in
    let mid = c.self.invariant in
    λ yes.
    subst (λ (i : Midst g.row.M.Denot). Meets (cached M.geometry M.stands M.marks M.room M.changed) i.was i.was (Read c.args.id c.args.sector n) (Gave sectors)) c.self.view_is
    (shared_under M.geometry M.stands M.marks M.room M.changed g.met.M.Metadata.left old c.args.id c.args.sector n sectors mid.known
    (c.read_midway.ensures.read yes old c.self.inside.is_named mid
    (subst (λ (i : Midst g.row.M.Denot). EndsInVolume (cached M.geometry M.stands M.marks M.room M.changed) i.was c.args.id (c.args.sector + n)) (sym c.self.view_is) c.requires.range)))

pub read_midway-requires-clause-within : goal.read_midway-requires-clause-within
read_midway-requires-clause-within g c limits =
    let M = g.M.Metadata in
    let end = c.args.sector + length c.args.out.now / 512 in
    let old : Cached g.row.M.Denot = record { cache = c.self.inside.past.held; besides = c.self.inside.inside.besides } in
    range_fits M.geometry M.stands (on_cache old) c.args.id end limits
    (subst (λ (i : Midst g.row.M.Denot). EndsInVolume (cached M.geometry M.stands M.marks M.room M.changed) i.was c.args.id end) (sym c.self.view_is) c.requires.range)
