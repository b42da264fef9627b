use Rattle.std.proofs.Common.{◌/◌, length, subst}
use Rattle.tp_model.specs.Sectors.{sectors_of}
use Rattle.tp_pool.specs.Shared.{IsSharedRead}
use Rattle.tp_served.specs.Served.{Cached, on_cache}
use Rattle.tp_served.proofs.Looking.{shared_under}
use Rattle.tp_served.proofs.inside.Inside.read_shared.Goals as goal

pub returns-clause-met : goal.returns-clause-met
returns-clause-met g c =
    let M = g.M.Metadata in
    let n = length c.args.out.now / 512 in
    let sectors = sectors_of c.read_shared.new.out in
    λ yes.
    shared_under M.geometry M.stands M.marks M.room M.changed g.met.M.Metadata.left c.args.self.now c.args.id c.args.sector n sectors c.facts.ensures
    (subst (λ (i : Cached g.row.M.Denot). IsSharedRead M.geometry M.stands M.marks M.room M.changed (on_cache i) c.args.id c.args.sector n sectors) c.self.view_is (c.read_shared.ensures.read yes))
