use Rattle.std.proofs.Common.{rules, ◌+◌, ◌/◌, length, subst, sym}
use Rattle.tp_model.specs.Sectors.{sectors_of}
use Rattle.tp_model.specs.Clauses.{EndsInVolume}
use Rattle.tp_pool.proofs.Ranges.{law_within, lies_in, range_fits}
use Rattle.tp_pool.specs.Held.{Held, LiesIn, view}
use Rattle.tp_pool.specs.Shared.{IsSharedRead}
use Rattle.tp_pool.proofs.pool.Pool.read_shared.Goals as goal

pub returns-clause-read : goal.returns-clause-read
returns-clause-read g c =
    let M = g.M.Metadata in
    λ yes.
    subst (λ (h : Held g.row.M.Denot). IsSharedRead M.geometry M.stands M.marks M.room M.changed h c.args.id c.args.sector (length c.args.out.now / 512) (sectors_of c.read_parts.new.out)) c.self.view_is
    (c.read_parts.ensures.read yes c.self.inside.holders.items
    (subst (λ (h : Held g.row.M.Denot). LiesIn M.geometry M.stands h c.args.id (c.args.sector + length c.args.out.now / 512)) (sym c.self.view_is)
    (lies_in M.geometry M.stands (law_within g.met.M.Metadata.within) c.args.self.now c.args.id (c.args.sector + length c.args.out.now / 512) (search rules) c.requires.range)))

pub read_parts-requires-clause-within : goal.read_parts-requires-clause-within
read_parts-requires-clause-within g c limits =
    let M = g.M.Metadata in
    let was : Held g.row.M.Denot = record { disk = g.D.Disk.state c.self.inside.disk; metadata = c.self.inside.metadata; holders = c.self.inside.holders.items; mode = c.self.inside.mode } in
    range_fits M.geometry M.stands was c.args.id (c.args.sector + length c.args.out.now / 512) limits
    (subst (λ (h : Held g.row.M.Denot). EndsInVolume (view M.geometry M.stands) h c.args.id (c.args.sector + length c.args.out.now / 512)) (sym c.self.view_is) c.requires.range)
