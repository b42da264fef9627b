use Rattle.std.proofs.Common.{◌+◌, ◌/◌, length, ap, subst, sym, ◌∙◌}
use Rattle.tp_pool.specs.Held.{Fits}
use Rattle.tp_pool.specs.Midway.{IsMidFlush}
use Rattle.tp_served.specs.Served.{Cached, on_cache}
use Rattle.tp_served.proofs.inside.Inside.read_midway.Goals as goal

pub returns-clause-read : goal.returns-clause-read
returns-clause-read g c =
    λ yes old is_named mid range.
    let M = g.M.Metadata in
    c.read_midway.ensures.read yes (on_cache old) is_named (sym mid.besides ∙ ap (λ (i : Cached g.row.M.Denot). i.besides) (sym c.self.view_is))
    (subst (λ (i : Cached g.row.M.Denot). IsMidFlush M.geometry M.stands M.tells M.midway (on_cache old) is_named i.cache.line.outer) (sym c.self.view_is) mid.flush) range

pub read_midway-requires-clause-within : goal.read_midway-requires-clause-within
read_midway-requires-clause-within g c limits =
    subst (λ (i : Cached g.row.M.Denot). Fits (g.M.Metadata.geometry i.besides.metadata) (c.args.sector + length c.args.out.now / 512)) (sym c.self.view_is) c.requires.within limits
