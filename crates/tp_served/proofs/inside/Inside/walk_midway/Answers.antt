use Rattle.std.proofs.Common.{ap, subst, sym, ◌∙◌}
use Rattle.tp_pool.specs.Midway.{IsMidFlush}
use Rattle.tp_served.specs.Served.{Cached, on_cache}
use Rattle.tp_served.proofs.inside.Inside.walk_midway.Goals as goal

pub returns : goal.returns
returns g c =
    λ yes old is_named mid.
    let M = g.M.Metadata in
    c.walk_midway.ensures yes (on_cache old) is_named (sym mid.besides ∙ ap (λ (i : Cached g.row.M.Denot). i.besides) (sym c.self.view_is))
    (subst (λ (i : Cached g.row.M.Denot). IsMidFlush M.geometry M.stands M.tells M.midway (on_cache old) is_named i.cache.line.outer) (sym c.self.view_is) mid.flush)
