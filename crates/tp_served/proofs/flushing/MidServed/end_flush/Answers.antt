use Rattle.std.proofs.Common.{sym, subst}
use Rattle.tp_served.specs.Served.{Cached}
use Rattle.tp_served.specs.Midway.{IsFlushed, Midst}
use Rattle.tp_served.proofs.flushing.MidServed.end_flush.Goals as goal

pub returns : goal.returns
returns g c =
    let M = g.M.Metadata in
    let answer = c.end_flush_on-after.result.1 in
    subst (λ (i : Midst g.row.M.Denot). IsFlushed M.geometry M.stands M.marks M.room M.changed i.was c.of.result answer) c.self.view_is
    (subst (λ (n : Cached g.row.M.Denot). IsFlushed M.geometry M.stands M.marks M.room M.changed (record { cache = c.self.inside.past.held; besides = c.self.inside.inside.besides }) n answer) (sym c.of.ensures) c.end_flush_on-after.ensures)
