use Rattle.std.proofs.Common.{refl, sym, ap, subst}
use Rattle.tp_cache.specs.Line.{Line}
use Rattle.tp_cache.specs.Table.{IsCache, IsKept}
use Rattle.tp_cache.proofs.Caches.{begun_cache}
use Rattle.tp_cache.proofs.Kept.{Kept-begun}
use Rattle.std.proofs.Common.{length}
use Rattle.tp_cache.proofs.holding.Core.over.Goals as goal

pub invariant_of-result : goal.invariant_of-result
invariant_of-result g c =
    let e = c.began-trace.ensures in
    let p = c.args.places in
    let disk = g.D.Disk.state c.args.disk in (
      sym (ap (λ (l : Line). l.inner) e),
      subst (λ (l : Line). IsCache p.index.items p.slots.items 0 0 l) (sym e)
          (begun_cache p.index.items p.slots.items disk p.blocks p.clean p.some p.few c.requires (g.met.D.Disk.well_formed c.args.disk)),
      subst (λ (l : Line). IsKept p.index.items p.held.items p.owners.items p.slots.items l.outer.cells) (sym e)
          (Kept-begun p.index.items p.held.items p.owners.items p.slots.items disk.cells p.blocks (length p.slots.items) p.clean p.none p.as_many refl),
    )
