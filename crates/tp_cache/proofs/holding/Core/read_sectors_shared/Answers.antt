use Rattle.std.proofs.Common.{◌≡◌, ◌+◌, ◌/◌, ◌≤◌, length, sym, ap, subst}
use Rattle.std.specs.Prelude.{IsTrue}
use Rattle.tp_model.specs.Sectors.{bytes_at}
use Rattle.tp_model.specs.Disk.{seen}
use Rattle.tp_cache.specs.Table.{Held}
use Rattle.tp_cache.proofs.Overlays.{laid_read}
use Rattle.tp_cache.proofs.holding.Core.read_sectors_shared.Goals as goal

pub returns : goal.returns
returns g c =
    let h = c.self.inside in
    let at = c.args.at in
    let n = length c.args.out.now / 512 in
    let same : length c.read_shared.new.out / 512 ≡ n = ap (λ k. k / 512) c.read_shared.auto.out in
    let fits : at + n ≤ h.trace.line.outer.size = subst (λ (v : Held). at + n ≤ v.line.outer.size) (sym c.self.view_is) c.requires.within in
    subst (λ (v : Held). IsTrue v.line.outer.is_honest → c.lay_over.new.out ≡ bytes_at (seen v.line.outer.cells) at n) c.self.view_is
    (laid_read h.index.items h.held.items h.owners.items h.slots.items h.next h.used h.trace.line c.self.invariant.1 c.self.invariant.2 (g.D.Disk.state h.disk) c.self.invariant.0 (g.met.D.Disk.well_formed h.disk)
    at n c.read_shared.new.out c.lay_over.new.out same fits (c.read_shared.ensures c.if-not-read_shared.false) (rw (c.deref.ensures.value, c.deref-2.ensures.value) at c.lay_over.ensures))
