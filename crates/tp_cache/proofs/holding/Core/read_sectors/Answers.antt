use Rattle.std.proofs.Common.{◌≡◌, ◌+◌, ◌≤◌, ◌/◌, length, sym, ap, subst}
use Rattle.std.specs.Prelude.{is_ok, IsTrue}
use Rattle.tp_model.specs.Sectors.{bytes_at}
use Rattle.tp_model.specs.Disk.{seen}
use Rattle.tp_cache.specs.Line.{Line, WentOn, since}
use Rattle.tp_cache.specs.Table.{Held, IsCache, IsKept}
use Rattle.tp_cache.proofs.Caches.{read_cache}
use Rattle.tp_cache.proofs.Moments.{WentOn-grown}
use Rattle.tp_cache.proofs.Overlays.{laid_read}
use Rattle.tp_cache.proofs.holding.Core.read_sectors.Goals as goal

pub invariant_of-self : goal.invariant_of-self
invariant_of-self g c =
    let h = c.self.inside in
    let e = c.read_through.ensures.line in (
      sym (ap (λ (l : Line). l.inner) e),
      subst (λ (l : Line). IsCache h.index.items h.slots.items h.next h.used l) (sym e)
          (read_cache h.index.items h.slots.items h.next h.used h.trace.line c.self.invariant.1 (g.D.Disk.state h.disk) (g.D.Disk.state c.read_through.new.disk) c.self.invariant.0 (is_ok c.read_through.result) c.read_through.ensures.state),
      (subst (λ (l : Line). IsKept h.index.items h.held.items h.owners.items h.slots.items l.outer.cells) (sym e) c.self.invariant.2),
    )

pub invariant_of-self-2 : goal.invariant_of-self-2
invariant_of-self-2 g c =
    let h = c.self.inside in
    let e = c.read_through.ensures.line in (
      sym (ap (λ (l : Line). l.inner) e),
      subst (λ (l : Line). IsCache h.index.items h.slots.items h.next h.used l) (sym e)
          (read_cache h.index.items h.slots.items h.next h.used h.trace.line c.self.invariant.1 (g.D.Disk.state h.disk) (g.D.Disk.state c.read_through.new.disk) c.self.invariant.0 (is_ok c.read_through.result) c.read_through.ensures.state),
      (subst (λ (l : Line). IsKept h.index.items h.held.items h.owners.items h.slots.items l.outer.cells) (sym e) c.self.invariant.2),
    )

pub returns-clause-time : goal.returns-clause-time
returns-clause-time g c =
    let h = c.self.inside in
    let e = c.read_through.ensures.line in
    subst (λ (v : Held). WentOn v.line.under c.read_through.new.trace.line.under) c.self.view_is
    (subst (λ (l : Line). WentOn h.trace.line.under l.under) (sym e) (WentOn-grown (since h.trace.line.inner (g.D.Disk.state c.read_through.new.disk)) h.trace.line.under))

pub returns-in-Err-clause-time : goal.returns-in-Err-clause-time
returns-in-Err-clause-time g c =
    let h = c.self.inside in
    let e = c.read_through.ensures.line in
    subst (λ (v : Held). WentOn v.line.under c.read_through.new.trace.line.under) c.self.view_is
    (subst (λ (l : Line). WentOn h.trace.line.under l.under) (sym e) (WentOn-grown (since h.trace.line.inner (g.D.Disk.state c.read_through.new.disk)) h.trace.line.under))

pub returns-clause-bytes : goal.returns-clause-bytes
returns-clause-bytes g c =
    let h = c.self.inside in
    let at = c.args.at in
    let n = length c.args.out.now / 512 in
    let same : length c.read_through.new.out / 512 ≡ n = ap (λ k. k / 512) c.read_through.auto.out in
    let fits : at + n ≤ h.trace.line.outer.size = subst (λ (v : Held). at + n ≤ v.line.outer.size) (sym c.self.view_is) c.requires.within in
    subst (λ (v : Held). IsTrue v.line.outer.is_honest → c.lay_over.new.out ≡ bytes_at (seen v.line.outer.cells) at n) c.self.view_is
    (laid_read h.index.items h.held.items h.owners.items h.slots.items h.next h.used h.trace.line c.self.invariant.1 c.self.invariant.2 (g.D.Disk.state h.disk) c.self.invariant.0 (g.met.D.Disk.well_formed h.disk)
    at n c.read_through.new.out c.lay_over.new.out same fits c.in-Ok.ensures.bytes (rw (c.deref.ensures.value, c.deref-2.ensures.value) at c.lay_over.ensures))
