use Rattle.std.proofs.Common.{◌≡◌, ℕ, ◌*◌, ◌≤◌, length, subst}
use Rattle.tp_model.specs.Disk.{cell_at}
use Rattle.tp_cache.specs.Table.{Held}
use Rattle.tp_cache.specs.Line.{IsLine}
use Rattle.tp_cache.proofs.Caches.{line_is}
use Rattle.tp_cache.proofs.holding.Core.facts.Goals as goal

pub returns-clause-line : goal.returns-clause-line
returns-clause-line g c = let h = c.self.inside in subst (λ (v : Held). IsLine v.line) c.self.view_is (line_is h.index.items h.slots.items h.next h.used h.trace.line c.self.invariant.1)

pub returns-clause-data : goal.returns-clause-data
returns-clause-data g c =
    subst (λ (v : Held). (i : ℕ) → 8 * length v.index ≤ i → cell_at v.line.inner.cells i ≡ cell_at v.line.outer.cells i) c.self.view_is c.self.invariant.1.holds.tied.beyond
