use Rattle.std.proofs.Common.{◌≡◌, ◌/◌, length, sym, ◌∙◌, ap, arith}
use Rattle.tp_model.specs.Sectors.{bytes_at}
use Rattle.tp_model.specs.Disk.{seen}
use Rattle.tp_cache.proofs.holding.Core.read_shared.Goals as goal

pub returns-then-copy_held : goal.returns-then-copy_held
returns-then-copy_held g c told honest =
    let image = seen c.args.self.now.line.outer.cells in
    let its = c.in-Some.ensures.some in
    let count : 8 ≡ length c.args.out.now / 512 = omega (arith, its.1) in
    c.if-copy_held.ensures ∙ ap (λ k. bytes_at image k 8) (sym its.0) ∙ ap (bytes_at image c.args.at) count
