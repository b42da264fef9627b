use Rattle.std.proofs.Common.{ℕ, ◌≡◌, ◌+◌, ◌/◌, length, ◌∙◌, ap, arith}
use Rattle.tp_model.specs.Geometry.{Geometry, data_sector}
use Rattle.tp_model.proofs.DiskLaws.{length-sectors_of}
use Rattle.tp_model.proofs.DiskStopLaws.{starts_outside, goes_on_outside}
use Rattle.tp_blocks.proofs.Blocks.write_part.Goals as goal

pub returns-clause-any_moment : goal.returns-clause-any_moment
returns-clause-any_moment g c =
    let place : c.data_sector.result ≡ data_sector c.args.self.now c.args.block = c.data_sector.ensures ∙ ap (λ (sizes : Geometry). data_sector sizes c.args.block) c.self.view_is in
    let at : c.data_sector.result + c.args.sector ≡ data_sector c.args.self.now c.args.block + c.args.sector = ap (λ (n : ℕ). n + c.args.sector) place in
    goes_on_outside (starts_outside (data_sector c.args.self.now c.args.block + c.args.sector) (length c.args.bytes.now / 512) (g.D.Disk.state c.args.disk.now))
    c.write.ensures.any (omega (arith, at)) (omega (arith, at, length-sectors_of c.args.bytes.now))
