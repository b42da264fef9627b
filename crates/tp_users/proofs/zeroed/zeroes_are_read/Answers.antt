use Rattle.std.proofs.Common.{◌≡◌, ◌/◌, ap, length, sym, ◌∙◌, subst, take, drop, ℕ}
use Rattle.tp_model.specs.Sectors.{sectors_of}
use Rattle.tp_model.specs.Pool.{volume_sectors}
use Rattle.tp_model.specs.Calls.{Makes, WriteZeroes}
use Rattle.tp_model.proofs.DiskLaws.{length-sectors_of}
use Rattle.tp_users.proofs.Blanks.{zeroed, zeros_there}
use Rattle.tp_users.proofs.Unchanged.{read_it}
use Rattle.tp_users.proofs.zeroed.zeroes_are_read.Goals as goal

pub returns : goal.returns
returns g c = λ s shown.
    let G = g.M.Metadata.geometry in
    let S = g.M.Metadata.stands in
    let out = c.read.new.out in
    let n = length c.args.out.now / 512 in
    let same : length out / 512 ≡ n = ap (λ m. m / 512) c.read.ensures.length in
    let q = zeroed G S s c.args.pool.now c.write_zeroes.new.self (WriteZeroes c.args.id c.args.sector n c.args.no_hole c.args.fua) shown c.in_ok-write_zeroes.ensures.called in
    let read = read_it G S q.0 c.write_zeroes.new.self c.read.new.self c.args.id c.args.sector n out q.2 c.in_ok-read.ensures.called in
    zeros_there s q.0 c.args.id c.args.sector (length out / 512) c.args.no_hole c.args.fua (sectors_of out)
    (subst (λ (m : ℕ). Makes s (WriteZeroes c.args.id c.args.sector m c.args.no_hole c.args.fua) q.0) (sym same) q.1)
    (length-sectors_of out) (read.0 ∙ ap (λ (m : ℕ). take m (drop c.args.sector (volume_sectors q.0 c.args.id))) (sym same))
