use Rattle.std.proofs.Common.{◌≡◌, ◌+◌, ◌/◌, ◌<◌, ◌≤◌, ap, length, sym, ◌∙◌, subst, take, drop, true, ℕ}
use Rattle.tp_model.specs.Sectors.{sectors_of}
use Rattle.tp_model.specs.Pool.{volume_sectors}
use Rattle.tp_model.specs.Calls.{Trim, covers}
use Rattle.tp_model.proofs.DiskLaws.{length-sectors_of}
use Rattle.tp_users.proofs.Blanks.{trimmed, zeroed}
use Rattle.tp_users.proofs.Unchanged.{read_it}
use Rattle.tp_users.proofs.spared.trimmed_blocks_read_zero.Goals as goal

pub returns : goal.returns
returns g c = λ s shown covered.
    let G = g.M.Metadata.geometry in
    let S = g.M.Metadata.stands in
    let out = c.read.new.out in
    let n = length c.args.out.now / 512 in
    let same : length out / 512 ≡ n = ap (λ m. m / 512) c.read.ensures.length in
    let q = zeroed G S s c.args.pool.now c.trim.new.self (Trim c.args.id c.args.sector c.args.count c.args.fua) shown c.in_ok-trim.ensures.called in
    let read = read_it G S q.0 c.trim.new.self c.read.new.self c.args.id c.args.part n out q.2 c.in_ok-read.ensures.called in
    trimmed s q.0 c.args.id c.args.sector c.args.count c.args.part (length out / 512) c.args.fua (sectors_of out) q.1
    (subst (λ (m : ℕ). (k : ℕ) → c.args.part ≤ k → k < c.args.part + m → covers s.geometry c.args.sector c.args.count (k / s.geometry.block_sectors) ≡ true) (sym same) covered)
    (length-sectors_of out) (read.0 ∙ ap (λ (m : ℕ). take m (drop c.args.part (volume_sectors q.0 c.args.id))) (sym same))
