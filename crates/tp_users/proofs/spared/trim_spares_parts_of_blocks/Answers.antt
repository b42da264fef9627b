use Rattle.std.proofs.Common.{◌/◌, ◌%◌, ap, drop, length, sym, take, ◌∙◌, false}
use Rattle.tp_model.specs.Pool.{volume_sectors}
use Rattle.tp_model.specs.Calls.{Trim}
use Rattle.tp_users.proofs.Blanks.{spared, zeroed}
use Rattle.tp_users.proofs.Unchanged.{read_it, same_bytes}
use Rattle.tp_users.proofs.spared.trim_spares_parts_of_blocks.Goals as goal

pub returns : goal.returns
returns g c = λ s shown apart.
    let G = g.M.Metadata.geometry in
    let S = g.M.Metadata.stands in
    let n = length c.args.before.now / 512 in
    let first = read_it G S s c.args.pool.now c.read.new.self c.args.id c.args.part n c.read.new.out shown c.in_ok-read.ensures.called in
    let q = zeroed G S s c.read.new.self c.trim.new.self (Trim c.args.id c.args.sector c.args.count false) first.1 c.in_ok-trim.ensures.called in
    let second = read_it G S q.0 c.trim.new.self c.read-2.new.self c.args.id c.args.part (length c.args.after.now / 512) c.read-2.new.out q.2 c.in_ok-read-2.ensures.called in
    same_bytes c.read-2.new.out c.read.new.out (ap (λ m. m % 512) (c.read-2.ensures.length ∙ c.requires.again) ∙ c.requires.whole) (ap (λ m. m % 512) c.read.ensures.length ∙ c.requires.whole)
    (second.0 ∙ ap (λ m. take (m / 512) (drop c.args.part (volume_sectors q.0 c.args.id))) c.requires.again
    ∙ spared s q.0 c.args.id c.args.sector c.args.count c.args.part n false q.1 apart ∙ sym first.0)
