use Rattle.std.proofs.Common.{◌≡◌, Result, Err, true, sym, ap, subst, ◌∙◌, ◌/◌, ◌%◌, length, take, drop}
use Rattle.tp_model.specs.Pool.{volume_sectors}
use Rattle.tp_model.specs.declared.refusal.Refusal.{Refusal}
use Rattle.tp_model.specs.declared.refusal.Refusal.TheVariants.{NoDataSpace}
use Rattle.tp_model.specs.Calls.{Write}
use Rattle.tp_model.specs.Sectors.{sectors_of}
use Rattle.tp_pool.specs.Held.{PoolAnswered}
use Rattle.tp_users.proofs.Unchanged.{read_it, refused_it, same_bytes}
use Rattle.tp_users.proofs.refused.refused_write_is_nothing.Goals as goal

pub returns : goal.returns
returns g c = λ refused s shown.
    let G = g.M.Metadata.geometry in
    let S = g.M.Metadata.stands in
    let first = read_it G S s c.args.pool.now c.read.new.self c.args.id c.args.sector (length c.args.before.now / 512) c.read.new.out shown c.in_ok-read.ensures.called in
    let answer : c.write-written.result ≡ Err NoDataSpace = c.lacks_data.ensures refused in
    let write = subst (λ (r : Result _ Refusal). PoolAnswered G S c.read.new.self c.write-written.new.self (Write c.args.id c.args.sector (sectors_of c.args.bytes.now) true) r) answer c.write-written.ensures.called in
    let still = refused_it G S s c.read.new.self c.write-written.new.self c.args.id c.args.sector (sectors_of c.args.bytes.now) true first.1 write in
    let second = read_it G S s c.write-written.new.self c.read-2.new.self c.args.id c.args.sector (length c.args.after.now / 512) c.read-2.new.out still c.in_ok-read-2.ensures.called in
    same_bytes c.read-2.new.out c.read.new.out (ap (λ n. n % 512) (c.read-2.ensures.length ∙ c.requires.again) ∙ c.requires.whole) (ap (λ n. n % 512) (c.read.ensures.length ∙ c.requires.read) ∙ c.requires.whole)
    (second.0 ∙ ap (λ n. take (n / 512) (drop c.args.sector (volume_sectors s c.args.id))) (c.requires.again ∙ sym c.requires.read) ∙ sym first.0)
