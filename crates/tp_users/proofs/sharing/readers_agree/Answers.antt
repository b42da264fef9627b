use Rattle.std.proofs.Common.{◌+◌, ◌/◌, ℕ, length, ap, refl, sym, subst, arith}
use Rattle.tp_model.specs.Sectors.{sectors_of}
use Rattle.tp_model.specs.Calls.{Gave, Read}
use Rattle.tp_model.specs.Clauses.{EndsInVolume, Meets}
use Rattle.tp_users.proofs.Unchanged.{same_bytes}
use Rattle.tp_users.proofs.Agreeing.{agree}
use Rattle.tp_users.proofs.sharing.readers_agree.Goals as goal

pub read_shared-requires-2-clause-range : goal.read_shared-requires-2-clause-range
read_shared-requires-2-clause-range g c =
    subst (λ (n : ℕ). EndsInVolume g.V.Volumes.view c.args.pool.now c.args.id (c.args.sector + n / 512)) (sym c.requires.alike) c.requires.range

pub returns : goal.returns
returns g c = λ told s shown.
    let view = g.V.Volumes.view in
    let p = c.args.pool.now in
    let n = length c.args.first.now / 512 in
    let one = sectors_of c.read_shared.new.out in
    let two = sectors_of c.read_shared-2.new.out in
    same_bytes c.read_shared.new.out c.read_shared-2.new.out (search (arith, c.requires.whole, c.read_shared.auto.out)) (search (arith, c.requires.whole, c.requires.alike, c.read_shared-2.auto.out))
    (agree view p s c.args.id c.args.sector n one two shown (c.if-not-read_shared.ensures refl)
    (subst (λ (m : ℕ). Meets view p p (Read c.args.id c.args.sector m) (Gave two)) (ap (λ (m : ℕ). m / 512) c.requires.alike) (c.read_shared-2.ensures told)))
