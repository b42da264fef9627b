use Rattle.std.proofs.Common.{inl, sym, subst, ap, arith, ◌∙◌, ◌/◌, ◌+◌, ◌≤◌, length}
use Rattle.std.specs.Prelude.{IfErr, Result}
use Rattle.std.proofs.lemmas.Result.{err_from_is_err_and}
use Rattle.tp_model.specs.declared.refusal.Refusal.{Refusal}
use Rattle.tp_model.specs.Geometry.{Geometry, sectors_of_volume}
use Rattle.tp_meta.specs.Standing.{geometry_of}
use Rattle.tp_users.specs.Users.{IsOutside}
use Rattle.tp_users.proofs.Given.{read_err, read_ok, sized}
use Rattle.tp_users.proofs.kept.flushed_bytes_are_read.Goals as goal

pub returns-in_err-disk-clause-only : goal.returns-in_err-disk-clause-only
returns-in_err-disk-clause-only c =
    let p = err_from_is_err_and c.from_residual-in_err-disk.result c.from_residual-in_err-disk.ensures.1 in
    let w = c.in_ok-pool.ensures.shows in
    subst (λ (r : Result (Unit {0}) Refusal). IfErr r (λ reason. IsOutside reason)) (sym p.1)
    (subst IsOutside (sym p.2) (c.in_err-disk.ensures.only w.0 w.2 w.1.works))

pub returns-in_err-pool-2-clause-only : goal.returns-in_err-pool-2-clause-only
returns-in_err-pool-2-clause-only c =
    let p = err_from_is_err_and c.from_residual-in_err-pool-2.result c.from_residual-in_err-pool-2.ensures.1 in
    let w = c.in_ok-pool.ensures.shows in
    subst (λ (r : Result (Unit {0}) Refusal). IfErr r (λ reason. IsOutside reason)) (sym p.1)
    (subst IsOutside (sym p.2) (c.in_err-pool-2.ensures.only w.0 (c.in_ok-disk.ensures.kept w.0 w.2)))

pub read-requires-clause-range : goal.read-requires-clause-range
read-requires-clause-range c =
    let w = c.in_ok-pool.ensures.shows in
    let is = sized c.in_ok-pool-2.pool c.args.id c.args.sector c.args.bytes.now w.0 w.1 (c.in_ok-pool-2.ensures.shows w.0 (c.in_ok-disk.ensures.kept w.0 w.2)) in
    let inside : c.args.sector + length c.args.out.now / 512 ≤ sectors_of_volume (geometry_of c.in_ok-pool-2.pool.metadata) =
    subst (λ (g : Geometry). c.args.sector + length c.args.out.now / 512 ≤ sectors_of_volume g) (sym is)
    (omega (arith, c.requires.range, ap (λ n. n / 512) c.requires.same)) in
    inl (omega (arith, inside))

pub returns-clause-read : goal.returns-clause-read
returns-clause-read c =
    let w = c.in_ok-pool.ensures.shows in
    let long = c.read.ensures.length ∙ c.requires.same in
    read_ok c.in_ok-pool-2.pool c.read.new.self c.args.id c.args.sector (length c.args.out.now / 512) c.args.bytes.now c.read.new.out w.0 w.1
    (c.in_ok-pool-2.ensures.shows w.0 (c.in_ok-disk.ensures.kept w.0 w.2)) c.read.result c.read.ensures.called (ap (λ n. n / 512) c.requires.same) c.requires.whole long

pub returns-clause-only : goal.returns-clause-only
returns-clause-only c =
    let w = c.in_ok-pool.ensures.shows in
    read_err c.in_ok-pool-2.pool c.read.new.self c.args.id c.args.sector (length c.args.out.now / 512) c.args.bytes.now c.read.new.out w.0 w.1
    (c.in_ok-pool-2.ensures.shows w.0 (c.in_ok-disk.ensures.kept w.0 w.2)) c.read.result c.read.ensures.called
